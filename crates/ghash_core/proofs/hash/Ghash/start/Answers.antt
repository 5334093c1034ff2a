use Rattle.std.proofs.Common.{◌<◌, ◌^◌, ◌∙◌, sym, subst}
use Rattle.ghash_core.proofs.Bytes.{element-zeros}
use Rattle.ghash_core.proofs.Sums.{ghash-none}
use Rattle.ghash_core.proofs.hash.Ghash.start.Goals as goal

pub returns-clause-none : goal.returns-clause-none
returns-clause-none c = record {
  fits = subst (λ h. h < 2 ^ 128) c.key.view_is c.key.invariant.0;
  sum = element-zeros ∙ sym (ghash-none c.args.key.now);
}
