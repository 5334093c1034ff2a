use Rattle.std.proofs.Common.{arith, ap, ◌∙◌, ◌+◌, length, take, ◌++◌}
use Rattle.std.proofs.lemmas.Slice.{take-put_mid}
use Rattle.x25519_kem.proofs.exchanges.put.Goals as goal

pub returns : goal.returns
returns c =
    take-put_mid c.args.at _ c.args.out.now _ (c.args.at + 32) (omega (arith, ap length c.copy_from_slice.ensures.after)) (omega arith)
    ∙ ap (λ t. take c.args.at c.args.out.now ++ t) c.copy_from_slice.ensures.after
