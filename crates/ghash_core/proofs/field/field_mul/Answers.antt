use Rattle.std.proofs.Common.{◌-◌, ◌*◌, ◌/◌, ◌^◌, ◌∙◌, ap, sym, bit_xor}
use Rattle.std.proofs.lemmas.Nat.{and_mask}
use Rattle.ghash_core.specs.Field.{coefficient, by_u, low_product}
use Rattle.ghash_core.proofs.Linear.{low_product-more, by_power-more}
use Rattle.ghash_core.proofs.field.field_mul.Goals as goal

pub loop-i-preserved : goal.loop-i-preserved
loop-i-preserved c =
    let i = c.loop-i.i in
    let a = c.args.a in
    record {
      sum = ap (bit_xor c.loop-i.sum) (c.masked-sum.ensures ∙ ap (λ x. x * c.loop-i.term) (and_mask (a / 2 ^ (127 - i)) 1))
          ∙ ap (λ x. bit_xor x (coefficient a i * c.loop-i.term)) c.loop-i.invariant.sum
          ∙ ap (λ x. bit_xor (low_product i a c.args.b) (coefficient a i * x)) c.loop-i.invariant.term
          ∙ sym (low_product-more i a c.args.b);
      term = c.by_u-term.ensures ∙ ap by_u c.loop-i.invariant.term ∙ sym (by_power-more i c.args.b);
    }
