use Rattle.std.proofs.Common.{arith, rules, ◌≡◌, ◌∙◌, ◌*◌, ◌^◌, ap, sym, subst, length}
use Rattle.std.proofs.lemmas.List.{take_at}
use Rattle.std.proofs.lemmas.Result.{IfOk-weaker}
use Rattle.ring_core.specs.Bounds.{IsWithin}
use Rattle.ring_core.specs.Product.{coefficients}
use Rattle.ring_core.proofs.ProductLaws.{length-zeros, zeros_at}
use Rattle.ring_core.proofs.multiplier.small_convolution.Goals as goal

pub add_rows-requires-clause-double : goal.add_rows-requires-clause-double
add_rows-requires-clause-double c =
    length-zeros (2 * length c.args.long.now) _ _ c.deref_mut.ensures.value (search rules)

pub add_rows-requires-clause-zeros : goal.add_rows-requires-clause-zeros
add_rows-requires-clause-zeros c =
    zeros_at (2 * length c.args.long.now) _ _ c.deref_mut.ensures.value (search rules)

pub returns-clause-bound : goal.returns-clause-bound
returns-clause-bound c =
    let new = c.add_rows.new.sums in
    let sums : c.deref.result.now ≡ new = c.deref.ensures.value ∙ take_at new _ c.in_ok-sums.sums.len (omega arith) in
    IfOk-weaker c.long_to_32.result _ _
    (λ v e. subst (IsWithin (2 ^ 22)) (sym (e ∙ sums)) (λ k. omega (arith, c.add_rows.ensures.bound k)))
    c.long_to_32.ensures

pub returns-clause-sums : goal.returns-clause-sums
returns-clause-sums c =
    let new = c.add_rows.new.sums in
    let sums : c.deref.result.now ≡ new = c.deref.ensures.value ∙ take_at new _ c.in_ok-sums.sums.len (omega arith) in
    IfOk-weaker c.long_to_32.result _ _
    (λ v e k l. ap (λ xs. coefficients xs k) (e ∙ sums) ∙ c.add_rows.ensures.sums k l)
    c.long_to_32.ensures
