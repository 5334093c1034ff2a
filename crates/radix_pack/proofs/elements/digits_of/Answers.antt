use Rattle.std.proofs.Common.{arith, rules, ◌∙◌, ◌/◌, ap}
use Rattle.std.specs.Int.{w16}
use Rattle.std.specs.Int.RustNames.{FitsSigned}
use Rattle.std.proofs.lemmas.Int.{to_z-of_z}
use Rattle.ring_core.specs.Product.{coefficients}
use Rattle.radix_pack.specs.Codings.{shifted}
use Rattle.radix_pack.specs.Steps.{step_radix, step_digit}
use Rattle.radix_pack.proofs.LevelSteps.{digit_is}
use Rattle.radix_pack.proofs.ElementLaws.{more_digits, all_digits}
use Rattle.radix_pack.proofs.elements.digits_of.Goals as goal

pub loop-coefficient-preserved : goal.loop-coefficient-preserved
loop-coefficient-preserved c =
    let q = c.args.modulus in
    let step = c.args.step in
    let a = c.args.coefficients.now in
    let k = c.loop-coefficient.coefficient-index in
    let fits : FitsSigned w16 (coefficients a k) = search rules in
    let above = simp to_z-of_z at c.shifted.ensures.value in
    let value = ap (λ v. v / c.from.result) above ∙ ap (λ n. shifted q (coefficients a k) / n) c.from.ensures in
    c.in_ok-push.ensures.items
    ∙ more_digits (step_digit step q) c.loop-coefficient.digits.items a k _ (omega arith) (digit_is _ (shifted q (coefficients a k) / step) (step_radix step q) value (c.from-radix.ensures ∙ c.step_radix.ensures)) c.loop-coefficient.invariant

pub returns : goal.returns
returns c =
    all_digits (step_digit c.args.step c.args.modulus) c.loop-coefficient.digits.items c.args.coefficients.now c.loop-coefficient.coefficient-index (omega arith) c.loop-coefficient.invariant
