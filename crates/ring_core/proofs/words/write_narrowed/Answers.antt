use Rattle.std.proofs.Common.{arith, rules, ◌∙◌, ◌++◌, ◌∷◌, [], ap, pos, sym}
use Rattle.std.specs.Int.{w8, w16}
use Rattle.std.specs.Int.RustNames.{FitsSigned}
use Rattle.std.proofs.lemmas.Int.{to_z-of_z, fits_signed_from_abs}
use Rattle.std.proofs.lemmas.List.{take_more, take_more_set, take_all}
use Rattle.ring_core.specs.Product.{coefficients}
use Rattle.ring_core.proofs.words.write_narrowed.Goals as goal

pub loop-i-preserved : goal.loop-i-preserved
loop-i-preserved c =
    let list = c.args.list.now in
    let i = c.loop-i.i in
    let fits : FitsSigned w16 (coefficients list i) = search rules in
    let fits_narrow : FitsSigned w8 (coefficients list i) = fits_signed_from_abs w8 (coefficients list i) (omega (arith, c.requires.small i)) in
    simp to_z-of_z (
    take_more_set c.loop-i.narrow i (coefficients list i) (omega arith)
    ∙ ap (λ t. t ++ coefficients list i ∷ []) c.loop-i.invariant
    ∙ sym (take_more list i (pos 0) (omega arith))
    )

pub returns : goal.returns
returns c =
    sym (take_all c.loop-i.i c.loop-i.narrow (omega arith))
    ∙ c.loop-i.invariant
    ∙ take_all c.loop-i.i c.args.list.now (omega arith)
