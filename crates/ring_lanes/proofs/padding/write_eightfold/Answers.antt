use Rattle.std.proofs.Common.{◌≡◌, ◌+◌, ◌*◌, pos, arith, rules, sym, ◌∙◌, inl, inr}
use Rattle.std.proofs.lemmas.Bool.{cases_lt}
use Rattle.std.proofs.lemmas.List.{get_or_past}
use Rattle.std.specs.Int.{cast_signed, cast_unsigned, w16}
use Rattle.std.specs.Int.RustNames.{FitsSigned}
use Rattle.std.proofs.lemmas.Int.{to_z-of_z}
use Rattle.std.proofs.lemmas.Simd.{length-put_chunk}
use Rattle.ring_core.specs.Product.{coefficients}
use Rattle.ring_lanes.proofs.Vectors.{eightfold_more, eightfold_left}
use Rattle.ring_lanes.proofs.padding.write_eightfold.Goals as goal

pub loop-i-preserved : goal.loop-i-preserved
loop-i-preserved c =
    let copies = c.loop-i.copies in
    let list = c.args.list.now in
    let i = c.loop-i.i in
    let x = cast_signed w16 (cast_unsigned w16 (coefficients list i)) in
    let fits : FitsSigned w16 (coefficients list i) = search rules in
    let value : x ≡ coefficients list i = to_z-of_z w16 (coefficients list i) fits in (
      length-put_chunk (8 * i) copies _ ∙ c.loop-i.invariant.0,
      eightfold_more copies list i x value (omega (arith, c.loop-i.invariant.0)) c.loop-i.invariant.1,
      eightfold_left copies i x c.loop-i.invariant.2,
    )

pub returns : goal.returns
returns c =
    λ i j l. elim (cases_lt i c.loop-i.i) [
      | inl low ↦ c.loop-i.invariant.1 i j low l
      | inr past ↦ c.loop-i.invariant.2 (8 * i + j) (omega arith) ∙ sym (get_or_past c.args.list.now i (pos 0) (omega arith))
    ]
