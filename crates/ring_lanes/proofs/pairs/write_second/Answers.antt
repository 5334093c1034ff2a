use Rattle.std.proofs.Common.{◌≡◌, ◌+◌, ◌*◌, pos, set, get_or-set_same, get_or-set_other, arith, rules, ap, sym, ◌∙◌, inl, inr}
use Rattle.std.specs.Int.{cast_signed, cast_unsigned, w16}
use Rattle.std.specs.Int.RustNames.{FitsSigned}
use Rattle.std.proofs.lemmas.Int.{to_z-of_z}
use Rattle.std.proofs.lemmas.Bool.{cases_lt}
use Rattle.std.proofs.lemmas.List.{get_or_past}
use Rattle.ring_core.specs.Product.{coefficients}
use Rattle.ring_lanes.proofs.pairs.write_second.Goals as goal

pub loop-k-preserved : goal.loop-k-preserved
loop-k-preserved c =
    let half = c.loop-k.half in
    let list = c.args.list.now in
    let k = c.loop-k.k in
    let y = coefficients list (2 * k + c.args.from) in
    let x = cast_signed w16 (cast_unsigned w16 y) in
    let fits : FitsSigned w16 y = search rules in
    let value : x ≡ y = to_z-of_z w16 y fits in
    λ i l. elim (cases_lt i k) [
      | inl low ↦ get_or-set_other half k i x (pos 0) (omega arith) ∙ c.loop-k.invariant i low
      | inr from ↦
          let same : k ≡ i = omega arith in
          ap (coefficients (set half k x)) (sym same)
          ∙ get_or-set_same half k x (pos 0) (omega arith)
          ∙ value
          ∙ ap (λ t. coefficients list (2 * t + c.args.from)) same
    ]

pub returns : goal.returns
returns c =
    λ i. elim (cases_lt i c.loop-k.k) [
      | inl low ↦ c.loop-k.invariant i low
      | inr past ↦ get_or_past c.loop-k.half i (pos 0) (omega arith)
          ∙ sym (get_or_past c.args.list.now (2 * i + c.args.from) (pos 0) (omega arith))
    ]
