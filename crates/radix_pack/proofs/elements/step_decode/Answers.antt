use Rattle.std.proofs.Common.{◌≡◌, ◌-◌, ◌/◌, ◌∙◌, ap, length, map, replicate, subst, sym, arith}
use Rattle.std.proofs.lemmas.List.{length-map, length-replicate}
use Rattle.std.proofs.lemmas.Result.{IfOk-weaker}
use Rattle.ring_core.specs.Product.{centred}
use Rattle.radix_pack.specs.Radix.{encoded_length, length_in, decode, decode_in, AreRadices}
use Rattle.radix_pack.specs.Steps.{step_radix, step_back, step_length}
use Rattle.radix_pack.proofs.PartSteps.{length_decode_in}
use Rattle.radix_pack.proofs.ElementLaws.{AreRadices-step, step_decode_is}
use Rattle.radix_pack.proofs.elements.step_decode.Goals as goal

pub decoded-requires-clause-some : goal.decoded-requires-clause-some
decoded-requires-clause-some g c =
    let set = g.S.Params.set in
    omega (
      arith,
      ap length (c.deref.ensures.value ∙ c.in_ok-radices.ensures),
      length-replicate set.p (step_radix c.args.step set.q),
      g.S.Params.degree_least,
    )

pub decoded-requires-clause-radices : goal.decoded-requires-clause-radices
decoded-requires-clause-radices g c =
    let laws = g.S.Params in
    subst AreRadices (sym (c.deref.ensures.value ∙ c.in_ok-radices.ensures)) (AreRadices-step c.args.step laws.set c.requires.step (omega (arith, laws.modulus_least)) (omega (arith, laws.modulus_most)))

pub decoded-requires-clause-count : goal.decoded-requires-clause-count
unfolding step_length encoded_length
decoded-requires-clause-count g c =
    let radices = c.deref.ensures.value ∙ c.in_ok-radices.ensures in
    (length c.deref.result.now, omega arith, c.requires.count ∙ ap (λ ms. length_in (length ms) ms) (sym radices))

pub from_coefficients-requires : goal.from_coefficients-requires
from_coefficients-requires g c =
    let set = g.S.Params.set in
    ap length (c.deref-3.ensures.value ∙ c.in_ok-coefficients.ensures)
    ∙ length-map c.deref-2.result.now _
    ∙ ap length (c.deref-2.ensures.value ∙ c.in_ok-digits.ensures (length c.deref.result.now) (omega arith))
    ∙ length_decode_in (length c.deref.result.now) c.deref.result.now c.args.bytes.now (omega arith)
    ∙ ap length (c.deref.ensures.value ∙ c.in_ok-radices.ensures)
    ∙ length-replicate set.p (step_radix c.args.step set.q)

pub returns : goal.returns
unfolding decode
returns g c =
    let laws = g.S.Params in
    let set = laws.set in
    let step = c.args.step in
    let bytes = c.args.bytes.now in
    let coefficients : c.deref-3.result.now ≡ map (step_back step ((set.q - 1) / 2)) (decode bytes (replicate set.p (step_radix step set.q))) =
    c.deref-3.ensures.value
    ∙ c.in_ok-coefficients.ensures
    ∙ ap (λ m. map (step_back step ((m - 1) / 2)) c.deref-2.result.now) c.modulus.ensures.modulus
    ∙ ap (λ ds. map (step_back step ((set.q - 1) / 2)) ds)
    (c.deref-2.ensures.value
    ∙ c.in_ok-digits.ensures (length c.deref.result.now) (omega arith)
    ∙ ap (λ ms. decode_in (length ms) ms bytes) (c.deref.ensures.value ∙ c.in_ok-radices.ensures))
    in
    IfOk-weaker c.from_coefficients.result _ _
    (λ a e. e
    ∙ ap (λ xs. map (λ z. centred set.q z) xs) coefficients
    ∙ step_decode_is step set bytes c.requires.step (omega (arith, laws.modulus_least)) (omega (arith, laws.modulus_most)))
    c.from_coefficients.ensures
