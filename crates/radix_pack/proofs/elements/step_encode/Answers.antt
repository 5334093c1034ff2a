use Rattle.std.proofs.Common.{◌≡◌, ◌∙◌, ap, length, map, subst, sym, arith}
use Rattle.std.proofs.lemmas.List.{length-map}
use Rattle.std.proofs.lemmas.Result.{IfOk-weaker}
use Rattle.radix_pack.specs.Radix.{AreDigits}
use Rattle.radix_pack.specs.Steps.{step_digit}
use Rattle.radix_pack.proofs.ElementLaws.{IsCentred-half, AreDigits-step, step_encode_is, length-step_encode}
use Rattle.radix_pack.proofs.elements.step_encode.Goals as goal

pub digits_of-requires-clause-odd : goal.digits_of-requires-clause-odd
digits_of-requires-clause-odd g c = rw c.modulus.ensures.modulus g.S.Params.modulus_odd

pub digits_of-requires-clause-within : goal.digits_of-requires-clause-within
digits_of-requires-clause-within g c =
    let laws = g.S.Params in
    rw (c.modulus.ensures.modulus, c.as_slice.ensures.list) (IsCentred-half laws.set.q laws.set.p c.args.a.now laws.modulus_odd c.as_slice.ensures.centred)

pub encoded-requires-clause-some : goal.encoded-requires-clause-some
encoded-requires-clause-some g c =
    let digits = c.deref_mut.ensures.value ∙ c.in_ok-digits.ensures in
    omega (
      arith,
      ap length digits,
      length-map c.as_slice.result.now (step_digit c.args.step c.modulus.result),
      ap length c.as_slice.ensures.list,
      c.as_slice.ensures.centred.0,
      g.S.Params.degree_least,
    )

pub encoded-requires-clause-digits : goal.encoded-requires-clause-digits
encoded-requires-clause-digits g c =
    let laws = g.S.Params in
    let step = c.args.step in
    let a = c.args.a.now in
    let same : c.deref_mut.result.now ≡ map (step_digit step laws.set.q) a =
    c.deref_mut.ensures.value
    ∙ c.in_ok-digits.ensures
    ∙ ap (λ m. map (step_digit step m) c.as_slice.result.now) c.modulus.ensures.modulus
    ∙ ap (λ xs. map (step_digit step laws.set.q) xs) c.as_slice.ensures.list
    in
    subst AreDigits (sym same) (AreDigits-step step laws.set.q laws.set.p a c.requires laws.modulus_odd (omega (arith, laws.modulus_most)) c.as_slice.ensures.centred)

pub returns : goal.returns
returns g c =
    let set = g.S.Params.set in
    let step = c.args.step in
    let a = c.args.a.now in
    let count : length a ≡ set.p = c.as_slice.ensures.centred.0 in
    let same : c.deref_mut.result.now ≡ map (step_digit step set.q) a =
    c.deref_mut.ensures.value
    ∙ c.in_ok-digits.ensures
    ∙ ap (λ m. map (step_digit step m) c.as_slice.result.now) c.modulus.ensures.modulus
    ∙ ap (λ xs. map (step_digit step set.q) xs) c.as_slice.ensures.list
    in
    let bytes = step_encode_is step set a c.deref_mut.result.now count same in
    record {
      bytes = IfOk-weaker c.encoded.result _ _ (λ b e. e ∙ bytes) c.encoded.ensures;
      count =
          IfOk-weaker c.encoded.result _ _ (λ b e. ap length (e ∙ bytes) ∙ length-step_encode step set a count) c.encoded.ensures;
    }
