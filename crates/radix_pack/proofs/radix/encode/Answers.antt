use Rattle.std.proofs.Common.{◌≡◌, ◌∙◌, ap, length, subst, sym, arith}
use Rattle.std.proofs.lemmas.Result.{IfOk-weaker}
use Rattle.radix_pack.specs.Radix.{with_radices, AreDigits}
use Rattle.radix_pack.proofs.RoundTrip.{AreDigits-with_radices, length-with_radices, encode_is, length-encode}
use Rattle.radix_pack.proofs.radix.encode.Goals as goal

pub encoded-requires-clause-some : goal.encoded-requires-clause-some
encoded-requires-clause-some c =
    let same : c.deref_mut.result.now ≡ with_radices c.args.digits.now c.args.radices.now = c.deref_mut.ensures.value ∙ c.in_ok-digits.ensures in
    omega (arith, ap length same, length-with_radices c.args.digits.now c.args.radices.now c.requires.below.0)

pub encoded-requires-clause-digits : goal.encoded-requires-clause-digits
encoded-requires-clause-digits c =
    let same : c.deref_mut.result.now ≡ with_radices c.args.digits.now c.args.radices.now = c.deref_mut.ensures.value ∙ c.in_ok-digits.ensures in
    subst AreDigits (sym same) (AreDigits-with_radices c.args.digits.now c.args.radices.now c.requires.radices c.requires.below)

pub returns-clause-bytes : goal.returns-clause-bytes
returns-clause-bytes c =
    let same : c.deref_mut.result.now ≡ with_radices c.args.digits.now c.args.radices.now = c.deref_mut.ensures.value ∙ c.in_ok-digits.ensures in
    IfOk-weaker c.encoded.result _ _
    (λ b e. e ∙ encode_is c.args.digits.now c.args.radices.now c.deref_mut.result.now c.requires.below.0 same)
    c.encoded.ensures

pub returns-clause-count : goal.returns-clause-count
returns-clause-count c =
    let same : c.deref_mut.result.now ≡ with_radices c.args.digits.now c.args.radices.now = c.deref_mut.ensures.value ∙ c.in_ok-digits.ensures in
    IfOk-weaker c.encoded.result _ _
    (λ b e. ap length (e ∙ encode_is c.args.digits.now c.args.radices.now c.deref_mut.result.now c.requires.below.0 same) ∙ length-encode c.args.digits.now c.args.radices.now c.requires.below.0)
    c.encoded.ensures
