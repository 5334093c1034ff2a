use Rattle.std.proofs.Common.{◌≡◌, ◌∙◌, ap, arith, length, subst, sym}
use Rattle.ring_core.specs.Bounds.{IsWithin}
use Rattle.radix_pack.specs.Codings.{small_decode, IsMalformed}
use Rattle.radix_pack.proofs.SmallLaws.{length-small_decode, small_within}
use Rattle.radix_pack.proofs.small.small_decode.Goals as goal

pub from_coefficients-requires-clause-count : goal.from_coefficients-requires-clause-count
from_coefficients-requires-clause-count g c =
    ap length (c.deref.ensures.value ∙ c.in_ok-coefficients.ensures)
    ∙ length-small_decode c.P-2.result c.args.bytes.now
    ∙ c.P-2.ensures
    ∙ g.S.Params.degree_is

pub from_coefficients-requires-clause-small : goal.from_coefficients-requires-clause-small
from_coefficients-requires-clause-small g c =
    let bytes = c.args.bytes.now in
    let same : c.P.result ≡ c.P-2.result = c.P.ensures ∙ sym c.P-2.ensures in
    let formed : IsMalformed c.P.result bytes → ⊥ = λ m. let t = c.if-is_malformed.ensures.1 m in cc in
    let small : IsWithin 1 (small_decode c.P-2.result bytes) = small_within c.P-2.result bytes (subst (λ p. IsMalformed p bytes → ⊥) same formed) in
    subst (IsWithin 1) (sym (c.deref.ensures.value ∙ c.in_ok-coefficients.ensures)) small

pub is_malformed-requires : goal.is_malformed-requires
is_malformed-requires g c = omega (arith, c.requires, g.S.Params.degree_most)

pub small_coefficients-requires : goal.small_coefficients-requires
small_coefficients-requires g c =
    omega (arith, c.requires, c.P-2.ensures, g.S.Params.degree_is)

pub returns-clause-some : goal.returns-clause-some
returns-clause-some g c =
    c.in_ok-from_coefficients.ensures
    ∙ c.deref.ensures.value
    ∙ c.in_ok-coefficients.ensures
    ∙ ap (λ p. small_decode p c.args.bytes.now) (c.P-2.ensures ∙ g.S.Params.degree_is)
