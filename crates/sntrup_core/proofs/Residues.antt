-- Numbers that are their own residues, and the nearest multiple of 3.
use Rattle.std.proofs.Common.{◌≡◌, ℕ, ◌-◌, ◌/◌, ◌%◌, ◌<◌, ◌≤◌, ℤ, pos, List, map, arith, ap, sym, ◌∙◌, refl}
use Rattle.std.specs.Prelude.{◌+ℤ◌, unsigned_abs}
use Rattle.std.proofs.lemmas.Int.{ints}
use Rattle.std.proofs.lemmas.List.{get_or-map, length-map}
use Rattle.ring_core.specs.Product.{coefficients, centred, IsCentred}
use Rattle.ring_core.specs.Bounds.{IsWithin}
use Rattle.ring_core.proofs.ResidueLaws.{SameModulo, remainder_of, one_remainder, modulo_centred}
use Rattle.ring_core.proofs.Reduce.{centred_three}
use Rattle.ring_core.proofs.ElementLaws.{IsCentred-small, map_at}
use Rattle.ring_inverse.proofs.AnswerLaws.{map-centred}
use Rattle.sntrup_core.specs.Encryption.{rounded}

pub centred_own : (m : ℕ) (z : ℤ) → 0 < m → m % 2 ≡ 1 → unsigned_abs z ≤ (m - 1) / 2 → centred m z ≡ z
centred_own m z h odd l =
    let up : ℤ = z +ℤ pos ((m - 1) / 2) in
    let n : ℕ = unsigned_abs up in
    let r = remainder_of m up h in
    let same : r.rest ≡ n = one_remainder m r.rest n r.by (pos 0) r.low (omega (arith, ints)) (omega (arith, ints, r.whole)) in
    omega (arith, ints, r.is, same)

pub centred_half : (m : ℕ) (z : ℤ) → 0 < m → m % 2 ≡ 1 → unsigned_abs (centred m z) ≤ (m - 1) / 2
centred_half m z h odd =
    let r = remainder_of m (z +ℤ pos ((m - 1) / 2)) h in
    omega (arith, ints, r.is, r.low)

rounded_within : (z : ℤ) (n : ℕ) → n % 3 ≡ 0 → unsigned_abs z ≤ n → unsigned_abs (rounded z) ≤ n
rounded_within z n thirds l =
    let s : SameModulo 3 (centred 3 z) z = modulo_centred 3 z (omega arith) in
    omega (arith, ints, s.is, centred_three z)

pub IsCentred-rounded : (q p : ℕ) (xs : List ℤ) → 0 < q → q % 2 ≡ 1 → (q - 1) / 2 % 3 ≡ 0 → IsCentred q p xs → IsCentred q p (map rounded xs)
IsCentred-rounded q p xs h odd thirds c = (
  length-map xs rounded ∙ c.0,
  λ k l.
      let x : ℤ = coefficients xs k in
      let at : coefficients (map rounded xs) k ≡ rounded x = get_or-map rounded xs k (pos 0) (pos 0) (omega (arith, c.0)) in
      let small : unsigned_abs x ≤ (q - 1) / 2 = omega (arith, ap unsigned_abs (c.1 k l), centred_half q x h odd) in
      ap (λ t. centred q t) at ∙ centred_own q (rounded x) h odd (rounded_within x ((q - 1) / 2) thirds small) ∙ sym at,
)

-- a small polynomial stands for itself modulo q
pub IsCentred-from_3 : (q p : ℕ) (a : List ℤ) → 2 < q → q % 2 ≡ 1 → IsCentred 3 p a → IsCentred q p a
IsCentred-from_3 q p a h odd c = (
  c.0,
  λ k l. centred_own q (coefficients a k) (omega arith) odd (omega (arith, IsCentred-small p a c k)),
)

-- rounded numbers are their own residues
pub encrypted_is : (q p : ℕ) (xs list : List ℤ) → 0 < q → q % 2 ≡ 1 → (q - 1) / 2 % 3 ≡ 0 → IsCentred q p xs → list ≡ map rounded xs → map (λ z. centred q z) list ≡ map rounded xs
encrypted_is q p xs list h odd thirds c e =
    ap (λ (t : List ℤ). map (λ z. centred q z) t) e
    ∙ map-centred q p (map rounded xs) (IsCentred-rounded q p xs h odd thirds c)

pub IsWithin-residues : (xs ys : List ℤ) → ys ≡ map (λ z. centred 3 z) xs → IsWithin 1 ys
IsWithin-residues xs ys e k =
    omega (
      arith,
      ap unsigned_abs (ap (λ (t : List ℤ). coefficients t k) e ∙ map_at (λ z. centred 3 z) xs refl k),
      centred_three (coefficients xs k),
    )
