-- The codings of elements as byte strings (NTRU Prime round 3, Small, Rq and Rounded encodings). An
-- element is the list of its p coefficients, from x^0 on. The small coding depends on p alone.
use Rattle.std.specs.Prelude.{◌≡◌, ◌≢◌, ◌⊎◌, ℕ, ◌+◌, ◌-◌, ◌*◌, ◌/◌, ◌%◌, ◌^◌, ◌≤◌, ℤ, pos, negsuc, ◌+ℤ◌, ◌-ℤ◌, unsigned_abs, List, map, replicate, slice_index, slice_index_or}
use Rattle.std.specs.List.{range_with_len}
use Rattle.ring_core.specs.Product.{coefficients}
use Rattle.ring_core.specs.Sets.{Set}
use Rattle.radix_pack.specs.Radix.{encode, decode, encoded_length}

-- ---- the small coding: each coefficient plus 1 as two bits, four a byte, low bits first

-- the length of the small coding, in bytes
abbrev pub small_length : ℕ → ℕ
small_length p = (p + 3) / 4

-- the two bits of the coefficient at place k; past the last coefficient the bits are 0, as of a -1
abbrev pub two_bits : List ℤ → ℕ → ℕ
two_bits a k = unsigned_abs (slice_index_or a k (negsuc 0) +ℤ pos 1)

abbrev pub four_coefficients : List ℤ → ℕ → ℕ
four_coefficients a i =
    two_bits a (4 * i) + 4 * two_bits a (4 * i + 1) + 16 * two_bits a (4 * i + 2) + 64 * two_bits a (4 * i + 3)

unfoldable pub small_encode : ℕ → List ℤ → List ℕ
small_encode p a = map (four_coefficients a) (range_with_len 0 (small_length p))

-- the two bits that stand at place k of a byte string
abbrev pub bits_at : List ℕ → ℕ → ℕ
bits_at bytes k = slice_index bytes (k / 4) / 4 ^ (k % 4) % 4

unfoldable pub small_decode : ℕ → List ℕ → List ℤ
small_decode p bytes = map (λ k. pos (bits_at bytes k) -ℤ pos 1) (range_with_len 0 p)

-- at some place stands the digit 3, or past the p coefficients a bit that is not 0
abbrev pub IsMalformed : ℕ → List ℕ → Type 0
IsMalformed p bytes = (k : ℕ) × ((bits_at bytes k ≡ 3) ⊎ ((p ≤ k) × (bits_at bytes k ≢ 0)))

-- ---- the coding of R/q: each coefficient c as the digit c + (q - 1) / 2 below q

-- a coefficient from -(q - 1) / 2 on as a number from 0 on
abbrev pub shifted : ℕ → ℤ → ℕ
shifted q c = unsigned_abs (c +ℤ pos ((q - 1) / 2))

-- the length of the coding of R/q, in bytes
unfoldable pub rq_length : Set → ℕ
rq_length set = encoded_length (replicate set.p set.q)

unfoldable pub rq_encode : Set → List ℤ → List ℕ
rq_encode set a = encode (map (λ c. shifted set.q c) a) (replicate set.p set.q)

unfoldable pub rq_decode : Set → List ℕ → List ℤ
rq_decode set bytes =
    map (λ r. pos r -ℤ pos ((set.q - 1) / 2)) (decode bytes (replicate set.p set.q))

-- ---- the rounded coding: each multiple of 3, c, as the digit (c + (q - 1) / 2) / 3

-- how many multiples of 3 there are from -(q - 1) / 2, which is one, to (q - 1) / 2
abbrev pub rounded_radix : ℕ → ℕ
rounded_radix q = (q + 2) / 3

-- the length of the rounded coding, in bytes
unfoldable pub rounded_length : Set → ℕ
rounded_length set = encoded_length (replicate set.p (rounded_radix set.q))

unfoldable pub rounded_encode : Set → List ℤ → List ℕ
rounded_encode set a =
    encode (map (λ c. shifted set.q c / 3) a) (replicate set.p (rounded_radix set.q))

unfoldable pub rounded_decode : Set → List ℕ → List ℤ
rounded_decode set bytes =
    map (λ r. pos (3 * r) -ℤ pos ((set.q - 1) / 2)) (decode bytes (replicate set.p (rounded_radix set.q)))

-- each coefficient is a multiple of 3
abbrev pub AreMultiplesOf3 : List ℤ → Type 0
AreMultiplesOf3 a = (k : ℕ) → unsigned_abs (coefficients a k) % 3 ≡ 0
