-- The laws of the codings: what was encoded decodes to its source.
use Rattle.std.specs.Prelude.{◌≡◌, ℕ, ◌-◌, ◌/◌, ◌%◌, ◌<◌, ℤ, List}
use Rattle.ring_core.specs.Product.{IsCentred}
use Rattle.ring_core.specs.Sets.{Set}
use Rattle.radix_pack.specs.Radix.{encode, decode, pair_radix, radix_in, AreRadices, AreBelow}
use Rattle.radix_pack.specs.Codings.{small_encode, small_decode, IsMalformed, rq_encode, rq_decode, rounded_encode, rounded_decode, AreMultiplesOf3}

abbrev pub DecodesWhatWasEncoded : Type 0
DecodesWhatWasEncoded =
    (values radices : List ℕ) → AreRadices radices → AreBelow values radices → decode (encode values radices) radices ≡ values

-- after two turns the radix of a pair is below the limit of 16384, and the last one is 1
abbrev pub PairsEndInTwoTurns : Type 0
PairsEndInTwoTurns = (m n : ℕ) → m < 16384 → n < 16384 → pair_radix m n < 16384

abbrev pub LastEndsInTwoTurns : Type 0
LastEndsInTwoTurns = (m : ℕ) → m < 16384 → radix_in 2 2 m < 2

abbrev pub SmallDecodesWhatWasEncoded : Type 0
SmallDecodesWhatWasEncoded = (p : ℕ) (a : List ℤ) → IsCentred 3 p a → small_decode p (small_encode p a) ≡ a

abbrev pub SmallCodingIsWellFormed : Type 0
SmallCodingIsWellFormed = (p : ℕ) (a : List ℤ) → IsCentred 3 p a → ¬ IsMalformed p (small_encode p a)

abbrev pub RqDecodesWhatWasEncoded : Type 0
RqDecodesWhatWasEncoded =
    (set : Set) (a : List ℤ) → set.q % 2 ≡ 1 → set.q < 16384 → IsCentred set.q set.p a → rq_decode set (rq_encode set a) ≡ a

abbrev pub RoundedDecodesWhatWasEncoded : Type 0
RoundedDecodesWhatWasEncoded =
    (set : Set) (a : List ℤ) → set.q % 2 ≡ 1 → set.q < 16384 → (set.q - 1) / 2 % 3 ≡ 0 → IsCentred set.q set.p a → AreMultiplesOf3 a → rounded_decode set (rounded_encode set a) ≡ a
