-- Decryption is exact: the bound that it rests on, and what it says of each key.
use Rattle.std.specs.Prelude.{◌≡◌, ℕ, ◌*◌, ◌<◌, ◌≤◌, ℤ, pos, ◌+ℤ◌, ◌*ℤ◌, List, unsigned_abs}
use Rattle.ring_core.specs.Product.{coefficients, conv, wrapped, weight, IsCentred}
use Rattle.ring_core.specs.Sets.{Set}
use Rattle.sntrup_core.specs.Keys.{IsKey}
use Rattle.sntrup_core.specs.Encryption.{encrypted, decrypted}

-- p coefficients from -1 to 1
abbrev pub IsSmall : Set → List ℤ → Type 0
IsSmall set a = IsCentred 3 set.p a

-- a small polynomial with w coefficients that aren't 0
abbrev pub IsShort : Set → List ℤ → Type 0
IsShort set a = IsSmall set a × (weight a ≡ set.w)

-- coefficient k of g r + 3 f m by the whole numbers, wrapped by x^p = x + 1 and not reduced
abbrev pub whole_sum : Set → List ℤ → List ℤ → List ℤ → List ℤ → ℕ → ℤ
whole_sum set g r f m k =
    wrapped set.p (conv (coefficients g) (coefficients r)) k
    +ℤ (pos 3 *ℤ wrapped set.p (conv (coefficients f) (coefficients m)) k)

abbrev pub SumsAreBounded : Type 0
SumsAreBounded =
    (set : Set) (g r f m : List ℤ)
    → IsSmall set g → IsShort set r → IsShort set f → IsSmall set m
    → (k : ℕ) → k < set.p → unsigned_abs (whole_sum set g r f m k) ≤ 8 * set.w

-- with each key of key generation, each short r that was encrypted is decrypted
abbrev pub DecryptsExactly : Set → Type 0
DecryptsExactly set =
    (word : ℕ → ℕ) (place j : ℕ) (h f ginv r : List ℤ)
    → IsKey set word place j h f ginv → IsCentred set.q set.p h → IsSmall set ginv
    → IsShort set r → decrypted set (encrypted set r h) f ginv ≡ r
