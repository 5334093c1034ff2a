-- Random small and short polynomials as functions of p random words (NTRU Prime round 3, Small and
-- Short). A word is a number below 2^32, and a polynomial the list of its p coefficients, from x^0 on.
use Rattle.std.specs.Prelude.{ℕ, ◌+◌, ◌*◌, ◌/◌, ◌%◌, ◌^◌, ◌≤◌, ℤ, pos, ◌-ℤ◌, List, ◌++◌, map, take, drop}
use Rattle.ring_core.specs.Sets.{Set}
use Rattle.rand_words.specs.Sorted.{sorted}

-- a third of 30 bits, from -1 on (NTRU Prime round 3, Small)
abbrev pub small_coefficient : ℕ → ℤ
small_coefficient word = pos ((word % 2 ^ 30) * 3 / 2 ^ 30) -ℤ pos 1

-- of p words, each alike in every set (NTRU Prime round 3, Small)
abbrev pub small : Set → List ℕ → List ℤ
small set words = map small_coefficient words

-- the word with 0 for its low bit: the two low bits are 00 or 10
abbrev pub marked_nonzero : ℕ → ℕ
marked_nonzero word = 2 * (word / 2)

-- the word with 01 for its two low bits
abbrev pub marked_zero : ℕ → ℕ
marked_zero word = 4 * (word / 4) + 1

-- the first w words will give coefficients that aren't 0, the others 0 (NTRU Prime round 3, Short)
abbrev pub marked : ℕ → List ℕ → List ℕ
marked w words = map marked_nonzero (take w words) ++ map marked_zero (drop w words)

-- the two low bits, from -1 on
abbrev pub short_coefficient : ℕ → ℤ
short_coefficient word = pos (word % 4) -ℤ pos 1

-- the sort puts the marks in random order (NTRU Prime round 3, Short)
abbrev pub short : Set → List ℕ → List ℤ
short set words = map short_coefficient (sorted (marked set.w words))

-- ---- for the proofs

-- the low bits are not 11
abbrev pub IsMarked : ℕ → Type 0
IsMarked word = word % 4 ≤ 2
