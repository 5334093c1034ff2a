-- Both codings of R/q as one, for the proofs: it counts from -(q - 1) / 2 on in steps, of 1 for the coding of
-- R/q and of 3 for the rounded one.
use Rattle.std.specs.Prelude.{◌≡◌, ◌⊎◌, ℕ, ◌+◌, ◌-◌, ◌*◌, ◌/◌, ℤ, pos, ◌-ℤ◌, List, map, replicate}
use Rattle.ring_core.specs.Sets.{Set}
use Rattle.radix_pack.specs.declared.levels.Digit.{Digit}
use Rattle.radix_pack.specs.Radix.{encode, decode, encoded_length}
use Rattle.radix_pack.specs.Codings.{shifted}

abbrev pub IsStep : ℕ → Type 0
IsStep step = (step ≡ 1) ⊎ (step ≡ 3)

-- how many steps there are from -(q - 1) / 2 to (q - 1) / 2
abbrev pub step_radix : ℕ → ℕ → ℕ
step_radix step q = (q + (step - 1)) / step

abbrev pub step_digit : ℕ → ℕ → ℤ → Digit
step_digit step q c = record { value = shifted q c / step; radix = step_radix step q }

-- the coefficient of a digit
abbrev pub step_back : ℕ → ℕ → ℕ → ℤ
step_back step half r = pos (step * r) -ℤ pos half

unfoldable pub step_length : ℕ → Set → ℕ
step_length step set = encoded_length (replicate set.p (step_radix step set.q))

unfoldable pub step_encode : ℕ → Set → List ℤ → List ℕ
step_encode step set a =
    encode (map (λ c. shifted set.q c / step) a) (replicate set.p (step_radix step set.q))

unfoldable pub step_decode : ℕ → Set → List ℕ → List ℤ
step_decode step set bytes =
    map (step_back step ((set.q - 1) / 2)) (decode bytes (replicate set.p (step_radix step set.q)))
