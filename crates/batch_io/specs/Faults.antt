-- Counts of faults.
use Rattle.std.specs.Prelude.{ℕ, ◌+◌, ◌-◌, ◌^◌, ◌≤◌, min}

-- a count of 64 bits, one higher or at its greatest value
abbrev pub raised : ℕ → ℕ
raised count = min (count + 1) (2 ^ 64 - 1)

-- a count of faults rose, or stands at its greatest value
abbrev pub Rose : ℕ → ℕ → Type 0
Rose before now = raised before ≤ now
