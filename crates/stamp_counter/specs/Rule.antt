-- The rule of the counter: what holds between any two atomic steps, whatever the schedule.
-- The word is how many stamps were drawn: they are the numbers below it.
use Rattle.std.specs.Prelude.{ℕ, ◌≡◌, ◌+◌, ◌<◌, ◌≤◌, sum, [], ◌∷◌, All}
use Rattle.std.specs.List.{range_with_len}
use mathlib.Core.Option.{some}
use lib.ListN.{get_elem?}
use Rattle.atomic_table.specs.Table.{State}
use Rattle.stamp_counter.specs.declared.views.View.{View}
use Rattle.stamp_counter.specs.Views.{times, times_of, drawn_of, left_of, total}

-- what holds of each seat
pub record Seated (word : ℕ) (v : View) : Type 0 where
  -- its low is at most the word, and above what it drew
  pub low : v.low ≤ word
  pub below : All (λ stamp. stamp < v.low) v.drawn
  -- the shares that it still gives are a part of what it has left
  pub shares : sum v.shares ≤ v.left

-- the rule of a counter whose shares have this sum
pub record Kept {S : Type 0} (all : ℕ) (s : State S View) : Type 0 where
  pub word : ℕ
  pub words : s.words ≡ word ∷ []
  pub each : (seat : ℕ) (v : View) → get_elem? s.views seat ≡ some v → Seated word v
  -- all seats together drew each stamp below the word once, and no other
  pub drawn : (k : ℕ) → total (times_of k) s.views ≡ times k (range_with_len 0 word)
  pub counts : total drawn_of s.views ≡ word
  -- what was drawn and what is left are all shares together
  pub left : word + total left_of s.views ≡ all
  -- they keep the word below 2 ^ 64
  pub room : all ≤ 1048576
