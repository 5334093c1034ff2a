-- What the rule of the counter gives, and that it holds at the start and over each atomic step.
use Rattle.std.specs.Prelude.{ℕ, ◌≡◌, ◌+◌, ◌%◌, ◌^◌, ◌<◌, ◌≤◌, sum, List, [], ◌∷◌, length}
use mathlib.Core.Option.{some}
use lib.ListN.{get_elem?}
use Rattle.atomic_table.specs.Table.{State, Me, Allows, Splits, Joins, opening}
use Rattle.stamp_counter.specs.declared.views.View.{View}
use Rattle.stamp_counter.specs.Views.{times_of}
use Rattle.stamp_counter.specs.Rule.{Kept}
use Rattle.stamp_counter.specs.Steps.{dealing_view, giving_view, given_view, noted_view, joined_view, spent_view, Drew}

abbrev pub TheState : Type 0
TheState = State (Unit {0}) View

abbrev pub TheRule : ℕ → TheState → Type 0
TheRule all s = Kept all s

-- no seat drew a stamp twice
abbrev pub NoneTwice : ℕ → Type 0
NoneTwice all = (s : TheState) (i k : ℕ) (v : View) → TheRule all s
    → get_elem? s.views i ≡ some v → times_of k v ≤ 1

-- two seats that drew one stamp are one
abbrev pub OneDrew : ℕ → Type 0
OneDrew all = (s : TheState) (i j k : ℕ) (u v : View) → TheRule all s
    → get_elem? s.views i ≡ some u → get_elem? s.views j ≡ some v
    → 1 ≤ times_of k u → 1 ≤ times_of k v → i ≡ j

-- the rule holds of a new table, and each step keeps it, whatever state it finds
pub record StepsKeep (all : ℕ) : Type 0 where
  pub start : (shares : List ℕ) → sum shares ≡ all → all ≤ 1048576
      → TheRule all (opening (0 ∷ []) [] (dealing_view all shares))
  -- a seat that may draw so many adds so many to the word
  pub draw : (slots id : ℕ) (me : Me (Unit {0}) View) (count : ℕ)
      → me.0.all ≡ all → me.0.shares ≡ [] → count ≤ me.0.left
      → Allows (TheRule all) slots id me 0 (λ found. (found + count) % 2 ^ 64) (Drew count me)
  -- a seat gives its first share to a new one
  pub give : (id : ℕ) (v : View) → 0 < length v.shares
      → Splits (TheRule all) id v (giving_view v) (given_view v)
  -- a seat is noted by a new one
  pub note : (id : ℕ) (v : View) → Splits (TheRule all) id v v (noted_view v)
  -- a seat takes in another
  pub join : (id : ℕ) (v : View) (other : ℕ) (w : View)
      → Joins (TheRule all) id v other w (joined_view v w) spent_view
