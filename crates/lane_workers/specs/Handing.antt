-- Passes that are handed out to a lane, and put back.
use Rattle.std.specs.Prelude.{ℕ, suc, ◌≡◌, ◌+◌, ◌<◌, List, [], ◌∷◌, ◌++◌, length, slice_index_or, Option, Some, None}
use Rattle.turn_lock.specs.Passes.{LockId, PassView, PassListView, fresh_pass, fresh_from}
use Rattle.lane_workers.specs.Turns.{pass_at}

abbrev pub list_at : List (Option PassListView) → ℕ → Option PassListView
list_at lists number = slice_index_or lists number None

-- Of a list of fresh passes the first is taken, and the others are left; where no list is there is no
-- pass.
pub record Takes (old new : Option PassListView) (pass : Option PassView) : Type 0 where
  pub none : old ≡ None → (pass ≡ None) × (new ≡ None)
  pub first : (list : PassListView) (lock : LockId) (lane left : ℕ) → old ≡ Some list
      → list.passes ≡ fresh_from lock lane (suc left)
      → (pass ≡ Some (fresh_pass lock lane))
      × (new ≡ Some (record { passes = fresh_from lock (lane + 1) left; made = list.made }))

-- of each context's passes one is taken
pub record TakesEach (old new : List (Option PassListView)) (passes : List (Option PassView))
    : Type 0 where
  pub lists_count : length new ≡ length old
  pub count : length passes ≡ length old
  pub each : (number : ℕ) → number < length old
      → Takes (list_at old number) (list_at new number) (pass_at passes number)

-- ---- back

-- where a list is there is a pass, and the list has room for it
pub record CanPut (list : Option PassListView) (pass : Option PassView) : Type 0 where
  pub room : (l : PassListView) → list ≡ Some l
      → (p : PassView) × (pass ≡ Some p) × (length l.passes < l.made)

pub record CanPutEach (lists : List (Option PassListView)) (passes : List (Option PassView))
    : Type 0 where
  pub count : length passes ≡ length lists
  pub each : (number : ℕ) → number < length lists → CanPut (list_at lists number) (pass_at passes number)

-- the pass stands at the end of the list
pub record Puts (old new : Option PassListView) (pass : Option PassView) : Type 0 where
  pub none : old ≡ None → new ≡ None
  pub last : (l : PassListView) (p : PassView) → old ≡ Some l → pass ≡ Some p
      → new ≡ Some (record { passes = l.passes ++ p ∷ []; made = l.made })

-- to each context's list the lane's pass of it is put
pub record PutsEach (old new : List (Option PassListView)) (passes : List (Option PassView))
    : Type 0 where
  pub lists_count : length new ≡ length old
  pub each : (number : ℕ) → number < length old
      → Puts (list_at old number) (list_at new number) (pass_at passes number)
