-- The contexts of a plan, shared by its lanes.
use Rattle.std.specs.Prelude.{ℕ, ◌≡◌, ◌<◌, ◌≤◌, ◌∷◌, [], List, length, map, sum, slice_index_or, Option, Some, None}
use Rattle.turn_lock.specs.Passes.{PassListView, fresh_from}
use Rattle.stamp_counter.specs.Seats.{SeatView}
use Rattle.hpke_context.specs.Contexts.{ContextView}
use Rattle.shared_context.specs.Calls.{SharedView}
use Rattle.context_books.specs.Standing.{standing_at}
use Rattle.lane_workers.specs.Handing.{list_at}
use Rattle.lane_workers.specs.Turns.{shared_at}

-- ---- stamps

-- so many stamps each context may draw. A lane draws none of its own: the share from which lanes
-- get their notes comes first, and is 0. So many others are drawn for other lists than those of
-- contexts
abbrev pub shares : List (List ℕ) → ℕ → List ℕ
shares quotas others = 0 ∷ others ∷ map sum quotas

-- ---- contexts that are shared

-- a pass for each quota, and a seat for all entries
pub record MayShare (quotas : List ℕ) (seat : SeatView) : Type 0 where
  pub some : 0 < length quotas
  pub few : length quotas < 65536
  pub most : sum quotas ≤ 65536
  pub drawn : seat.drawn ≡ []
  pub left : seat.left ≡ sum quotas

-- the context is shared by lanes with these quotas, and its stamps are of this counter
pub record IsSharedBy (view : ContextView) (quotas counter : List ℕ) (s : SharedView) : Type 0 where
  pub context : s.context ≡ view
  pub terms : s.lock.terms ≡ record { limit = view.limit; quotas = quotas; counter = counter }
  pub passes : s.passes ≡ length quotas

-- a context that stands is shared, with a fresh pass for each quota; where none stands there is none
abbrev pub Shares : Option ContextView → List ℕ → List ℕ → Option SharedView
    → Option PassListView → Type 0
Shares None quotas counter shared list = (shared ≡ None) × (list ≡ None)
Shares (Some view) quotas counter shared list =
    (s : SharedView) × (shared ≡ Some s) × IsSharedBy view quotas counter s
    × (list ≡ Some (record { passes = fresh_from s.lock 0 (length quotas); made = length quotas }))

pub record SharesEach (contexts : List (Option ContextView)) (all : List (List ℕ))
    (counter : List ℕ) (shared : List (Option SharedView)) (lists : List (Option PassListView))
    : Type 0 where
  pub count : length shared ≡ length contexts
  pub lists_count : length lists ≡ length contexts
  pub each : (number : ℕ) → number < length contexts → Shares (standing_at contexts number)
      (slice_index_or all number []) counter (shared_at shared number) (list_at lists number)
