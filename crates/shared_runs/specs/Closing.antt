-- ---- for the proofs: contexts that are closed one after another.
use Rattle.std.specs.Prelude.{ℕ, ◌≡◌, ◌+◌, ◌≤◌, List, [], ◌++◌, length, sum, flat_map, slice_index_or, IsPermutation, Option, Some, None}
use Rattle.std.specs.List.{All, range_with_len}
use Rattle.call_places.specs.declared.entries.Entry.{Entry}
use Rattle.call_places.specs.Entries.{stamps_of}
use Rattle.call_places.specs.Orders.{StampsRise}
use Rattle.turn_lock.specs.Passes.{PassView, PassListView, AllOf, IsShown, NoOthers}
use Rattle.stamp_counter.specs.Seats.{SeatView}
use Rattle.context_books.specs.Books.{BookView}
use Rattle.shared_context.specs.Calls.{SharedView}
use Rattle.lane_workers.specs.Showing.{Closes}
use Rattle.lane_workers.specs.Served.{seen_of}
use Rattle.lane_workers.specs.Turns.{views}
use Rattle.shared_runs.specs.declared.tables.Table.{Table}
use Rattle.context_books.specs.Quotas.{quotas_on}
use Rattle.shared_runs.specs.Tables.{planned}
use Rattle.shared_runs.specs.Collected.{passes_of}

-- a context that isn't there has no entries
abbrev pub entries_of : Option BookView → List Entry
entries_of None = []
entries_of (Some book) = book.entries

-- a context has all its passes back, and draws its stamps from this counter
pub record MayClose (counter : List ℕ) (context : Option SharedView) (passes : Option PassListView)
    : Type 0 where
  pub none : context ≡ None → passes ≡ None
  pub some : (s : SharedView) → context ≡ Some s → (list : PassListView) × (passes ≡ Some list)
      × AllOf s.lock list.passes × (length list.passes ≡ s.passes)
      × (s.lock.terms.counter ≡ counter)

-- its book has what the passes have seen, and its seat was joined to another
pub record ClosesBy (s : SharedView) (list : PassListView) (old new : SeatView) (book : BookView)
    : Type 0 where
  pub shown : All (IsShown book.entries) list.passes
  pub others : NoOthers book.entries list.passes
  pub rise : StampsRise book.entries
  pub drawn : new.drawn ≡ old.drawn ++ stamps_of book.entries
  pub left : new.left + length book.entries ≡ old.left + sum s.lock.terms.quotas
  pub few : length book.entries ≤ sum s.lock.terms.quotas

pub record HasClosed (context : Option SharedView) (passes : Option PassListView)
    (old new : SeatView) (book : Option BookView) : Type 0 where
  pub none : context ≡ None → (book ≡ None) × (new ≡ old)
  pub some : (s : SharedView) (list : PassListView) → context ≡ Some s → passes ≡ Some list
      → (b : BookView) × (book ≡ Some b) × ClosesBy s list old new b
  pub counter : new.counter ≡ old.counter

-- The contexts of a table are closed over these passes. The counter gave their stamps and those that
-- were drawn before, and no book has more entries than its lanes may add.
pub record HasClosedAll (t : Table) (drawn : List ℕ) (passes : List (List (Option PassView)))
    (books : List (List Entry)) : Type 0 where
  pub count : length books ≡ length t.plan.now.contexts
  pub closes : (context : ℕ) → Closes (length t.lanes.now)
      (λ lane. seen_of (passes_of passes lane) context) (slice_index_or books context [])
  pub stamps : ℕ
  pub given : IsPermutation (drawn ++ flat_map stamps_of books) (range_with_len 0 stamps)
  pub few : (context : ℕ) → length (slice_index_or books context [])
      ≤ sum (quotas_on (planned t) (views t.contexts) context)
