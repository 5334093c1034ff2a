-- A lane that gets its passes.
use Rattle.std.proofs.Common.{◌≡◌, ℕ, suc, ◌+◌, ◌-◌, ◌<◌, ◌^◌, List, [], ◌++◌, length, take, drop, Option, Some, None, inl, inr, sym, refl, ap, ◌∙◌, subst, arith, Bor}
use Rattle.std.specs.Prelude.{Result, Ok, Err, IfOk, OnOk, sum_by}
use Rattle.std.proofs.lemmas.Bool.{cases_lt}
use Rattle.std.proofs.lemmas.List.{get_or_past, take-append-le, take_all, length-replicate}
use Rattle.turn_lock.specs.Passes.{PassView, PassListView, fresh_pass, fresh_from}
use Rattle.stamp_counter.specs.Seats.{SeatView, CounterView}
use Rattle.shared_context.specs.Calls.{SharedView}
use Rattle.shared_context.specs.Stamped.{IsNote}
use Rattle.batch_plans.specs.declared.replies.LaneAnswers.{LaneAnswers}
use Rattle.batch_plans.specs.Room.{lane_room, call_room}
use Rattle.batch_plans.proofs.Rooms.{lane_within, lane_is_small}
use Rattle.context_books.specs.ContextLines.{export_limits}
use Rattle.context_books.specs.LaneCalls.{lane_calls}
use Rattle.lane_workers.specs.Handing.{list_at, TakesEach}
use Rattle.lane_workers.specs.Returned.{IsGiven}
use Rattle.lane_workers.specs.Served.{seen_of, seen_by}
use Rattle.lane_workers.specs.Turns.{shared_at, pass_at, views}
use Rattle.shared_runs.specs.declared.tables.Table.{Table}
use Rattle.shared_runs.specs.Tables.{planned, IsTable, AreLeft, IsHanded}
use Rattle.lane_workers.proofs.Found.{one_of, none_some}

pub IfOk-both : {X E : Type 0} (r : Result X E) (P Q R : X → Type 0)
    → ((x : X) → P x → Q x → R x) → IfOk r P → IfOk r Q → IfOk r R
IfOk-both (Ok x) P Q R both p q = both x p q
IfOk-both (Err e) P Q R both p q = tt

pub OnOk-holds : {X E : Type 0} (r : Result X E) (P : Type 0) → P → OnOk r P
OnOk-holds (Ok x) P p = p
OnOk-holds (Err e) P p = tt

-- items of the same count, written back into a vector
pub written_back : {X : Type 0} (len : ℕ) (items new : List X) → len ≡ length items
    → length new ≡ length items → take len (new ++ drop (length new) items) ≡ new
written_back len items new size same =
    take-append-le len new (drop (length new) items) (omega arith) ∙ take_all len new (omega arith)

-- a context that is shared has a number below their count
pub within_shared : (shared : List (Option SharedView)) (number : ℕ) (s : SharedView)
    → shared_at shared number ≡ Some s → number < length shared
within_shared shared number s is = elim (cases_lt number (length shared)) [
  | inl low ↦ low
  | inr high ↦ absurd (none_some s (sym (get_or_past shared number None high) ∙ is))
]

module _ (shared : List (Option SharedView)) (lane n : ℕ) (low : lane < n)
    (lists lists' : List (Option PassListView)) (passes : List (Option PassView))
    (t : AreLeft shared lane (n - lane) n lists) (takes : TakesEach lists lists' passes) where
  pub taken : (number : ℕ) (s : SharedView) → shared_at shared number ≡ Some s
      → (pass_at passes number ≡ Some (fresh_pass s.lock lane))
      × (list_at lists' number
      ≡ Some (record { passes = fresh_from s.lock (lane + 1) (n - (lane + 1)); made = n }))
  taken number s is =
      let there = within_shared shared number s is in
      let count = t.count in
      let one_more : n - lane ≡ suc (n - (lane + 1)) = omega arith in
      (takes.each number (omega arith)).first
      (record { passes = fresh_from s.lock lane (n - lane); made = n }) s.lock lane (n - (lane + 1))
      (t.some number s is) (ap (fresh_from s.lock lane) one_more)

  not_taken : (number : ℕ) → shared_at shared number ≡ None
      → (pass_at passes number ≡ None) × (list_at lists' number ≡ None)
  not_taken number is = elim (cases_lt number (length lists)) [
    | inl there ↦ (takes.each number there).none (t.none number is)
    | inr past ↦ (
      get_or_past passes number None (let a = takes.count in omega arith),
      get_or_past lists' number None (let a = takes.lists_count in omega arith),
    )
  ]

  pub unseen : (number : ℕ) → seen_of passes number ≡ []
  unseen number = by_case (shared_at shared number) refl
    where
      by_case : (o : Option SharedView) → shared_at shared number ≡ o → seen_of passes number ≡ []
      by_case None is = ap seen_by (not_taken number is).0
      by_case (Some s) is = ap seen_by (taken number s is).0

  pub count_is : length passes ≡ length shared
  count_is = takes.count ∙ t.count

  pub left_after : AreLeft shared (lane + 1) (n - (lane + 1)) n lists'
  left_after = record {
    count = takes.lists_count ∙ t.count;
    none = λ number is. (not_taken number is).1;
    some = λ number s is. (taken number s is).1;
  }

-- the note that a lane gets
pub note_is : (counter : List ℕ) (seat : SeatView) (low : ℕ)
    → seat ≡ record { counter = counter; low = low; drawn = []; left = 0 } → IsNote counter seat
note_is counter seat low is = record {
  counter_is = ap (λ (s : SeatView). s.counter) is;
  drawn = ap (λ (s : SeatView). s.drawn) is;
  left = ap (λ (s : SeatView). s.left) is;
}

-- what a lane has got is what it is given before it is prepared
pub is_given : (t : Table) → IsTable t → (lane : ℕ) → lane < length t.lanes.now
    → (passes : List (Option PassView)) (seat : SeatView) → IsHanded t lane passes seat
    → (answers : LaneAnswers) → answers
    ≡ lane_room (planned t) (export_limits (views t.contexts)) (lane_calls (planned t) lane)
    → (stamps : Bor CounterView) → stamps.now.id ≡ t.counter.id
    → IsGiven (planned t) t.contexts (Some stamps) lane passes (Some seat) answers
is_given t table lane low passes seat handed answers room stamps same = record {
  within = table.within;
  there = low;
  count = handed.count;
  fresh = handed.fresh;
  unseen = handed.unseen;
  seat_is = λ other is. (
    seat,
    refl,
    subst (λ (id : List ℕ). IsNote id seat)
        (sym (ap (λ (b : Bor CounterView). b.now.id) (one_of other stamps (sym is)) ∙ same))
        handed.note,
  );
  room = room;
}

-- the room of a lane's answers is small
pub room_is_small : (t : Table) → IsTable t → (lane : ℕ) → lane < length t.lanes.now
    → (answers : LaneAnswers) → answers
    ≡ lane_room (planned t) (export_limits (views t.contexts)) (lane_calls (planned t) lane)
    → length answers.pool < 2 ^ 32
room_is_small t table lane low answers room =
    let plan = planned t in
    let limits = export_limits (views t.contexts) in
    let calls = lane_calls plan lane in
    let small = (lane_is_small plan limits calls
    (lane_within plan table.within lane [] low)).room in
    let size = length-replicate {A = ℕ} (sum_by (call_room plan limits) calls) 0 in
    omega (arith, ap (λ (a : LaneAnswers). length a.pool) room, small, size)
