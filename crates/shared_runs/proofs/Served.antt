-- Lanes before their first calls and after their last, one by one and as lists.
use Rattle.std.proofs.Common.{◌≡◌, ℕ, zero, suc, List, [], ◌∷◌, length, Option, Some, sym, refl, ap, ◌∙◌, subst, arith, Bor}
use Rattle.std.specs.Prelude.{slice_get, slice_index}
use Rattle.std.proofs.lemmas.List.{get_or-map}
use Rattle.call_places.specs.declared.listed.Terms.{Terms}
use Rattle.stamp_counter.specs.Seats.{CounterView}
use Rattle.batch_plans.specs.declared.plan.Plan.{Plan}
use Rattle.batch_plans.specs.Within.{IsWithinLimits}
use Rattle.context_books.specs.Quotas.{lane_quota}
use Rattle.context_books.proofs.ItemPlaces.{quota_is}
use Rattle.lane_workers.specs.declared.works.LaneWork.{LaneWork}
use Rattle.lane_workers.specs.Groups.{IsServed, Each, EachServed, AllServed}
use Rattle.context_books.specs.LaneCalls.{lane_calls}
use Rattle.lane_workers.specs.Lanes.{AreShared, LaneIsAt}
use Rattle.lane_workers.specs.Turns.{views}
use Rattle.batch_plans.specs.declared.replies.Answers.{Answers}
use Rattle.shared_runs.specs.declared.begun_run.BegunRun.{BegunRun}
use Rattle.shared_runs.specs.declared.tables.Table.{Table}
use Rattle.shared_runs.specs.BegunRuns.{IsBegun}
use Rattle.shared_runs.specs.Serving.{InOrder}
use Rattle.shared_runs.specs.Tables.{planned, IsTable, HasStamps, HasOwnLanes, IsOwnTable, IsReady, IsDoneLane}
use Rattle.shared_runs.proofs.Begun.{lanes_count}
use Rattle.lane_workers.proofs.Found.{one_of, none_some}

-- the contexts of a table are shared as its lanes need them
pub are_shared : (t : Table) (stamps : Bor CounterView) → IsTable t → stamps.now.id ≡ t.counter.id
    → AreShared (planned t) t.contexts (Some stamps)
are_shared t stamps is same =
    let plan = planned t in
    let contexts = views t.contexts in
    record {
      within = is.within;
      of_lines = is.of_lines;
      each = λ number s at.
          let terms = (is.shared number s at).terms in
          let quotas = ap (λ (x : Terms). x.quotas) terms in
          record {
            limit = ap (λ (x : Terms). x.limit) terms;
            lanes = ap length quotas ∙ lanes_count plan contexts number;
            quotas = λ lane low.
                let here = ap (λ qs. slice_index qs lane) quotas
                ∙ get_or-map (lane_quota plan contexts number) plan.lanes lane [] 0 low
                ∙ sym (quota_is plan contexts is.of_lines number is.within lane low) in
                omega arith;
            counted = (stamps, refl, ap (λ (x : Terms). x.counter) terms ∙ sym same);
          };
    }

-- ---- a table of its plan's own lanes

pub own_planned : (t : Table) → HasOwnLanes t → planned t ≡ t.plan.now
own_planned t own = ap (λ lanes. record t.plan.now { lanes = lanes }) own

pub own_table : (t : Table) (plan : Plan) → t.plan.now ≡ plan → t.lanes.now ≡ plan.lanes → IsTable t
    → HasStamps 0 t → IsOwnTable t
own_table t plan same lanes table stamps = record {
  table = table;
  own = lanes ∙ ap (λ (p : Plan). p.lanes) (sym same);
  stamps = stamps;
}

pub own_within : (t : Table) → HasOwnLanes t → IsTable t → IsWithinLimits t.plan.now
own_within t own table = subst IsWithinLimits (own_planned t own) table.within

pub own_shared : (t : Table) → HasOwnLanes t → (stamps : Bor CounterView) → IsTable t
    → stamps.now.id ≡ t.counter.id → AreShared t.plan.now t.contexts (Some stamps)
own_shared t own stamps is same =
    subst (λ plan. AreShared plan t.contexts (Some stamps)) (own_planned t own)
    (are_shared t stamps is same)

-- ---- lanes

module _ {L : Type 0} where
  module _ (P : L → Type 0) where
    pub each_of : (lanes : List L) → ((k : ℕ) (w : L) → slice_get lanes k ≡ Some w → P w)
        → Each P lanes
    each_of [] each = tt
    each_of (w ∷ ws) each = (each 0 w refl, each_of ws (λ k v at. each (suc k) v at))

  module _ (P : L → L → Type 0) where
    pub served_count : (olds news : List L) → EachServed P olds news → length news ≡ length olds
    served_count [] [] all = refl
    served_count [] (v ∷ vs) all = absurd all
    served_count (w ∷ ws) [] all = absurd all
    served_count (w ∷ ws) (v ∷ vs) all = ap suc (served_count ws vs all.1)

    -- a lane that was served was one before
    pub served_at : (olds news : List L) → EachServed P olds news → (k : ℕ) (v : L)
        → slice_get news k ≡ Some v → (w : L) × (slice_get olds k ≡ Some w) × P w v
    served_at [] [] all k v at = absurd (none_some v at)
    served_at [] (x ∷ xs) all k v at = absurd all
    served_at (w ∷ ws) [] all k v at = absurd all
    served_at (w ∷ ws) (x ∷ xs) all zero v at = (w, refl, subst (P w) (one_of x v at) all.0)
    served_at (w ∷ ws) (x ∷ xs) all (suc k) v at = served_at ws xs all.1 k v at

-- lanes that were ready and are served are done
pub are_done : (t : Table) (counter : Option (Bor CounterView)) (n : ℕ) (olds news : List LaneWork)
    → InOrder (IsReady t) n olds → AllServed t.plan.now t.contexts counter olds news
    → InOrder (IsDoneLane t) n news
are_done t counter n olds news ready served =
    let plan = t.plan.now in
    record {
      count_is = served_count (IsServed plan t.contexts counter) olds news served ∙ ready.count_is;
      each = λ lane v at.
          let s = served_at (IsServed plan t.contexts counter) olds news served lane v at in
          record {
            counter = counter;
            number = s.2.lane ∙ (ready.each lane s.0 s.1).number;
            done = subst (λ l. LaneIsAt plan t.contexts counter l (length (lane_calls plan l)) v)
                (sym s.2.lane) s.2.is_at;
          };
    }

-- ---- a run that is begun

-- whatever lanes it has
pub still_begun : {L : Type 0} (answers : Answers) (old new : BegunRun L)
    → new ≡ record old { lanes = new.lanes } → IsBegun answers old → IsBegun answers new
still_begun answers old new same b = subst (IsBegun answers) (sym same) (record {
  keys = b.keys;
  contexts = b.contexts;
  journals = b.journals;
  no_answers = b.no_answers;
  answers_room = b.answers_room;
  no_books = b.no_books;
  books_room = b.books_room;
})
