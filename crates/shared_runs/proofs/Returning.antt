-- Lanes that give back their passes, in order.
use Rattle.std.proofs.Common.{◌≡◌, ℕ, zero, suc, ◌+◌, ◌-◌, ◌<◌, List, [], ◌∷◌, ◌++◌, length, get_or, Option, Some, None, inl, inr, sym, refl, ap, ◌∙◌, subst, arith, length-append, Bor}
use Rattle.std.specs.Prelude.{slice_get, All}
use Rattle.std.proofs.lemmas.Bool.{cases_lt}
use Rattle.std.proofs.lemmas.List.{get_or_past}
use Rattle.turn_lock.specs.Passes.{PassView, PassListView, fresh_from}
use Rattle.stamp_counter.specs.Seats.{SeatView, CounterView}
use Rattle.shared_context.specs.Calls.{SharedView}
use Rattle.batch_plans.specs.declared.replies.LaneAnswers.{LaneAnswers}
use Rattle.lane_workers.specs.Gathered.{no_answers}
use Rattle.lane_workers.specs.Handing.{list_at, CanPutEach, PutsEach}
use Rattle.lane_workers.specs.Returned.{IsReturned}
use Rattle.lane_workers.specs.Served.{seen_of, LaneIsServed}
use Rattle.lane_workers.specs.Turns.{shared_at, pass_at, views}
use Rattle.shared_context.specs.Stamped.{IsNote}
use Rattle.shared_runs.specs.declared.tables.Table.{Table}
use Rattle.shared_runs.specs.declared.tables.Left.{Left}
use Rattle.shared_runs.specs.Tables.{HasGiven}
use Rattle.shared_runs.specs.Collected.{passes_of, ArePassesOf, IsListOf, ArePut, AreBack, Collected}
use Rattle.shared_runs.proofs.Ends.{at_end, at_front, one_more, got_here}
use Rattle.shared_runs.proofs.Handed.{within_shared}
use Rattle.lane_workers.proofs.Found.{one_of, none_some}

-- ---- lists with one element more

got_front : {X : Type 0} (xs ys : List X) (k : ℕ) (x : X) → slice_get xs k ≡ Some x
    → slice_get (xs ++ ys) k ≡ Some x
got_front [] ys k x e = absurd (none_some x e)
got_front (y ∷ xs) ys zero x e = e
got_front (y ∷ xs) ys (suc k) x e = got_front xs ys k x e

pub all_push : {X : Type 0} (P : X → Type 0) (xs : List X) (y : X) → All P xs → P y
    → All P (xs ++ y ∷ [])
all_push P xs y all here k d low =
    one_more (λ i. P (get_or (xs ++ y ∷ []) i d)) (length xs)
    (λ i less. subst P (sym (at_front xs (y ∷ []) d i less)) (all i d less))
    (subst P (sym (at_end xs [] y d)) here) k
    (let size = length-append xs (y ∷ []) in omega arith)

-- ---- before the first lane

pub none_back : (t : Table) (l : Left) → HasGiven t (length t.lanes.now) l → AreBack t l []
none_back t l given =
    let n = length t.lanes.now in
    let left : n - n ≡ 0 = omega arith in
    record {
      put = record {
        absent = λ lane number low is. absurd (omega arith);
        count = given.passes.count;
        none = given.passes.none;
        each = λ number s is. (
          record { passes = []; made = n },
          given.passes.some number s is
              ∙ ap (λ k. Some (record { passes = fresh_from s.lock n k; made = n })) left,
          record {
            of_lock = λ k d low. absurd (omega arith);
            count = refl;
            made = refl;
            each = λ lane low. absurd (omega arith);
          },
        );
      };
      seat = given.seat;
    }

-- ---- a lane more

-- while a lane is out there is room for its passes
pub may_put : (t : Table) (l : Left) (given : List (List (Option PassView))) → ArePut t l given
    → length given < length t.lanes.now → (passes : List (Option PassView))
    → ArePassesOf t (length given) passes → CanPutEach l.passes.items passes
may_put t l given back few passes are = record {
  count = are.count ∙ sym back.count;
  each = λ number low. record {
    room = λ list at. by_case number list at (shared_at t.contexts number) refl;
  };
}
  where
    by_case : (number : ℕ) (list : PassListView) → list_at l.passes.items number ≡ Some list
        → (o : Option SharedView) → shared_at t.contexts number ≡ o
        → (p : PassView) × (pass_at passes number ≡ Some p) × (length list.passes < list.made)
    by_case number list at None is = absurd (none_some list (sym (back.none number is) ∙ at))
    by_case number list at (Some s) is =
        let b = back.each number s is in
        let p = are.each number s is in
        let same : b.0 ≡ list = one_of b.0 list (sym b.1 ∙ at) in
        let size = b.2.count in
        let made = b.2.made in (
          p.0,
          p.1,
          subst (λ (l : PassListView). length l.passes < l.made) same (omega arith),
        )

module _ (t : Table) (old new : Left) (same : new.seat ≡ old.seat)
    (given : List (List (Option PassView))) (was : AreBack t old given)
    (passes : List (Option PassView)) (are : ArePassesOf t (length given) passes)
    (puts : PutsEach old.passes.items new.passes.items passes) where
  abbrev back : ArePut t old given
  back = was.put

  abbrev all : List (List (Option PassView))
  all = given ++ passes ∷ []

  here : passes_of all (length given) ≡ passes
  here = at_end given [] passes []

  before : (lane : ℕ) → lane < length given → passes_of all lane ≡ passes_of given lane
  before lane low = at_front given (passes ∷ []) [] lane low

  all_count : length all ≡ length given + 1
  all_count = length-append given (passes ∷ [])

  each_more : (number : ℕ) (s : SharedView) → shared_at t.contexts number ≡ Some s
      → (list : PassListView) × (list_at new.passes.items number ≡ Some list)
      × IsListOf s number (length t.lanes.now) all list
  each_more number s is =
      let b = back.each number s is in
      let list = b.0 in
      let p = are.each number s is in
      let low : number < length old.passes.items =
      (let there = within_shared t.contexts number s is in let count = back.count in omega arith) in
      let size : length list.passes ≡ length given = b.2.count in (
        record { passes = list.passes ++ p.0 ∷ []; made = list.made },
        (puts.each number low).last list p.0 b.1 p.1,
        record {
          of_lock = all_push (λ (q : PassView). q.lock ≡ s.lock) list.passes p.0 b.2.of_lock p.2;
          count = length-append list.passes (p.0 ∷ []) ∙ ap (λ k. k + 1) size ∙ sym all_count;
          made = b.2.made;
          each = λ lane less. one_more (λ l. (q : PassView)
              × (pass_at (passes_of all l) number ≡ Some q) × (q.number ≡ l)
              × (slice_get (list.passes ++ p.0 ∷ []) l ≡ Some q)) (length given)
              (λ l few.
              let e = b.2.each l few in (
                e.0,
                ap (λ ps. pass_at ps number) (before l few) ∙ e.1,
                e.2,
                got_front list.passes (p.0 ∷ []) l e.0 e.3,
              )) (
                p.0,
                ap (λ ps. pass_at ps number) here ∙ p.1,
                p.3,
                subst (λ k. slice_get (list.passes ++ p.0 ∷ []) k ≡ Some p.0) size
                    (got_here list.passes [] p.0),
              ) lane (let x = all_count in omega arith);
        },
      )

  none_more : (number : ℕ) → shared_at t.contexts number ≡ None
      → list_at new.passes.items number ≡ None
  none_more number is = elim (cases_lt number (length old.passes.items)) [
    | inl low ↦ (puts.each number low).none (back.none number is)
    | inr past ↦ get_or_past new.passes.items number None
        (let size = puts.lists_count in omega arith)
  ]

  pub one_back : AreBack t new all
  one_back = record {
    put = record {
      absent = λ lane number low is. one_more (λ l. seen_of (passes_of all l) number ≡ [])
          (length given)
          (λ l less. ap (λ ps. seen_of ps number) (before l less) ∙ back.absent l number less is)
          (ap (λ ps. seen_of ps number) here ∙ are.absent number is)
          lane (let x = all_count in omega arith);
      count = puts.lists_count ∙ back.count;
      none = none_more;
      each = each_more;
    };
    seat = subst (IsNote t.counter.id) (sym same) was.seat;
  }

-- ---- a lane of the table's plan more

pub passes_of_lane : (t : Table) (counter : Option (Bor CounterView)) (lane k : ℕ) → lane ≡ k
    → (passes : List (Option PassView)) (seat : Option SeatView) (a : LaneAnswers)
    → IsReturned t.plan.now t.contexts counter lane passes seat a → ArePassesOf t k passes
passes_of_lane t counter lane k is passes seat a r = record {
  count = r.count;
  absent = r.absent;
  each = λ number s at. let p = r.passes_are number s at in (p.0, p.1, p.2, p.3 ∙ is);
}

-- before the first one
pub none_collected : (t : Table) (l : Left) → HasGiven t (length t.lanes.now) l → Collected t l []
none_collected t l given = record {
  passes = [];
  few = refl;
  served = λ lane low. absurd (omega arith);
  back = none_back t l given;
}

module _ (t : Table) (old new : Left) (answers : List LaneAnswers) (c : Collected t old answers)
    (passes : List (Option PassView)) (a : LaneAnswers)
    (served : LaneIsServed t.plan.now (views t.contexts) (length answers) passes a)
    (back : AreBack t new (c.passes ++ passes ∷ [])) where
  abbrev collected : List (List (Option PassView))
  collected = c.passes ++ passes ∷ []

  abbrev both : List LaneAnswers
  both = answers ++ a ∷ []

  collected_count : length collected ≡ length answers + 1
  collected_count = length-append c.passes (passes ∷ []) ∙ ap (λ k. k + 1) c.few

  pub one_collected : Collected t new both
  one_collected = record {
    passes = collected;
    few = collected_count ∙ sym (length-append answers (a ∷ []));
    served = λ lane low. one_more (λ l. LaneIsServed t.plan.now (views t.contexts) l
        (passes_of collected l) (get_or both l no_answers)) (length answers)
        (λ l less. subst (λ ps. LaneIsServed t.plan.now (views t.contexts) l ps
        (get_or both l no_answers))
        (sym (at_front c.passes (passes ∷ []) [] l (let few = c.few in omega arith)))
        (subst (LaneIsServed t.plan.now (views t.contexts) l (passes_of c.passes l))
        (sym (at_front answers (a ∷ []) no_answers l less))
        (c.served l (let x = c.few in omega arith))))
        (subst (λ ps. LaneIsServed t.plan.now (views t.contexts) (length answers) ps
        (get_or both (length answers) no_answers))
        (sym (ap (passes_of collected) (sym c.few) ∙ at_end c.passes [] passes []))
        (subst (LaneIsServed t.plan.now (views t.contexts) (length answers) passes)
        (sym (at_end answers [] a no_answers)) served))
        lane (let x = collected_count in omega arith);
    back = back;
  }
