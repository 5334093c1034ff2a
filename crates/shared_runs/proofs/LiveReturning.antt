-- Lanes that give back what they have seen, in order.
use Rattle.std.proofs.Common.{◌≡◌, ℕ, ◌+◌, ◌-◌, ◌<◌, List, [], ◌∷◌, ◌++◌, length, map, Option, inl, inr, sym, refl, ap, ◌∙◌, subst, arith, length-append, Bor}
use Rattle.std.specs.Prelude.{slice_get, slice_index_or}
use Rattle.std.proofs.lemmas.List.{length-map, map-append}
use Rattle.call_places.specs.declared.entries.Entry.{Entry}
use Rattle.turn_lock.specs.Passes.{PassView, PassListView, fresh_from, AllOf}
use Rattle.stamp_counter.specs.Seats.{SeatView, CounterView}
use Rattle.batch_plans.specs.declared.replies.ContextReply.{ContextReply}
use Rattle.batch_plans.specs.declared.replies.LaneAnswers.{LaneAnswers}
use Rattle.lane_workers.specs.Gathered.{no_answers}
use Rattle.lane_workers.specs.LiveLanes.{AddsAre}
use Rattle.lane_workers.specs.LiveReturned.{IsReturnedLive}
use Rattle.lane_workers.specs.LiveServed.{LiveLaneIsServed}
use Rattle.lane_workers.specs.Turns.{views}
use Rattle.shared_runs.specs.Collected.{passes_of, ArePassesOf, AreBack}
use Rattle.shared_runs.proofs.Ends.{at_end, at_front, one_more, pushed_at}
use Rattle.shared_runs.proofs.Returning.{none_back, all_push}
use Rattle.shared_runs.specs.declared.live_contexts.LiveContexts.{LiveContexts}
use Rattle.shared_runs.specs.declared.live_contexts.LiveLeft.{LiveLeft}
use Rattle.shared_runs.specs.Tables.{HasGiven}
use Rattle.shared_runs.specs.LiveContexts.{AreLive, HasGivenLive, seen_by_lanes}
use Rattle.shared_runs.specs.LiveCollected.{tables_of, CollectedLive}
use Rattle.shared_runs.proofs.LiveShared.{lanes_count}
use Rattle.lane_workers.proofs.Found.{none_some}

pub passes_of_lane : (t : LiveContexts) (counter : Option (Bor CounterView)) (lane k : ℕ) → lane ≡ k
    → (pass : PassView) (passes : List (Option PassView)) (seat : Option SeatView) (a : LaneAnswers)
    → IsReturnedLive (seen_by_lanes t counter) lane pass passes seat a → ArePassesOf t.shared k passes
passes_of_lane t counter lane k is pass passes seat a r = record {
  count = r.count;
  absent = r.absent;
  each = λ number s at. let p = r.passes_are number s at in (p.0, p.1, p.2, p.3 ∙ is);
}

-- before the first lane
pub none_collected : (t : LiveContexts) (l : LiveLeft) → AreLive t
    → HasGivenLive t (length t.shared.plan.now.lanes) l → CollectedLive t l []
none_collected t l live given =
    let n = length t.shared.plan.now.lanes in
    let left : n - n ≡ 0 = omega arith in
    let none : l.passes.passes ≡ [] = ap (λ (x : PassListView). x.passes) given.names
    ∙ ap (fresh_from t.names.lock n) left in
    record {
      passes = [];
      few = refl;
      served = λ replies adds lane low. absurd (omega arith);
      back = none_back t.shared l.shared
          (subst (λ k. HasGiven t.shared k l.shared) (sym (lanes_count t live)) given.shared);
      names = record {
        of_lock = subst (AllOf t.names.lock) (sym none) (λ k d low. absurd (omega arith));
        count = ap length none;
        made = ap (λ (x : PassListView). x.made) given.names;
        each = λ lane p at.
            absurd (none_some p (ap (λ ps. slice_get ps lane) (sym none) ∙ at));
      };
    }

-- a lane more
module _ (t : LiveContexts) (old new : LiveLeft) (answers : List LaneAnswers)
    (c : CollectedLive t old answers) (passes : List (Option PassView)) (pass : PassView)
    (a : LaneAnswers)
    (served : (replies : List ContextReply) → AddsAre t.shared.plan.now replies
    → LiveLaneIsServed t.shared.plan.now replies (views t.shared.contexts) (length answers)
    pass.seen passes a)
    (of_lock : pass.lock ≡ t.names.lock) (number : pass.number ≡ length answers)
    (list : new.passes.passes ≡ old.passes.passes ++ pass ∷ [])
    (made : new.passes.made ≡ old.passes.made)
    (back : AreBack t.shared new.shared (c.passes ++ passes ∷ [])) where
  abbrev all : List (List (Option PassView))
  all = c.passes ++ passes ∷ []

  abbrev both : List LaneAnswers
  both = answers ++ a ∷ []

  all_count : length all ≡ length answers + 1
  all_count = length-append c.passes (passes ∷ []) ∙ ap (λ k. k + 1) c.few

  tables : tables_of new ≡ tables_of old ++ pass.seen ∷ []
  tables = ap (map (λ (p : PassView). p.seen)) list
      ∙ map-append (λ (p : PassView). p.seen) old.passes.passes (pass ∷ [])

  tables_count : length (tables_of old) ≡ length answers
  tables_count = length-map old.passes.passes (λ (p : PassView). p.seen) ∙ c.names.count ∙ c.few

  served_here : (replies : List ContextReply) → AddsAre t.shared.plan.now replies → (lane : ℕ)
      → lane < length all → LiveLaneIsServed t.shared.plan.now replies (views t.shared.contexts)
      lane (slice_index_or (tables_of old ++ pass.seen ∷ []) lane []) (passes_of all lane)
      (slice_index_or both lane no_answers)
  served_here replies adds lane low =
      let Q = λ (l : ℕ) (ns : List Entry) (ps : List (Option PassView)) (x : LaneAnswers).
      LiveLaneIsServed t.shared.plan.now replies (views t.shared.contexts) l ns ps x in
      let mine = tables_of old ++ pass.seen ∷ [] in
      one_more (λ l. Q l (slice_index_or mine l []) (passes_of all l) (slice_index_or both l no_answers))
      (length answers)
      (λ l less. subst (λ ns. Q l ns (passes_of all l) (slice_index_or both l no_answers))
      (sym (at_front (tables_of old) (pass.seen ∷ []) [] l
      (let size = tables_count in omega arith)))
      (subst (λ ps. Q l (slice_index_or (tables_of old) l []) ps (slice_index_or both l no_answers))
      (sym (at_front c.passes (passes ∷ []) [] l (let few = c.few in omega arith)))
      (subst (Q l (slice_index_or (tables_of old) l []) (passes_of c.passes l))
      (sym (at_front answers (a ∷ []) no_answers l less))
      (c.served replies adds l (let few = c.few in omega arith)))))
      (subst (λ ns. Q (length answers) ns (passes_of all (length answers))
      (slice_index_or both (length answers) no_answers))
      (sym (ap (λ k. slice_index_or mine k []) (sym tables_count)
      ∙ at_end (tables_of old) [] pass.seen []))
      (subst (λ ps. Q (length answers) pass.seen ps (slice_index_or both (length answers) no_answers))
      (sym (ap (passes_of all) (sym c.few) ∙ at_end c.passes [] passes []))
      (subst (Q (length answers) pass.seen passes) (sym (at_end answers [] a no_answers))
      (served replies adds))))
      lane (let x = all_count in omega arith)

  pub one_collected : CollectedLive t new both
  one_collected = record {
    passes = all;
    few = all_count ∙ sym (length-append answers (a ∷ []));
    served = λ replies adds lane low.
        subst (λ ns. LiveLaneIsServed t.shared.plan.now replies (views t.shared.contexts) lane
        (slice_index_or ns lane []) (passes_of all lane) (slice_index_or both lane no_answers))
        (sym tables) (served_here replies adds lane low);
    back = back;
    names = record {
      of_lock = subst (λ ps. AllOf t.names.lock ps) (sym list)
          (all_push (λ (p : PassView). p.lock ≡ t.names.lock) old.passes.passes pass
          c.names.of_lock of_lock);
      count = ap length list ∙ length-append old.passes.passes (pass ∷ [])
          ∙ ap (λ k. k + 1) (c.names.count ∙ c.few) ∙ sym all_count;
      made = made ∙ c.names.made;
      each = λ lane p at. elim (pushed_at old.passes.passes pass p lane
          (ap (λ ps. slice_get ps lane) (sym list) ∙ at)) [
            | inl before ↦ c.names.each lane p before
            | inr last ↦ ap (λ (q : PassView). q.number) (sym last.1) ∙ number
                ∙ sym (last.0 ∙ c.names.count ∙ c.few)
          ];
    };
  }
