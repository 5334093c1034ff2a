-- What all lanes show that were served, and a plan with no lanes.
use Rattle.std.proofs.Common.{◌≡◌, List, [], length, Option, sym, refl, ap, ◌∙◌, subst, arith, append-nil}
use Rattle.std.specs.Prelude.{flat_map, IsPermutation}
use Rattle.std.specs.List.{All, range_with_len}
use Rattle.std.proofs.lemmas.List.{length-map, get_or_default}
use Rattle.call_places.specs.Entries.{stamps_of}
use Rattle.turn_lock.specs.Passes.{PassView}
use Rattle.hpke_context.specs.Contexts.{ContextView}
use Rattle.batch_plans.specs.declared.plan.Plan.{Plan}
use Rattle.batch_plans.specs.declared.replies.ContextReply.{ContextReply}
use Rattle.batch_plans.specs.declared.replies.LaneAnswers.{LaneAnswers}
use Rattle.batch_plans.specs.Replies.{IsPrintable}
use Rattle.lane_workers.specs.Gathered.{no_answers}
use Rattle.lane_workers.specs.LiveGathered.{AllLiveLanesServed, AllLiveClosed}
use Rattle.lane_workers.specs.LiveLanes.{AddsAre}
use Rattle.lane_workers.specs.Turns.{views}
use Rattle.shared_runs.proofs.Ending as shared
use Rattle.shared_runs.specs.declared.live_contexts.LiveContexts.{LiveContexts}
use Rattle.shared_runs.specs.declared.live_contexts.LiveLeft.{LiveLeft}
use Rattle.shared_runs.specs.LiveCollected.{tables_of, CollectedLive}
use Rattle.lane_workers.proofs.Found.{none_some}

module _ (t : LiveContexts) (l : LiveLeft) (answers : List LaneAnswers) (c : CollectedLive t l answers)
    (count : length answers ≡ length t.shared.plan.now.lanes) (replies : List ContextReply)
    (adds : AddsAre t.shared.plan.now replies) where
  pub all_served : AllLiveLanesServed t.shared.plan.now replies (views t.shared.contexts) (tables_of l)
      c.passes answers
  all_served = record {
    tables_count = length-map l.passes.passes (λ (p : PassView). p.seen) ∙ c.names.count ∙ c.few ∙ count;
    passes_count = c.few ∙ count;
    answers_count = count;
    each = λ lane low. c.served replies adds lane (omega (arith, c.few, count));
  }

  pub printable : All IsPrintable answers
  printable k d low =
      subst IsPrintable (get_or_default answers k no_answers d low)
      (c.served replies adds k (omega (arith, c.few))).printable

-- ---- a plan with no lanes

module _ (plan : Plan) (contexts : List (Option ContextView)) (replies : List ContextReply)
    (none : plan.lanes ≡ []) where
  pub none_served : AllLiveLanesServed plan replies contexts [] [] []
  none_served = record {
    tables_count = sym (ap length none);
    passes_count = sym (ap length none);
    answers_count = sym (ap length none);
    each = λ lane low. absurd (omega (arith, ap length none));
  }

  pub nothing_closed : AllLiveClosed plan [] [] (shared.no_books plan contexts none) []
  nothing_closed =
      let closed = shared.nothing_closed plan contexts none in
      let stamps = flat_map stamps_of (shared.no_books plan contexts none) in
      record {
        count = closed.count;
        closes = closed.closes;
        table = record {
          begins = λ lane low. absurd (omega (arith, ap length none));
          whole = λ lane low. absurd (omega (arith, ap length none));
          others = λ lane high. refl;
          rise = tt;
        };
        live = λ i e at. absurd (none_some e at);
        stamps = closed.stamps;
        given = subst (λ ds. IsPermutation ds (range_with_len 0 closed.stamps))
            (sym (append-nil stamps)) closed.given;
      }
