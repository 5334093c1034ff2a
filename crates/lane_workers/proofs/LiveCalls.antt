-- The next call of a live lane that is noted, or has no note, and is answered by the lane itself.
use Rattle.std.proofs.Common.{◌≡◌, ℕ, ◌<◌, false, Bool, [], Some, None, refl}
use Rattle.batch_plans.specs.declared.plan.CallLine.{CallLine}
use Rattle.batch_plans.specs.declared.plan.CallLine.TheVariants as calls
use Rattle.batch_plans.specs.declared.replies.Reply.{Reply}
use Rattle.batch_plans.specs.Progress.{Progress, with_reply}
use Rattle.context_books.specs.Live.{noting}
use Rattle.context_books.specs.LaneCalls.{lane_calls}
use Rattle.context_books.proofs.Within.{of_call}
use Rattle.lane_workers.specs.declared.live_lane.LiveLane.{LiveLane}
use Rattle.lane_workers.specs.LiveLanes.{LiveView, standing, AddsOneOf, own_reply, MayAnswerLive, IsToldLive, IsOneOnLive}
use Rattle.lane_workers.specs.Turns.{with_progress}
use Rattle.lane_workers.proofs.LiveAnswering.{has_left, answers_itself}
use Rattle.lane_workers.proofs.LiveNoting.{unnoted}

-- a line that adds a context adds one of the plan's
pub named_here : (v : LiveView) (k name : ℕ) (l : LiveLane) → MayAnswerLive v k (calls.Add name) l
    → name < v.plan.added
named_here v k name l may =
    of_call (AddsOneOf v.plan.added) (lane_calls v.plan l.work.lane) k (calls.Add name)
    (may.shared.named l.work.lane [] may.there) may.at

module _ (v : LiveView) (k : ℕ) (call : CallLine) (l : LiveLane) (may : MayAnswerLive v k call l) where
  abbrev lane : ℕ
  lane = l.work.lane

  -- a call that has no note is as one that is noted and wasn't live
  pub told_nothing : noting v.plan (standing v) call ≡ None → IsToldLive v k false l l
  told_nothing none =
      let u = unnoted v lane k call may.at l may.is_at none in
      record { noted = record { lane = refl; is_at = u.0 }; tells = u.1 }

  -- the lane answers it itself
  module _ (live : Bool) (mid : LiveLane) (told : IsToldLive v k live l mid) where
    pub told_left : 0 < mid.work.progress.left
    told_left = has_left v may.shared lane k call may.there may.at mid told.noted.is_at

    pub told_itself : (reply : Reply)
        → own_reply v.plan told.noted.is_at.pass.seen lane k call ≡ Some reply
        → (p : Progress) → p ≡ with_reply mid.work.progress reply
        → IsOneOnLive v k l (record mid { work = with_progress mid.work p })
    told_itself reply own p put = record {
      lane = told.noted.lane;
      is_at = answers_itself v may.shared lane k call may.there may.at mid told.noted.is_at reply own
          (record mid { work = with_progress mid.work p })
          (λ i. record mid { work = with_progress mid.work (put i) });
    }
