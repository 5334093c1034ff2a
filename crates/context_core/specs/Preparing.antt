-- ---- for the proofs: what stands before the first step, and what is handed out and taken back.
use Rattle.std.specs.Prelude.{ℕ, ◌≡◌, ◌<◌, ◌≤◌, List, [], length, map, sum_by, Option, Some, None, get_or}
use Rattle.std.specs.List.{All}
use Rattle.hpke_context.specs.Contexts.{ContextView}
use Rattle.context_books.specs.Books.{BookView}
use Rattle.batch_plans.specs.declared.plan.Plan.{Plan}
use Rattle.batch_plans.specs.declared.plan.CallLine.{CallLine}
use Rattle.batch_plans.specs.declared.replies.LaneAnswers.{LaneAnswers}
use Rattle.batch_plans.specs.Limits.{items_of}
use Rattle.batch_plans.specs.Progress.{Progress, begun}
use Rattle.context_books.specs.Standing.{standing_at}
use Rattle.context_books.specs.Quotas.{lane_quota}
use Rattle.context_core.specs.declared.lanes.Lane.{Lane}
use Rattle.context_core.specs.declared.lanes.Stage.TheVariants.{Fresh}
use Rattle.context_core.specs.Following.{opened_count}

-- the book of a context that stands, before the first step
abbrev pub fresh_in : Plan → List (Option ContextView) → ℕ → Option ContextView → Option BookView
fresh_in plan contexts number None = None
fresh_in plan contexts number (Some view) =
    Some (record {
      limit = view.limit;
      quotas = map (lane_quota plan contexts number) plan.lanes;
      entries = [];
    })

abbrev pub fresh_at : Plan → List (Option ContextView) → ℕ → Option BookView
fresh_at plan contexts number = fresh_in plan contexts number (standing_at contexts number)

-- a lane before its first step, with room for a note of each of its calls, for the items of each,
-- and for the steps of all
pub record IsFresh (calls : List CallLine) (lane : Lane) : Type 0 where
  pub call : lane.call ≡ 0
  pub stage : lane.stage ≡ Fresh
  pub notes : length lane.done.items ≡ length calls
  pub rows : All (λ call. items_of call ≤ lane.table.room) calls
  pub settled : lane.settled ≡ 0
  pub steps : sum_by opened_count calls ≤ length lane.steps.items

abbrev pub AreFresh : List (List CallLine) → List Lane → Type 0
AreFresh lanes fresh =
    (l : ℕ) (calls : List CallLine) (lane : Lane) → l < length lanes
    → IsFresh (get_or lanes l calls) (get_or fresh l lane)

-- the lane begins with these answers
abbrev pub with_answers : Lane → LaneAnswers → Lane
with_answers lane answers = record lane { progress = begun answers }

-- what is answered
abbrev pub answers_of : Progress → LaneAnswers
answers_of p = record { pool = p.pool; replies = p.replies; batches = p.batches }

-- each reply and each guess was put
pub record IsEnded (lane : Lane) : Type 0 where
  pub replies : lane.progress.left ≡ 0
  pub guesses : lane.progress.batches_left ≡ 0
