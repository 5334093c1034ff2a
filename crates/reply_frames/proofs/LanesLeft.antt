-- The lines of lanes and of their calls from one of them on: what the next one adds, and the end.
use Rattle.std.proofs.Common.{◌≡◌, ◌<◌, ◌≤◌, ◌+◌, ℕ, Bool, true, false, List, ◌∷◌, ◌++◌, length, map, take, drop, get_or, refl, sym, ap, ◌∙◌, append_assoc}
use Rattle.std.proofs.lemmas.List.{drop_all}
use Rattle.std.proofs.lemmas.List.Folds.{concat-append}
use Rattle.std.specs.Prelude.{slice_get, []}
use Rattle.std.specs.List.{concat}
use Rattle.batch_plans.specs.declared.plan.CallLine.{CallLine}
use Rattle.batch_plans.specs.declared.replies.Reply.{Reply}
use Rattle.batch_plans.specs.declared.replies.Batch.{Batch}
use Rattle.batch_plans.specs.declared.replies.LaneAnswers.{LaneAnswers}
use Rattle.batch_plans.specs.AnswersText.{reply_line, reply_count, batch_count, guess_line, calls_lines, answered_lines, lanes_lines, given_lines, lanes_given}
use Rattle.batch_plans.specs.ReplyText.{numbered, all_lines, lane_lines}
use Rattle.batch_plans.proofs.Lanes.{IsLane}
use Rattle.reply_frames.specs.LineParts.{lines_by, lanes_by}
use Rattle.reply_frames.proofs.LinesLeft.{drop-next}

-- ---- the lanes

-- by all replies
pub lanes_of_all : (lanes : List (List CallLine)) (answers : List LaneAnswers)
    → lanes_by false lanes answers ≡ lanes_lines lanes answers
lanes_of_all [] answers = refl
lanes_of_all (calls ∷ lanes) [] = refl
lanes_of_all (calls ∷ lanes) (lane ∷ answers) =
    ap (λ more. answered_lines calls lane ∷ more) (lanes_of_all lanes answers)

-- by those that were given
pub lanes_of_given : (lanes : List (List CallLine)) (answers : List LaneAnswers)
    → lanes_by true lanes answers ≡ lanes_given lanes answers
lanes_of_given [] answers = refl
lanes_of_given (calls ∷ lanes) [] = refl
lanes_of_given (calls ∷ lanes) (lane ∷ answers) =
    ap (λ more. given_lines calls lane ∷ more) (lanes_of_given lanes answers)

module _ (given : Bool) (lanes : List (List CallLine)) (answers : List LaneAnswers) where
  -- the lines of these lanes and these answers, numbered from i on
  abbrev lines_of : ℕ → List (List CallLine) → List LaneAnswers → List (List ℕ)
  lines_of i calls replies = all_lines (numbered lane_lines i (lanes_by given calls replies))

  abbrev pub lanes_from : ℕ → List ℕ
  lanes_from i = concat (lines_of i (drop i lanes) (drop i answers))

  pub lanes-next : (i : ℕ) (calls : List CallLine) (lane : LaneAnswers)
      → IsLane lanes answers i calls lane
      → lanes_from i ≡ concat (lane_lines i (lines_by given calls lane)) ++ lanes_from (i + 1)
  lanes-next i calls lane h =
      let more = drop (i + 1) lanes in
      let others = drop (i + 1) answers in
      ap (λ ls. concat (lines_of i ls (drop i answers)))
      (drop-next lanes i calls calls h.one_of_lanes h.calls_are)
      ∙ ap (λ ls. concat (lines_of i (calls ∷ more) ls))
      (drop-next answers i lane lane h.one_of_answers h.lane_is)
      ∙ concat-append (lane_lines i (lines_by given calls lane)) (lines_of (i + 1) more others)

  pub lanes-end : (i : ℕ) → length lanes ≤ i → lanes_from i ≡ []
  lanes-end i le = ap (λ ls. concat (lines_of i ls (drop i answers))) (drop_all i lanes le)

-- ---- the calls of a lane

-- the replies and the guesses of a call that come next, and those behind them
pub record IsParted (call : CallLine) (replies own later : List Reply)
    (batches kept rest : List Batch) : Type 0 where
  pub own_are : own ≡ take (reply_count call (slice_get replies 0)) replies
  pub later_are : later ≡ drop (reply_count call (slice_get replies 0)) replies
  pub kept_are : kept ≡ take (batch_count call (slice_get replies 0)) batches
  pub rest_are : rest ≡ drop (batch_count call (slice_get replies 0)) batches

module _ (pool : List ℕ) (calls : List CallLine) where
  abbrev pub calls_from : ℕ → List Reply → List Batch → List ℕ
  calls_from i replies batches = concat (calls_lines pool (drop i calls) replies batches)

  pub calls-next : (i : ℕ) (d call : CallLine) (replies own later : List Reply)
      (batches kept rest : List Batch) → i < length calls → call ≡ get_or calls i d
      → IsParted call replies own later batches kept rest
      → calls_from i replies batches
      ≡ (concat (map (reply_line pool) own) ++ concat (map guess_line kept))
      ++ calls_from (i + 1) later rest
  calls-next i d call replies own later batches kept rest lt is h =
      let more = calls_lines pool (drop (i + 1) calls) later rest in
      let lines = map (reply_line pool) own in
      let guess = map guess_line kept in
      ap (λ cs. concat (calls_lines pool cs replies batches)) (drop-next calls i d call lt is)
      ∙ rw (← h.own_are, ← h.later_are, ← h.kept_are, ← h.rest_are)
      (concat-append lines (guess ++ more))
      ∙ ap (λ (text : List ℕ). concat lines ++ text) (concat-append guess more)
      ∙ sym (append_assoc (concat lines) (concat guess) (concat more))

  pub calls-end : (i : ℕ) (replies : List Reply) (batches : List Batch) → length calls ≤ i
      → calls_from i replies batches ≡ []
  calls-end i replies batches le =
      ap (λ cs. concat (calls_lines pool cs replies batches)) (drop_all i calls le)

  -- the answers of a lane, by their parts
  pub answered-parts : (lane : LaneAnswers) (replies : List Reply) (batches : List Batch)
      → pool ≡ lane.pool → replies ≡ lane.replies → batches ≡ lane.batches
      → concat (calls_lines pool calls replies batches) ≡ concat (answered_lines calls lane)
  answered-parts lane replies batches pool_is replies_are batches_are =
      ap (λ p. concat (calls_lines p calls replies batches)) pool_is
      ∙ ap (λ rs. concat (calls_lines lane.pool calls rs batches)) replies_are
      ∙ ap (λ bs. concat (calls_lines lane.pool calls lane.replies bs)) batches_are
