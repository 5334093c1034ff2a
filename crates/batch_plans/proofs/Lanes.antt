-- The lines of all lanes.
use Rattle.std.proofs.Common.{◌≡◌, ◌<◌, ◌+◌, ℕ, suc, List, [], ◌∷◌, length, get_or, refl, ap, ◌∙◌, add-zero, arith}
use Rattle.batch_plans.specs.declared.plan.CallLine.{CallLine}
use Rattle.batch_plans.specs.declared.replies.LaneAnswers.{LaneAnswers}
use Rattle.batch_plans.specs.ReplyText.{numbered}
use Rattle.batch_plans.specs.AnswersText.{answered_lines, lanes_lines}

-- the calls and the answers of the lane of this number
pub record IsLane (lanes : List (List CallLine)) (answers : List LaneAnswers) (i : ℕ)
    (calls : List CallLine) (lane : LaneAnswers) : Type 0 where
  pub one_of_lanes : i < length lanes
  pub one_of_answers : i < length answers
  pub calls_are : calls ≡ get_or lanes i calls
  pub lane_is : lane ≡ get_or answers i lane

is_first : {calls : List CallLine} {lanes : List (List CallLine)} {lane : LaneAnswers}
    {answers : List LaneAnswers} → IsLane (calls ∷ lanes) (lane ∷ answers) 0 calls lane
is_first = record {
  one_of_lanes = omega arith;
  one_of_answers = omega arith;
  calls_are = refl;
  lane_is = refl;
}

behind_first : {first : List CallLine} {lanes : List (List CallLine)} {one : LaneAnswers}
    {answers : List LaneAnswers} {i : ℕ} {calls : List CallLine} {lane : LaneAnswers}
    → IsLane lanes answers i calls lane → IsLane (first ∷ lanes) (one ∷ answers) (suc i) calls lane
behind_first h = record {
  one_of_lanes = omega arith;
  one_of_answers = omega arith;
  calls_are = h.calls_are;
  lane_is = h.lane_is;
}

-- the lines of all lanes, where those of each lane are made of its number and its calls
pub lanes_lines-numbered : (f : ℕ → List CallLine → List (List ℕ)) (start : ℕ)
    (lanes : List (List CallLine)) (answers : List LaneAnswers) → length answers ≡ length lanes
    → ((i : ℕ) (calls : List CallLine) (lane : LaneAnswers) → IsLane lanes answers i calls lane
    → answered_lines calls lane ≡ f (start + i) calls)
    → lanes_lines lanes answers ≡ numbered f start lanes
lanes_lines-numbered f start [] answers same each = refl
lanes_lines-numbered f start (calls ∷ lanes) [] same each = absurd (omega (arith, same))
lanes_lines-numbered f start (calls ∷ lanes) (lane ∷ answers) same each =
    let first = each 0 calls lane is_first ∙ ap (λ (n : ℕ). f n calls) (add-zero start) in
    let rest = lanes_lines-numbered f (start + 1) lanes answers (omega (arith, same))
    (λ i others other h. each (suc i) others other (behind_first h)
    ∙ ap (λ (n : ℕ). f n others) (omega arith)) in
    ap (λ lines. lines ∷ lanes_lines lanes answers) first ∙ ap (λ more. f start calls ∷ more) rest
