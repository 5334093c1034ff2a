-- ---- for the proofs: what the replies to batches of both kinds share, by what differs in them
use Rattle.std.specs.Prelude.{ℕ, Bool, true, false, List, [], ◌∷◌, ◌++◌, map, codes, decimal}
use Rattle.call_places.specs.declared.entries.Mark.{Mark}
use Rattle.batch_plans.specs.declared.plan.CallLine.{CallLine}
use Rattle.batch_plans.specs.declared.replies.LaneAnswers.{LaneAnswers}
use Rattle.batch_plans.specs.ReplyText.{mark_line}
use Rattle.batch_plans.specs.AnswersText.{answered_lines, given_lines}

-- the lines of a lane's calls, by the replies that were given or by all
abbrev pub lines_by : Bool → List CallLine → LaneAnswers → List (List ℕ)
lines_by true calls lane = given_lines calls lane
lines_by false calls lane = answered_lines calls lane

-- those of each lane
abbrev pub lanes_by : Bool → List (List CallLine) → List LaneAnswers → List (List (List ℕ))
lanes_by given [] answers = []
lanes_by given (calls ∷ lanes) [] = []
lanes_by given (calls ∷ lanes) (lane ∷ answers) =
    lines_by given calls lane ∷ lanes_by given lanes answers

-- a word and a number, and the lines of a journal's places
abbrev pub marks_behind : List ℕ → Bool → ℕ → List Mark → List (List ℕ)
marks_behind word stamps number marks =
    (word ++ decimal number ++ codes "\n") ∷ map (mark_line stamps) marks
