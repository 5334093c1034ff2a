use Rattle.std.proofs.Common.{◌≡◌, ℕ, List, [], ◌∷◌, ◌++◌, Bool, ap, sym, ◌∙◌}
use Rattle.std.specs.Prelude.{codes}
use Rattle.std.specs.List.{concat}
use Rattle.std.proofs.lemmas.List.Folds.{concat-append}
use Rattle.call_places.specs.declared.entries.Mark.{Mark}
use Rattle.batch_plans.specs.declared.plan.CallLine.{CallLine}
use Rattle.batch_plans.specs.declared.plan.Plan.{Plan}
use Rattle.batch_plans.specs.declared.replies.LaneAnswers.{LaneAnswers}
use Rattle.batch_plans.specs.declared.replies.Answers.{Answers}
use Rattle.field_text.proofs.Held.{Puts-same}
use Rattle.batch_plans.specs.ReplyText.{version_line, setup_lines, setup_text, numbered, all_lines, lane_lines, journal_lines, has_stamps, reply_lines}
use Rattle.batch_plans.specs.AnswersText.{lanes_lines, answers_text}
use Rattle.reply_frames.proofs.Chains.{◌⨾◌}
use Rattle.reply_frames.proofs.LanesLeft.{lanes_of_all}
use Rattle.reply_frames.proofs.printing.put_answers.Goals as goal

-- the lines of the lanes, and those of the journals
abbrev lanes_text : List (List CallLine) → List LaneAnswers → List ℕ
lanes_text lanes answers = concat (all_lines (numbered lane_lines 0 (lanes_lines lanes answers)))

abbrev journals_text : Bool → List (List Mark) → List ℕ
journals_text stamps journals = concat (all_lines (numbered (journal_lines stamps) 0 journals))

-- the parts of a reply, one behind the other
parts : (plan : Plan) (answers : Answers)
    → version_line plan.version ++ setup_text answers.keys answers.contexts
    ++ lanes_text plan.lanes answers.lanes
    ++ journals_text (has_stamps plan.version) answers.journals ++ codes "end\n"
    ≡ answers_text plan answers
unfolding reply_lines
parts plan answers =
    let front = version_line plan.version ∷ setup_lines answers.keys answers.contexts in
    let calls = all_lines (numbered lane_lines 0 (lanes_lines plan.lanes answers.lanes)) in
    let lines = journal_lines (has_stamps plan.version) in
    let marks = all_lines (numbered lines 0 answers.journals) in
    let end : List (List ℕ) = codes "end\n" ∷ [] in
    sym (concat-append (front ++ calls ++ marks) end
    ∙ ap (λ (text : List ℕ). text ++ concat end) (concat-append (front ++ calls) marks)
    ∙ ap (λ (text : List ℕ). text ++ concat marks ++ concat end) (concat-append front calls))

pub returns : goal.returns
returns g c =
    let plan = c.args.plan.now in
    let answers = c.args.answers.now in
    let setup =
    ap (λ keys. setup_text keys c.as_slice-2.result.now) c.as_slice.ensures.items
    ∙ ap (setup_text answers.keys) c.as_slice-2.ensures.items in
    let lanes =
    ap (λ lines. concat (all_lines (numbered lane_lines 0 lines)))
    (lanes_of_all c.as_slice-3.result.now c.as_slice-4.result.now)
    ∙ ap (λ lanes. lanes_text lanes c.as_slice-4.result.now) c.as_slice-3.ensures.items
    ∙ ap (lanes_text plan.lanes) c.as_slice-4.ensures.items in
    let journals =
    ap (λ stamps. journals_text stamps c.as_slice-5.result.now) c.has_stamps.ensures
    ∙ ap (journals_text (has_stamps plan.version)) c.as_slice-5.ensures.items in
    Puts-same (parts plan answers)
    (c.put_version.ensures
    ⨾ Puts-same setup c.put_setup.ensures
    ⨾ Puts-same lanes c.put_lanes.ensures
    ⨾ Puts-same journals c.put_journals.ensures
    ⨾ c.put_text.ensures)
