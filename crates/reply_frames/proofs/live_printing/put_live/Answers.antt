use Rattle.std.proofs.Common.{◌≡◌, ℕ, List, [], ◌∷◌, ◌++◌, true, ◌-◌, take, drop, length, ap, sym, ◌∙◌, arith}
use Rattle.std.specs.Prelude.{codes}
use Rattle.std.specs.List.{concat}
use Rattle.std.proofs.lemmas.List.{take_all, length-drop}
use Rattle.std.proofs.lemmas.List.Folds.{concat-append}
use Rattle.call_places.specs.declared.entries.Mark.{Mark}
use Rattle.call_places.specs.declared.entries.Entry.{Entry}
use Rattle.batch_plans.specs.declared.plan.CallLine.{CallLine}
use Rattle.batch_plans.specs.declared.plan.Plan.{Plan}
use Rattle.batch_plans.specs.declared.replies.ContextReply.{ContextReply}
use Rattle.batch_plans.specs.declared.replies.LaneAnswers.{LaneAnswers}
use Rattle.batch_plans.specs.declared.replies.Answers.{Answers}
use Rattle.batch_plans.specs.Names.{line_count}
use Rattle.field_text.proofs.Held.{Puts-same}
use Rattle.batch_plans.specs.ReplyText.{version_line, setup_lines, setup_text, numbered, all_lines, lane_lines, journal_lines}
use Rattle.batch_plans.specs.LiveText.{added_journal_lines, table_lines, live_lines}
use Rattle.batch_plans.specs.AnswersText.{lanes_given, live_text}
use Rattle.reply_frames.proofs.Chains.{◌⨾◌}
use Rattle.reply_frames.proofs.LanesLeft.{lanes_of_given}
use Rattle.reply_frames.proofs.live_printing.put_live.Goals as goal

-- the lines of the lanes, those of the journals, and the table
abbrev lanes_text : List (List CallLine) → List LaneAnswers → List ℕ
lanes_text lanes answers = concat (all_lines (numbered lane_lines 0 (lanes_given lanes answers)))

abbrev journals_text : List (List Mark) → List ℕ
journals_text journals = concat (all_lines (numbered (journal_lines true) 0 journals))

abbrev added_text : List (List Mark) → List ℕ
added_text journals = concat (all_lines (numbered added_journal_lines 0 journals))

abbrev table_text : List Entry → List ℕ
table_text notes = concat (table_lines notes)

-- the parts of a reply, one behind the other
parts : (lines : ℕ) (plan : Plan) (answers : Answers) → lines ≡ line_count plan
    → version_line 2 ++ setup_text answers.keys (take lines answers.contexts)
    ++ lanes_text plan.lanes answers.lanes
    ++ journals_text (take lines answers.journals)
    ++ added_text (drop lines answers.journals)
    ++ table_text answers.notes ++ codes "end\n"
    ≡ live_text plan answers
unfolding live_lines
parts lines plan answers is =
    let front = version_line 2 ∷ setup_lines answers.keys (take lines answers.contexts) in
    let calls = all_lines (numbered lane_lines 0 (lanes_given plan.lanes answers.lanes)) in
    let marks = all_lines (numbered (journal_lines true) 0 (take lines answers.journals)) in
    let added = all_lines (numbered added_journal_lines 0 (drop lines answers.journals)) in
    let table = table_lines answers.notes in
    let end : List (List ℕ) = codes "end\n" ∷ [] in
    sym (concat-append (front ++ calls ++ marks ++ added ++ table) end
    ∙ ap (λ (text : List ℕ). text ++ concat end) (concat-append (front ++ calls ++ marks ++ added) table)
    ∙ ap (λ (text : List ℕ). (text ++ concat table) ++ concat end) (concat-append (front ++ calls ++ marks) added)
    ∙ ap (λ (text : List ℕ). ((text ++ concat added) ++ concat table) ++ concat end) (concat-append (front ++ calls) marks)
    ∙ ap (λ (text : List ℕ). (((text ++ concat marks) ++ concat added) ++ concat table) ++ concat end) (concat-append front calls))
    ∙ ap (λ (lines : ℕ). concat (live_lines lines answers.keys answers.contexts (lanes_given plan.lanes answers.lanes) answers.journals answers.notes)) is

pub returns : goal.returns
returns g c =
    let plan = c.args.plan.now in
    let answers = c.args.answers.now in
    let lines = c.line_count-lines.result in
    let setup =
    ap (λ keys. setup_text keys (take lines c.as_slice-contexts.result.now)) c.as_slice.ensures.items
    ∙ ap (λ (contexts : List ContextReply). setup_text answers.keys (take lines contexts)) c.as_slice-contexts.ensures.items in
    let lanes =
    ap (λ lines. concat (all_lines (numbered lane_lines 0 lines)))
    (lanes_of_given c.as_slice-2.result.now c.as_slice-3.result.now)
    ∙ ap (λ lanes. lanes_text lanes c.as_slice-3.result.now) c.as_slice-2.ensures.items
    ∙ ap (lanes_text plan.lanes) c.as_slice-3.ensures.items in
    let journals = ap (λ (journals : List (List Mark)). journals_text (take lines journals)) c.as_slice-journals.ensures.items in
    let rest = drop lines c.as_slice-journals.result.now in
    let added =
    ap added_text (take_all (length c.as_slice-journals.result.now - lines) rest (omega (arith, length-drop lines c.as_slice-journals.result.now)))
    ∙ ap (λ (journals : List (List Mark)). added_text (drop lines journals)) c.as_slice-journals.ensures.items in
    let table = ap table_text c.as_slice-4.ensures.items in
    Puts-same (parts lines plan answers c.line_count-lines.ensures.lines)
    (c.put_version.ensures
    ⨾ Puts-same setup c.put_setup.ensures
    ⨾ Puts-same lanes c.put_lanes.ensures
    ⨾ Puts-same journals c.put_journals.ensures
    ⨾ Puts-same added c.put_each_journal.ensures
    ⨾ Puts-same table c.put_table.ensures
    ⨾ c.put_text.ensures)
