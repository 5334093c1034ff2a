use Rattle.std.proofs.Common.{ap, ◌∙◌}
use Rattle.std.specs.List.{list_all}
use Rattle.std.proofs.lemmas.Result.{IfOk-weaker}
use Rattle.context_books.specs.LiveChecks.{tells_act}
use Rattle.journal_check.proofs.LiveRead.{over_notes}
use Rattle.journal_check.proofs.LiveSound.{table_acts}
use Rattle.journal_check.proofs.checking.Judge.verdict_by_table.Goals as goal

pub verdict_by_notes-requires-clause-acts : goal.verdict_by_notes-requires-clause-acts
verdict_by_notes-requires-clause-acts c =
    let plan = c.args.plan.now in
    let contexts = c.args.contexts.now in
    ap (list_all (tells_act plan contexts)) (c.as_slice.ensures.items ∙ c.in_ok-table.ensures) ∙ table_acts plan contexts c.args.self.now.text.now

pub returns : goal.returns
returns c =
    IfOk-weaker c.verdict_by_notes.result _ _
    (λ verdict is. over_notes c.args.plan.now c.args.self.now.keys.now c.args.self.now.replies.now c.args.contexts.now c.as_slice.result.now c.args.self.now.text.now verdict
    (c.as_slice.ensures.items ∙ c.in_ok-table.ensures) is)
    c.verdict_by_notes.ensures
