use Rattle.std.proofs.Common.{sym, ap, ◌∙◌}
use Rattle.std.proofs.lemmas.Result.{IfOk-weaker}
use Rattle.result_lines.specs.Computed.{live_by_form}
use Rattle.journal_check.proofs.LiveRead.{live_has_of}
use Rattle.journal_check.proofs.checking.Judge.verdict_by_notes.Goals as goal

pub verdict_as_served-requires-clause-lanes_size : goal.verdict_as_served-requires-clause-lanes_size
verdict_as_served-requires-clause-lanes_size c =
    let self = c.args.self.now in
    (live_has_of c.args.plan.now self.keys.now self.replies.now c.args.contexts.now c.args.notes.now self.text.now c.in-Ok.told c.requires.within c.in-Ok.ensures).0

pub verdict_as_served-requires-clause-journals_size : goal.verdict_as_served-requires-clause-journals_size
verdict_as_served-requires-clause-journals_size c =
    let self = c.args.self.now in
    (live_has_of c.args.plan.now self.keys.now self.replies.now c.args.contexts.now c.args.notes.now self.text.now c.in-Ok.told c.requires.within c.in-Ok.ensures).1

pub returns-in-Ok : goal.returns-in-Ok
returns-in-Ok c =
    IfOk-weaker c.verdict_as_served.result _ _
    (λ verdict is. is ∙ ap (live_by_form c.args.plan.now c.args.self.now.replies.now c.args.contexts.now c.args.notes.now) (sym c.in-Ok.ensures))
    c.verdict_as_served.ensures
