use Rattle.std.proofs.Common.{List, length, subst, sym, ap, ◌∙◌}
use Rattle.std.proofs.lemmas.Result.{IfOk-weaker}
use Rattle.batch_plans.specs.Within.{IsWithinLimits}
use Rattle.batch_plans.specs.declared.plan.CallLine.{CallLine}
use Rattle.result_lines.specs.LiveVerdicts.{live_told}
use Rattle.result_lines.proofs.LookedLimits.{looked_within, looked_lanes}
use Rattle.journal_check.proofs.checking.Judge.verdict_as_served.Goals as goal
use Rattle.result_lines.specs.Computed.{live_verdict_on}

pub verdict_on-requires-clause-within : goal.verdict_on-requires-clause-within
verdict_on-requires-clause-within c =
    let plan = c.args.plan.now in
    let notes = c.args.notes.now in
    subst (λ (lanes : List (List CallLine)). IsWithinLimits (record plan { lanes = lanes })) (sym (c.replace-calls.ensures.after ∙ c.requires.served))
    (looked_within plan notes c.requires.within)

pub verdict_on-requires-clause-lanes_size : goal.verdict_on-requires-clause-lanes_size
verdict_on-requires-clause-lanes_size c =
    c.requires.lanes_size ∙ sym (ap length (c.replace-calls.ensures.after ∙ c.requires.served) ∙ looked_lanes c.args.plan.now c.args.notes.now c.requires.within)

pub returns : goal.returns
returns c =
    let plan = c.args.plan.now in
    let told = c.args.told.now in
    IfOk-weaker c.verdict_on.result _ _
    (λ verdict is. is
    ∙ ap (λ (lanes : List (List CallLine)). live_verdict_on (live_told (record plan { lanes = lanes }) c.args.self.now.replies.now c.args.contexts.now c.args.notes.now told) told)
    (c.as_slice.ensures.items ∙ c.replace-calls.ensures.value))
    c.verdict_on.ensures
