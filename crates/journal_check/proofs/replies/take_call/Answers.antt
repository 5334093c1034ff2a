use Rattle.std.proofs.Common.{ℕ, List, Option, subst, sym, ap, ◌∙◌, arith}
use Rattle.std.proofs.lemmas.Grind.{common_steps}
use Rattle.batch_plans.specs.declared.replies.CallRefusal.{CallRefusal}
use Rattle.context_books.specs.Runs.{lines_unless, item_lines}
use Rattle.journal_check.specs.Walks.{Holds, run_in}
use Rattle.journal_check.proofs.replies.take_call.Goals as goal

pub returns-in-Some-clause-lines : goal.returns-in-Some-clause-lines
returns-in-Some-clause-lines c = λ number more points.
    subst (λ (lines : List (List ℕ)). Holds c.args.replies.now c.take_reply.new.replies lines c.take_reply.result)
    (sym (c.in-Some.ensures.line c.args.walk.now.lane number)) c.take_reply.ensures

pub returns-in-Some-refusal_of-clause-lines : goal.returns-in-Some-refusal_of-clause-lines
returns-in-Some-refusal_of-clause-lines c = λ number more points.
    let walk = c.args.walk.now in
    let lines = item_lines (run_in walk.checked) walk.lane number c.args.call.now in
    subst (λ (lines : List (List ℕ)). Holds c.args.replies.now c.take_reply-in-Some-refusal_of.new.replies lines c.take_reply-in-Some-refusal_of.result)
    (sym (c.in_default.ensures.other walk.lane number ∙ ap (λ (r : Option CallRefusal). lines_unless r lines) (sym c.in-Some-refusal_of.ensures))) c.take_reply-in-Some-refusal_of.ensures

pub returns-in-None-clause-lines : goal.returns-in-None-clause-lines
returns-in-None-clause-lines c = λ number more points.
    let walk = c.args.walk.now in
    let lines = item_lines (run_in walk.checked) walk.lane number c.args.call.now in
    subst (λ (lines : List (List ℕ)). Holds c.args.replies.now c.take_served.new.replies lines c.take_served.result)
    (sym (c.in_default.ensures.other walk.lane number ∙ ap (λ (r : Option CallRefusal). lines_unless r lines) (sym c.in-None.ensures)))
    (c.take_served.ensures.lines number more points)

pub returns-in-Some-clause-points : goal.returns-in-Some-clause-points
returns-in-Some-clause-points c = grind (arith, common_steps)

pub returns-in-Some-refusal_of-clause-points : goal.returns-in-Some-refusal_of-clause-points
returns-in-Some-refusal_of-clause-points c = grind (arith, common_steps)

pub returns-in-None-clause-points : goal.returns-in-None-clause-points
returns-in-None-clause-points c = grind (arith, common_steps)
