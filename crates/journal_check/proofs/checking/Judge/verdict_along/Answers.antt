use Rattle.std.proofs.Common.{◌∙◌}
use Rattle.std.proofs.lemmas.Result.{IfOk-weaker}
use Rattle.journal_check.proofs.Judged.{found_early, each_for, all_run, found_late}
use Rattle.journal_check.proofs.checking.Judge.verdict_along.Goals as goal

pub returns-in-Some : goal.returns-in-Some
returns-in-Some c =
    let plan = c.args.plan.now in
    let contexts = c.args.contexts.now in
    let told = c.args.told.now in
    let found = c.args.journals.now in
    found_early plan contexts c.args.table told c.requires.served found c.requires.kept c.in_ok-order.order c.in_ok-order.ensures c.in-Some.wrong c.in-Some.is

pub run_journals-requires-clause-fit : goal.run_journals-requires-clause-fit
run_journals-requires-clause-fit c =
    let plan = c.args.plan.now in
    let contexts = c.args.contexts.now in
    let told = c.args.told.now in
    let found = c.args.journals.now in
    each_for plan contexts c.args.table told c.requires.served found c.requires.kept c.in_ok-order.order c.in_ok-order.ensures c.requires.within c.requires.contexts_size c.in_default.is

pub wrong_line-requires : goal.wrong_line-requires
wrong_line-requires c =
    let plan = c.args.plan.now in
    let contexts = c.args.contexts.now in
    let told = c.args.told.now in
    let found = c.args.journals.now in
    all_run plan contexts c.args.table told c.requires.served found c.requires.kept c.in_ok-order.order c.in_ok-order.ensures c.requires.within c.requires.contexts_size c.in_default.is
    c.run_journals.new.contexts c.deref.result.now c.lanes.result.now c.in_ok-runs.ensures.kept (c.deref.ensures.value ∙ c.in_ok-linked.ensures) c.lanes.ensures
    c.deref-2.result.now c.in_ok-runs.runs.items c.deref-2.ensures.value c.requires.lanes_size c.in_ok-runs.ensures.size c.in_ok-runs.ensures.runs

pub returns : goal.returns
returns c =
    let plan = c.args.plan.now in
    let contexts = c.args.contexts.now in
    let told = c.args.told.now in
    let found = c.args.journals.now in
    IfOk-weaker c.wrong_line.result _ _
    (λ verdict judged. found_late plan contexts c.args.table told c.requires.served found c.requires.kept c.in_ok-order.order c.in_ok-order.ensures c.requires.within c.requires.contexts_size c.in_default.is
    c.run_journals.new.contexts c.deref.result.now c.lanes.result.now c.in_ok-runs.ensures.kept (c.deref.ensures.value ∙ c.in_ok-linked.ensures) c.lanes.ensures verdict judged)
    c.wrong_line.ensures
