use Rattle.std.proofs.Common.{◌≡◌, List, map, sym, ap, ◌∙◌, subst}
use Rattle.std.proofs.lemmas.Result.{IfOk-weaker}
use Rattle.batch_plans.specs.declared.plan.CallLine.{CallLine}
use Rattle.context_books.specs.Asks.{batch_of}
use Rattle.journal_check.specs.Asks.{size_in, sizes_of, AreFew}
use Rattle.journal_check.proofs.Asking.{plan_sizes, plan_few}
use Rattle.journal_check.proofs.asks.asks_of.Goals as goal

pub returns-clause-sizes : goal.returns-clause-sizes
returns-clause-sizes c =
    let plan = c.args.plan.now in
    let contexts = c.args.contexts.now in
    IfOk-weaker c.all_sizes.result _ (λ asks. asks.items ≡ sizes_of (batch_of plan contexts))
    (λ asks is. is ∙ ap (λ (ls : List (List CallLine)). map (map (size_in contexts)) ls) c.as_slice.ensures.items ∙ plan_sizes plan contexts c.requires)
    c.all_sizes.ensures

pub returns-clause-few : goal.returns-clause-few
returns-clause-few c =
    let plan = c.args.plan.now in
    let contexts = c.args.contexts.now in
    IfOk-weaker c.all_sizes.result _ (λ asks. AreFew asks.items)
    (λ asks is. subst AreFew (sym (is ∙ ap (λ (ls : List (List CallLine)). map (map (size_in contexts)) ls) c.as_slice.ensures.items)) (plan_few plan contexts c.requires))
    c.all_sizes.ensures
