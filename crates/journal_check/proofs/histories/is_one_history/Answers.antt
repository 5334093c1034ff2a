use Rattle.std.proofs.Common.{◌≡◌, List, ◌∙◌}
use Rattle.std.proofs.lemmas.Result.{IfOk-weaker}
use Rattle.context_books.specs.Checks.{is_legal_history}
use Rattle.context_books.specs.Asks.{batch_of}
use Rattle.journal_check.specs.declared.asks.Asked.{Asked}
use Rattle.journal_check.specs.Asks.{batch_from}
use Rattle.journal_check.proofs.Alike.{made, history_same}
use Rattle.journal_check.proofs.histories.is_one_history.Goals as goal

pub returns : goal.returns
returns c =
    let batch = batch_of c.args.plan.now c.args.contexts.now in
    let journals = c.args.journals.now in
    let sizes : List (List Asked) = c.deref.result.now in
    let is = c.deref.ensures.value ∙ c.in_ok-asks.ensures.sizes in
    IfOk-weaker c.is_history_by.result _ (λ good. good ≡ is_legal_history batch journals)
    (λ good told. told ∙ history_same (batch_from sizes) batch (made sizes batch is) journals)
    c.is_history_by.ensures
