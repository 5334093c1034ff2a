use Rattle.std.proofs.Common.{◌≡◌, List, ◌∙◌}
use Rattle.std.proofs.lemmas.Result.{IfOk-weaker}
use Rattle.context_books.specs.Asks.{batch_of}
use Rattle.result_lines.specs.Journals.{broken_journal}
use Rattle.journal_check.specs.declared.asks.Asked.{Asked}
use Rattle.journal_check.specs.Asks.{batch_from}
use Rattle.journal_check.proofs.Alike.{made, broken_same}
use Rattle.journal_check.proofs.journals.broken_journal.Goals as goal

pub returns : goal.returns
returns c =
    let batch = batch_of c.args.plan.now c.args.contexts.now in
    let stamps = c.args.stamps in
    let journals = c.args.journals.now in
    let sizes : List (List Asked) = c.deref.result.now in
    let is = c.deref.ensures.value ∙ c.in_ok-asks.ensures.sizes in
    IfOk-weaker c.broken_by.result _ (λ broken. broken ≡ broken_journal stamps batch 0 journals)
    (λ broken found. found ∙ broken_same (batch_from sizes) batch (made sizes batch is) stamps 0 journals)
    c.broken_by.ensures
