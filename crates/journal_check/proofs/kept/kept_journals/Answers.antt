use Rattle.std.proofs.Common.{List, ◌∙◌}
use Rattle.std.proofs.lemmas.Result.{IfOk-weaker}
use Rattle.context_books.specs.Asks.{batch_of}
use Rattle.journal_check.specs.declared.asks.Asked.{Asked}
use Rattle.journal_check.specs.Asks.{batch_from}
use Rattle.journal_check.specs.Piles.{IsKept}
use Rattle.journal_check.proofs.Alike.{made, kept_same}
use Rattle.journal_check.proofs.KeptPlaces.{kept_is}
use Rattle.journal_check.proofs.kept.kept_journals.Goals as goal

pub returns : goal.returns
returns c =
    let batch = batch_of c.args.plan.now c.args.contexts.now in
    let journals = c.args.journals.now in
    let sizes : List (List Asked) = c.deref.result.now in
    let same = kept_same (batch_from sizes) batch (made sizes batch (c.deref.ensures.value ∙ c.in_ok-asks.ensures.sizes)) 0 journals in
    IfOk-weaker c.first_places.result _ (λ kept. IsKept batch journals kept.items) (λ kept is. kept_is batch journals kept.items (is ∙ same)) c.first_places.ensures
