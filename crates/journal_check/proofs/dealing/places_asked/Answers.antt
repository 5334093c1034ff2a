use Rattle.std.proofs.Common.{◌≡◌, ◌<◌, ℕ, List, [], length, ap, ◌∙◌}
use Rattle.std.specs.Prelude.{slice_index_or, replicate}
use Rattle.std.proofs.lemmas.List.{length-replicate}
use Rattle.std.proofs.lemmas.Result.{IfOk-weaker}
use Rattle.call_places.specs.declared.entries.Place.{Place}
use Rattle.context_books.specs.Batches.{Spot}
use Rattle.journal_check.specs.Asks.{batch_from}
use Rattle.journal_check.specs.Piles.{by_context, joined, asked_on}
use Rattle.journal_check.proofs.Dealt.{length_by_context, asked_lie}
use Rattle.journal_check.proofs.dealing.places_asked.Goals as goal

pub returns-clause-size : goal.returns-clause-size
returns-clause-size c =
    let n = c.args.count in
    IfOk-weaker c.on_contexts.result _ (λ piles. length piles.items ≡ n)
    (λ piles is. ap length is ∙ length_by_context (replicate n []) (joined c.deref.result.now) ∙ length-replicate n [])
    c.on_contexts.ensures

pub returns-clause-each : goal.returns-clause-each
returns-clause-each c =
    let batch = batch_from c.args.asks.now in
    let n = c.args.count in
    let lists = c.deref.ensures.value ∙ c.in_ok-lists.ensures in
    IfOk-weaker c.on_contexts.result _ (λ piles. (k : ℕ) → k < n → slice_index_or piles.items k [] ≡ asked_on batch k)
    (λ piles is k lt.
    ap (λ (ps : List (List Place)). slice_index_or ps k []) (is ∙ ap (λ (ls : List (List Spot)). by_context (replicate n []) (joined ls)) lists)
    ∙ asked_lie batch n k lt)
    c.on_contexts.ensures
