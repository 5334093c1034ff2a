use Rattle.std.proofs.Common.{◌≡◌, ◌<◌, ℕ, List, [], length, ap, ◌∙◌}
use Rattle.std.specs.Prelude.{slice_index_or, replicate}
use Rattle.std.proofs.lemmas.List.{length-replicate}
use Rattle.std.proofs.lemmas.Result.{IfOk-weaker}
use Rattle.call_places.specs.declared.entries.Place.{Place}
use Rattle.context_books.specs.Batches.{Spot}
use Rattle.context_books.specs.Histories.{places, marks_at}
use Rattle.journal_check.specs.Piles.{by_context, joined, lanes_told, in_lanes}
use Rattle.journal_check.proofs.Dealt.{length_by_context, told_on}
use Rattle.journal_check.proofs.dealing.places_told.Goals as goal

pub returns-clause-size : goal.returns-clause-size
returns-clause-size c =
    let n = length c.args.journals.now in
    IfOk-weaker c.on_contexts.result _ (λ piles. length piles.items ≡ n)
    (λ piles is. ap length is ∙ length_by_context (replicate n []) (joined c.deref-2.result.now) ∙ length-replicate n [])
    c.on_contexts.ensures

pub returns-clause-each : goal.returns-clause-each
returns-clause-each c =
    let journals = c.args.journals.now in
    let n = length journals in
    let lists = c.deref-2.ensures.value ∙ c.in_ok-lists.ensures
    ∙ ap (lanes_told c.args.lanes) (c.deref.ensures.value ∙ c.in_ok-spots.ensures) in
    IfOk-weaker c.on_contexts.result _ (λ piles. (k : ℕ) → k < length journals → slice_index_or piles.items k [] ≡ in_lanes c.args.lanes (places (marks_at journals k)))
    (λ piles is k lt.
    ap (λ (ps : List (List Place)). slice_index_or ps k []) (is ∙ ap (λ (ls : List (List Spot)). by_context (replicate n []) (joined ls)) lists)
    ∙ told_on n c.args.lanes journals k lt)
    c.on_contexts.ensures
