use Rattle.std.proofs.Common.{◌≡◌, List, length, map, ap, ◌∙◌}
use Rattle.std.proofs.lemmas.List.{length-map}
use Rattle.context_books.specs.Batches.{Spot}
use Rattle.context_books.specs.Checks.{are_same, is_same_spot}
use Rattle.journal_check.specs.Asks.{ask_from, batch_from}
use Rattle.journal_check.specs.Piles.{lanes_told}
use Rattle.journal_check.proofs.Dealt.{lanes_pass}
use Rattle.journal_check.proofs.histories.has_lanes.Goals as goal

pub returns : goal.returns
returns c =
    let asks = c.args.asks.now in
    let many : length (batch_from asks) ≡ length asks = length-map asks (map ask_from) in
    let told = c.deref.ensures.value ∙ c.in_ok-told.ensures in
    c.are_same.ensures
    ∙ ap (λ (ls : List (List Spot)). are_same (are_same is_same_spot) ls c.deref-2.result.now) told
    ∙ ap (are_same (are_same is_same_spot) (lanes_told (length asks) c.args.history.now)) (c.deref-2.ensures.value ∙ c.in_ok-asked.ensures)
    ∙ lanes_pass (batch_from asks) (length asks) c.args.history.now many
