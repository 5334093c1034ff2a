use Rattle.std.proofs.Common.{◌≡◌, ◌+◌, List, ◌∷◌, length, drop, sym, ap, ◌∙◌, arith}
use Rattle.std.proofs.lemmas.List.{with_items_is}
use Rattle.call_places.specs.declared.entries.Place.{Place}
use Rattle.context_books.specs.Batches.{Spot}
use Rattle.journal_check.specs.Piles.{by_context, joined}
use Rattle.journal_check.proofs.Dealt.{dealt_next}
use Rattle.journal_check.proofs.Walks.{drop_next}
use Rattle.journal_check.proofs.dealing.on_contexts.Goals as goal

pub lists-preserved : goal.lists-preserved
lists-preserved c =
    let i = c.lists.list-index in
    let lists = c.args.lists.now in
    let list = c.list-item.result in
    let at = drop_next lists i list c.lists-test.true ∙ ap (λ (xs : List Spot). xs ∷ drop (i + 1) lists) (sym c.list-item.is) in
    let size : length c.deal_places.new.piles ≡ c.lists.piles.len = omega (arith, c.deal_places.auto, c.deref_mut.ensures.len) in
    ap (λ (piles : List (List Place)). by_context piles (joined (drop (i + 1) lists)))
    (with_items_is c.lists.piles c.deal_places.new.piles size ∙ c.in_ok-deal_places.ensures
    ∙ ap (by_context c.deref_mut.result.now) c.as_slice.ensures.items
    ∙ ap (λ (piles : List (List Place)). by_context piles list) c.deref_mut.ensures.value)
    ∙ dealt_next c.lists.piles.items (drop i lists) list (drop (i + 1) lists) _ at c.lists.invariant
