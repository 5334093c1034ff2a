use Rattle.std.proofs.Common.{◌≡◌, ℕ, length, map, take, sym, ap, ◌∙◌}
use Rattle.std.specs.Prelude.{replicate}
use Rattle.std.specs.List.{range_with_len}
use Rattle.std.proofs.lemmas.List.{take_all, map_more}
use Rattle.std.proofs.lemmas.Simd.{map-map}
use Rattle.batch_plans.specs.Room.{all_items_on, blank_mark}
use Rattle.batch_plans.proofs.journals.journals_room.Goals as goal

pub counts-preserved : goal.counts-preserved
counts-preserved c =
    let journal = λ (count : ℕ). replicate count blank_mark in
    rw (c.in_ok-push.ensures.items, c.in_ok-journal.ensures, c.counts.invariant)
    (sym (map_more journal c.deref-count-items.result.now c.counts.count-index _ c.counts-test.true))

pub returns : goal.returns
returns c =
    let contexts = c.args.contexts.now in
    let count = λ (k : ℕ). all_items_on contexts c.args.export_limits.now k c.args.lanes.now in
    let journal = λ (count : ℕ). replicate count blank_mark in
    let numbers = range_with_len 0 (length contexts) in
    let items = c.deref-count-items.result.now in
    let all : take c.counts.count-index items ≡ map count numbers =
    take_all c.counts.count-index items c.counts-test.false
    ∙ c.deref-count-items.ensures.value
    ∙ c.in_ok-counts.ensures in
    c.from_vec.ensures.items
    ∙ c.counts.invariant
    ∙ ap (map journal) all
    ∙ map-map journal count numbers
