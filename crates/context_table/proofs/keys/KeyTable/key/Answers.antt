use Rattle.std.proofs.Common.{List, length, Option, Some, ap, sym, ◌∙◌, ltb-true}
use Rattle.std.specs.Prelude.{slice_get}
use Rattle.std.proofs.lemmas.Option.{slice_get-get_or}
use Rattle.context_table.specs.declared.keys.Key.{Key}
use Rattle.context_table.specs.Slots.{held_view, held_in}
use Rattle.context_table.proofs.keys.KeyTable.key.Goals as goal

pub returns : goal.returns
returns c =
    let number = c.args.number in
    let slots = c.as_slice.result.now in
    let lookup = c.in_ok-get.ensures.lookup in
    let there = ltb-true number (length slots) (sym lookup.0) in
    let found = slice_get-get_or slots number _ there ∙ ap (λ (slot : Option Key). Some slot) (sym lookup.1) in
    ap held_view c.as_ref.ensures.value
    ∙ ap held_in (sym found ∙ ap (λ (ss : List (Option Key)). slice_get ss number) c.as_slice.ensures.items)
