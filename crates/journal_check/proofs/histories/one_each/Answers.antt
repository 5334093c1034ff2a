use Rattle.std.proofs.Common.{◌+◌, List, length, drop, get_or, ap, ◌∙◌, arith}
use Rattle.std.proofs.lemmas.Grind.{common_steps}
use Rattle.std.proofs.lemmas.List.{length-append, length-map}
use Rattle.call_places.specs.declared.entries.Mark.{Mark}
use Rattle.context_books.specs.Histories.{stamps, all_stamps}
use Rattle.journal_check.proofs.Walks.{drop_next}
use Rattle.journal_check.proofs.histories.one_each.Goals as goal

pub journals-preserved : goal.journals-preserved
journals-preserved c =
    let journals = c.args.journals.now in
    let i = c.journals.marks-index in
    let marks : List Mark = get_or journals i c.marks-item.result in
    let at = drop_next journals i c.marks-item.result c.journals-test.true in
    omega (
      arith,
      c.in_ok-push_some.ensures,
      ap (λ (journals : List (List Mark)). length (all_stamps journals)) at,
      length-append (stamps marks) (all_stamps (drop (i + 1) journals)),
      length-map marks (λ (m : Mark). m.stamp),
      ap length (c.as_slice.ensures.items ∙ c.marks-item.is),
    )

pub returns : goal.returns
returns c = grind (arith, common_steps)
