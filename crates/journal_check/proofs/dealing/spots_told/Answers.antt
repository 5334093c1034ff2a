use Rattle.std.proofs.Common.{◌+◌, ◌++◌, List, drop, sym, ap, append_assoc, ◌∙◌, arith}
use Rattle.std.proofs.lemmas.Grind.{common_steps}
use Rattle.call_places.specs.declared.entries.Mark.{Mark}
use Rattle.journal_check.specs.Piles.{spots_told}
use Rattle.journal_check.proofs.Walks.{drop_next}
use Rattle.journal_check.proofs.dealing.spots_told.Goals as goal

pub journals-preserved : goal.journals-preserved
journals-preserved c =
    let journals = c.args.journals.now in
    let i = c.journals.context in
    let so_far = c.journals.spots.items in
    rw (c.in_ok-push_journal.ensures, c.as_slice.ensures.items, c.index-journals-context.is)
    (append_assoc so_far _ (spots_told (i + 1) (drop (i + 1) journals))
    ∙ ap (λ (journals : List (List Mark)). so_far ++ spots_told i journals) (sym (drop_next journals i _ c.journals-test.true))
    ∙ c.journals.invariant)

pub returns : goal.returns
returns c = grind (arith, common_steps)
