use Rattle.std.proofs.Common.{◌+◌, ◌++◌, ◌∷◌, [], List, drop, sym, ap, append_assoc, ◌∙◌, arith}
use Rattle.std.proofs.lemmas.Grind.{common_steps}
use Rattle.call_places.specs.declared.entries.Mark.{Mark}
use Rattle.context_books.specs.Batches.{Spot, spots}
use Rattle.context_books.specs.Histories.{places}
use Rattle.journal_check.proofs.Walks.{drop_next}
use Rattle.journal_check.proofs.dealing.push_journal.Goals as goal

pub marks-preserved : goal.marks-preserved
marks-preserved c =
    let marks = c.args.marks.now in
    let i = c.marks.mark-index in
    let so_far = c.marks.spots.items in
    let later = spots c.args.context (places (drop (i + 1) marks)) in
    ap (λ (ss : List Spot). ss ++ later) (c.in_ok-push.ensures.items ∙ ap (λ (s : Spot). so_far ++ s ∷ []) c.new.ensures)
    ∙ append_assoc so_far _ later
    ∙ ap (λ (ms : List Mark). so_far ++ spots c.args.context (places ms)) (sym (drop_next marks i _ c.marks-test.true))
    ∙ c.marks.invariant

pub returns : goal.returns
returns c = grind (arith, common_steps)
