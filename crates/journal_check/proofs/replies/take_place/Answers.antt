use Rattle.std.proofs.Common.{ℕ, ◌<◌, List, [], ◌∷◌, subst, sym, ◌∙◌, arith}
use Rattle.std.proofs.lemmas.Grind.{common_steps}
use Rattle.context_books.specs.Histories.{marks_at}
use Rattle.context_books.specs.Runs.{place_line}
use Rattle.journal_check.specs.Walks.{Holds, run_in, left_in}
use Rattle.journal_check.proofs.OneContext.{journal_there, run_there, lines_on, size_on}
use Rattle.journal_check.proofs.Pulling.{value_here, behind_here}
use Rattle.journal_check.proofs.replies.take_place.Goals as goal

pub step-requires-clause-there : goal.step-requires-clause-there
step-requires-clause-there c = journal_there c.args.walk.now.checked c.requires.run c.args.context c.requires.stands

pub bounds-walk-context : goal.bounds-walk-context
bounds-walk-context c = run_there c.args.walk.now.checked c.requires.run c.args.context c.requires.stands

pub line_at-requires : goal.line_at-requires
line_at-requires c =
    let checked = c.args.walk.now.checked in
    let at = c.args.context in
    let are = c.deref.ensures.value ∙ lines_on checked c.requires.run at c.requires.stands c.index-walk-context.result in
    subst (λ n. c.in-Some.at < n) (sym (size_on (place_line (run_in checked) at) c.deref.result.now (marks_at checked.journals.now at) are)) c.in-Some.ensures.there

pub returns-clause-line : goal.returns-clause-line
returns-clause-line c = λ p ps own.
    let walk = c.args.walk.now in
    let at = c.args.context in
    let are = c.deref.ensures.value ∙ lines_on walk.checked c.requires.run at c.requires.stands c.index-walk-context.result in
    let here = value_here (marks_at walk.checked.journals.now at) c.in-Some.at c.in-Some.ensures.there
    (left_in walk c.args.cursors.now at) (left_in walk c.step.new.cursors at) c.in-Some.ensures.place p ps own
    (place_line (run_in walk.checked) at) c.deref.result.now [] are in
    subst (λ (line : List ℕ). Holds c.args.replies.now c.take_line.new.replies (line ∷ []) c.take_line.result) (c.line_at.ensures ∙ here) c.take_line.ensures

pub returns-clause-left : goal.returns-clause-left
returns-clause-left c = λ p ps own.
    let walk = c.args.walk.now in
    behind_here (marks_at walk.checked.journals.now c.args.context) c.in-Some.at c.in-Some.ensures.there
    (left_in walk c.args.cursors.now c.args.context) (left_in walk c.step.new.cursors c.args.context) c.in-Some.ensures.place p ps own

pub returns-in_default-clause-line : goal.returns-in_default-clause-line
returns-in_default-clause-line c = grind (arith, common_steps)

pub returns-in_default-clause-left : goal.returns-in_default-clause-left
returns-in_default-clause-left c = grind (arith, common_steps)
