use Rattle.std.proofs.Common.{◌∙◌, arith}
use Rattle.std.proofs.lemmas.Grind.{common_steps}
use Rattle.context_books.specs.Histories.{marks_at}
use Rattle.journal_check.specs.Passing.{due_at}
use Rattle.journal_check.specs.Walks.{run_in, left_in}
use Rattle.journal_check.proofs.OneContext.{journal_there, run_there, numbers_on}
use Rattle.journal_check.proofs.Pulling.{value_here, behind_here}
use Rattle.journal_check.proofs.guesses.pass_place.Goals as goal

pub step-requires-clause-there : goal.step-requires-clause-there
step-requires-clause-there c = journal_there c.args.walk.now.checked c.requires.run c.args.context c.requires.stands

pub bounds-walk-context : goal.bounds-walk-context
bounds-walk-context c = run_there c.args.walk.now.checked c.requires.run c.args.context c.requires.stands

pub returns-clause-number : goal.returns-clause-number
returns-clause-number c = λ p ps own.
    let walk = c.args.walk.now in
    let at = c.args.context in
    let are = c.deref.ensures.value ∙ numbers_on walk.checked c.requires.run at c.requires.stands c.index-walk-context.result in
    c.number_at.ensures
    ∙ value_here (marks_at walk.checked.journals.now at) c.in-Some.at c.in-Some.ensures.there
    (left_in walk c.args.cursors.now at) (left_in walk c.step.new.cursors at) c.in-Some.ensures.place p ps own
    (due_at (run_in walk.checked) at) c.deref.result.now 0 are

pub returns-clause-left : goal.returns-clause-left
returns-clause-left c = λ p ps own.
    let walk = c.args.walk.now in
    behind_here (marks_at walk.checked.journals.now c.args.context) c.in-Some.at c.in-Some.ensures.there
    (left_in walk c.args.cursors.now c.args.context) (left_in walk c.step.new.cursors c.args.context) c.in-Some.ensures.place p ps own

pub returns-in_default-clause-number : goal.returns-in_default-clause-number
returns-in_default-clause-number c = grind (arith, common_steps)

pub returns-in_default-clause-left : goal.returns-in_default-clause-left
returns-in_default-clause-left c = grind (arith, common_steps)
