use Rattle.journal_check.proofs.Slots.{back_again}
use Rattle.journal_check.proofs.runs.run_at.Goals as goal

pub returns-in_ok-done-in-Some-clause-kept : goal.returns-in_ok-done-in-Some-clause-kept
returns-in_ok-done-in-Some-clause-kept c =
    back_again c.args.contexts.now c.take.new.contexts c.put_back.new.contexts c.args.number c.in-Some.context c.in_ok-done-in-Some.context c.requires.there
    c.in-Some.ensures.context c.in_ok-done-in-Some.ensures.context c.take.ensures.taken c.put_back.ensures
