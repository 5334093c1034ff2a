use Rattle.std.proofs.Common.{◌∙◌, arith}
use Rattle.std.proofs.lemmas.Grind.{common_steps}
use Rattle.journal_check.proofs.Putting.{all_next}
use Rattle.journal_check.proofs.histories.put_journals.Goals as goal

pub journals-preserved : goal.journals-preserved
journals-preserved c = λ final t.
    c.journals.invariant final
    (all_next c.journals.history c.put_journal.new.history final c.journals.context c.args.journals.now c.index-journals-context.result c.as_slice.result.now
    c.journals-test.true (c.as_slice.ensures.items ∙ c.index-journals-context.is) c.put_journal.ensures t)

pub returns : goal.returns
returns c = grind (arith, common_steps)
