use Rattle.std.proofs.Common.{ap, ◌∙◌}
use Rattle.result_lines.specs.declared.stop.Stop.TheVariants.{Wrong}
use Rattle.journal_check.specs.Served.{all_due}
use Rattle.journal_check.specs.Walks.{run_in}
use Rattle.journal_check.proofs.Lanes.{all_held, wrong_early}
use Rattle.journal_check.proofs.replies.wrong_reply.Goals as goal

pub returns-in-Ok : goal.returns-in-Ok
returns-in-Ok c =
    c.left_over.ensures
    ∙ all_held c.args.replies.now c.take_lanes.new.replies (all_due c.args.checked.now.table (run_in c.args.checked.now)) tt c.in-Ok.ensures

pub returns-in-Err-Wrong : goal.returns-in-Err-Wrong
returns-in-Err-Wrong c =
    wrong_early c.in-Err-Wrong.field-0 c.in-Err-Wrong.number c.args.replies.now c.take_lanes.new.replies (all_due c.args.checked.now.table (run_in c.args.checked.now))
    (c.in-Err-Wrong.field-0-is ∙ ap Wrong c.in-Err-Wrong.number-is)
    c.in-Err-Wrong.ensures
