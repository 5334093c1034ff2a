use Rattle.std.proofs.lemmas.Result.{err_from_is_err_and}
use Rattle.result_lines.proofs.Taking.{added_go_on, added_stop}
use Rattle.result_lines.proofs.live_reading.read_added_journals.Goals as goal

pub returns-in_err-added_journal : goal.returns-in_err-added_journal
returns-in_err-added_journal c =
    let p = err_from_is_err_and c.from_residual.result c.from_residual.ensures.1 in
    rw (p.1, p.2) (added_stop c.in_err-added_journal.field-0.0 c.args.lines.now c.journals.name c.journals.told _ c.journals-test.true c.in_err-added_journal.ensures c.journals.invariant)

pub journals-preserved : goal.journals-preserved
journals-preserved c =
    added_go_on c.args.lines.now c.journals.name c.journals.told c.added_journal.new.self _ c.journals-test.true c.in_ok-added_journal.ensures c.journals.invariant
