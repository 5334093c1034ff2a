use Rattle.std.proofs.lemmas.Result.{err_from_is_err_and}
use Rattle.result_lines.proofs.Taking.{journals_go_on, journals_stop}
use Rattle.result_lines.proofs.reading.read_journals.Goals as goal

pub returns-in_err-journal : goal.returns-in_err-journal
returns-in_err-journal c =
    let p = err_from_is_err_and c.from_residual.result c.from_residual.ensures.1 in
    rw (p.1, p.2) (journals_stop c.args.stamps c.in_err-journal.field-0.0 c.args.lines.now c.journals.number c.journals.told _ c.journals-test.true c.in_err-journal.ensures c.journals.invariant)

pub journals-preserved : goal.journals-preserved
journals-preserved c =
    journals_go_on c.args.stamps c.args.lines.now c.journals.number c.journals.told c.journal.new.self _ c.journals-test.true c.in_ok-journal.ensures c.journals.invariant
