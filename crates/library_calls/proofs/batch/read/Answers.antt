use Rattle.std.proofs.Common.{arith}
use Rattle.library_calls.proofs.Judging.{batch_has_no_bad_line, line_that_fits, longer_line_is_bad}
use Rattle.library_calls.proofs.batch.read.Goals as goal

pub returns-in_default-found-clause-room : goal.returns-in_default-found-clause-room
returns-in_default-found-clause-room c some =
    let text = c.args.input.now in
    let is = c.in-Ok.ensures.batch c.in_default-found.is in
    ((λ e. absurd (omega (arith, e))), (λ has. absurd (batch_has_no_bad_line text is (longer_line_is_bad text _ has))))

pub returns-in-Ok-true-clause-room : goal.returns-in-Ok-true-clause-room
returns-in-Ok-true-clause-room c some =
    let bad = c.in-Some.bad in
    let at = c.in-Ok.ensures.bad bad c.in-Some.is in
    let written = c.in-Ok-true.ensures.text c.in-Ok-true.field-0-test in (
      (λ e. absurd (omega (arith, e))),
      (λ has. absurd (line_that_fits c.args.input.now _ c.put_bad.new.out_len c.put_bad.new.out bad at written c.put_bad.auto.out has)),
    )
