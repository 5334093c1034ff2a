use Rattle.std.proofs.Common.{◌≤◌, length, Ok, Err, arith}
use Rattle.field_text.proofs.Judging.{no_header, first_line}
use Rattle.field_text.proofs.lines.read_front.Goals as goal

pub returns-in_default-clause-read : goal.returns-in_default-clause-read
returns-in_default-clause-read g c =
    let short : length c.args.text.now ≤ g.D.Draft.MOST_INPUT = omega (arith, c.MOST_INPUT.ensures, c.if-text-MOST_INPUT.false) in
    rw c.bad-in_default.ensures (no_header g.D.Draft.grammar g.D.Draft.MOST_INPUT c.args.text.now short c.in_default.ensures.whole)

pub returns-in-Ok-clause-read : goal.returns-in-Ok-clause-read
returns-in-Ok-clause-read g c =
    let short : length c.args.text.now ≤ g.D.Draft.MOST_INPUT = omega (arith, c.MOST_INPUT.ensures, c.if-text-MOST_INPUT.false) in
    rw (first_line g.D.Draft.grammar g.D.Draft.MOST_INPUT c.args.text.now c.in-Some.header.now c.in-Some.rest.now (Ok (g.D.Draft.plan c.in-Ok.draft)) short
    c.in-Some.ensures.parts c.in-Ok.ensures.read) c.judge.ensures.read

pub returns-in-Err-clause-read : goal.returns-in-Err-clause-read
returns-in-Err-clause-read g c =
    let short : length c.args.text.now ≤ g.D.Draft.MOST_INPUT = omega (arith, c.MOST_INPUT.ensures, c.if-text-MOST_INPUT.false) in
    rw c.bad-in-Err.ensures
    (first_line g.D.Draft.grammar g.D.Draft.MOST_INPUT c.args.text.now c.in-Some.header.now c.in-Some.rest.now (Err c.in-Err.reason) short
    c.in-Some.ensures.parts c.in-Err.ensures.read)
