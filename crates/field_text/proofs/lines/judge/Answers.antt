use Rattle.std.proofs.Common.{sym, ◌∙◌, arith}
use Rattle.field_text.proofs.Judging.{more_lines, bad_line, last_line, unfinished}
use Rattle.field_text.proofs.lines.judge.Goals as goal

pub returns-in-Ok-Last-clause-read : goal.returns-in-Ok-Last-clause-read
returns-in-Ok-Last-clause-read g c =
    sym c.lines.invariant.read
    ∙ last_line g.D.Draft.grammar c.lines.line (g.D.Draft.plan c.lines.draft) (g.D.Draft.plan c.take_line.new.draft) c.lines.rest.now c.in-Some.finished.now c.in-Some.after.now
    c.in-Some.ensures.parts (rw c.in-Ok-Last.field-0-is at c.in-Ok-Last.ensures.read)

pub returns-in-Err-Bad-clause-read : goal.returns-in-Err-Bad-clause-read
returns-in-Err-Bad-clause-read g c =
    rw (c.bad.ensures, c.in-Err-Bad.reason-is)
    (sym c.lines.invariant.read
    ∙ bad_line g.D.Draft.grammar c.lines.line (g.D.Draft.plan c.lines.draft) c.in-Err-Bad.reason c.lines.rest.now c.in-Some.finished.now c.in-Some.after.now
    c.in-Some.ensures.parts (rw c.in-Err-Bad.field-0-is at c.in-Err-Bad.ensures.read))

pub lines-preserved : goal.lines-preserved
lines-preserved g c = record {
  read =
      sym (more_lines g.D.Draft.grammar c.lines.line (g.D.Draft.plan c.lines.draft) (g.D.Draft.plan c.take_line.new.draft) c.lines.rest.now c.in-Some.finished.now c.in-Some.after.now
      c.in-Some.ensures.parts (rw c.in-Ok-More.field-0-is at c.in-Ok-More.ensures.read))
      ∙ c.lines.invariant.read;
  kept = c.in-Ok-More.ensures.kept;
  size = omega (arith, c.in-Ok-More.ensures.size, c.in-Some.ensures.sizes, c.lines.invariant.size);
  line = omega (arith, c.in-Some.ensures.sizes, c.lines.invariant.line);
}

pub returns-clause-read : goal.returns-clause-read
returns-clause-read g c =
    rw c.bad-2.ensures (sym c.lines.invariant.read ∙ unfinished g.D.Draft.grammar c.lines.line _ _ c.in_default.ensures.whole)
