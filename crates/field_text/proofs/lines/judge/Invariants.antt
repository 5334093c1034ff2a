use Rattle.std.proofs.Common.{◌≡◌, ◌≤◌, ◌+◌, length}
use Rattle.field_text.specs.Cuts.{lines_of}
use Rattle.field_text.specs.Lines.{judged}
use Rattle.field_text.proofs.lines.judge.Given as goal

abbrev pub invariant-lines : goal.invariant-lines
invariant-lines g l = record {
  read : judged g.D.Draft.grammar l.line (g.D.Draft.plan l.draft) (lines_of l.rest) ≡ judged g.D.Draft.grammar 2 (g.D.Draft.plan l.initial.draft) (lines_of l.text);
  kept : g.D.Draft.kept l.draft;
  size : g.D.Draft.size l.draft + length l.rest ≤ g.D.Draft.MOST_INPUT;
  line : l.line + length l.rest ≤ length l.text + 2;
}

abbrev pub decreases-lines : goal.decreases-lines
decreases-lines g l = length l.rest
