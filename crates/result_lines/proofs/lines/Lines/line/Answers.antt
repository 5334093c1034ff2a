use Rattle.result_lines.proofs.Cursors.{line_taken}
use Rattle.std.proofs.Common.{sym, ap, ◌∙◌}
use Rattle.result_lines.specs.Places.{next_line}
use Rattle.result_lines.proofs.lines.Lines.line.Goals as goal

pub returns-in-Some : goal.returns-in-Some
returns-in-Some c =
    ap next_line (sym c.self.view_is)
    ∙ line_taken c.self.inside.number c.self.inside.rest.now c.in-Some.line.now c.in-Some.rest.now c.in-Some.ensures.parts
