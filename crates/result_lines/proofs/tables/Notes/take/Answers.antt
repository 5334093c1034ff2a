use Rattle.std.proofs.Common.{sym, ◌∙◌}
use Rattle.result_lines.proofs.NoteLines.{note_taken}
use Rattle.result_lines.proofs.tables.Notes.take.Goals as goal

pub returns-clause-some : goal.returns-clause-some
returns-clause-some c =
    sym c.self.view_is
    ∙ note_taken c.self.inside.rest.now c.in_ok-line.line.now c.in_ok-line.more.now c.in-Ok.note c.in_ok-line.ensures.parts c.in-Ok.ensures
