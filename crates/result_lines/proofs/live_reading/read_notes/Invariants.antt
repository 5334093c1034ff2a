use Rattle.std.proofs.Common.{◌≡◌, drop, map}
use Rattle.batch_plans.specs.LiveText.{note_line}
use Rattle.result_lines.specs.Told.{with_lines}
use Rattle.result_lines.proofs.live_reading.read_notes.Given as goal

abbrev pub invariant-notes : goal.invariant-notes
invariant-notes l =
    with_lines (map note_line (drop l.note-index l.notes)) l.told ≡ with_lines (map note_line l.notes) l.initial.told
