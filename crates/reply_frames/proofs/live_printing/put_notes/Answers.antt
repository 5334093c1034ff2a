use Rattle.std.proofs.Common.{refl}
use Rattle.call_places.specs.declared.entries.Entry.{Entry}
use Rattle.call_places.specs.declared.entries.Step.TheVariants.{Sealed}
use Rattle.batch_plans.specs.LiveText.{note_line}
use Rattle.reply_frames.proofs.Leaves.{Leaves-whole, Leaves-next, Leaves-nothing}
use Rattle.reply_frames.proofs.LinesLeft.{each-next, each-end}
use Rattle.reply_frames.proofs.live_printing.put_notes.Goals as goal

abbrev nothing : Entry
nothing = record { place = record { lane = 0; call = 0; item = 0 }; stamp = 0; step = Sealed }

pub notes-init : goal.notes-init
notes-init g c = Leaves-whole

pub notes-preserved : goal.notes-preserved
notes-preserved g c =
    let next = each-next note_line c.args.notes.now c.notes.note-index nothing _ in
    Leaves-next (next c.notes-test.true refl) c.notes.invariant c.put_note.ensures

pub returns : goal.returns
returns g c =
    let end = each-end note_line c.args.notes.now c.notes.note-index in
    Leaves-nothing (end c.notes-test.false) c.notes.invariant
