use Rattle.std.proofs.Common.{◌+◌, ◌++◌, List, map, drop, sym, ap, ◌∙◌, arith}
use Rattle.std.proofs.lemmas.Grind.{common_steps}
use Rattle.std.proofs.lemmas.Bool.{lt-ltb, le-ltb}
use Rattle.call_places.specs.declared.entries.Mark.{Mark}
use Rattle.context_books.specs.LiveChecks.{note_mark}
use Rattle.journal_check.specs.Tables.{is_low_note}
use Rattle.journal_check.proofs.Walks.{map_next, all_next, all_fail}
use Rattle.journal_check.proofs.tables.note_marks.Goals as goal

pub returns-then-entry-ge-MOST_CALLS : goal.returns-then-entry-ge-MOST_CALLS
returns-then-entry-ge-MOST_CALLS c =
    sym (all_fail is_low_note c.args.notes.now c.notes.entry-index _ _ c.notes-test.true c.notes.invariant.low (le-ltb _ 65536 c.if-entry-ge-MOST_CALLS.true))

pub notes-preserved : goal.notes-preserved
notes-preserved c =
    let notes = c.args.notes.now in
    let i = c.notes.entry-index in
    record {
      made = ap (λ (ms : List Mark). ms ++ map note_mark (drop (i + 1) notes)) c.in_ok-push.ensures.items
          ∙ map_next note_mark notes i _ c.mark_of_note.result c.notes.marks.items _ c.notes-test.true c.mark_of_note.ensures c.notes.invariant.made;
      low = all_next is_low_note notes i _ _ c.notes-test.true c.notes.invariant.low (lt-ltb _ 65536 c.if-entry-ge-MOST_CALLS.false);
    }

pub returns : goal.returns
returns c = grind (arith, common_steps)
