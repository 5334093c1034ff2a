use Rattle.std.proofs.Common.{◌≡◌, map, take}
use Rattle.call_places.specs.Entries.{mark_of}
use Rattle.context_books.proofs.marking.write_journal.Given as goal

abbrev pub invariant-entries : goal.invariant-entries
invariant-entries l = take l.i l.journal ≡ map mark_of (take l.i l.entries)
