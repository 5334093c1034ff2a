use Rattle.std.proofs.Common.{ℕ, ◌<◌, get_or}
use Rattle.call_places.specs.declared.entries.Entry.{Entry}
use Rattle.journal_check.specs.Lives.{name_of}
use Rattle.journal_check.proofs.lives.above_names.Given as goal

abbrev pub invariant-notes : goal.invariant-notes
invariant-notes l = (k : ℕ) (d : Entry) → k < l.entry-index → name_of (get_or l.notes k d).step < l.above
