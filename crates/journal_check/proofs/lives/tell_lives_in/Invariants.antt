use Rattle.std.proofs.Common.{◌≡◌, take, length}
use Rattle.std.specs.List.{list_all, range_with_len}
use Rattle.journal_check.proofs.LiveNames.{AreBits, tells, tell_from}
use Rattle.journal_check.proofs.lives.tell_lives_in.Given as goal

abbrev pub invariant-notes : goal.invariant-notes
invariant-notes l = record {
  size : length l.lives ≡ length l.initial.lives;
  bits : AreBits l.lives (take l.entry-index l.notes);
  told : tell_from l.notes l.entry-index ≡ list_all (tells l.notes) (range_with_len 0 (length l.notes));
}
