use Rattle.std.proofs.Common.{◌≡◌, ◌<◌, ◌≤◌, ℕ, length, get_or}
use Rattle.call_places.specs.declared.entries.Mark.{Mark}
use Rattle.batch_alone.specs.Tables.{restamped}
use Rattle.batch_alone.proofs.stamps.restamp_journal.Given as goal

abbrev pub invariant-marks : goal.invariant-marks
invariant-marks l = record {
  size : length l.journal ≡ length l.initial.journal;
  done : (k : ℕ) (d : Mark) → k < l.i
      → get_or l.journal k d ≡ restamped l.stamps (get_or l.initial.journal k d);
  left : (k : ℕ) (d : Mark) → l.i ≤ k → get_or l.journal k d ≡ get_or l.initial.journal k d;
}
