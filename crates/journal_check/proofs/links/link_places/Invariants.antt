use Rattle.std.proofs.Common.{◌≡◌, ◌≤◌, ℕ, length, Some}
use Rattle.std.specs.Prelude.{slice_get}
use Rattle.journal_check.specs.Links.{AreFirsts, IsNext}
use Rattle.journal_check.proofs.links.link_places.Given as goal

abbrev pub invariant-marks : goal.invariant-marks
invariant-marks l = record {
  firsts_are : AreFirsts l.marks l.i l.firsts;
  nexts_are : (k at : ℕ) → l.i ≤ k → slice_get l.nexts k ≡ Some at → IsNext l.marks k at;
  size : length l.nexts ≡ length l.marks;
}
