use Rattle.std.proofs.Common.{◌≡◌, ◌<◌, ◌≤◌, ℕ, List, length, map, get_or}
use Rattle.call_places.specs.declared.entries.Mark.{Mark}
use Rattle.batch_alone.specs.Tables.{restamped}
use Rattle.batch_alone.proofs.stamps.restamp.Given as goal

abbrev pub invariant-journals : goal.invariant-journals
invariant-journals l = record {
  size : length l.journals ≡ length l.initial.journals;
  done : (k : ℕ) (d : List Mark) → k < l.i
      → get_or l.journals k d ≡ map (restamped l.stamps) (get_or l.initial.journals k d);
  left : (k : ℕ) (d : List Mark) → l.i ≤ k → get_or l.journals k d ≡ get_or l.initial.journals k d;
}
