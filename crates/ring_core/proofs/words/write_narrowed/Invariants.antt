use Rattle.std.proofs.Common.{◌≡◌, take}
use Rattle.ring_core.proofs.words.write_narrowed.Given as goal

abbrev pub invariant-loop-i : goal.invariant-loop-i
invariant-loop-i l = take l.i l.narrow ≡ take l.i l.list
