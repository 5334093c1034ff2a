use Rattle.std.proofs.Common.{◌≡◌, take}
use Rattle.capsule_frames.proofs.known.are_same.Given as goal

abbrev pub invariant-bytes : goal.invariant-bytes
invariant-bytes l = l.found ≡ 0 → take l.i l.first ≡ take l.i l.second
