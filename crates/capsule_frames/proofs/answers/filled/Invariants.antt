use Rattle.std.proofs.Common.{◌≡◌, map, Ok}
use Rattle.capsule_frames.proofs.answers.filled.Given as goal

abbrev pub invariant-slots : goal.invariant-slots
invariant-slots l = map Ok l.answers.items ≡ l.yielded
