use Rattle.std.proofs.Common.{◌≡◌, length}
use Rattle.capsule_frames.proofs.answers.empty_slots.Given as goal

abbrev pub invariant-slots : goal.invariant-slots
invariant-slots l = length l.slots.items ≡ l._slot
