use Rattle.std.proofs.Common.{◌≡◌, ◌+◌, length}
use Rattle.journal_check.proofs.histories.push_some.Given as goal

abbrev pub invariant-spots : goal.invariant-spots
invariant-spots l = length l.spots.items ≡ length l.initial.spots.items + l._spot
