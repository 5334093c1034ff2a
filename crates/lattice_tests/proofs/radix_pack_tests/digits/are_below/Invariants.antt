use Rattle.std.proofs.Common.{ℕ, ◌<◌, get_or}
use Rattle.lattice_tests.proofs.radix_pack_tests.digits.are_below.Given as goal

abbrev pub invariant-loop-i : goal.invariant-loop-i
invariant-loop-i l = (k : ℕ) → k < l.i → get_or l.digits k 0 < get_or l.radices k 0
