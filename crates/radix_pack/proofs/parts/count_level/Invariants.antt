use Rattle.std.proofs.Common.{◌≡◌, ◌+◌, ◌*◌, drop}
use Rattle.radix_pack.specs.Radix.{level_count}
use Rattle.radix_pack.proofs.parts.count_level.Given as goal

abbrev pub invariant-loop-i : goal.invariant-loop-i
invariant-loop-i l = l.count + level_count (drop (2 * l.i) l.radices) ≡ level_count l.radices
