use Rattle.std.proofs.Common.{◌≡◌, ◌++◌, ◌*◌, take, drop}
use Rattle.radix_pack.specs.Radix.{next_radices}
use Rattle.radix_pack.proofs.parts.write_next_radices.Given as goal

abbrev pub invariant-loop-i : goal.invariant-loop-i
invariant-loop-i l = take l.i l.next ++ next_radices (drop (2 * l.i) l.radices) ≡ next_radices l.radices
