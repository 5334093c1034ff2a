use Rattle.std.proofs.Common.{◌≡◌, ◌++◌, drop}
use Rattle.radix_pack.specs.Radix.{with_radices}
use Rattle.radix_pack.proofs.radix.digits_of.Given as goal

abbrev pub invariant-loop-i : goal.invariant-loop-i
invariant-loop-i l =
    l.digits.items ++ with_radices (drop l.i l.values) (drop l.i l.radices) ≡ with_radices l.values l.radices
