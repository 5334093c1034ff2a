use Rattle.std.proofs.Common.{◌/◌, drop, length}
use Rattle.radix_pack.specs.Radix.{parted}
use Rattle.radix_pack.proofs.PartSteps.{Parting}
use Rattle.radix_pack.proofs.parts.widen.Given as goal

abbrev pub invariant-loop-i : goal.invariant-loop-i
invariant-loop-i l =
    let above = drop (length l.radices / 2) l.initial.values in
    Parting l.values (parted l.radices l.bytes above) l.radices l.bytes above l.i l.from
