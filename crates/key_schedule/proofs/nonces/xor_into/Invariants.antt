use Rattle.std.proofs.Common.{◌≡◌, ◌++◌, take, drop}
use Rattle.byte_strings.specs.Bytes.{xor_bytes}
use Rattle.key_schedule.proofs.nonces.xor_into.Given as goal

abbrev pub invariant-places : goal.invariant-places
invariant-places l =
    l.bytes ≡ xor_bytes (take l.i l.initial.bytes) (take l.i l.mask) ++ drop l.i l.initial.bytes
