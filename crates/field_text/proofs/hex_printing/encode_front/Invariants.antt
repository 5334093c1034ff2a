use Rattle.std.proofs.Common.{◌≡◌, ◌≤◌, ◌-◌, ◌*◌, ◌++◌, length, take, drop}
use Rattle.hex.specs.Hex.{encode_lower}
use Rattle.field_text.proofs.hex_printing.encode_front.Given as goal

abbrev pub invariant-lanes : goal.invariant-lanes
invariant-lanes l = record {
  size : length l.room ≡ length l.initial.room;
  within : l.done ≤ length l.bytes;
  digits : take (2 * l.done) l.room ++ encode_lower (drop l.done l.bytes) ≡ encode_lower l.bytes;
}

abbrev pub decreases-lanes : goal.decreases-lanes
decreases-lanes l = length l.bytes - l.done

abbrev pub invariant-rest : goal.invariant-rest
invariant-rest l = record {
  size : length l.room ≡ length l.initial.room;
  within : l.done ≤ length l.bytes;
  digits : take (2 * l.done) l.room ++ encode_lower (drop l.done l.bytes) ≡ encode_lower l.bytes;
}

abbrev pub decreases-rest : goal.decreases-rest
decreases-rest l = length l.bytes - l.done
