use Rattle.std.proofs.Common.{◌≡◌, ◌≤◌, ◌-◌, ◌*◌, ◌++◌, length, take, drop}
use Rattle.std.specs.List.{list_all}
use Rattle.field_text.specs.Fields.{is_hex_digit}
use Rattle.field_text.specs.HexLanes.{pairs_of}
use Rattle.field_text.proofs.hex_reading.decode.Given as goal

abbrev pub invariant-rest : goal.invariant-rest
invariant-rest l = record {
  size : length l.room ≡ length l.initial.room;
  within : l.done ≤ length l.room;
  good : list_all is_hex_digit l.digits ≡ list_all is_hex_digit (drop (2 * l.done) l.digits);
  bytes : take l.done l.room ++ pairs_of (drop (2 * l.done) l.digits) ≡ pairs_of l.digits;
}

abbrev pub decreases-rest : goal.decreases-rest
decreases-rest l = length l.room - l.done
