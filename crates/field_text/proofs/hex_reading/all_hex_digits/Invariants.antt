use Rattle.std.proofs.Common.{◌≡◌, ◌≤◌, ◌-◌, length, drop}
use Rattle.std.specs.List.{list_all}
use Rattle.field_text.specs.Fields.{is_hex_digit}
use Rattle.field_text.proofs.hex_reading.all_hex_digits.Given as goal

abbrev pub invariant-lanes : goal.invariant-lanes
invariant-lanes l = record {
  within : l.done ≤ length l.text;
  good : list_all is_hex_digit l.text ≡ list_all is_hex_digit (drop l.done l.text);
}

abbrev pub decreases-lanes : goal.decreases-lanes
decreases-lanes l = length l.text - l.done
