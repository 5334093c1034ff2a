use Rattle.std.proofs.Common.{◌≡◌, ◌<◌, ◌^◌, drop}
use Rattle.std.specs.Str.Parse.{digits_value, digits_value_after}
use Rattle.byte_strings.proofs.decimals.value_of.Given as goal

abbrev pub invariant-digits : goal.invariant-digits
invariant-digits l = record {
  number : digits_value_after 10 l.value (drop l.digit-index l.text) ≡ digits_value 10 l.text;
  fits : l.value < 2 ^ 64;
}
