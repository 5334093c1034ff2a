use Rattle.std.proofs.Common.{◌≡◌}
use Rattle.ghash_core.specs.Field.{by_power, low_product}
use Rattle.ghash_core.proofs.field.field_mul.Given as goal

abbrev pub invariant-loop-i : goal.invariant-loop-i
invariant-loop-i l = record {
  sum : l.sum ≡ low_product l.i l.a l.b;
  term : l.term ≡ by_power l.i l.b;
}
