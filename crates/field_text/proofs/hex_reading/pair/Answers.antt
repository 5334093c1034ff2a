use Rattle.std.proofs.Common.{arith}
use Rattle.field_text.proofs.HexReading.{pair_is, pair_not}
use Rattle.field_text.proofs.hex_reading.pair.Goals as goal
use Rattle.field_text.proofs.hex_reading.pair.Goals.{else-high-lt16-via-then-high-lt16+else-low-lt16, else-high-lt16-via-else-high-lt16}

pub returns-then-low-lt16 : goal.returns-then-low-lt16
returns-then-low-lt16 c =
    pair_is c.args.high c.args.low _ _ (omega arith) (omega arith)
    c.value-high.ensures c.value-low.ensures (omega arith) (omega arith)

pub returns-else-high-lt16 : goal.returns-else-high-lt16
returns-else-high-lt16 c =
    pair_not c.args.high c.args.low _ _ c.value-high.ensures c.value-low.ensures (λ a b.
    elim c.else-high-lt16.branch [
      | else-high-lt16-via-then-high-lt16+else-low-lt16 w ↦ absurd (omega arith)
      | else-high-lt16-via-else-high-lt16 w ↦ absurd (omega arith)
    ])
