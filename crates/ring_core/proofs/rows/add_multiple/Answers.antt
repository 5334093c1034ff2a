use Rattle.std.proofs.Common.{arith}
use Rattle.std.proofs.lemmas.Int.{ints}
use Rattle.ring_core.proofs.Row.{AddsMultiple-none}
use Rattle.ring_core.proofs.rows.add_multiple.Goals as goal

pub returns-in_default : goal.returns-in_default
returns-in_default c =
    AddsMultiple-none c.args.sums.now c.args.row.now c.args.factor (omega (arith, ints))
