use Rattle.std.proofs.Common.{arith, ◌∙◌}
use Rattle.std.proofs.lemmas.Int.{ints}
use Rattle.ring_core.proofs.Row.{RowDone-more, RowDone-within, small_back}
use Rattle.ring_core.proofs.small_rows.subtract_row.Goals as goal

pub loop-j-preserved : goal.loop-j-preserved
loop-j-preserved c =
    RowDone-more _ _ _ _ _ _ (omega arith) (omega (
      arith,
      ints,
      c.from.ensures ∙ small_back c.args.row.now c.loop-j.j c.requires.row_small,
      RowDone-within _ _ _ _ _ _ c.requires.sums_small c.loop-j.invariant,
      c.requires.row_small c.loop-j.j,
    )) c.loop-j.invariant
