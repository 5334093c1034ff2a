use Rattle.std.proofs.Common.{◌∙◌, sym, arith}
use Rattle.field_text.proofs.HexReading.{block_none, block_some}
use Rattle.field_text.proofs.hex_reading.all_hex_digits.Goals as goal

pub returns-in-None : goal.returns-in-None
returns-in-None c =
    sym (c.lanes.invariant.good ∙ block_none c.lanes.done c.args.text.now c.in-None.ensures)

pub lanes-preserved : goal.lanes-preserved
lanes-preserved c = record {
  within = omega arith;
  good = c.lanes.invariant.good ∙ block_some c.lanes.done c.args.text.now c.in-Some.ensures.0;
}
