use Rattle.std.proofs.Common.{◌-◌, ◌∙◌, length, ap, arith}
use Rattle.ghash_core.specs.Rows.{element}
use Rattle.ghash_core.proofs.Bytes.{element-padded}
use Rattle.ghash_core.proofs.blocks.padded_lanes.Goals as goal

pub returns : goal.returns
returns c =
    let bytes = c.args.bytes.now in
    ap element c.padded.ensures ∙ element-padded bytes (16 - length bytes) (omega arith) c.type_inv.bytes
