use Rattle.std.proofs.Common.{◌∙◌, ap, arith}
use Rattle.ghash_core.specs.Rows.{element}
use Rattle.ghash_core.proofs.Bytes.{element-block_bytes}
use Rattle.ghash_core.proofs.blocks.to_lanes.Goals as goal

pub returns : goal.returns
returns c = ap element c.to_block.ensures ∙ element-block_bytes c.args.block (omega arith)
