use Rattle.std.proofs.Common.{◌∙◌, sym, w8}
use Rattle.std.proofs.lemmas.Simd.{below_from_Fits}
use Rattle.ghash_core.proofs.Bytes.{element-block}
use Rattle.ghash_core.proofs.blocks.from_lanes.Goals as goal

pub returns : goal.returns
returns c = c.from_block.ensures ∙ sym (element-block c.args.lanes c.fits-lanes.0 (below_from_Fits w8 c.args.lanes c.fits-lanes.1))
