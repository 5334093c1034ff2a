use Rattle.std.proofs.Common.{sym, w8}
use Rattle.std.proofs.lemmas.Simd.{below_from_Fits}
use Rattle.ghash_core.proofs.Bytes.{block_bytes-element}
use Rattle.ghash_core.proofs.blocks.lane_bytes.Goals as goal

pub returns : goal.returns
returns c = sym (block_bytes-element c.args.lanes c.fits-lanes.0 (below_from_Fits w8 c.args.lanes c.fits-lanes.1))
