use Rattle.std.proofs.Common.{take, w8}
use Rattle.std.proofs.lemmas.List.{length-take-le}
use Rattle.std.proofs.lemmas.Simd.{below_from_Fits, chunk-fits}
use Rattle.ghash_core.proofs.Bytes.{element-block}
use Rattle.ghash_core.proofs.blocks.first_lanes.Goals as goal

pub returns : goal.returns
returns c =
    let bytes = c.args.bytes.now in
    element-block (take 16 bytes) (length-take-le 16 bytes c.requires) (below_from_Fits w8 (take 16 bytes) (chunk-fits w8 0 16 bytes c.type_inv.bytes))
