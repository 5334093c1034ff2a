use Rattle.std.proofs.Common.{◌∙◌, bit_xor, w8}
use Rattle.std.proofs.lemmas.Simd.{zip2_of_maps, below_from_Fits}
use Rattle.ghash_core.proofs.Tables.{bytes_by_rows}
use Rattle.ghash_core.proofs.products.bytes_at.Goals as goal

pub returns : goal.returns
returns c = λ h table.
    let j = c.args.j in
    let x = c.args.x in
    zip2_of_maps bit_xor _ _ x c.by_high_bits.ensures c.by_low_bits.ensures
    ∙ bytes_by_rows j h _ _ x (below_from_Fits w8 x c.fits-x.1) (table.high j c.requires) (table.low j c.requires)
