use Rattle.std.proofs.Common.{◌∷◌, ◌∙◌, take, map, bit_xor, ap, w8}
use Rattle.std.specs.Simd.Lanes.{zip2}
use Rattle.std.proofs.lemmas.Simd.{below_from_Fits}
use Rattle.ghash_core.specs.Rows.{element, stays}
use Rattle.ghash_core.proofs.Reductions.{reduced_is}
use Rattle.ghash_core.proofs.lanes.reduced.Goals as goal

pub returns : goal.returns
returns c =
    let low = c.args.low in
    let high = c.args.high in
    ap (λ xs. element (zip2 bit_xor (zip2 bit_xor low xs) c.one_on.result)) c.staying.ensures
    ∙ ap (λ xs. element (zip2 bit_xor (zip2 bit_xor low (map stays high)) xs)) (c.one_on.ensures ∙ ap (λ xs. 0 ∷ take 15 xs) c.going_on.ensures)
    ∙ reduced_is low high c.fits-low.0 c.fits-high.0 (below_from_Fits w8 high c.fits-high.1) c.requires
