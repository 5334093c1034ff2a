use Rattle.std.proofs.Common.{◌/◌, ◌^◌, ℕ, bit_xor, sym}
use Rattle.std.proofs.lemmas.Simd.{zip2_splat, zip2_of_maps}
use Rattle.std.proofs.lemmas.List.{map-id}
use Rattle.ghash_core.proofs.lanes.staying.Goals as goal

pub returns : goal.returns
returns c =
    let x = c.args.x in
    let long = c.fits-x.0 in
    let shr = λ (a b : ℕ). a / 2 ^ b in
    zip2_of_maps bit_xor (λ b. bit_xor (bit_xor b (b / 2)) (b / 4)) (λ b. b / 128) x
    (zip2_of_maps bit_xor (λ b. bit_xor b (b / 2)) (λ b. b / 4) x
    (zip2_of_maps bit_xor (λ b. b) (λ b. b / 2) x (sym (map-id x)) (zip2_splat shr x 16 1 long))
    (zip2_splat shr x 16 2 long))
    (zip2_splat shr x 16 7 long)
