use Rattle.std.proofs.Common.{◌*◌, ◌%◌, ◌^◌, ℕ, bit_xor}
use Rattle.std.proofs.lemmas.Simd.{zip2_splat, zip2_of_maps}
use Rattle.ghash_core.proofs.lanes.going_on.Goals as goal

pub returns : goal.returns
returns c =
    let x = c.args.x in
    let long = c.fits-x.0 in
    let shl = λ (a b : ℕ). a * 2 ^ b % 256 in
    zip2_of_maps bit_xor (λ b. bit_xor (b * 128 % 256) (b * 64 % 256)) (λ b. b * 2 % 256) x
    (zip2_of_maps bit_xor (λ b. b * 128 % 256) (λ b. b * 64 % 256) x (zip2_splat shl x 16 7 long) (zip2_splat shl x 16 6 long))
    (zip2_splat shl x 16 1 long)
