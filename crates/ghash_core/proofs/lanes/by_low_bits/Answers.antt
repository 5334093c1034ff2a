use Rattle.std.proofs.Common.{◌≡◌, ◌<◌, ◌%◌, ◌∙◌, ℕ, List, length, map, bit_and, replicate, ap, sym, subst, arith, w8}
use Rattle.std.specs.Simd.Lanes.{Each1, zip2}
use Rattle.std.proofs.lemmas.Nat.{and_mask}
use Rattle.std.proofs.lemmas.Simd.{zip2_splat, Each1-all, SwzOk, swz_l}
use Rattle.ghash_core.proofs.Vectors.{map-same, may_look_up, looked_up}
use Rattle.ghash_core.proofs.lanes.by_low_bits.Goals as goal

small : (xs : List ℕ) → Each1 (λ x. x % 16 < 16) xs
small xs = Each1-all (λ x. x % 16 < 16) (λ x. omega arith) xs

masked : (xs : List ℕ) → length xs ≡ 16 → zip2 bit_and xs (replicate 16 15) ≡ map (λ x. x % 16) xs
masked xs long =
    zip2_splat bit_and xs 16 15 long
    ∙ map-same (λ x. bit_and x 15) (λ x. x % 16) xs (Each1-all (λ x. bit_and x 15 ≡ x % 16) (λ x. and_mask x 4) xs)

pub swizzle : goal.swizzle
swizzle c = subst (λ js. SwzOk w8 16 16 0 js) (sym (masked c.args.x c.fits-x.0)) (may_look_up (λ x. x % 16) c.args.x c.fits-x.0 (small c.args.x))

pub returns : goal.returns
returns c =
    ap (λ js. swz_l w8 16 c.args.table 0 js) (masked c.args.x c.fits-x.0)
    ∙ looked_up (λ x. x % 16) c.args.x c.fits-x.0 (small c.args.x) c.args.table
