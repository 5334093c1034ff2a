use Rattle.std.proofs.Common.{◌≡◌, ◌<◌, ◌/◌, ◌^◌, ◌∙◌, ℕ, List, length, map, replicate, ap, sym, subst, arith, Fits, w8}
use Rattle.std.specs.Simd.Lanes.{Each1, zip2}
use Rattle.std.proofs.lemmas.Simd.{zip2_splat, Each1-weaker, SwzOk, swz_l}
use Rattle.ghash_core.proofs.Vectors.{may_look_up, looked_up}
use Rattle.ghash_core.proofs.lanes.by_high_bits.Goals as goal

small : (xs : List ℕ) → Each1 (Fits w8) xs → Each1 (λ x. x / 16 < 16) xs
small xs fits = Each1-weaker (Fits w8) (λ x. x / 16 < 16) (λ x h. let below = h.fits in omega arith) xs fits

shifted : (xs : List ℕ) → length xs ≡ 16 → zip2 (λ a b. a / 2 ^ b) xs (replicate 16 4) ≡ map (λ x. x / 16) xs
shifted xs long = zip2_splat (λ a b. a / 2 ^ b) xs 16 4 long

pub swizzle : goal.swizzle
swizzle c = subst (λ js. SwzOk w8 16 16 0 js) (sym (shifted c.args.x c.fits-x.0)) (may_look_up (λ x. x / 16) c.args.x c.fits-x.0 (small c.args.x c.fits-x.1))

pub returns : goal.returns
returns c =
    ap (λ js. swz_l w8 16 c.args.table 0 js) (shifted c.args.x c.fits-x.0)
    ∙ looked_up (λ x. x / 16) c.args.x c.fits-x.0 (small c.args.x c.fits-x.1) c.args.table
