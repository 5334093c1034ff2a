use Rattle.std.proofs.Common.{◌≡◌, ◌+◌, ◌*◌, pos, arith}
use Rattle.std.specs.Prelude.{◌+ℤ◌, ◌*ℤ◌}
use Rattle.std.specs.Int.{w32}
use Rattle.std.proofs.lemmas.Int.{ints, fits_signed_from_abs}
use Rattle.ring_core.specs.Product.{coefficients}
use Rattle.ring_lanes.proofs.Sums.{apart_more}
use Rattle.ring_lanes.proofs.pairs.write_apart.Goals as goal

pub loop-k-preserved : goal.loop-k-preserved
loop-k-preserved c =
    let i = c.loop-k.k in
    let number = coefficients c.args.even.now i +ℤ coefficients c.args.odd.now i in
    λ s bounded held k l.
    let is : number ≡ s (2 * i) +ℤ (pos 2048 *ℤ s (2 * i + 1)) = held i (omega arith) in
    let second : c.second_sum-second.result ≡ s (2 * i + 1) =
    c.second_sum-second.ensures.sum (s (2 * i)) (s (2 * i + 1)) (bounded (2 * i)) (omega (arith, ints, is, c.requires.even_small i, c.requires.odd_small i))
    in
    apart_more c.loop-k.sums s i _ _ (omega arith)
    (omega (arith, ints, is, second, bounded (2 * i), bounded (2 * i + 1), c.requires.even_small i, c.requires.odd_small i))
    (omega (arith, ints, second, bounded (2 * i + 1)))
    (c.loop-k.invariant s bounded held) k l

pub overflow_sub-sums : goal.overflow_sub-sums
overflow_sub-sums c =
    fits_signed_from_abs w32 _ (omega (arith, ints, c.requires.even_small c.loop-k.k, c.requires.odd_small c.loop-k.k, c.second_sum-second.ensures.bound))

pub returns : goal.returns
returns c =
    λ s bounded held k l. c.loop-k.invariant s bounded held k (omega arith)
