use Rattle.std.proofs.Common.{◌≡◌, ℕ, ◌+◌, ◌-◌, ◌*◌, ◌/◌, ◌<◌, ◌≤◌, pos, length, arith, ◌∙◌}
use Rattle.std.proofs.lemmas.List.{get_or_past}
use Rattle.std.proofs.lemmas.Simd.{length-put_chunk}
use Rattle.ring_core.specs.Product.{Series, coefficients, conv}
use Rattle.ring_lanes.specs.Rows.{eighth, rows_sum}
use Rattle.ring_lanes.proofs.Sums.{block_sum, conv_within}
use Rattle.ring_lanes.proofs.Vectors.{AreLanes-same, stored_more}
use Rattle.ring_lanes.proofs.convolution.write_sums.Goals as goal

pub loop-block-preserved : goal.loop-block-preserved
loop-block-preserved c =
    let f : Series = eighth c.args.factors.now in
    let h : Series = coefficients c.args.long.now in
    let size = length c.args.factors.now / 8 in
    let at = 32 * c.loop-block.block in
    let first = c.saturating_sub-first.result / 8 in
    let last = c.min-last.result in
    let ends : (i : ℕ) → size ≤ i → f i ≡ pos 0 = λ i l. get_or_past c.args.factors.now (8 * i) (pos 0) (omega arith) in
    let is : (l : ℕ) → l < 32 → rows_sum (λ i. f (8 * first + i)) h (at + 32 - 8 * first + l) (8 * (last - first)) ≡ conv f h (at + l + 32) =
    λ l low. block_sum f h c.args.count size at first last l c.requires.front c.requires.back ends (omega arith) (omega arith) (omega arith) (λ i from to. omega arith) low
    in (
      length-put_chunk at c.loop-block.sums _ ∙ c.loop-block.invariant.0,
      stored_more c.loop-block.sums c.rows.result (λ k. conv f h (k + 32)) c.loop-block.block (omega (arith, c.loop-block.invariant.0)) (AreLanes-same c.rows.result _ (λ l. conv f h (at + l + 32)) is c.rows.ensures) (λ l low. omega (arith, conv_within 4095 f h size (at + l + 32) ends (λ i. c.requires.factors_small (8 * i)) c.requires.long_small)) c.loop-block.invariant.1,
    )
