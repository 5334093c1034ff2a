use Rattle.std.proofs.Common.{◌≡◌, ◌<◌, ◌∙◌, min, length, take, drop, bit_xor, sym, ap, arith}
use Rattle.std.proofs.lemmas.List.{take_rest}
use Rattle.ghash_core.specs.Field.{product}
use Rattle.ghash_core.specs.Hash.{block_of, sum_after, padded_blocks}
use Rattle.ghash_core.specs.Rows.{element}
use Rattle.ghash_core.proofs.Sums.{sum_after-first}
use Rattle.ghash_core.proofs.hash.hash_ones.Goals as goal

pub loop-rest-preserved : goal.loop-rest-preserved
loop-rest-preserved c =
    let h = c.args.key.now in
    let sum = element c.loop-rest.sum in
    let rest = c.loop-rest.rest.now in
    let next = product (bit_xor sum (block_of (take 16 rest))) h in
    let more : 0 < length rest = omega arith in
    let is : 16 ≡ min (length rest) 16 = omega arith in
    ap (λ xs. sum_after h (element c.next-sum.result) (padded_blocks xs)) (take_rest rest 16)
    ∙ ap (λ y. sum_after h y (padded_blocks (drop 16 rest))) (c.next-sum.ensures ∙ ap (λ x. product (bit_xor sum x) h) c.first_lanes.ensures)
    ∙ sym (sum_after-first h sum rest 16 more is) ∙ c.loop-rest.invariant
