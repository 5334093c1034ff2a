use Rattle.std.proofs.Common.{◌∙◌, [], ◌∷◌, take, drop, sym, ap, arith}
use Rattle.std.proofs.lemmas.List.{take_rest}
use Rattle.ghash_core.specs.Hash.{block_of, sum_after, padded_blocks}
use Rattle.ghash_core.specs.Rows.{element}
use Rattle.ghash_core.proofs.FourBlocks.{sum_after-four}
use Rattle.ghash_core.proofs.hash.hash_blocks.Goals as goal

pub loop-rest-preserved : goal.loop-rest-preserved
loop-rest-preserved c =
    let h = c.args.key.now in
    let sum = element c.loop-rest.sum in
    let rest = c.loop-rest.rest.now in
    let first = c.first_lanes-a.ensures in
    let second = c.first_lanes-b.ensures ∙ ap (λ xs. block_of (take 16 xs)) (take_rest rest 16) in
    let third = c.first_lanes-c.ensures ∙ ap (λ xs. block_of (take 16 xs)) (take_rest rest 32) in
    let fourth = c.first_lanes-d.ensures ∙ ap (λ xs. block_of (take 16 xs)) (take_rest rest 48) in
    ap (λ xs. sum_after h (element c.next_four-sum.result) (padded_blocks xs)) (take_rest rest 64)
    ∙ ap (λ y. sum_after h y (padded_blocks (drop 64 rest)))
    (c.next_four-sum.ensures ∙ (λ i. sum_after h sum (first i ∷ second i ∷ third i ∷ fourth i ∷ [])))
    ∙ sym (sum_after-four h sum rest (omega arith)) ∙ c.loop-rest.invariant
