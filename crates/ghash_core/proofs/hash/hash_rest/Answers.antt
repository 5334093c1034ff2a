use Rattle.std.proofs.Common.{◌≡◌, ◌<◌, length, bit_xor, sym, ◌∙◌, ap, arith}
use Rattle.std.proofs.lemmas.Bool.Decides.{nat_tests}
use Rattle.ghash_core.specs.Field.{product}
use Rattle.ghash_core.specs.Hash.{sum_after}
use Rattle.ghash_core.specs.Rows.{element}
use Rattle.ghash_core.proofs.Sums.{sum_after-rest, sum_after-none, padded_blocks-none}
use Rattle.ghash_core.proofs.hash.hash_rest.Goals as goal
use Rattle.ghash_core.proofs.hash.hash_rest.Goals.{then-is_empty, else-is_empty}

pub returns : goal.returns
returns c =
    let h = c.args.key.now in
    let sum = element c.args.sum in
    let bytes = c.args.bytes.now in
    elim c.if-is_empty.branch [
      | then-is_empty w ↦
          let none : length bytes ≡ 0 = grind (arith, nat_tests) in
          ap element w.result-is ∙ sym (ap (sum_after h sum) (padded_blocks-none bytes none) ∙ sum_after-none h sum)
      | else-is_empty w ↦
          let some : 0 < length bytes = grind (arith, nat_tests) in
          ap element w.result-is ∙ w.next.ensures ∙ ap (λ x. product (bit_xor sum x) h) w.padded_lanes.ensures
          ∙ sym (sum_after-rest h sum bytes c.requires some)
    ]
