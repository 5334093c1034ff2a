use Rattle.std.proofs.Common.{◌≡◌, ◌<◌, ◌*◌, ◌/◌, ◌%◌, ◌^◌, get_or, set, length, bit_xor, ap, sym, ◌∙◌, arith}
use Rattle.std.proofs.lemmas.List.Edits.{fill_by_more}
use Rattle.std.proofs.lemmas.List.{length-set}
use Rattle.std.proofs.lemmas.Nat.{and_mask}
use Rattle.ghash_core.specs.Field.{product}
use Rattle.ghash_core.proofs.Tables.{product_chosen}
use Rattle.ghash_core.proofs.rows.products_of.Goals as goal

pub loop-i-preserved : goal.loop-i-preserved
loop-i-preserved c =
    let i = c.loop-i.i in
    let h = c.args.h in
    let below : i < 16 = omega arith in
    let fits : h < 2 ^ 128 = omega arith in
    let room : i < length c.loop-i.products = omega arith in
    let terms = c.terms.ensures in
    let a = c.masked.ensures ∙ (λ t. and_mask (i / 8) 1 t * get_or (terms t) 0 0) in
    let b = c.masked-in-loop-i.ensures ∙ (λ t. and_mask (i / 4) 1 t * get_or (terms t) 1 0) in
    let d = c.masked-in-loop-i-2.ensures ∙ (λ t. and_mask (i / 2) 1 t * get_or (terms t) 2 0) in
    let last : i % 2 ≡ i / 2 ^ 0 % 2 = omega arith in
    let e = c.masked-in-loop-i-3.ensures ∙ (λ t. (and_mask i 1 ∙ last) t * get_or (terms t) 3 0) in
    let value = (λ t. bit_xor (bit_xor (bit_xor (a t) (b t)) (d t)) (e t)) ∙ sym (product_chosen i h below fits) in
    record {
      size = simp length-set c.loop-i.invariant.size;
      done = λ k lt. ap (λ v. get_or (set c.loop-i.products i v) k 0) value
          ∙ fill_by_more (λ j. product (j * 2 ^ 124) h) c.loop-i.products i 0 room c.loop-i.invariant.done k lt;
    }
