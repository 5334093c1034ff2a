use Rattle.std.proofs.Common.{◌*◌, ℕ, bit_xor, refl, arith}
use Rattle.std.specs.Int.{bit_at}
use Rattle.std.specs.List.{range_with_len}
use Rattle.std.proofs.lemmas.Simd.{zip2_of_maps}
use Rattle.ghash_core.proofs.Tables.{lanes_chosen}
use Rattle.ghash_core.proofs.rows.spread.Goals as goal

pub returns : goal.returns
returns c =
    let lanes = range_with_len 0 16 in
    let p = λ (v : ℕ). bit_at v 3 * c.args.a in
    let q = λ (v : ℕ). bit_at v 2 * c.args.b in
    let r = λ (v : ℕ). bit_at v 1 * c.args.c in
    let s = λ (v : ℕ). bit_at v 0 * c.args.d in
    zip2_of_maps bit_xor (λ v. bit_xor (bit_xor (p v) (q v)) (r v)) s lanes
    (zip2_of_maps bit_xor (λ v. bit_xor (p v) (q v)) r lanes
    (zip2_of_maps bit_xor p q lanes (lanes_chosen 3 c.args.a _ (omega arith) refl refl) (lanes_chosen 2 c.args.b _ (omega arith) refl refl))
    (lanes_chosen 1 c.args.c _ (omega arith) refl refl))
    (lanes_chosen 0 c.args.d _ (omega arith) refl refl)
