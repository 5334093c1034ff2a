use Rattle.std.proofs.Common.{◌≡◌, ◌<◌, ◌^◌, ◌∙◌, ℕ, List, [], get_or, set, length, map, ap, arith}
use Rattle.std.specs.Int.{byte_at}
use Rattle.std.specs.List.{range_with_len}
use Rattle.std.proofs.lemmas.List.Edits.{fill_by_more}
use Rattle.std.proofs.lemmas.List.{length-set}
use Rattle.ghash_core.specs.Rows.{chosen, row}
use Rattle.ghash_core.proofs.Bytes.{get_or-to_le_bytes}
use Rattle.ghash_core.proofs.Tables.{row_chosen}
use Rattle.ghash_core.proofs.rows.rows_of.Goals as goal

pub loop-j-preserved : goal.loop-j-preserved
loop-j-preserved c =
    let j = c.loop-j.j in
    let h = c.args.h in
    let below : j < 16 = omega arith in
    let fits : h < 2 ^ 128 = omega arith in
    let room : j < length c.loop-j.rows = omega arith in
    let byte = λ (xs : List ℕ). get_or xs j 0 in
    let term = λ (i : ℕ). ap (λ xs. byte_at j (get_or xs i 0)) c.terms.ensures in
    let a = ap byte c.to_le_bytes-a.ensures ∙ get_or-to_le_bytes _ j below ∙ term 0 in
    let b = ap byte c.to_le_bytes-b.ensures ∙ get_or-to_le_bytes _ j below ∙ term 1 in
    let d = ap byte c.to_le_bytes-c.ensures ∙ get_or-to_le_bytes _ j below ∙ term 2 in
    let e = ap byte c.to_le_bytes-d.ensures ∙ get_or-to_le_bytes _ j below ∙ term 3 in
    let value : c.spread.result ≡ row j (2 ^ 124) h =
    c.spread.ensures ∙ (λ t. map (λ v. chosen v (a t) (b t) (d t) (e t)) (range_with_len 0 16)) ∙ row_chosen j h fits in
    record {
      size = simp length-set c.loop-j.invariant.size;
      done = λ k lt. ap (λ v. get_or (set c.loop-j.rows j v) k []) value
          ∙ fill_by_more (λ i. row i (2 ^ 124) h) c.loop-j.rows j [] room c.loop-j.invariant.done k lt;
    }
