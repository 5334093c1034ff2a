use Rattle.std.proofs.Common.{◌≡◌, [], ◌∷◌, ◌∙◌, length, get_or, take, bit_xor, sym, ap, arith, w8}
use Rattle.std.specs.Simd.Lanes.{zip2}
use Rattle.std.proofs.lemmas.List.{length-map}
use Rattle.std.proofs.lemmas.Simd.{below_from_Fits}
use Rattle.ghash_core.specs.Field.{by_power}
use Rattle.ghash_core.specs.Rows.{element, wide, sum_of_rows}
use Rattle.ghash_core.proofs.Reductions.{moved_with, moved_empty, no_second}
use Rattle.ghash_core.proofs.Sums.{get_or-zeros}
use Rattle.ghash_core.proofs.Tables.{sum_of_rows-one, sum_of_rows-more, sum_of_rows-all}
use Rattle.ghash_core.proofs.products.product_by.Goals as goal

pub loop-j-init : goal.loop-j-init
loop-j-init c = record {
  sum = λ h table. no_second c.bytes_at-low.result ∙ ap element (c.bytes_at-low.ensures h table) ∙ sym (sum_of_rows-one h c.args.x);
  empty = λ k le. get_or-zeros [] 16 k;
}

pub loop-j-preserved : goal.loop-j-preserved
loop-j-preserved c =
    let x = c.args.x in
    let j = c.loop-j.j in
    let low = c.loop-j.low in
    let high = c.loop-j.high in
    let more = c.bytes_at.result in
    record {
      sum = λ h table.
          let is = c.bytes_at.ensures h table in
          let long : length more ≡ 16 = ap length is ∙ length-map x _ ∙ c.fits-x.0 in
          ap (λ xs. wide (zip2 bit_xor xs more) c.one_on-high.result) c.one_on.ensures
          ∙ ap (λ xs. wide (zip2 bit_xor (0 ∷ take 15 low) more) xs) c.one_on-high.ensures
          ∙ moved_with low high more c.loop-j.auto.low.0 c.loop-j.auto.high.0 long (c.loop-j.invariant.empty 15 (omega arith))
          ∙ ap (λ y. bit_xor (by_power 8 y) (element more)) (c.loop-j.invariant.sum h table)
          ∙ ap (λ xs. bit_xor (by_power 8 (sum_of_rows j h x)) (element xs)) is
          ∙ sym (sum_of_rows-more j h x);
      empty = λ k le. ap (λ xs. get_or xs k 0) c.one_on-high.ensures ∙ moved_empty (get_or low 15 0) j high (omega arith) c.loop-j.auto.high.0 c.loop-j.invariant.empty k le;
    }

pub reduced-requires : goal.reduced-requires
reduced-requires c = c.loop-j.invariant.empty 15 (omega arith)

pub returns : goal.returns
returns c = λ h small table.
    let x = c.args.x in
    let all : c.loop-j.j ≡ 16 = omega arith in
    c.reduced.ensures ∙ c.loop-j.invariant.sum h table ∙ ap (λ n. sum_of_rows n h x) all
    ∙ sum_of_rows-all h x small (below_from_Fits w8 x c.fits-x.1)
