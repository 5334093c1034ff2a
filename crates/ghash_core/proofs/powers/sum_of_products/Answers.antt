use Rattle.std.proofs.Common.{◌≡◌, [], ◌∷◌, ◌∙◌, get_or, take, bit_xor, sym, ap, arith, w8}
use Rattle.std.specs.Simd.Lanes.{zip2}
use Rattle.std.proofs.lemmas.Simd.{below_from_Fits}
use Rattle.ghash_core.specs.Field.{by_power, power}
use Rattle.ghash_core.specs.Rows.{element, wide, sum_of_four, sum_of_rows}
use Rattle.ghash_core.proofs.FourBlocks.{rows-four}
use Rattle.ghash_core.proofs.Reductions.{moved_with, moved_empty, no_second}
use Rattle.ghash_core.proofs.Sums.{get_or-zeros, power-lt}
use Rattle.ghash_core.proofs.Tables.{sum_of_rows-one, sum_of_rows-all}
use Rattle.ghash_core.proofs.powers.sum_of_products.Goals as goal

pub loop-j-init : goal.loop-j-init
loop-j-init c = record {
  sum = λ h tables. no_second c.bytes_of_four-low.result ∙ c.bytes_of_four-low.ensures.sum h tables
      ∙ sym (λ i. sum_of_four (sum_of_rows-one (power h 4) c.args.a i) (sum_of_rows-one (power h 3) c.args.b i) (sum_of_rows-one (power h 2) c.args.c i) (sum_of_rows-one h c.args.d i));
  empty = λ k le. get_or-zeros [] 16 k;
}

pub loop-j-preserved : goal.loop-j-preserved
loop-j-preserved c =
    let j = c.loop-j.j in
    let low = c.loop-j.low in
    let high = c.loop-j.high in
    let more = c.bytes_of_four.result in
    record {
      sum = λ h tables.
          ap (λ xs. wide (zip2 bit_xor xs more) c.one_on-high.result) c.one_on.ensures
          ∙ ap (λ xs. wide (zip2 bit_xor (0 ∷ take 15 low) more) xs) c.one_on-high.ensures
          ∙ moved_with low high more c.loop-j.auto.low.0 c.loop-j.auto.high.0 (c.bytes_of_four.ensures.long h tables) (c.loop-j.invariant.empty 15 (omega arith))
          ∙ ap (λ y. bit_xor (by_power 8 y) (element more)) (c.loop-j.invariant.sum h tables)
          ∙ ap (bit_xor (by_power 8 (sum_of_four (sum_of_rows j (power h 4) c.args.a) (sum_of_rows j (power h 3) c.args.b) (sum_of_rows j (power h 2) c.args.c) (sum_of_rows j h c.args.d)))) (c.bytes_of_four.ensures.sum h tables)
          ∙ rows-four j (power h 4) (power h 3) (power h 2) h c.args.a c.args.b c.args.c c.args.d;
      empty = λ k le. ap (λ xs. get_or xs k 0) c.one_on-high.ensures ∙ moved_empty (get_or low 15 0) j high (omega arith) c.loop-j.auto.high.0 c.loop-j.invariant.empty k le;
    }

pub reduced-requires : goal.reduced-requires
reduced-requires c = c.loop-j.invariant.empty 15 (omega arith)

pub returns : goal.returns
returns c = λ h small tables.
    let a = c.args.a in
    let b = c.args.b in
    let d = c.args.c in
    let e = c.args.d in
    let all : c.loop-j.j ≡ 16 = omega arith in
    c.reduced.ensures ∙ c.loop-j.invariant.sum h tables
    ∙ ap (λ n. sum_of_four (sum_of_rows n (power h 4) a) (sum_of_rows n (power h 3) b) (sum_of_rows n (power h 2) d) (sum_of_rows n h e)) all
    ∙ (λ i. sum_of_four
    (sum_of_rows-all (power h 4) a (power-lt h 4 small) (below_from_Fits w8 a c.fits-a.1) i)
    (sum_of_rows-all (power h 3) b (power-lt h 3 small) (below_from_Fits w8 b c.fits-b.1) i)
    (sum_of_rows-all (power h 2) d (power-lt h 2 small) (below_from_Fits w8 d c.fits-c.1) i)
    (sum_of_rows-all h e small (below_from_Fits w8 e c.fits-d.1) i))
