use Rattle.std.proofs.Common.{◌≡◌, ◌∙◌, arith, length, map, sym, ap}
use Rattle.std.specs.List.{range_with_len}
use Rattle.std.proofs.lemmas.List.FromFn.{map-range_with_len_more}
use Rattle.radix_pack.specs.Codings.{small_length, four_coefficients, small_encode}
use Rattle.radix_pack.proofs.small.small_bytes.Goals as goal

pub loop-i-preserved : goal.loop-i-preserved
loop-i-preserved c =
    rw (c.in_ok-push.ensures.items, c.loop-i.invariant, c.byte_of.ensures) (
    sym (map-range_with_len_more (four_coefficients c.args.coefficients.now) 0 c.loop-i.i c.loop-i.i (omega arith))
    )

pub returns : goal.returns
unfolding small_encode
returns c =
    let count : c.loop-i.i ≡ small_length (length c.args.coefficients.now) = omega (arith, c.div_ceil-count.ensures) in
    c.loop-i.invariant ∙ ap (λ n. map (four_coefficients c.args.coefficients.now) (range_with_len 0 n)) count
