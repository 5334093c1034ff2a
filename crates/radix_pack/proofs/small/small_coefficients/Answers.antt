use Rattle.std.proofs.Common.{ℕ, ◌≡◌, ◌∙◌, arith, map, ap, pos, ◌-ℤ◌}
use Rattle.std.specs.List.{range_with_len}
use Rattle.std.proofs.lemmas.Int.{ints}
use Rattle.radix_pack.specs.Codings.{bits_at, small_decode}
use Rattle.radix_pack.proofs.SmallLaws.{more_made}
use Rattle.radix_pack.proofs.small.small_coefficients.Goals as goal

pub loop-k-preserved : goal.loop-k-preserved
loop-k-preserved c =
    c.in_ok-push.ensures.items
    ∙ more_made (λ (k : ℕ). pos (bits_at c.args.bytes.now k) -ℤ pos 1) c.loop-k.coefficients.items c.loop-k.k _ (omega (arith, ints, c.bits_of.ensures.two, c.bits_of.ensures.bits)) c.loop-k.invariant

pub returns : goal.returns
unfolding small_decode
returns c =
    let all : c.loop-k.k ≡ c.args.degree = omega arith in
    c.loop-k.invariant
    ∙ ap (λ n. map (λ (k : ℕ). pos (bits_at c.args.bytes.now k) -ℤ pos 1) (range_with_len 0 n)) all
