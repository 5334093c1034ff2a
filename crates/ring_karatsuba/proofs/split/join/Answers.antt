use Rattle.std.proofs.Common.{arith, pos, negsuc, ◌+◌, ◌*◌, ◌^◌, ◌≤◌, ℕ}
use Rattle.std.specs.Prelude.{unsigned_abs}
use Rattle.std.proofs.lemmas.Int.{ints}
use Rattle.ring_core.specs.Bounds.{IsWithin}
use Rattle.ring_core.specs.Product.{coefficients}
use Rattle.ring_core.proofs.QuotientLaws.{shifted_scale}
use Rattle.ring_karatsuba.proofs.Bounds.{Fits-small, IsWithin-adds}
use Rattle.ring_karatsuba.proofs.split.join.Goals as goal

abbrev bound : ℕ
bound = 17 * 2 ^ 24

one : unsigned_abs (pos 1) ≤ 1
one = omega arith

minus_one : unsigned_abs (negsuc 0) ≤ 1
minus_one = omega arith

pub add_at-requires-2-clause-fits : goal.add_at-requires-2-clause-fits
add_at-requires-2-clause-fits c =
    let none : IsWithin 0 c.args.sums.now = λ n. omega (arith, ints, c.requires.zeros n) in
    let first : IsWithin (0 + bound) c.add_at.new.sums = IsWithin-adds c.args.sums.now c.add_at.new.sums c.args.low.now 0 (pos 1) 0 bound one none c.requires.low_bound c.add_at.ensures in
    Fits-small c.add_at.new.sums c.args.middle.now c.args.half (pos 1) (0 + bound) bound one first c.requires.middle_bound (omega arith)

pub add_at-requires-3-clause-fits : goal.add_at-requires-3-clause-fits
add_at-requires-3-clause-fits c =
    let none : IsWithin 0 c.args.sums.now = λ n. omega (arith, ints, c.requires.zeros n) in
    let first : IsWithin (0 + bound) c.add_at.new.sums = IsWithin-adds c.args.sums.now c.add_at.new.sums c.args.low.now 0 (pos 1) 0 bound one none c.requires.low_bound c.add_at.ensures in
    let second : IsWithin (0 + bound + bound) c.add_at-2.new.sums = IsWithin-adds c.add_at.new.sums c.add_at-2.new.sums c.args.middle.now c.args.half (pos 1) (0 + bound) bound one first c.requires.middle_bound c.add_at-2.ensures in
    Fits-small c.add_at-2.new.sums c.args.low.now c.args.half (negsuc 0) (0 + bound + bound) bound minus_one second c.requires.low_bound (omega arith)

pub add_at-requires-4-clause-fits : goal.add_at-requires-4-clause-fits
add_at-requires-4-clause-fits c =
    let none : IsWithin 0 c.args.sums.now = λ n. omega (arith, ints, c.requires.zeros n) in
    let first : IsWithin (0 + bound) c.add_at.new.sums = IsWithin-adds c.args.sums.now c.add_at.new.sums c.args.low.now 0 (pos 1) 0 bound one none c.requires.low_bound c.add_at.ensures in
    let second : IsWithin (0 + bound + bound) c.add_at-2.new.sums = IsWithin-adds c.add_at.new.sums c.add_at-2.new.sums c.args.middle.now c.args.half (pos 1) (0 + bound) bound one first c.requires.middle_bound c.add_at-2.ensures in
    let third : IsWithin (0 + bound + bound + bound) c.add_at-3.new.sums = IsWithin-adds c.add_at-2.new.sums c.add_at-3.new.sums c.args.low.now c.args.half (negsuc 0) (0 + bound + bound) bound minus_one second c.requires.low_bound c.add_at-3.ensures in
    Fits-small c.add_at-3.new.sums c.args.high.now c.args.half (negsuc 0) (0 + bound + bound + bound) bound minus_one third c.requires.high_bound (omega arith)

pub add_at-requires-5-clause-fits : goal.add_at-requires-5-clause-fits
add_at-requires-5-clause-fits c =
    let none : IsWithin 0 c.args.sums.now = λ n. omega (arith, ints, c.requires.zeros n) in
    let first : IsWithin (0 + bound) c.add_at.new.sums = IsWithin-adds c.args.sums.now c.add_at.new.sums c.args.low.now 0 (pos 1) 0 bound one none c.requires.low_bound c.add_at.ensures in
    let second : IsWithin (0 + bound + bound) c.add_at-2.new.sums = IsWithin-adds c.add_at.new.sums c.add_at-2.new.sums c.args.middle.now c.args.half (pos 1) (0 + bound) bound one first c.requires.middle_bound c.add_at-2.ensures in
    let third : IsWithin (0 + bound + bound + bound) c.add_at-3.new.sums = IsWithin-adds c.add_at-2.new.sums c.add_at-3.new.sums c.args.low.now c.args.half (negsuc 0) (0 + bound + bound) bound minus_one second c.requires.low_bound c.add_at-3.ensures in
    let fourth : IsWithin (0 + bound + bound + bound + bound) c.add_at-4.new.sums = IsWithin-adds c.add_at-3.new.sums c.add_at-4.new.sums c.args.high.now c.args.half (negsuc 0) (0 + bound + bound + bound) bound minus_one third c.requires.high_bound c.add_at-4.ensures in
    Fits-small c.add_at-4.new.sums c.args.high.now (2 * c.args.half) (pos 1) (0 + bound + bound + bound + bound) bound one fourth c.requires.high_bound (omega arith)

pub returns : goal.returns
returns c =
    λ n. omega (
      arith,
      ints,
      c.requires.zeros n,
      c.add_at.ensures n,
      c.add_at-2.ensures n,
      c.add_at-3.ensures n,
      c.add_at-4.ensures n,
      c.add_at-5.ensures n,
      shifted_scale c.args.half (pos 1) (coefficients c.args.middle.now) n,
      shifted_scale c.args.half (negsuc 0) (coefficients c.args.low.now) n,
      shifted_scale c.args.half (negsuc 0) (coefficients c.args.high.now) n,
      shifted_scale (2 * c.args.half) (pos 1) (coefficients c.args.high.now) n,
    )
