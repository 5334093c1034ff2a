use Rattle.std.proofs.Common.{◌≡◌, ℕ, ◌*◌, ℤ, pos, List, length, arith, rules, ap, ◌∙◌, inl, inr}
use Rattle.std.specs.Prelude.{unsigned_abs}
use Rattle.std.proofs.lemmas.Bool.{cases_lt}
use Rattle.std.proofs.lemmas.List.{get_or_past, get_or-take, take_at}
use Rattle.ring_core.specs.Product.{coefficients}
use Rattle.ring_core.specs.Rows.{shifted}
use Rattle.ring_core.proofs.ProductLaws.{length-zeros}
use Rattle.ring_core.proofs.QuotientLaws.{shifted_low}
use Rattle.ring_lanes.proofs.Sums.{shifted_back, shifted_within, conv_behind, conv_within, taken_past}
use Rattle.ring_lanes.specs.Rows.{eighth}
use Rattle.ring_lanes.proofs.Vectors.{AreEights-within}
use Rattle.ring_lanes.proofs.convolution.convolution.Goals as goal

pub write_sums-requires-clause-front : goal.write_sums-requires-clause-front
write_sums-requires-clause-front c =
    λ k l. ap (λ (t : List ℤ). coefficients t k) c.deref-2.ensures.value ∙ c.in_ok-long.ensures.places k ∙ shifted_low 32 (coefficients c.args.long.now) k l

pub write_sums-requires-clause-back : goal.write_sums-requires-clause-back
write_sums-requires-clause-back c =
    λ k l. ap (λ (t : List ℤ). coefficients t k) c.deref-2.ensures.value ∙ c.in_ok-long.ensures.places k ∙ shifted_back 32 (length c.args.long.now) (coefficients c.args.long.now) k (λ i h. get_or_past c.args.long.now i (pos 0) h) l

pub write_sums-requires-clause-long_small : goal.write_sums-requires-clause-long_small
write_sums-requires-clause-long_small c =
    λ k. shifted_within 32 4095 (coefficients c.args.long.now) (coefficients c.deref-2.result.now) k (ap (λ (t : List ℤ). coefficients t k) c.deref-2.ensures.value ∙ c.in_ok-long.ensures.places k) c.requires.long_small

pub write_sums-requires-clause-factors_small : goal.write_sums-requires-clause-factors_small
write_sums-requires-clause-factors_small c =
    rw c.deref.ensures.value (AreEights-within 1 _ (coefficients c.args.small.now) c.in_ok-factors.ensures.copies c.in_ok-factors.ensures.numbers c.requires.small_small)

pub returns-clause-sums : goal.returns-clause-sums
returns-clause-sums c =
    let small = c.args.small.now in
    let long = c.args.long.now in
    let factors = c.deref.result.now in
    let padded = c.deref-2.result.now in
    let room : length c.deref_mut.result.now ≡ c.next_multiple_of-2.result = length-zeros c.next_multiple_of-2.result _ _ c.deref_mut.ensures.value (search rules) in
    let same_factors : (i : ℕ) → eighth factors i ≡ coefficients small i = λ i. ap (λ (t : List ℤ). eighth t i) c.deref.ensures.value ∙ c.in_ok-factors.ensures.numbers i in
    let behind : (i : ℕ) → coefficients padded i ≡ shifted 32 (coefficients long) i =
    λ i. ap (λ (t : List ℤ). coefficients t i) c.deref-2.ensures.value ∙ c.in_ok-long.ensures.places i
    in
    λ k l. ap (λ (t : List ℤ). coefficients t k) c.truncate.ensures.items
    ∙ get_or-take (2 * length long) _ k (pos 0) l
    ∙ ap (λ (t : List ℤ). coefficients t k) (take_at c.write_sums.new.sums _ c.in_ok-sums.sums.len (omega arith))
    ∙ c.write_sums.ensures k (omega (arith, room, c.next_multiple_of-2.ensures.lower_bound))
    ∙ conv_behind 32 (coefficients small) (eighth factors) (coefficients long) (coefficients padded) k same_factors behind

pub returns-clause-bound : goal.returns-clause-bound
returns-clause-bound c =
    let small = c.args.small.now in
    let long = c.args.long.now in
    λ k. elim (cases_lt k (2 * length long)) [
      | inl low ↦ omega (
        arith,
        ap unsigned_abs (returns-clause-sums c k low),
        conv_within 4095 (coefficients small) (coefficients long) (length long) k (λ i l. get_or_past small i (pos 0) (omega (arith, c.requires.same))) c.requires.small_small c.requires.long_small,
      )
      | inr past ↦ omega (arith, ap unsigned_abs (taken_past (2 * length long) k _ c.truncate.new.self.items c.truncate.ensures.items past))
    ]
