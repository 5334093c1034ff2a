use Rattle.std.proofs.Common.{◌≡◌, ℕ, ◌+◌, ◌*◌, ◌/◌, ◌^◌, ◌<◌, ◌≤◌, ℤ, pos, List, length, arith, rules, ap, sym, ◌∙◌}
use Rattle.std.specs.Prelude.{◌+ℤ◌, ◌*ℤ◌, unsigned_abs}
use Rattle.std.proofs.lemmas.List.{get_or_past, take_at}
use Rattle.ring_core.specs.Product.{Series, coefficients, conv}
use Rattle.ring_core.proofs.ProductLaws.{length-zeros}
use Rattle.ring_lanes.proofs.Sums.{conv_within, held_pairs, taken_within}
use Rattle.ring_lanes.proofs.pairs.small_convolution.Goals as goal

pub returns-clause-sums : goal.returns-clause-sums
returns-clause-sums c =
    let f : Series = coefficients c.args.small.now in
    let g : Series = coefficients c.args.long.now in
    let h : Series = coefficients c.in_ok-pairs.pairs.items in
    let room : length c.deref_mut.result.now ≡ 2 * length c.args.long.now = length-zeros (2 * length c.args.long.now) _ _ c.deref_mut.ensures.value (search rules) in
    let factor : (i : ℕ) → coefficients c.in_ok-factors.factors.items i ≡ f i =
    λ i. c.in_ok-factors.ensures.places i ∙ ap (λ (t : List ℤ). coefficients t i) (c.deref.ensures.value ∙ c.in_ok-small_to_16.ensures)
    in
    let even_factor : (i : ℕ) → coefficients c.deref-3.result.now i ≡ f (2 * i) =
    λ i. ap (λ (t : List ℤ). coefficients t i) c.deref-3.ensures.value ∙ c.in_ok-second.ensures.places i ∙ ap (λ (t : List ℤ). coefficients t (2 * i + 0)) c.deref-2.ensures.value ∙ factor (2 * i + 0) ∙ ap f (let e : 2 * i + 0 ≡ 2 * i = omega arith in e)
    in
    let odd_pair : (i : ℕ) → coefficients c.deref-5.result.now i ≡ h (2 * i + 1) =
    λ i. ap (λ (t : List ℤ). coefficients t i) c.deref-5.ensures.value ∙ c.in_ok-second-2.ensures.places i ∙ ap (λ (t : List ℤ). coefficients t (2 * i + 1)) c.deref-4.ensures.value
    in
    let odd_factor : (i : ℕ) → coefficients c.deref-7.result.now i ≡ f (2 * i + 1) =
    λ i. ap (λ (t : List ℤ). coefficients t i) c.deref-7.ensures.value ∙ c.in_ok-second-3.ensures.places i ∙ ap (λ (t : List ℤ). coefficients t (2 * i + 1)) c.deref-6.ensures.value ∙ factor (2 * i + 1)
    in
    let even_pair : (i : ℕ) → coefficients c.deref-9.result.now i ≡ h (2 * i) =
    λ i. ap (λ (t : List ℤ). coefficients t i) c.deref-9.ensures.value ∙ c.in_ok-second-4.ensures.places i ∙ ap (λ (t : List ℤ). coefficients t (2 * i + 0)) c.deref-8.ensures.value ∙ ap h (let e : 2 * i + 0 ≡ 2 * i = omega arith in e)
    in
    let bounded : (k : ℕ) → unsigned_abs (conv f g k) ≤ 1023 =
    λ k. omega (arith, c.requires.few, c.requires.same, conv_within 1 f g (length c.args.small.now) k (λ i l. get_or_past c.args.small.now i (pos 0) l) c.requires.small_small c.requires.long_small)
    in
    let count_even : length c.deref-10.result.now ≡ 2 * length c.deref-5.result.now = c.deref-10.ensures.len ∙ c.in_ok-even.ensures.count in
    let same : length c.deref-9.result.now ≡ length c.deref-5.result.now =
    c.deref-9.ensures.len ∙ c.in_ok-second-4.ensures.count ∙ ap (λ (t : List ℤ). length t / 2) (c.deref-8.ensures.value ∙ sym c.deref-4.ensures.value) ∙ sym (c.deref-5.ensures.len ∙ c.in_ok-second-2.ensures.count)
    in
    let held : (k : ℕ) → k < length c.deref-10.result.now → coefficients c.deref-10.result.now k +ℤ coefficients c.deref-11.result.now k ≡ conv f g (2 * k) +ℤ (pos 2048 *ℤ conv f g (2 * k + 1)) =
    λ k l. held_pairs f g h (coefficients c.deref-3.result.now) (coefficients c.deref-7.result.now) (coefficients c.deref-9.result.now) (coefficients c.deref-5.result.now) (coefficients c.deref-10.result.now k) (coefficients c.deref-11.result.now k) k c.in_ok-pairs.ensures.places even_factor odd_pair odd_factor even_pair
    (ap (λ (t : List ℤ). coefficients t k) c.deref-10.ensures.value ∙ c.in_ok-even.ensures.sums k (omega (arith, count_even)))
    (ap (λ (t : List ℤ). coefficients t k) c.deref-11.ensures.value ∙ c.in_ok-odd.ensures.sums k (omega (arith, count_even, same)))
    in
    rw (take_at c.write_apart.new.sums _ c.in_ok-sums.sums.len (omega arith)) (λ k l. c.write_apart.ensures (conv f g) bounded held k (omega (arith, room)))

pub returns-clause-bound : goal.returns-clause-bound
returns-clause-bound c =
    let count : c.in_ok-sums.sums.len ≡ 2 * length c.args.long.now = c.in_ok-sums.ensures.len in
    taken_within (2 ^ 22) c.in_ok-sums.sums.len (2 * length c.args.long.now) _ count (λ k low. omega (
      arith,
      ap unsigned_abs (returns-clause-sums c k low),
      c.requires.few,
      c.requires.same,
      conv_within 1 (coefficients c.args.small.now) (coefficients c.args.long.now) (length c.args.small.now) k (λ i l. get_or_past c.args.small.now i (pos 0) l) c.requires.small_small c.requires.long_small,
    ))
