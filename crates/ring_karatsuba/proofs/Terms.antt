-- Terms that are added to sums from a place on.
use Rattle.std.proofs.Common.{◌≡◌, ℕ, suc, ◌+◌, ◌-◌, ◌^◌, ◌<◌, ◌≤◌, ℤ, pos, List, length, arith, rules, ap, ◌∙◌, inl, inr, refl}
use Rattle.std.specs.Prelude.{◌*ℤ◌, unsigned_abs}
use Rattle.std.proofs.lemmas.Int.{ints}
use Rattle.std.proofs.lemmas.Bool.{cases_lt}
use Rattle.std.proofs.lemmas.List.{places, get_or_past}
use borrow.Rule.Slice.PartMut.{put_mid, mid_of}
use Rattle.ring_core.specs.Product.{coefficients, conv}
use Rattle.ring_core.specs.Rows.{AddsMultiple}
use Rattle.ring_core.proofs.QuotientLaws.{below, shifted_low, shifted_high}
use Rattle.ring_core.proofs.Partial.{conv_more}
use Rattle.ring_core.proofs.Convolved.{mid_at, put_low, put_at, put_high}
use Rattle.ring_karatsuba.specs.Sums.{term, Fits, Adds}

none_past : (xs : List ℤ) (factor : ℤ) (n : ℕ) → length xs ≤ n → factor *ℤ coefficients xs n ≡ pos 0
none_past xs factor n l = omega (arith, ints, ap (λ t. factor *ℤ t) (get_or_past xs n (pos 0) l))

term_low : (k n : ℕ) (factor : ℤ) (list : List ℤ) → n < k → term k factor list n ≡ pos 0
term_low k n factor list l = shifted_low k (λ i. factor *ℤ coefficients list i) n l

term_high : (k j n : ℕ) (factor : ℤ) (list : List ℤ) → n ≡ k + j → term k factor list n ≡ factor *ℤ coefficients list j
term_high k j n factor list e = shifted_high k (λ i. factor *ℤ coefficients list i) j n e

mid_length : (xs : List ℤ) (a n : ℕ) → a + n ≤ length xs → length (mid_of a n xs) ≡ n
mid_length xs a n l = search (rules, places)

-- what fits at each place fits in the part
pub part_fits : (sums list : List ℤ) (k m : ℕ) (factor : ℤ) → m ≡ length list → k + m ≤ length sums → Fits sums k factor list → (n : ℕ) → unsigned_abs (coefficients (mid_of k m sums) n) + unsigned_abs (factor *ℤ coefficients list n) < 2 ^ 31
part_fits sums list k m factor e fit fits n =
    elim (cases_lt n m) [
      | inl l ↦ omega (
        arith,
        ap unsigned_abs (mid_at sums k m n l),
        ap unsigned_abs (term_high k n (k + n) factor list refl),
        fits (k + n),
      )
      | inr l ↦ omega (
        arith,
        ap unsigned_abs (get_or_past (mid_of k m sums) n (pos 0) (omega (arith, mid_length sums k m fit))),
        ap unsigned_abs (none_past list factor n (omega arith)),
      )
    ]

-- what was added in the part was added from its place on
pub put_adds : (sums ys list : List ℤ) (k m : ℕ) (factor : ℤ) → m ≡ length list → length ys ≡ m → k + m ≤ length sums → AddsMultiple (mid_of k m sums) ys factor list → Adds sums (put_mid k m sums ys) k factor list
put_adds sums ys list k m factor e ey fit added n =
    elim (cases_lt n k) [
      | inl low ↦ omega (arith, ints, put_low sums ys k m n low (omega arith), term_low k n factor list low)
      | inr from ↦ elim (cases_lt n (k + m)) [
        | inl low ↦ omega (
          arith,
          ints,
          ap (coefficients (put_mid k m sums ys)) (let same : k + (n - k) ≡ n = omega arith in same),
          ap (coefficients sums) (let same : k + (n - k) ≡ n = omega arith in same),
          put_at sums ys k m (n - k) (omega arith) ey fit,
          mid_at sums k m (n - k) (omega arith),
          added (n - k) (omega arith),
          term_high k (n - k) n factor list (omega arith),
        )
        | inr high ↦ omega (
          arith,
          ints,
          put_high sums ys k m n high ey fit,
          term_high k (n - k) n factor list (omega arith),
          none_past list factor (n - k) (omega arith),
        )
      ]
    ]

-- a row more
pub row_more : (small long sums new : List ℤ) (i : ℕ) → Adds sums new i (coefficients small i) long → ((n : ℕ) → coefficients sums n ≡ conv (below i (coefficients small)) (coefficients long) n) → (n : ℕ) → coefficients new n ≡ conv (below (i + 1) (coefficients small)) (coefficients long) n
row_more small long sums new i added is n =
    omega (arith, ints, added n, is n, conv_more i (coefficients small) (coefficients long) n)
    ∙ ap (λ t. conv (below t (coefficients small)) (coefficients long) n) (let same : suc i ≡ i + 1 = omega arith in same)
