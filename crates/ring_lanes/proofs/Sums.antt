-- Rows of products, and the convolution that they sum up to.
use Rattle.std.proofs.Common.{◌≡◌, ℕ, zero, suc, ◌+◌, ◌-◌, ◌*◌, ◌^◌, ◌<◌, ◌≤◌, ℤ, pos, negsuc, List, length, take, set, get_or-set_same, get_or-set_other, arith, ap, sym, ◌∙◌, refl, inl, inr}
use Rattle.std.specs.Prelude.{◌+ℤ◌, ◌-ℤ◌, ◌*ℤ◌, ◌≤ℤ◌, unsigned_abs}
use Rattle.std.specs.Int.RustNames.{int_div}
use Rattle.std.proofs.lemmas.Bool.{cases_lt}
use Rattle.std.proofs.lemmas.Int.{ints, unsigned_abs-mul}
use Rattle.std.proofs.lemmas.List.{get_or_past, length-set, length-take}
use Rattle.std.proofs.lemmas.Nat.{mul-le}
use Rattle.ring_core.specs.Product.{Series, coefficients, conv}
use Rattle.ring_core.specs.Rows.{shifted}
use Rattle.ring_core.proofs.IntegerLaws.{int_zero-mul, int_mul-zero, int_mul_comm}
use Rattle.ring_core.proofs.Partial.{conv_more, conv_none}
use Rattle.ring_core.proofs.QuotientLaws.{below, below_low, below_high, shifted_low, shifted_high, conv_shifted, same_series}
use Rattle.ring_core.proofs.SeriesLaws.{conv_add, conv_comm, conv_scale}
use Rattle.ring_lanes.specs.Rows.{rows_sum}

-- the first i rows, and n more
pub rows_more : (f g : Series) (k i n : ℕ) → rows_sum f g k (i + n) ≡ rows_sum f g k i +ℤ rows_sum (λ j. f (i + j)) g (k - i) n
rows_more f g k i zero =
    omega (arith, ints, ap (rows_sum f g k) (let e : i + 0 ≡ i = omega arith in e))
rows_more f g k i (suc n) =
    omega (
      arith,
      ints,
      ap (rows_sum f g k) (let e : i + suc n ≡ suc (i + n) = omega arith in e),
      rows_more f g k i n,
      ap (λ t. f (i + n) *ℤ g t) (let e : k - (i + n) ≡ k - i - n = omega arith in e),
    )

-- the same rows, read from another place on
pub rows_same : (f f' g : Series) (k k' n : ℕ) → k ≡ k' → ((i : ℕ) → f i ≡ f' i) → rows_sum f g k n ≡ rows_sum f' g k' n
rows_same f f' g k k' n e h =
    ap (λ s. rows_sum s g k n) (same_series f f' h) ∙ ap (λ t. rows_sum f' g t n) e

pub rows_within : (most : ℕ) (f g : Series) (k n : ℕ) → ((i : ℕ) → unsigned_abs (f i) ≤ 1) → ((i : ℕ) → unsigned_abs (g i) ≤ most) → unsigned_abs (rows_sum f g k n) ≤ n * most
rows_within most f g k zero small wide = omega (arith, ints)
rows_within most f g k (suc n) small wide =
    let term : unsigned_abs (f n *ℤ g (k - n)) ≤ most =
    omega (arith, unsigned_abs-mul (f n) (g (k - n)), mul-le (unsigned_abs (f n)) (unsigned_abs (g (k - n))) 1 most (small n) (wide (k - n)))
    in
    omega (arith, ints, rows_within most f g k n small wide, term)

-- one row more, of lane l: the row begins n places before `at`
pub row_next : (f g : Series) (first at n l : ℕ) → n ≤ at → rows_sum (λ i. f (first + i)) g (at + l) n +ℤ g (at - n + l) *ℤ f (first + n) ≡ rows_sum (λ i. f (first + i)) g (at + l) (n + 1)
row_next f g first at n l h =
    omega (
      arith,
      ints,
      int_mul_comm (g (at - n + l)) (f (first + n)),
      ap (λ t. f (first + n) *ℤ g t) (let e : at - n + l ≡ at + l - n = omega arith in e),
      ap (rows_sum (λ i. f (first + i)) g (at + l)) (let e : n + 1 ≡ suc n = omega arith in e),
    )

-- eight rows fit 16 bits
pub row_bound : (f g : Series) (first at n l : ℕ) → n < 8 → n ≤ at → ((i : ℕ) → unsigned_abs (f i) ≤ 1) → ((i : ℕ) → unsigned_abs (g i) ≤ 4095) → unsigned_abs (rows_sum (λ i. f (first + i)) g (at + l) n +ℤ g (at - n + l) *ℤ f (first + n)) < 2 ^ 15
row_bound f g first at n l low h small wide =
    omega (
      arith,
      ap unsigned_abs (row_next f g first at n l h),
      rows_within 4095 (λ i. f (first + i)) g (at + l) (n + 1) (λ i. small (first + i)) wide,
    )

-- rows that meet zeros alone
pub rows_none : (f g : Series) (k n : ℕ) → ((i : ℕ) → i < n → g (k - i) ≡ pos 0) → rows_sum f g k n ≡ pos 0
rows_none f g k zero h = omega (arith, ints)
rows_none f g k (suc n) h =
    omega (
      arith,
      ints,
      rows_none f g k n (λ i l. h i (omega arith)),
      ap (λ t. f n *ℤ t) (h n (omega arith)),
      int_mul-zero (f n),
    )

rows_below : (f g : Series) (k n : ℕ) → n ≤ k + 1 → rows_sum f g k n ≡ conv (below n f) g k
rows_below f g k zero l = sym (conv_none g k)
rows_below f g k (suc n) l =
    omega (
      arith,
      ints,
      rows_below f g k n (omega arith),
      conv_more n f g k,
      shifted_high n (λ j. f n *ℤ g j) (k - n) k (omega arith),
    )

conv_same : (f f' g : Series) (k : ℕ) → ((i j : ℕ) → i + j ≡ k → f i *ℤ g j ≡ f' i *ℤ g j) → conv f g k ≡ conv f' g k
conv_same f f' g zero h = h 0 0 (omega arith)
conv_same f f' g (suc k) h =
    omega (
      arith,
      ints,
      h 0 (suc k) (omega arith),
      conv_same (λ i. f (suc i)) (λ i. f' (suc i)) g k (λ i j e. h (suc i) j (omega arith)),
    )

-- the first n rows are all where the later ones meet zeros alone
pub rows_all : (f g : Series) (k n : ℕ) → n ≤ k + 1 → ((i : ℕ) → n ≤ i → i ≤ k → f i *ℤ g (k - i) ≡ pos 0) → rows_sum f g k n ≡ conv f g k
rows_all f g k n l h =
    rows_below f g k n l
    ∙ conv_same (below n f) f g k (λ i j e. elim (cases_lt i n) [
      | inl low ↦ ap (λ t. t *ℤ g j) (below_low n f i low)
      | inr from ↦ ap (λ t. t *ℤ g j) (below_high n f i from)
          ∙ int_zero-mul (g j)
          ∙ sym (ap (λ t. f i *ℤ g t) (let s : j ≡ k - i = omega arith in s) ∙ h i from (omega arith))
    ])

-- the same factors, and the other factor behind p zeros
pub conv_behind : (p : ℕ) (f f' g h : Series) (k : ℕ) → ((i : ℕ) → f' i ≡ f i) → ((i : ℕ) → h i ≡ shifted p g i) → conv f' h (k + p) ≡ conv f g k
conv_behind p f f' g h k d e =
    ap (λ s. conv s h (k + p)) (same_series f' f d)
    ∙ ap (λ s. conv f s (k + p)) (same_series h (shifted p g) e)
    ∙ conv_comm f (shifted p g) (k + p)
    ∙ conv_shifted p g f (k + p)
    ∙ shifted_high p (conv g f) k (k + p) (omega arith)
    ∙ conv_comm g f k

-- a sum of at most n products
pub conv_within : (most : ℕ) (f g : Series) (n k : ℕ) → ((i : ℕ) → n ≤ i → f i ≡ pos 0) → ((i : ℕ) → unsigned_abs (f i) ≤ 1) → ((i : ℕ) → unsigned_abs (g i) ≤ most) → unsigned_abs (conv f g k) ≤ n * most
conv_within most f g n k ends small wide =
    elim (cases_lt (k + 1) n) [
      | inl few ↦ omega (
        arith,
        ap unsigned_abs (rows_all f g k (k + 1) (omega arith) (λ i from to. absurd (omega arith))),
        rows_within most f g k (k + 1) small wide,
        mul-le (k + 1) most n most (omega arith) (omega arith),
      )
      | inr all ↦ omega (
        arith,
        ap unsigned_abs (rows_all f g k n all (λ i from to. ap (λ t. t *ℤ g (k - i)) (ends i from) ∙ int_zero-mul (g (k - i)))),
        rows_within most f g k n small wide,
      )
    ]

-- eight rows more, of lane l
pub group_next : (f g : Series) (first at n l : ℕ) → n ≤ at → rows_sum (λ i. f (first + i)) g (at + l) n +ℤ rows_sum (λ i. f (first + n + i)) g (at - n + l) 8 ≡ rows_sum (λ i. f (first + i)) g (at + l) (n + 8)
group_next f g first at n l h =
    omega (
      arith,
      ints,
      rows_more (λ i. f (first + i)) g (at + l) n 8,
      rows_same (λ i. f (first + n + i)) (λ i. f (first + (n + i))) g (at - n + l) (at + l - n) 8 (omega arith) (λ i. ap f (let e : first + n + i ≡ first + (n + i) = omega arith in e)),
    )

-- a series behind p zeros
pub shifted_back : (p n : ℕ) (s : Series) (k : ℕ) → ((i : ℕ) → n ≤ i → s i ≡ pos 0) → n + p ≤ k → shifted p s k ≡ pos 0
shifted_back p n s k ends l = shifted_high p s (k - p) k (omega arith) ∙ ends (k - p) (omega arith)

pub shifted_within : (p most : ℕ) (s t : Series) (k : ℕ) → t k ≡ shifted p s k → ((i : ℕ) → unsigned_abs (s i) ≤ most) → unsigned_abs (t k) ≤ most
shifted_within p most s t k e wide =
    elim (cases_lt k p) [
      | inl low ↦ omega (arith, ints, e, shifted_low p s k low)
      | inr from ↦ omega (arith, ap unsigned_abs (e ∙ shifted_high p s (k - p) k (omega arith)), wide (k - p))
    ]

pub taken_past : (n k : ℕ) (xs ys : List ℤ) → ys ≡ take n xs → n ≤ k → coefficients ys k ≡ pos 0
taken_past n k xs ys e h = get_or_past ys k (pos 0) (omega (arith, ap length e, length-take n xs))

pub taken_within : (bound n m : ℕ) (xs : List ℤ) → n ≡ m → ((k : ℕ) → k < m → unsigned_abs (coefficients (take n xs) k) ≤ bound) → (k : ℕ) → unsigned_abs (coefficients (take n xs) k) ≤ bound
taken_within bound n m xs e h k =
    elim (cases_lt k m) [
      | inl low ↦ h k low
      | inr past ↦ omega (arith, ap unsigned_abs (taken_past n k xs (take n xs) refl (omega arith)))
    ]

-- the rows that are not left out, at place l of the block that begins at `at`
pub block_sum : (f h : Series) (count size at first last l : ℕ) → ((k : ℕ) → k < 32 → h k ≡ pos 0) → ((k : ℕ) → count + 32 ≤ k → h k ≡ pos 0) → ((i : ℕ) → size ≤ i → f i ≡ pos 0) → 8 * first ≤ at - count → first ≤ last → 8 * last ≤ at + 32 → ((i : ℕ) → 8 * last ≤ i → i < at + 32 → size ≤ i) → l < 32 → rows_sum (λ i. f (8 * first + i)) h (at + 32 - 8 * first + l) (8 * (last - first)) ≡ conv f h (at + l + 32)
block_sum f h count size at first last l front back ends start order low high lane =
    let k : ℕ = at + l + 32 in
    let n : ℕ = 8 * (last - first) in
    let skipped : rows_sum f h k (8 * first) ≡ pos 0 = rows_none f h k (8 * first) (λ i e. back (k - i) (omega arith)) in
    let whole : rows_sum f h k (8 * last) ≡ conv f h k =
    rows_all f h k (8 * last) (omega arith) (λ i from to. elim (cases_lt i (at + 32)) [
      | inl before ↦ ap (λ t. t *ℤ h (k - i)) (ends i (high i from before)) ∙ int_zero-mul (h (k - i))
      | inr past ↦ ap (λ t. f i *ℤ t) (front (k - i) (omega arith)) ∙ int_mul-zero (f i)
    ])
    in
    omega (
      arith,
      ints,
      skipped,
      whole,
      rows_more f h k (8 * first) n,
      ap (rows_sum f h k) (let e : 8 * first + n ≡ 8 * last = omega arith in e),
      ap (λ t. rows_sum (λ i. f (8 * first + i)) h t n) (let e : at + 32 - 8 * first + l ≡ k - 8 * first = omega arith in e),
    )

-- ---- two sums in one number

-- the terms of an odd place: those of even and odd factors apart
conv_odd : (f g : Series) (n : ℕ) → conv f g (2 * n + 1) ≡ conv (λ i. f (2 * i)) (λ i. g (2 * i + 1)) n +ℤ conv (λ i. f (2 * i + 1)) (λ i. g (2 * i)) n
conv_odd f g zero = omega (arith, ints)
conv_odd f g (suc n) =
    let e : 2 * suc n + 1 ≡ suc (suc (2 * n + 1)) = omega arith in
    let shift : (i : ℕ) → 2 * suc i ≡ suc (suc (2 * i)) = λ i. omega arith in
    omega (
      arith,
      ints,
      ap (conv f g) e,
      conv_odd (λ i. f (suc (suc i))) g n,
      ap (λ t. f 0 *ℤ g t) (let a : suc (suc (2 * n + 1)) ≡ 2 * suc n + 1 = omega arith in a),
      ap (λ t. f 1 *ℤ g t) (let a : suc (2 * n + 1) ≡ 2 * suc n = omega arith in a),
      ap (λ s. conv s (λ i. g (2 * i + 1)) n) (same_series (λ i. f (2 * suc i)) (λ i. f (suc (suc (2 * i)))) (λ i. ap f (shift i))),
      ap (λ s. conv s (λ i. g (2 * i)) n) (same_series (λ i. f (2 * suc i + 1)) (λ i. f (suc (suc (2 * i + 1)))) (λ i. ap f (let a : 2 * suc i + 1 ≡ suc (suc (2 * i + 1)) = omega arith in a))),
    )

-- each number holds two neighbouring sums
pub conv_pairs : (f g h : Series) (n : ℕ) → ((k : ℕ) → h k ≡ shifted 1 g k +ℤ (pos 2048 *ℤ g k)) → conv (λ i. f (2 * i)) (λ i. h (2 * i + 1)) n +ℤ conv (λ i. f (2 * i + 1)) (λ i. h (2 * i)) n ≡ conv f g (2 * n) +ℤ (pos 2048 *ℤ conv f g (2 * n + 1))
conv_pairs f g h n e =
    sym (conv_odd f h n)
    ∙ conv_comm f h (2 * n + 1)
    ∙ ap (λ s. conv s f (2 * n + 1)) (same_series h (λ k. shifted 1 g k +ℤ (pos 2048 *ℤ g k)) e)
    ∙ conv_add (shifted 1 g) (λ k. pos 2048 *ℤ g k) f (2 * n + 1)
    ∙ ap (λ t. t +ℤ conv (λ k. pos 2048 *ℤ g k) f (2 * n + 1)) (conv_shifted 1 g f (2 * n + 1) ∙ shifted_high 1 (conv g f) (2 * n) (2 * n + 1) (omega arith) ∙ conv_comm g f (2 * n))
    ∙ ap (λ t. conv f g (2 * n) +ℤ t) (conv_scale (pos 2048) g f (2 * n + 1) ∙ ap (λ t. pos 2048 *ℤ t) (conv_comm g f (2 * n + 1)))

-- the same of the lists that the code has
pub held_pairs : (f g h f0 f1 h0 h1 : Series) (even odd : ℤ) (n : ℕ) → ((k : ℕ) → h k ≡ shifted 1 g k +ℤ (pos 2048 *ℤ g k)) → ((i : ℕ) → f0 i ≡ f (2 * i)) → ((i : ℕ) → h1 i ≡ h (2 * i + 1)) → ((i : ℕ) → f1 i ≡ f (2 * i + 1)) → ((i : ℕ) → h0 i ≡ h (2 * i)) → even ≡ conv f0 h1 n → odd ≡ conv f1 h0 n → even +ℤ odd ≡ conv f g (2 * n) +ℤ (pos 2048 *ℤ conv f g (2 * n + 1))
held_pairs f g h f0 f1 h0 h1 even odd n is ef0 eh1 ef1 eh0 e o =
    omega (
      arith,
      ints,
      e
          ∙ ap (λ s. conv s h1 n) (same_series f0 (λ i. f (2 * i)) ef0)
          ∙ ap (λ s. conv (λ i. f (2 * i)) s n) (same_series h1 (λ i. h (2 * i + 1)) eh1),
      o
          ∙ ap (λ s. conv s h0 n) (same_series f1 (λ i. f (2 * i + 1)) ef1)
          ∙ ap (λ s. conv (λ i. f (2 * i + 1)) s n) (same_series h0 (λ i. h (2 * i)) eh0),
      conv_pairs f g h n is,
    )

-- the two sums of a number stand apart
pub apart_more : (sums : List ℤ) (c : Series) (n : ℕ) (x y : ℤ) → 2 * n + 1 < length sums → x ≡ c (2 * n) → y ≡ c (2 * n + 1) → ((k : ℕ) → k < 2 * n → coefficients sums k ≡ c k) → (k : ℕ) → k < 2 * (n + 1) → coefficients (set (set sums (2 * n) x) (2 * n + 1) y) k ≡ c k
apart_more sums c n x y fit ex ey before k l =
    let first : List ℤ = set sums (2 * n) x in
    elim (cases_lt k (2 * n + 1)) [
      | inl low ↦ get_or-set_other first (2 * n + 1) k y (pos 0) (omega arith) ∙ elim (cases_lt k (2 * n)) [
        | inl lower ↦ get_or-set_other sums (2 * n) k x (pos 0) (omega arith) ∙ before k lower
        | inr at ↦
            let same : 2 * n ≡ k = omega arith in
            ap (coefficients first) (sym same) ∙ get_or-set_same sums (2 * n) x (pos 0) (omega arith) ∙ ex ∙ ap c same
      ]
      | inr from ↦
          let same : 2 * n + 1 ≡ k = omega arith in
          ap (coefficients (set first (2 * n + 1) y)) (sym same) ∙ get_or-set_same first (2 * n + 1) y (pos 0) (omega (arith, length-set sums (2 * n) x)) ∙ ey ∙ ap c same
    ]

-- the second of the two sums of a number that was moved up
pub second_is : (z first second : ℤ) → unsigned_abs first ≤ 1023 → z ≡ first +ℤ (pos 2048 *ℤ second) +ℤ pos 8389632 → pos 0 ≤ℤ z → int_div z (pos 2048) -ℤ pos 4096 ≡ second
second_is (pos a) first second small e low = omega (arith, ints)
second_is (negsuc a) first second small e low = absurd (omega (arith, ints))
