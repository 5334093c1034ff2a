-- A wrapped product with a short factor is small: each coefficient of the short one adds at most two terms.
use Rattle.std.proofs.Common.{◌≡◌, ℕ, zero, suc, ◌+◌, ◌-◌, ◌*◌, ◌<◌, ◌≤◌, cond, ℤ, pos, negsuc, List, [], ◌∷◌, length, arith, ap, sym, subst, ◌∙◌, refl, inl, inr}
use Rattle.std.specs.Prelude.{◌+ℤ◌, ◌*ℤ◌, unsigned_abs}
use Rattle.std.proofs.lemmas.Int.{ints, unsigned_abs-mul}
use Rattle.std.proofs.lemmas.List.Sums.{sum_by-cons}
use Rattle.std.proofs.lemmas.Nat.{mul-le}
use Rattle.std.proofs.lemmas.Bool.{cases_lt}
use Rattle.ring_core.specs.Product.{Series, coefficients, conv, wrapped, is_nonzero, weight}
use Rattle.ring_core.proofs.QuotientLaws.{below, shifted, shifted_low, shifted_high, shifted_scale, EndsAt, same_series}
use Rattle.ring_core.specs.Bounds.{IsWithin}
use Rattle.ring_core.proofs.Partial.{conv_none, conv_more, conv_whole}
use Rattle.ring_core.proofs.ProductLaws.{wrapped_add, list_ends}
use Rattle.ring_core.proofs.SeriesLaws.{conv_comm}
use Rattle.ring_core.proofs.ElementLaws.{IsCentred-small}
use Rattle.ring_inverse.proofs.CongruenceLaws.{wrapped_scale}
use Rattle.ring_inverse.proofs.ReciprocalLaws.{wrapped_none}
use Rattle.ring_core.specs.Sets.{Set}
use Rattle.sntrup_core.specs.Laws.{IsShort, SumsAreBounded}

-- the absolute values of the first n coefficients, added up
abbrev pub magnitude : ℕ → Series → ℕ
magnitude zero f = 0
magnitude (suc n) f = magnitude n f + unsigned_abs (f n)

-- x^i times g, wrapped: at most two coefficients of g meet
shifted_small : (p i k b : ℕ) (g : Series) → i < p → k < p → EndsAt p g → ((n : ℕ) → unsigned_abs (g n) ≤ b) → unsigned_abs (wrapped p (shifted i g) k) ≤ 2 * b
shifted_small p i zero b g hi hk e h =
    elim (cases_lt 0 i) [
      | inl l ↦ omega (arith, ints, shifted_low i g 0 l, shifted_high i g (p - i) p (omega arith), h (p - i))
      | inr l ↦ omega (arith, ints, shifted_high i g 0 0 (omega arith), h 0, shifted_high i g (p - i) p (omega arith), e.after (p - i) (omega arith))
    ]
shifted_small p i (suc k) b g hi hk e h =
    elim (cases_lt (suc k) i) [
      | inl l ↦ omega (
        arith,
        ints,
        shifted_low i g (suc k) l,
        shifted_high i g (p + suc k - i) (p + suc k) (omega arith),
        h (p + suc k - i),
        shifted_high i g (p + k - i) (p + k) (omega arith),
        h (p + k - i),
      )
      | inr l ↦ omega (
        arith,
        ints,
        shifted_high i g (suc k - i) (suc k) (omega arith),
        h (suc k - i),
        shifted_high i g (p + suc k - i) (p + suc k) (omega arith),
        e.after (p + suc k - i) (omega arith),
        shifted_high i g (p + k - i) (p + k) (omega arith),
        h (p + k - i),
      )
    ]

sum_abs : (x y : ℤ) (m n : ℕ) → unsigned_abs x ≤ m → unsigned_abs y ≤ n → unsigned_abs (x +ℤ y) ≤ m + n
sum_abs x y m n h l = omega (arith, ints)

-- the first n coefficients of f add to the bound twice their magnitude
pub partial_small : (p n k b : ℕ) (f g : Series) → n ≤ p → k < p → EndsAt p g → ((i : ℕ) → unsigned_abs (g i) ≤ b) → unsigned_abs (wrapped p (conv (below n f) g) k) ≤ magnitude n f * (2 * b)
partial_small p zero k b f g hn hk e h =
    omega (
      arith,
      ap unsigned_abs (ap (λ u. wrapped p u k) (same_series (conv (below 0 f) g) (λ n. pos 0) (conv_none g))),
      ap unsigned_abs (wrapped_none p k),
    )
partial_small p (suc n) k b f g hn hk e h =
    let old : Series = conv (below n f) g in
    let term : Series = shifted n g in
    let one_more : wrapped p (conv (below (suc n) f) g) k ≡ wrapped p old k +ℤ f n *ℤ wrapped p term k =
    ap (λ u. wrapped p u k) (same_series (conv (below (suc n) f) g) (λ m. old m +ℤ f n *ℤ term m) (λ m. conv_more n f g m ∙ ap (λ t. old m +ℤ t) (shifted_scale n (f n) g m)))
    ∙ wrapped_add p old (λ m. f n *ℤ term m) k
    ∙ ap (λ t. wrapped p old k +ℤ t) (wrapped_scale p (f n) term k)
    in
    let small : unsigned_abs (f n *ℤ wrapped p term k) ≤ unsigned_abs (f n) * (2 * b) =
    omega (arith, unsigned_abs-mul (f n) (wrapped p term k), mul-le (unsigned_abs (f n)) (unsigned_abs (wrapped p term k)) (unsigned_abs (f n)) (2 * b) (omega arith) (shifted_small p n k b g (omega arith) hk e h))
    in
    omega (
      arith,
      ap unsigned_abs one_more,
      sum_abs (wrapped p old k) (f n *ℤ wrapped p term k) (magnitude n f * (2 * b)) (unsigned_abs (f n) * (2 * b)) (partial_small p n k b f g (omega arith) hk e h) small,
    )

-- the whole product
pub product_small : (p k b : ℕ) (f g : Series) → k < p → EndsAt p f → EndsAt p g → ((i : ℕ) → unsigned_abs (g i) ≤ b) → unsigned_abs (wrapped p (conv f g) k) ≤ magnitude p f * (2 * b)
product_small p k b f g hk ef eg h =
    omega (
      arith,
      ap (λ u. unsigned_abs (wrapped p u k)) (same_series (conv (below p f) g) (conv f g) (λ n. conv_whole p f g n ef)),
      partial_small p p k b f g (omega arith) hk eg h,
    )

-- g r and 3 f m, where f and r have the magnitude w, and g and m are small: at most 8 w
pub lattice_small : (p k w : ℕ) (f g r m : Series) → k < p → EndsAt p f → EndsAt p g → EndsAt p r → EndsAt p m → magnitude p f ≤ w → magnitude p r ≤ w → ((i : ℕ) → unsigned_abs (g i) ≤ 1) → ((i : ℕ) → unsigned_abs (m i) ≤ 1) → unsigned_abs (wrapped p (conv r g) k +ℤ pos 3 *ℤ wrapped p (conv f m) k) ≤ 8 * w
lattice_small p k w f g r m hk ef eg er em wf wr hg hm =
    let first = product_small p k 1 r g hk er eg hg in
    let second = product_small p k 1 f m hk ef em hm in
    omega (arith, ints, first, second)

magnitude-first : (n : ℕ) (f : Series) → magnitude (suc n) f ≡ unsigned_abs (f 0) + magnitude n (λ i. f (suc i))
magnitude-first zero f = omega arith
magnitude-first (suc n) f = omega (arith, magnitude-first n f)

counted_once : (x : ℤ) → unsigned_abs x ≤ 1 → unsigned_abs x ≡ cond (is_nonzero x) 1 0
counted_once (pos zero) h = refl
counted_once (pos (suc zero)) h = refl
counted_once (pos (suc (suc n))) h = absurd (omega arith)
counted_once (negsuc zero) h = refl
counted_once (negsuc (suc n)) h = absurd (omega arith)

-- the magnitude of a small polynomial is its weight
magnitude_is : (xs : List ℤ) → IsWithin 1 xs → magnitude (length xs) (coefficients xs) ≡ weight xs
magnitude_is [] h = refl
magnitude_is (x ∷ xs) h =
    magnitude-first (length xs) (coefficients (x ∷ xs))
    ∙ omega (arith, counted_once x (h 0), magnitude_is xs (λ k. h (suc k)), sum_by-cons (λ y. cond (is_nonzero y) 1 0) x xs)

short_magnitude : (set : Set) (a : List ℤ) → IsShort set a → magnitude set.p (coefficients a) ≤ set.w
short_magnitude set a s =
    omega (
      arith,
      ap {B = ℕ} (λ n. magnitude n (coefficients a)) s.0.0,
      magnitude_is a (IsCentred-small set.p a s.0),
      s.1,
    )

pub sums_bounded : SumsAreBounded
sums_bounded set g r f m sg sr sf sm k l =
    let p = set.p in
    let w = set.w in
    let turned : conv (coefficients g) (coefficients r) ≡ conv (coefficients r) (coefficients g) =
    same_series (conv (coefficients g) (coefficients r)) (conv (coefficients r) (coefficients g)) (conv_comm (coefficients g) (coefficients r))
    in
    let bound = lattice_small p k w (coefficients f) (coefficients g) (coefficients r) (coefficients m) l (list_ends p f sf.0.0) (list_ends p g sg.0) (list_ends p r sr.0.0) (list_ends p m sm.0) (short_magnitude set f sf) (short_magnitude set r sr) (IsCentred-small p g sg) (IsCentred-small p m sm) in
    let P : Series → Type 0 = λ u. unsigned_abs (wrapped p u k +ℤ pos 3 *ℤ wrapped p (conv (coefficients f) (coefficients m)) k) ≤ 8 * w in
    subst P (sym turned) bound
