-- The differences of bytes, or-ed.
use Rattle.std.proofs.Common.{◌≡◌, ◌↔◌, ◌⊎◌, ℕ, ◌+◌, ◌-◌, ◌*◌, ◌<◌, ◌≤◌, List, [], ◌∷◌, length, get_or, bit_or, bit_xor, arith, ap, sym, ◌∙◌, refl, inl, inr}
use Rattle.std.specs.Int.Bits.{xor_self, xor_zero_r}
use Rattle.std.proofs.lemmas.Bool.{cases_lt}
use Rattle.std.proofs.lemmas.Nat.{le_or_l, le_or_r, xor_comm}
use Rattle.std.proofs.lemmas.List.{get_or_past}
use Rattle.std.proofs.lemmas.Grind.{same_number_lists}
use Rattle.std.proofs.lemmas.Simd.{length-chunk, get_or-chunk}
use lib.Lanes.{zip2, fold_l, chunk}
use Rattle.sntrup_core.proofs.Masks.{xor_back, AgreeBelow, agree_whole}

or_left : (a b : ℕ) → bit_or a b ≡ 0 → a ≡ 0
or_left a b e = omega (arith, le_or_l a b, e)

or_right : (a b : ℕ) → bit_or a b ≡ 0 → b ≡ 0
or_right a b e = omega (arith, le_or_r a b, e)

xor_none : (a b : ℕ) → bit_xor a b ≡ 0 → a ≡ b
xor_none a b e = sym (xor_back a b) ∙ ap (λ t. bit_xor t b) e ∙ xor_comm 0 b ∙ xor_zero_r b

-- ---- differences

fold_first : (a : ℕ) (zs : List ℕ) → fold_l bit_or a zs ≡ 0 → a ≡ 0
fold_first a [] e = e
fold_first a (z ∷ zs) e = or_left a z (fold_first (bit_or a z) zs e)

fold_none : (xs ys : List ℕ) (a : ℕ) → length xs ≡ length ys → fold_l bit_or a (zip2 bit_xor xs ys) ≡ 0 → xs ≡ ys
fold_none [] [] a l e = refl
fold_none [] (y ∷ ys) a l e = absurd (omega (arith, l))
fold_none (x ∷ xs) [] a l e = absurd (omega (arith, l))
fold_none (x ∷ xs) (y ∷ ys) a l e =
    let both : ℕ = bit_or a (bit_xor x y) in
    let first : x ≡ y = xor_none x y (or_right a (bit_xor x y) (fold_first both (zip2 bit_xor xs ys) e)) in
    ap (λ t. t ∷ xs) first ∙ ap (λ t. y ∷ t) (fold_none xs ys both (omega (arith, l)) e)

fold_same : (xs : List ℕ) → fold_l bit_or 0 (zip2 bit_xor xs xs) ≡ 0
fold_same [] = refl
fold_same (x ∷ xs) = ap (λ t. fold_l bit_or (bit_or 0 t) (zip2 bit_xor xs xs)) (xor_self x) ∙ fold_same xs

pub blocks_differ : (xs ys : List ℕ) → length xs ≡ length ys → (fold_l bit_or 0 (zip2 bit_xor xs ys) ≡ 0) ↔ (xs ≡ ys)
blocks_differ xs ys l = (
  fold_none xs ys 0 l,
  λ e. ap (λ t. fold_l bit_or 0 (zip2 bit_xor xs t)) (sym e) ∙ fold_same xs,
)

pub agree_all : (n : ℕ) (xs ys : List ℕ) → length xs ≡ length ys → length xs ≤ n → AgreeBelow 0 n xs ys ↔ (xs ≡ ys)
agree_all n xs ys l h = (
  agree_whole 0 n xs ys l h,
  λ e k b. ap (λ t. get_or t k 0) e,
)

agree_on : (xs ys : List ℕ) (at k : ℕ) → k < 16 → chunk at 16 xs ≡ chunk at 16 ys → get_or xs (at + k) 0 ≡ get_or ys (at + k) 0
agree_on xs ys at k l e =
    sym (get_or-chunk at 16 xs k 0 l) ∙ ap (λ t. get_or t k 0) e ∙ get_or-chunk at 16 ys k 0 l

agree_from : (xs ys : List ℕ) (at n : ℕ) → length xs ≡ length ys → at + 16 ≤ length xs → at + 16 ≤ n → AgreeBelow 0 n xs ys → chunk at 16 xs ≡ chunk at 16 ys
agree_from xs ys at n l fit low a =
    let lx : length (chunk at 16 xs) ≡ 16 = length-chunk at 16 xs fit in
    let ly : length (chunk at 16 ys) ≡ 16 = length-chunk at 16 ys (omega arith) in
    same_number_lists (chunk at 16 xs) (chunk at 16 ys) (omega arith) (λ k b.
    let small : k < 16 = omega arith in
    get_or-chunk at 16 xs k 0 small ∙ a (at + k) (omega arith) ∙ sym (get_or-chunk at 16 ys k 0 small))

agree_more : (xs ys : List ℕ) (block at : ℕ) → length xs ≡ length ys → at ≤ 16 * block → at + 16 ≤ length xs → (at ≡ 16 * block) ⊎ (at + 16 ≡ length xs) → AgreeBelow 0 (16 * block) xs ys → chunk at 16 xs ≡ chunk at 16 ys → AgreeBelow 0 (16 * (block + 1)) xs ys
agree_more xs ys block at l low fit end a e k b =
    elim (cases_lt k (16 * block)) [
      | inl below ↦ a k below
      | inr from ↦ elim (cases_lt k (length xs)) [
        | inl inside ↦
            let near : k - at < 16 = elim end [ inl same ↦ omega arith | inr last ↦ omega arith ] in
            let place : at + (k - at) ≡ k = omega arith in
            ap (λ i. get_or xs i 0) (sym place) ∙ agree_on xs ys at (k - at) near e ∙ ap (λ i. get_or ys i 0) place
        | inr past ↦ get_or_past xs k 0 past ∙ sym (get_or_past ys k 0 (omega arith))
      ]
    ]

pub differences_more : (xs ys : List ℕ) (block at found differs : ℕ) → length xs ≡ length ys → at ≤ 16 * block → at + 16 ≤ length xs → (at ≡ 16 * block) ⊎ (at + 16 ≡ length xs) → (found ≡ 0) ↔ AgreeBelow 0 (16 * block) xs ys → (differs ≡ 0) ↔ (chunk at 16 xs ≡ chunk at 16 ys) → (bit_or found differs ≡ 0) ↔ AgreeBelow 0 (16 * (block + 1)) xs ys
differences_more xs ys block at found differs l low fit end old new = (
  λ e. agree_more xs ys block at l low fit end (old.0 (or_left found differs e)) (new.0 (or_right found differs e)),
  λ a. ap (λ t. bit_or t differs) (old.1 (λ k b. a k (omega arith)))
      ∙ ap (λ t. bit_or 0 t) (new.1 (agree_from xs ys at (16 * (block + 1)) l fit (omega arith) a)),
)
