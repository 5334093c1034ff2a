-- Vectors of sixteen bytes: what a table gives, and what a shuffle leaves.
use Rattle.std.proofs.Common.{◌≡◌, ◌<◌, ℕ, List, [], ◌∷◌, ◌++◌, length, get_or, take, map, sym, ◌∙◌, ap, refl, arith, w8}
use Rattle.std.specs.List.{range_with_len}
use Rattle.std.specs.Simd.Lanes.{Each1, pick_l}
use Rattle.std.proofs.lemmas.Simd.{Each1-get_or, pick_l-range_with_len, length-swz_l, get_or-swz_l_below, swz_l, SwzOk, SwzOk-from_below}
use Rattle.std.proofs.lemmas.List.{ext_get_or, get_or-map, length-map, length-append, drop-append-le, drop_more, drop_all}

Each1-map : (P : ℕ → Type 0) (f : ℕ → ℕ) (xs : List ℕ) → Each1 (λ x. P (f x)) xs → Each1 P (map f xs)
Each1-map P f [] h = tt
Each1-map P f (x ∷ xs) h = (h.0, Each1-map P f xs h.1)

-- two functions that agree on each element
pub map-same : (f g : ℕ → ℕ) (xs : List ℕ) → Each1 (λ x. f x ≡ g x) xs → map f xs ≡ map g xs
map-same f g [] h = refl
map-same f g (x ∷ xs) h = λ i. h.0 i ∷ map-same f g xs h.1 i

-- ---- a table of sixteen entries, read at sixteen places

module _ (f : ℕ → ℕ) (xs : List ℕ) (long : length xs ≡ 16) (small : Each1 (λ x. f x < 16) xs) where
  pub may_look_up : SwzOk w8 16 16 0 (map f xs)
  may_look_up = SwzOk-from_below w8 16 1 16 0 (map f xs) refl (omega (arith, length-map xs f)) (Each1-map (λ j. j < 16) f xs small)

  pub looked_up : (table : List ℕ) → swz_l w8 16 table 0 (map f xs) ≡ map (λ x. get_or table (f x) 0) xs
  looked_up table =
      let js = map f xs in
      let same = length-map xs f in
      let same' = length-map xs (λ x. get_or table (f x) 0) in
      let here = length-swz_l w8 16 table 0 js in
      ext_get_or 0 (swz_l w8 16 table 0 js) (map (λ x. get_or table (f x) 0) xs) (omega arith) (λ m lt.
      let within : m < length xs = omega arith in
      let at : get_or js m 0 ≡ f (get_or xs m 0) = get_or-map f xs m 0 0 within in
      let below : f (get_or xs m 0) < 16 = Each1-get_or (λ x. f x < 16) xs m 0 within small in
      get_or-swz_l_below w8 16 table 0 js m (omega arith) (omega arith)
      ∙ ap (λ j. get_or table j 0) (omega arith)
      ∙ sym (get_or-map (λ x. get_or table (f x) 0) xs m 0 0 within))

-- ---- one byte on

pub one_on_is : (before xs : List ℕ) → length before ≡ 16 → length xs ≡ 16
    → pick_l 0 (before ++ xs) (range_with_len 15 16) ≡ get_or before 15 0 ∷ take 15 xs
one_on_is before xs p q =
    let long = length-append before xs in
    pick_l-range_with_len 0 (before ++ xs) 15 16 (omega arith)
    ∙ ap (take 16) (drop-append-le 15 before xs (omega arith)
    ∙ ap (λ ys. ys ++ xs) (drop_more before 15 0 (omega arith) ∙ ap (λ ys. get_or before 15 0 ∷ ys) (drop_all 16 before (omega arith))))
