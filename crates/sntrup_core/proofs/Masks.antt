-- A choice by a mask that has all bits or none, lane by lane. A lane holds a number by its bits.
use Rattle.std.proofs.Common.{◌≡◌, ℕ, zero, suc, ◌+◌, ◌-◌, ◌*◌, ◌<◌, ◌≤◌, ℤ, pos, negsuc, List, [], ◌∷◌, ◌++◌, length, map, drop, bit_and, bit_xor, of_z, to_z, arith, ap, sym, ◌∙◌, refl, inl, inr}
use Rattle.std.specs.Prelude.{unsigned_abs}
use Rattle.std.specs.Int.{w8}
use Rattle.std.specs.Int.Bits.{xor_assoc, xor_self, xor_zero_r}
use Rattle.std.proofs.lemmas.Bool.{cases_lt}
use Rattle.std.proofs.lemmas.Int.{to_z-of_z, fits_signed_from_abs}
use Rattle.std.proofs.lemmas.List.{length-map, same_lists, get_or_default, get_or-drop}
use Rattle.std.proofs.lemmas.Nat.{and_le_r, and_mask, xor_comm, xor_of_8}
use Rattle.std.proofs.lemmas.Simd.{length-chunk, get_or-chunk, get_or-put_chunk_below, get_or-put_chunk_at, Each1-from_get_or}
use lib.Lanes.{zip2, chunk, put_chunk, Each1}
use lib.ListN.{replicate, get_or}
use mir.Val.{Fits}
use Rattle.ring_core.specs.Bounds.{IsWithin}

pub xor_back : (a b : ℕ) → bit_xor (bit_xor a b) b ≡ a
xor_back a b = xor_assoc a b b ∙ ap (bit_xor a) (xor_self b) ∙ xor_zero_r a

pick_all : (x y : ℕ) → Fits w8 x → Fits w8 y → bit_xor y (bit_and (bit_xor x y) 255) ≡ x
pick_all x y fx fy =
    ap (bit_xor y) (and_mask (bit_xor x y) 8 ∙ omega (arith, xor_of_8 x y fx.fits fy.fits))
    ∙ xor_comm y (bit_xor x y)
    ∙ xor_back x y

pick_none : (x y : ℕ) → bit_xor y (bit_and (bit_xor x y) 0) ≡ y
pick_none x y =
    let none : bit_and (bit_xor x y) 0 ≡ 0 = omega (arith, and_le_r (bit_xor x y) 0) in
    ap (bit_xor y) none ∙ xor_zero_r y

abbrev pub picked : ℕ → List ℕ → List ℕ → List ℕ
picked mask xs ys = zip2 bit_xor ys (zip2 bit_and (zip2 bit_xor xs ys) (replicate 16 mask))

lanes_all : (n : ℕ) (xs ys : List ℕ) → length xs ≡ n → length ys ≡ n → Each1 (Fits w8) xs → Each1 (Fits w8) ys → zip2 bit_xor ys (zip2 bit_and (zip2 bit_xor xs ys) (replicate n 255)) ≡ xs
lanes_all zero [] [] lx ly fx fy = refl
lanes_all zero (x ∷ xs) ys lx ly fx fy = absurd (omega (arith, lx))
lanes_all zero [] (y ∷ ys) lx ly fx fy = absurd (omega (arith, ly))
lanes_all (suc n) [] ys lx ly fx fy = absurd (omega (arith, lx))
lanes_all (suc n) (x ∷ xs) [] lx ly fx fy = absurd (omega (arith, ly))
lanes_all (suc n) (x ∷ xs) (y ∷ ys) lx ly fx fy =
    ap (λ t. t ∷ zip2 bit_xor ys (zip2 bit_and (zip2 bit_xor xs ys) (replicate n 255))) (pick_all x y fx.0 fy.0)
    ∙ ap (λ t. x ∷ t) (lanes_all n xs ys (omega (arith, lx)) (omega (arith, ly)) fx.1 fy.1)

lanes_none : (n : ℕ) (xs ys : List ℕ) → length xs ≡ n → length ys ≡ n → zip2 bit_xor ys (zip2 bit_and (zip2 bit_xor xs ys) (replicate n 0)) ≡ ys
lanes_none zero [] [] lx ly = refl
lanes_none zero (x ∷ xs) ys lx ly = absurd (omega (arith, lx))
lanes_none zero [] (y ∷ ys) lx ly = absurd (omega (arith, ly))
lanes_none (suc n) [] ys lx ly = absurd (omega (arith, lx))
lanes_none (suc n) (x ∷ xs) [] lx ly = absurd (omega (arith, ly))
lanes_none (suc n) (x ∷ xs) (y ∷ ys) lx ly =
    ap (λ t. t ∷ zip2 bit_xor ys (zip2 bit_and (zip2 bit_xor xs ys) (replicate n 0))) (pick_none x y)
    ∙ ap (λ t. y ∷ t) (lanes_none n xs ys (omega (arith, lx)) (omega (arith, ly)))

pub picked_all : (mask : ℕ) (xs ys : List ℕ) → mask ≡ 255 → length xs ≡ 16 → length ys ≡ 16 → Each1 (Fits w8) xs → Each1 (Fits w8) ys → picked mask xs ys ≡ xs
picked_all mask xs ys e lx ly fx fy = ap (λ m. picked m xs ys) e ∙ lanes_all 16 xs ys lx ly fx fy

pub picked_none : (mask : ℕ) (xs ys : List ℕ) → mask ≡ 0 → length xs ≡ 16 → length ys ≡ 16 → picked mask xs ys ≡ ys
picked_none mask xs ys e lx ly = ap (λ m. picked m xs ys) e ∙ lanes_none 16 xs ys lx ly

-- ---- the same of small coefficients

abbrev AreSmall : List ℤ → Type 0
AreSmall xs = Each1 (λ z. unsigned_abs z ≤ 1) xs

abbrev pub bits : ℤ → ℕ
bits z = of_z w8 z

bits_fit : (z : ℤ) → unsigned_abs z ≤ 1 → Fits w8 (bits z)
bits_fit (pos n) h = record { fits = omega arith }
bits_fit (negsuc n) h = record { fits = omega arith }

bits_back : (z : ℤ) → unsigned_abs z ≤ 1 → to_z w8 (bits z) ≡ z
bits_back z h = to_z-of_z w8 z (fits_signed_from_abs w8 z (omega arith))

lanes_fit : (xs : List ℤ) → AreSmall xs → Each1 (Fits w8) (map bits xs)
lanes_fit [] h = tt
lanes_fit (x ∷ xs) h = (bits_fit x h.0, lanes_fit xs h.1)

lanes_back : (xs : List ℤ) → AreSmall xs → map (to_z w8) (map bits xs) ≡ xs
lanes_back [] h = refl
lanes_back (x ∷ xs) h = ap (λ t. t ∷ map (to_z w8) (map bits xs)) (bits_back x h.0) ∙ ap (λ t. x ∷ t) (lanes_back xs h.1)

chunk_small : (xs : List ℤ) (at : ℕ) → at + 16 ≤ length xs → IsWithin 1 xs → AreSmall (chunk at 16 xs)
chunk_small xs at fit h =
    let long : length (chunk at 16 xs) ≡ 16 = length-chunk at 16 xs fit in
    Each1-from_get_or (λ z. unsigned_abs z ≤ 1) (chunk at 16 xs) (pos 0) (λ i l. omega (
      arith,
      ap unsigned_abs (get_or-chunk at 16 xs i (pos 0) (omega (arith, long))),
      h (at + i),
    ))

-- the lanes that the mask chooses at a place of two lists
abbrev pub picked_at : ℕ → ℕ → List ℤ → List ℤ → List ℤ
picked_at mask at xs ys = map (to_z w8) (picked mask (map bits (chunk at 16 xs)) (map bits (chunk at 16 ys)))

lanes_long : (xs : List ℤ) (at : ℕ) → at + 16 ≤ length xs → length (map bits (chunk at 16 xs)) ≡ 16
lanes_long xs at fit = length-map (chunk at 16 xs) bits ∙ length-chunk at 16 xs fit

pub picked_first : (mask at : ℕ) (xs ys : List ℤ) → mask ≡ 255 → at + 16 ≤ length xs → at + 16 ≤ length ys → IsWithin 1 xs → IsWithin 1 ys → picked_at mask at xs ys ≡ chunk at 16 xs
picked_first mask at xs ys e fx fy hx hy =
    ap (map (to_z w8)) (picked_all mask (map bits (chunk at 16 xs)) (map bits (chunk at 16 ys)) e (lanes_long xs at fx) (lanes_long ys at fy) (lanes_fit (chunk at 16 xs) (chunk_small xs at fx hx)) (lanes_fit (chunk at 16 ys) (chunk_small ys at fy hy)))
    ∙ lanes_back (chunk at 16 xs) (chunk_small xs at fx hx)

pub picked_second : (mask at : ℕ) (xs ys : List ℤ) → mask ≡ 0 → at + 16 ≤ length xs → at + 16 ≤ length ys → IsWithin 1 ys → picked_at mask at xs ys ≡ chunk at 16 ys
picked_second mask at xs ys e fx fy hy =
    ap (map (to_z w8)) (picked_none mask (map bits (chunk at 16 xs)) (map bits (chunk at 16 ys)) e (lanes_long xs at fx) (lanes_long ys at fy))
    ∙ lanes_back (chunk at 16 ys) (chunk_small ys at fy hy)

-- ---- blocks of a list

-- the lists are one below a place
abbrev pub AgreeBelow : {X : Type 0} → X → ℕ → List X → List X → Type 0
AgreeBelow {X} d n xs ys = (k : ℕ) → k < n → get_or xs k d ≡ get_or ys k d

-- a block more is that of the other list
pub agree_put : {X : Type 0} (d : X) (block : ℕ) (list other cs : List X) → 16 * block + 16 ≤ length list → length other ≡ length list → cs ≡ chunk (16 * block) 16 other → AgreeBelow d (16 * block) list other → AgreeBelow d (16 * (block + 1)) (put_chunk (16 * block) list cs) other
agree_put d block list other cs fit same e a k b =
    let at : ℕ = 16 * block in
    let long : length cs ≡ 16 = ap length e ∙ length-chunk at 16 other (omega arith) in
    elim (cases_lt k at) [
      | inl below ↦ get_or-put_chunk_below at list cs k d below ∙ a k below
      | inr from ↦
          let place : at + (k - at) ≡ k = omega arith in
          ap (λ i. get_or (put_chunk at list cs) i d) (sym place)
          ∙ get_or-put_chunk_at at list cs (k - at) d (omega arith) (omega arith)
          ∙ ap (λ t. get_or t (k - at) d) e
          ∙ get_or-chunk at 16 other (k - at) d (omega arith)
          ∙ ap (λ i. get_or other i d) place
    ]

pub agree_whole : {X : Type 0} (d : X) (n : ℕ) (xs ys : List X) → length xs ≡ length ys → length xs ≤ n → AgreeBelow d n xs ys → xs ≡ ys
agree_whole d n xs ys l h a =
    same_lists xs ys l (λ k e b. get_or_default xs k e d b ∙ a k (omega arith) ∙ get_or_default ys k d e (omega arith))

-- ---- a list with zeros behind it

within_joined : (xs ys : List ℤ) → IsWithin 1 xs → IsWithin 1 ys → IsWithin 1 (xs ++ ys)
within_joined [] ys hx hy k = hy k
within_joined (x ∷ xs) ys hx hy zero = hx 0
within_joined (x ∷ xs) ys hx hy (suc k) = within_joined xs ys (λ i. hx (suc i)) hy k

within_zeros : (n : ℕ) → IsWithin 1 (replicate n (pos 0))
within_zeros zero k = omega arith
within_zeros (suc n) zero = omega arith
within_zeros (suc n) (suc k) = within_zeros n k

pub within_padded : (xs : List ℤ) (m n : ℕ) → IsWithin 1 xs → IsWithin 1 (xs ++ drop m (replicate n (pos 0)))
within_padded xs m n h =
    within_joined xs (drop m (replicate n (pos 0))) h (λ k. omega (
      arith,
      ap unsigned_abs (get_or-drop m (replicate n (pos 0)) k (pos 0)),
      within_zeros n (m + k),
    ))
