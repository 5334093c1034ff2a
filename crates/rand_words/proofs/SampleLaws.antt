-- The samples are small elements of the ring.
use Rattle.std.proofs.Common.{◌≡◌, ℕ, suc, ◌≤◌, ℤ, pos, List, [], ◌∷◌, length, map, take, drop, get_or, arith, ap, ◌∙◌, refl, inl, inr, length-append, length-drop}
use Rattle.std.specs.Prelude.{unsigned_abs}
use Rattle.std.specs.List.{All}
use Rattle.std.proofs.lemmas.Bool.{le-leb, lt-leb, cases_lt}
use Rattle.std.proofs.lemmas.Int.{ints}
use Rattle.std.proofs.lemmas.List.{length-map, length-take, get_or-map, get_or_past}
use Rattle.std.proofs.lemmas.List.FromFn.{length-map-range_with_len}
use Rattle.ring_core.specs.Product.{IsCentred}
use Rattle.ring_core.specs.Bounds.{IsWithin}
use Rattle.ring_core.specs.Sets.{Set}
use Rattle.ring_core.proofs.ElementLaws.{IsCentred-from_small}
use Rattle.rand_words.specs.Samples.{small_coefficient, small, marked_nonzero, marked_zero, marked, short_coefficient, short, IsMarked}
use Rattle.rand_words.specs.Sorted.{sorted, insert_sorted}
use Rattle.rand_words.specs.Words.{words_from}
use Rattle.rand_words.proofs.MarkLaws.{AreMarked-sorted}

pub length-words_from : (word : ℕ → ℕ) (place count : ℕ) → length (words_from word place count) ≡ count
length-words_from word place count = length-map-range_with_len word place count

-- each number of a list gives a small coefficient
within_map : (P : ℕ → Type 0) (f : ℕ → ℤ) → ((u : ℕ) → P u → unsigned_abs (f u) ≤ 1) → (words : List ℕ) → All P words → IsWithin 1 (map f words)
within_map P f h words a k =
    elim (cases_lt k (length words)) [
      | inl l ↦ omega (arith, ap unsigned_abs (get_or-map f words k 0 (pos 0) l), h (get_or words k 0) (a k 0 l))
      | inr l ↦ omega (arith, ap unsigned_abs (get_or_past (map f words) k (pos 0) (omega (arith, length-map words f))))
    ]

pub IsCentred-small_words : (set : Set) (words : List ℕ) → length words ≡ set.p → IsCentred 3 set.p (small set words)
IsCentred-small_words set words e =
    IsCentred-from_small set.p (small set words) (length-map words small_coefficient ∙ e)
    (within_map (λ u. 0 ≤ u) small_coefficient (λ u h. omega (arith, ints)) words (λ k d l. omega arith))

length-insert : (x : ℕ) (xs : List ℕ) → length (insert_sorted x xs) ≡ suc (length xs)
length-insert x [] = refl
length-insert x (y ∷ ys) =
    elim (cases_lt y x) [
      | inl less ↦ rw (lt-leb x y less) (ap suc (length-insert x ys))
      | inr from ↦ rw (le-leb x y from) refl
    ]

pub length-sorted : (xs : List ℕ) → length (sorted xs) ≡ length xs
length-sorted [] = refl
length-sorted (x ∷ xs) = length-insert x (sorted xs) ∙ ap suc (length-sorted xs)

length-marked : (w : ℕ) (words : List ℕ) → length (marked w words) ≡ length words
length-marked w words = omega (
  arith,
  length-append (map marked_nonzero (take w words)) (map marked_zero (drop w words)),
  length-map (take w words) marked_nonzero,
  length-map (drop w words) marked_zero,
  length-take w words,
  length-drop w words,
)

pub IsCentred-short_words : (set : Set) (words : List ℕ) → length words ≡ set.p → IsCentred 3 set.p (short set words)
IsCentred-short_words set words e =
    let w = set.w in
    IsCentred-from_small set.p (short set words)
    (length-map (sorted (marked w words)) short_coefficient ∙ length-sorted (marked w words) ∙ length-marked w words ∙ e)
    (within_map IsMarked short_coefficient (λ u h. omega (arith, ints)) (sorted (marked w words)) (AreMarked-sorted w words))
