-- A guess misses at most each item of an opening.
use Rattle.std.proofs.Common.{◌≡◌, ℕ, suc, ◌+◌, ◌≤◌, Bool, true, false, List, [], ◌∷◌, length, refl, ap, arith, if◌then◌else◌}
use Rattle.call_places.specs.declared.spans.Item.{Item as Spans}
use Rattle.hpke_context.specs.Answers.{Item, Cipher, answer, next}
use Rattle.hpke_context.specs.Contexts.{ContextView, cipher_of}
use Rattle.context_books.specs.Guesses.{is_in_window, missed}
use Rattle.context_books.specs.Entries.{numbers_from}
use Rattle.context_books.specs.Openings.{unseals, opening_misses}
use Rattle.context_books.proofs.Items.{length-unseals}

one : (b : Bool) → (if b then 0 else 1) ≤ 1
one true = omega arith
one false = omega arith

missed_at_most : (guess i : ℕ) (ns : List ℕ) → missed guess i ns ≤ length ns
missed_at_most guess i [] = omega arith
missed_at_most guess i (n ∷ ns) =
    let first = one (is_in_window guess i n) in
    let rest = missed_at_most guess (i + 1) ns in
    omega arith

length-numbers_from : (c : Cipher) (n : ℕ) (xs : List Item)
    → length (numbers_from c n xs) ≡ length xs
length-numbers_from c n [] = refl
length-numbers_from c n (x ∷ xs) = ap suc (length-numbers_from c (next n (answer c n x)) xs)

pub few_missed : (view : ContextView) (n : ℕ) (pool : List ℕ) (items : List Spans) (guess : ℕ)
    → opening_misses view n pool items guess ≤ length items
few_missed view n pool items guess =
    let most = missed_at_most guess 0 (numbers_from (cipher_of view) n (unseals pool items)) in
    omega (
      arith,
      length-numbers_from (cipher_of view) n (unseals pool items),
      length-unseals pool items,
    )
