-- The numbers that a run of answers uses.
use Rattle.std.proofs.Common.{◌≡◌, ℕ, ◌+◌, Bool, true, false, cond, List, [], ◌∷◌, length, refl, ap, ◌∙◌, add-one}
use Rattle.std.specs.Prelude.{nat_lt}
use Rattle.std.specs.List.{range_with_len}
use Rattle.call_places.specs.declared.entries.Place.{Place}
use Rattle.hpke_context.specs.Answers.{Cipher, Item, Answer, Seal, Unseal, Sealed_at, Opened_at, Failed_at, At_limit, next, run}
use Rattle.context_books.specs.Batches.{Batch, items_of}
use Rattle.context_books.specs.Legal.{replies}
use Rattle.context_books.specs.Entries.{numbers_used}

-- so many numbers, from this one on
abbrev IsRun : ℕ → List ℕ → Type 0
IsRun n numbers = numbers ≡ range_with_len n (length numbers)

one_more : (n : ℕ) (numbers : List ℕ) → IsRun (n + 1) numbers → IsRun n (n ∷ numbers)
one_more n numbers h = ap (λ m. n ∷ m) h ∙ rw add-one (refl)

used : (c : Cipher) (n : ℕ) (xs : List Item) → IsRun n (numbers_used (run c n xs))
used c n [] = refl
used c n (Seal aad text ∷ xs) = step (nat_lt n c.limit) (used c (n + 1) xs) (used c n xs)
  where
    step : (b : Bool) → IsRun (n + 1) (numbers_used (run c (n + 1) xs)) → IsRun n (numbers_used (run c n xs))
        → IsRun n (numbers_used (cond b (Sealed_at n (c.sealed n aad text)) At_limit ∷ run c (next n (cond b (Sealed_at n (c.sealed n aad text)) At_limit)) xs))
    step true more same = one_more n (numbers_used (run c (n + 1) xs)) more
    step false more same = same
used c n (Unseal aad ct ∷ xs) = step (c.holds n aad ct) (nat_lt n c.limit) (used c (n + 1) xs) (used c n xs)
  where
    of : Bool → Bool → Answer
    of b d = cond b (cond d (Opened_at n (c.clear n aad ct)) At_limit) (Failed_at n)

    step : (b d : Bool) → IsRun (n + 1) (numbers_used (run c (n + 1) xs)) → IsRun n (numbers_used (run c n xs))
        → IsRun n (numbers_used (of b d ∷ run c (next n (of b d)) xs))
    step true true more same = one_more n (numbers_used (run c (n + 1) xs)) more
    step true false more same = same
    step false d more same = same

pub all_used : (batch : Batch) (c : Cipher) (journal : List Place)
    → numbers_used (replies batch c journal) ≡ range_with_len 0 (length (numbers_used (replies batch c journal)))
all_used batch c journal = used c 0 (items_of batch journal)
