-- What a draw and the steps of an opening tell of the answers.
use Rattle.std.proofs.Common.{◌≡◌, ◌<◌, ◌+◌, ℕ, zero, suc, Bool, true, false, List, [], ◌∷◌, ◌++◌, length, take, Some, None, refl, sym, ap, ◌∙◌, if◌then◌else◌}
use Rattle.std.specs.Prelude.{slice_get, nat_lt}
use Rattle.std.proofs.lemmas.Bool.{lt-ltb, ltb-true}
use Rattle.call_places.specs.declared.entries.Step.{Step}
use Rattle.call_places.specs.declared.entries.Step.TheVariants.{Opened, Failed, OpenLimit}
use Rattle.call_places.specs.Entries.{advances}
use Rattle.hpke_context.specs.Answers.{Item, Seal, Unseal, Cipher, Sealed_at, Opened_at, Failed_at, At_limit, answer, next, run, due}
use Rattle.context_books.specs.Entries.{step_for, steps_from, number_after}
use Rattle.hpke_context.proofs.Runs.{run-append, due-append}
use Rattle.context_books.proofs.OneLane.{taken_more}
use Rattle.context_books.proofs.EntryNumbers.{same_next}

-- a seal below LIMIT
pub seal_below : (c : Cipher) (n : ℕ) (aad text : List ℕ) → n < c.limit
    → answer c n (Seal aad text) ≡ Sealed_at n (c.sealed n aad text)
seal_below c n aad text low = ap (λ b. if b then Sealed_at n (c.sealed n aad text) else At_limit)
    (lt-ltb n c.limit low)

-- ---- an opening, item by item

pub length-run : (c : Cipher) (n : ℕ) (xs : List Item) → length (run c n xs) ≡ length xs
length-run c n [] = refl
length-run c n (x ∷ xs) = ap suc (length-run c (next n (answer c n x)) xs)

-- one item more
pub run_more : (c : Cipher) (n : ℕ) (xs : List Item) (i : ℕ) (x : Item) → slice_get xs i ≡ Some x
    → run c n (take (i + 1) xs) ≡ run c n (take i xs) ++ answer c (due c n (take i xs)) x ∷ []
run_more c n xs i x at = ap (run c n) (taken_more xs i x at) ∙ run-append c n (take i xs) (x ∷ [])

due_more : (c : Cipher) (n : ℕ) (xs : List Item) (i : ℕ) (x : Item) → slice_get xs i ≡ Some x
    → due c n (take (i + 1) xs) ≡ next (due c n (take i xs)) (answer c (due c n (take i xs)) x)
due_more c n xs i x at = ap (due c n) (taken_more xs i x at) ∙ due-append c n (take i xs) (x ∷ [])

-- the step of an item is taken at the number that is due after those before it
pub step_at : (c : Cipher) (n : ℕ) (xs : List Item) (i : ℕ) (x : Item) → slice_get xs i ≡ Some x
    → slice_get (steps_from c n xs) i ≡ Some (step_for x (answer c (due c n (take i xs)) x))
step_at c n [] i x at = absurd (let f : None ≡ Some x = at in cc)
step_at c n (y ∷ xs) zero x at =
    let is : y ≡ x = (let f : Some y ≡ Some x = at in cc) in
    ap (λ z. Some (step_for z (answer c n z))) is
step_at c n (y ∷ xs) (suc i) x at = step_at c (next n (answer c n y)) xs i x at

-- the number that is due after it
pub number_more : (c : Cipher) (n : ℕ) (xs : List Item) (i : ℕ) (x : Item) (step : Step)
    → slice_get xs i ≡ Some x
    → step ≡ step_for x (answer c (due c n (take i xs)) x)
    → number_after (due c n (take i xs)) step ≡ due c n (take (i + 1) xs)
number_more c n xs i x step at is =
    ap (number_after (due c n (take i xs))) is
    ∙ same_next (due c n (take i xs)) x (answer c (due c n (take i xs)) x)
    ∙ sym (due_more c n xs i x at)

-- a number rises below LIMIT
pub rises_below : (c : Cipher) (n : ℕ) (aad ct : List ℕ) (step : Step)
    → step ≡ step_for (Unseal aad ct) (answer c n (Unseal aad ct))
    → advances step ≡ true → n < c.limit
rises_below c n aad ct step is rises = choose (c.holds n aad ct) (nat_lt n c.limit) refl
    (sym (ap advances is) ∙ rises)
  where
    choose : (h l : Bool) → nat_lt n c.limit ≡ l
        → advances
        (step_for (Unseal aad ct)
        (if h then (if l then Opened_at n (c.clear n aad ct) else At_limit) else Failed_at n))
        ≡ true → n < c.limit
    choose true true e f = ltb-true n c.limit e
    choose true false e f = absurd (let g : false ≡ true = f in cc)
    choose false l e f = absurd (let g : false ≡ true = f in cc)

-- an item that is opened
pub opened_is : (c : Cipher) (n : ℕ) (aad ct : List ℕ)
    → Opened ≡ step_for (Unseal aad ct) (answer c n (Unseal aad ct))
    → answer c n (Unseal aad ct) ≡ Opened_at n (c.clear n aad ct)
opened_is c n aad ct is = choose (c.holds n aad ct) (nat_lt n c.limit) is
  where
    choose : (h l : Bool)
        → Opened ≡ step_for (Unseal aad ct)
        (if h then (if l then Opened_at n (c.clear n aad ct) else At_limit) else Failed_at n)
        → (if h then (if l then Opened_at n (c.clear n aad ct) else At_limit) else Failed_at n)
        ≡ Opened_at n (c.clear n aad ct)
    choose true true f = refl
    choose true false f = absurd (let g : Opened ≡ OpenLimit = f in cc)
    choose false l f = absurd (let g : Opened ≡ Failed = f in cc)
