-- Parts of a journal: their items, their replies, and how the number that is due grows.
use Rattle.std.proofs.Common.{◌≡◌, ◌≢◌, ℕ, zero, suc, ◌+◌, ◌≤◌, Bool, true, false, cond, List, [], ◌∷◌, ◌++◌, length, drop, sym, refl, ap, ◌∙◌, subst, arith, append_assoc, Option, Some, None, inl, inr}
use Rattle.std.specs.Prelude.{slice_get, map}
use Rattle.std.specs.List.{AllPairs}
use Rattle.std.proofs.lemmas.Bool.{cases_eq}
use Rattle.call_places.specs.declared.entries.Place.{Place}
use Rattle.hpke_context.specs.Answers.{Item, Cipher, Answer, answer, advances, next, run, due}
use Rattle.hpke_context.proofs.Runs.{run-append, due-append}
use Rattle.context_books.specs.Batches.{Batch, Ask, items_in, context_in, with_context, block, place, lane_of, item_of, item_in_call, items_of, item_or_none}
use Rattle.context_books.specs.Legal.{due_after, before, number_of, replies}
use Rattle.context_books.specs.Entries.{numbers_from}
use Rattle.context_books.proofs.Places.{not_in_front, before_split}

pub items_of-append : (batch : Batch) (xs ys : List Place) → items_of batch (xs ++ ys) ≡ items_of batch xs ++ items_of batch ys
items_of-append batch [] ys = refl
items_of-append batch (p ∷ xs) ys = ap (item_or_none (item_of batch p)) (items_of-append batch xs ys) ∙ step (item_of batch p)
  where
    step : (o : Option (ℕ × Item)) → item_or_none o (items_of batch xs ++ items_of batch ys) ≡ item_or_none o (items_of batch xs) ++ items_of batch ys
    step None = refl
    step (Some x) = refl

next_least : (n : ℕ) (a : Answer) → n ≤ next n a
next_least n a = step (advances a)
  where
    step : (b : Bool) → n ≤ cond b (n + 1) n
    step true = omega arith
    step false = omega arith

next_most : (n : ℕ) (a : Answer) → next n a ≤ n + 1
next_most n a = step (advances a)
  where
    step : (b : Bool) → cond b (n + 1) n ≤ n + 1
    step true = omega arith
    step false = omega arith

due_rises : (c : Cipher) (n : ℕ) (xs : List Item) → n ≤ due c n xs
due_rises c n [] = omega arith
due_rises c n (x ∷ xs) = let a = next_least n (answer c n x) in let b = due_rises c (next n (answer c n x)) xs in omega arith

pub due_after-append : (batch : Batch) (c : Cipher) (xs ys : List Place) → due_after batch c (xs ++ ys) ≡ due c (due_after batch c xs) (items_of batch ys)
due_after-append batch c xs ys = ap (due c 0) (items_of-append batch xs ys) ∙ due-append c 0 (items_of batch xs) (items_of batch ys)

pub due_after_rises : (batch : Batch) (c : Cipher) (xs ys : List Place) → due_after batch c xs ≤ due_after batch c (xs ++ ys)
due_after_rises batch c xs ys =
    let a = due_after-append batch c xs ys in
    let b = due_rises c (due_after batch c xs) (items_of batch ys) in
    omega arith

-- the number that is due takes each value on its way
pub due_passes : (batch : Batch) (c : Cipher) (n guess : ℕ) (ps : List Place) → n ≤ guess → guess ≤ due c n (items_of batch ps)
    → (xs ys : List Place) × (ps ≡ xs ++ ys) × (due c n (items_of batch xs) ≡ guess)
due_passes batch c n guess [] low high = ([], [], refl, (let e : n ≡ guess = omega arith in e))
due_passes batch c n guess (p ∷ ps) low high = elim (cases_eq n guess) [
  | inl same ↦ ([], p ∷ ps, refl, same)
  | inr ne ↦ step (item_of batch p) refl high (λ k. due_passes batch c k guess ps)
]
  where
    step : (o : Option (ℕ × Item)) → item_of batch p ≡ o → guess ≤ due c n (item_or_none o (items_of batch ps))
        → ((k : ℕ) → k ≤ guess → guess ≤ due c k (items_of batch ps) → (xs ys : List Place) × (ps ≡ xs ++ ys) × (due c k (items_of batch xs) ≡ guess))
        → (xs ys : List Place) × (p ∷ ps ≡ xs ++ ys) × (due c n (items_of batch xs) ≡ guess)
    step None e h later =
        let t = later n low h in
        (p ∷ t.0, t.1, ap (λ l. p ∷ l) t.2, ap (λ o. due c n (item_or_none o (items_of batch t.0))) e ∙ t.3)
    step (Some x) e h later = elim (cases_eq n guess) [
      | inl same ↦ ([], p ∷ ps, refl, same)
      | inr ne ↦ (let up = next_most n (answer c n x.1) in
          let t = later (next n (answer c n x.1)) (omega arith) h in
          (p ∷ t.0, t.1, ap (λ l. p ∷ l) t.2, ap (λ o. due c n (item_or_none o (items_of batch t.0))) e ∙ t.3))
    ]

-- ---- the block of a call

pub drop_step : (all xs : List Item) (i : ℕ) (x : Item) → drop i all ≡ x ∷ xs → (slice_get all i ≡ Some x) × (drop (i + 1) all ≡ xs)
drop_step [] xs zero x e = absurd (let f : [] ≡ x ∷ xs = e in cc)
drop_step [] xs (suc i) x e = absurd (let f : [] ≡ x ∷ xs = e in cc)
drop_step (a ∷ all) xs zero x e = (let f : a ∷ all ≡ x ∷ xs = e in let g : a ≡ x = cc in ap Some g, let f : a ∷ all ≡ x ∷ xs = e in cc)
drop_step (a ∷ all) xs (suc i) x e =
    let t = drop_step all xs i x e in
    (t.0, ap (λ k. drop k (a ∷ all)) (let s : suc i + 1 ≡ suc (i + 1) = omega arith in s) ∙ t.1)

-- the item of a place of a call
pub item_here : (batch : Batch) (l call i : ℕ) (a : Ask) (x : Item) → slice_get (lane_of batch l) call ≡ Some a → slice_get (items_in a) i ≡ Some x → item_of batch (place l call i) ≡ Some (context_in a, x)
item_here batch l call i a x e at = ap (λ (o : Option Ask). item_in_call o i) e ∙ ap (with_context (context_in a)) at

items_of-block : (batch : Batch) (l call i : ℕ) (a : Ask) (xs : List Item) → slice_get (lane_of batch l) call ≡ Some a → drop i (items_in a) ≡ xs → items_of batch (block l call i (length xs)) ≡ xs
items_of-block batch l call i a [] e d = refl
items_of-block batch l call i a (x ∷ xs) e d =
    let t = drop_step (items_in a) xs i x d in
    ap (λ o. item_or_none o (items_of batch (block l call (i + 1) (length xs)))) (item_here batch l call i a x e t.0)
    ∙ ap (λ ys. x ∷ ys) (items_of-block batch l call (i + 1) a xs e t.1)

pub items_of-call : (batch : Batch) (l call : ℕ) (a : Ask) → slice_get (lane_of batch l) call ≡ Some a → items_of batch (block l call 0 (length (items_in a))) ≡ items_in a
items_of-call batch l call a e = items_of-block batch l call 0 a (items_in a) e refl

-- a call is answered as its items one after another, from the number on that is due before its block
pub call_replies : (batch : Batch) (c : Cipher) (journal : List Place) (l call : ℕ) (a : Ask) (before after : List Place)
    → slice_get (lane_of batch l) call ≡ Some a → journal ≡ before ++ (block l call 0 (length (items_in a)) ++ after)
    → replies batch c journal
    ≡ replies batch c before ++ (run c (due_after batch c before) (items_in a) ++ run c (due_after batch c (before ++ block l call 0 (length (items_in a)))) (items_of batch after))
call_replies batch c journal l call a before after e stands =
    let b = block l call 0 (length (items_in a)) in
    let items : items_of batch b ≡ items_in a = items_of-call batch l call a e in
    ap (replies batch c) stands
    ∙ ap (run c 0) (items_of-append batch before (b ++ after) ∙ ap (λ m. items_of batch before ++ m) (items_of-append batch b after))
    ∙ run-append c 0 (items_of batch before) (items_of batch b ++ items_of batch after)
    ∙ ap (λ m. run c 0 (items_of batch before) ++ m)
    (run-append c (due_after batch c before) (items_of batch b) (items_of batch after)
    ∙ (λ i. run c (due_after batch c before) (items i) ++ run c (sym (due_after-append batch c before b) i) (items_of batch after)))

-- the numbers of its places in a journal in which each place stands once
numbers_block : (batch : Batch) (c : Cipher) (journal after : List Place) (l call : ℕ) (a : Ask) → slice_get (lane_of batch l) call ≡ Some a → AllPairs (λ (p q : Place). p ≢ q) journal
    → (i : ℕ) (xs : List Item) (front : List Place) → drop i (items_in a) ≡ xs → journal ≡ front ++ (block l call i (length xs) ++ after)
    → map (number_of batch c journal) (block l call i (length xs)) ≡ numbers_from c (due_after batch c front) xs
numbers_block batch c journal after l call a e once i [] front d stands = refl
numbers_block batch c journal after l call a e once i (x ∷ xs) front d stands =
    let t = drop_step (items_in a) xs i x d in
    let p = place l call i in
    let rest = block l call (i + 1) (length xs) ++ after in
    let n = due_after batch c front in
    let front_is : before p journal ≡ front = ap (before p) stands ∙ before_split front rest p (not_in_front front rest p (subst (AllPairs (λ (p q : Place). p ≢ q)) stands once)) in
    let up : due_after batch c (front ++ p ∷ []) ≡ next n (answer c n x) = due_after-append batch c front (p ∷ []) ∙ ap (λ o. due c n (item_or_none o [])) (item_here batch l call i a x e t.0) in
    let later = numbers_block batch c journal after l call a e once (i + 1) xs (front ++ p ∷ []) t.1 (stands ∙ sym (append_assoc front (p ∷ []) rest)) in
    (λ j. due_after batch c (front_is j) ∷ (later ∙ ap (λ k. numbers_from c k xs) up) j)

pub call_numbers : (batch : Batch) (c : Cipher) (journal : List Place) (l call : ℕ) (a : Ask) (front after : List Place) → AllPairs (λ (p q : Place). p ≢ q) journal
    → slice_get (lane_of batch l) call ≡ Some a → journal ≡ front ++ (block l call 0 (length (items_in a)) ++ after)
    → map (number_of batch c journal) (block l call 0 (length (items_in a))) ≡ numbers_from c (due_after batch c front) (items_in a)
call_numbers batch c journal l call a front after once e stands = numbers_block batch c journal after l call a e once 0 (items_in a) front refl stands
