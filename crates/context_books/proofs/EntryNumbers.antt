-- What holds of entries at their numbers: entry by entry, and with the number passed along.
use Rattle.std.proofs.Common.{◌≡◌, ℕ, zero, suc, ◌+◌, Bool, true, false, cond, List, [], ◌∷◌, ◌++◌, length, take, sym, refl, ap, ◌∙◌, subst, arith, Some, None}
use Rattle.std.specs.Prelude.{slice_get, map, ◌↔◌}
use Rattle.std.proofs.lemmas.List.{map-append}
use Rattle.std.proofs.lemmas.List.Sums.{sum_by-cons, sum_by-append}
use Rattle.call_places.specs.declared.entries.Step.{Step}
use Rattle.call_places.specs.declared.entries.Entry.{Entry}
use Rattle.call_places.specs.Entries.{advances, seq_of, number_at}
use Rattle.hpke_context.specs.Answers.{Item, Seal, Unseal, Cipher, Answer, Sealed_at, Opened_at, Failed_at, At_limit, answer, next, due}
use Rattle.hpke_context.specs.Answers as hpke
use Rattle.context_books.specs.Batches.{Batch, block, place, items_of, item_or_none}
use Rattle.context_books.specs.Legal.{due_after}
use Rattle.context_books.specs.Entries.{step_for, steps_from, number_after, entries_from, AtNumbers, FitsAt, Fits, LaneFits}
use Rattle.context_books.specs.Histories.{entry_places}
use Rattle.context_books.specs.Lists.{EachFrom}

-- ---- the number passed along

one_step : (n : ℕ) (s : Step) → n + cond (advances s) 1 0 ≡ number_after n s
one_step n s = step (advances s)
  where
    step : (b : Bool) → n + cond b 1 0 ≡ cond b (n + 1) n
    step true = refl
    step false = omega arith

pub seq_of-cons : (e : Entry) (es : List Entry) → seq_of (e ∷ es) ≡ cond (advances e.step) 1 0 + seq_of es
seq_of-cons e es = sum_by-cons (λ (x : Entry). cond (advances x.step) 1 0) e es

pub seq_of-append : (xs ys : List Entry) → seq_of (xs ++ ys) ≡ seq_of xs + seq_of ys
seq_of-append xs ys = sum_by-append (λ (x : Entry). cond (advances x.step) 1 0) xs ys

pub seq_of-push : (xs : List Entry) (e : Entry) → seq_of (xs ++ e ∷ []) ≡ number_after (seq_of xs) e.step
seq_of-push xs e =
    seq_of-append xs (e ∷ []) ∙ ap (λ k. seq_of xs + k) (seq_of-cons e [] ∙ (let z : cond (advances e.step) 1 0 + 0 ≡ cond (advances e.step) 1 0 = omega arith in z))
    ∙ one_step (seq_of xs) e.step

more_from : (n i : ℕ) (e : Entry) (es : List Entry) → n + number_at (suc i) (e ∷ es) ≡ number_after n e.step + number_at i es
more_from n i e es =
    ap (λ k. n + k) (seq_of-cons e (take i es))
    ∙ (let z : n + (cond (advances e.step) 1 0 + number_at i es) ≡ n + cond (advances e.step) 1 0 + number_at i es = omega arith in z)
    ∙ ap (λ k. k + number_at i es) (one_step n e.step)

module _ (P : ℕ → Entry → Type 0) where
  abbrev From : ℕ → List Entry → Type 0
  From n es = (i : ℕ) (e : Entry) → slice_get es i ≡ Some e → P (n + number_at i es) e

  to_each_from : (n : ℕ) (es : List Entry) → From n es → EachFrom P n es
  to_each_from n [] f = tt
  to_each_from n (e ∷ es) f = (
    subst (λ k. P k e) (let z : n + 0 ≡ n = omega arith in z) (f 0 e refl),
    to_each_from (number_after n e.step) es (λ i x at. subst (λ k. P k x) (more_from n i e es) (f (suc i) x at)),
  )

  from_each_from : (n : ℕ) (es : List Entry) → EachFrom P n es → From n es
  from_each_from n [] t i x at = absurd (let f : None ≡ Some x = at in cc)
  from_each_from n (e ∷ es) t zero x at =
      let is : e ≡ x = (let f : Some e ≡ Some x = at in cc) in
      subst (P (n + 0)) is (subst (λ k. P k e) (let z : n ≡ n + 0 = omega arith in z) t.0)
  from_each_from n (e ∷ es) t (suc i) x at = subst (λ k. P k x) (sym (more_from n i e es)) (from_each_from (number_after n e.step) es t.1 i x at)

  pub to_each : (es : List Entry) → AtNumbers P es → EachFrom P 0 es
  to_each es f = to_each_from 0 es (λ i x at. subst (λ k. P k x) (let z : number_at i es ≡ 0 + number_at i es = omega arith in z) (f i x at))

  pub from_each : (es : List Entry) → EachFrom P 0 es → AtNumbers P es
  from_each es t = λ i x at. subst (λ k. P k x) (let z : 0 + number_at i es ≡ number_at i es = omega arith in z) (from_each_from 0 es t i x at)

-- ---- lists that grow

pub entry_places-append : (xs ys : List Entry) → entry_places (xs ++ ys) ≡ entry_places xs ++ entry_places ys
entry_places-append xs ys = map-append (λ (e : Entry). e.place) xs ys

pub each_front : (P : ℕ → Entry → Type 0) (n : ℕ) (xs ys : List Entry) → EachFrom P n (xs ++ ys) → EachFrom P n xs
each_front P n [] ys t = tt
each_front P n (e ∷ xs) ys t = (t.0, each_front P (number_after n e.step) xs ys t.1)

-- ---- steps and answers

-- a step advances where the answer does that it stands for
pub same_advance : (x : Item) (a : Answer) → advances (step_for x a) ≡ hpke.advances a
same_advance x (Sealed_at n ct) = refl
same_advance x (Opened_at n text) = refl
same_advance x (Failed_at n) = refl
same_advance (Seal aad text) At_limit = refl
same_advance (Unseal aad ct) At_limit = refl

pub same_next : (n : ℕ) (x : Item) (a : Answer) → number_after n (step_for x a) ≡ next n a
same_next n x a = ap (λ b. cond b (n + 1) n) (same_advance x a)

pub number_next : (c : Cipher) (n : ℕ) (x : Item) (s : Step) → s ≡ step_for x (answer c n x) → number_after n s ≡ next n (answer c n x)
number_next c n x s is = ap (number_after n) is ∙ same_next n x (answer c n x)

-- ---- the entries of a call

pub places_from : (lane call i stamp : ℕ) (steps : List Step) → entry_places (entries_from lane call i stamp steps) ≡ block lane call i (length steps)
places_from lane call i stamp [] = refl
places_from lane call i stamp (s ∷ steps) = ap (λ ps. place lane call i ∷ ps) (places_from lane call (i + 1) (stamp + 1) steps)

pub length-steps_from : (c : Cipher) (n : ℕ) (xs : List Item) → length (steps_from c n xs) ≡ length xs
length-steps_from c n [] = refl
length-steps_from c n (x ∷ xs) = ap suc (length-steps_from c (next n (answer c n x)) xs)

-- ---- entries that fit are the sequential context's run

-- the number that is due after entries
abbrev pub last_number : ℕ → List Entry → ℕ
last_number n [] = n
last_number n (e ∷ es) = last_number (number_after n e.step) es

pub last_is : (n : ℕ) (es : List Entry) → last_number n es ≡ n + seq_of es
last_is n [] = omega arith
last_is n (e ∷ es) =
    last_is (number_after n e.step) es ∙ ap (λ k. k + seq_of es) (sym (one_step n e.step))
    ∙ (let z : n + cond (advances e.step) 1 0 + seq_of es ≡ n + (cond (advances e.step) 1 0 + seq_of es) = omega arith in z) ∙ ap (λ k. n + k) (sym (seq_of-cons e es))

due_from : (batch : Batch) (context : ℕ) (c : Cipher) (n : ℕ) (es : List Entry) → EachFrom (FitsAt batch context c) n es → due c n (items_of batch (entry_places es)) ≡ last_number n es
due_from batch context c n [] fits = refl
due_from batch context c n (e ∷ es) fits =
    ap (λ o. due c n (item_or_none o (items_of batch (entry_places es)))) fits.0.1
    ∙ ap (λ k. due c k (items_of batch (entry_places es))) (sym (number_next c n fits.0.0 e.step fits.0.2))
    ∙ due_from batch context c (number_after n e.step) es fits.1

pub due_fits : (batch : Batch) (context : ℕ) (c : Cipher) (es : List Entry) → EachFrom (FitsAt batch context c) 0 es → due_after batch c (entry_places es) ≡ seq_of es
due_fits batch context c es fits = due_from batch context c 0 es fits ∙ last_is 0 es ∙ (let z : 0 + seq_of es ≡ seq_of es = omega arith in z)

pub number_due : (batch : Batch) (context : ℕ) (c : Cipher) (es : List Entry) → Fits batch context c es → due_after batch c (entry_places es) ≡ seq_of es
number_due batch context c es fits = due_fits batch context c es (to_each (FitsAt batch context c) es fits)

abbrev steps : List Entry → List Step
steps es = map (λ e. e.step) es

run_from : (batch : Batch) (context : ℕ) (c : Cipher) (n : ℕ) (es : List Entry) → EachFrom (FitsAt batch context c) n es → steps es ≡ steps_from c n (items_of batch (entry_places es))
run_from batch context c n [] fits = refl
run_from batch context c n (e ∷ es) fits =
    let x : Item = fits.0.0 in
    let later = run_from batch context c (number_after n e.step) es fits.1 ∙ ap (λ k. steps_from c k (items_of batch (entry_places es))) (number_next c n x e.step fits.0.2) in
    (λ i. fits.0.2 i ∷ later i) ∙ ap (λ o. steps_from c n (item_or_none o (items_of batch (entry_places es)))) (sym fits.0.1)

pub steps_are : (batch : Batch) (context : ℕ) (c : Cipher) (es : List Entry) → Fits batch context c es → steps es ≡ steps_from c 0 (items_of batch (entry_places es))
steps_are batch context c es fits = run_from batch context c 0 es (to_each (FitsAt batch context c) es fits)

-- ---- lane by lane

pub lane_by_lane : (batch : Batch) (context : ℕ) (c : Cipher) (es : List Entry) → Fits batch context c es ↔ ((lane : ℕ) → LaneFits batch context c lane es)
lane_by_lane batch context c es = (λ fits lane i e at is. fits i e at, λ fits i e at. fits e.place.lane i e at refl)
