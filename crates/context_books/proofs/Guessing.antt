-- A guess that may have been made lies between the least and the greatest one, and the other way round.
use Rattle.std.proofs.Common.{◌≡◌, ◌≢◌, ℕ, zero, suc, ◌<◌, ◌≤◌, ◌==◌, ◌||◌, Bool, true, false, cond, List, [], ◌∷◌, ◌++◌, sym, refl, ap, ◌∙◌, subst, arith, append_assoc}
use Rattle.std.specs.Prelude.{◌↔◌}
use Rattle.std.specs.List.{AllPairs, list_any}
use Rattle.call_places.specs.declared.entries.Place.{Place}
use Rattle.hpke_context.specs.Answers.{Cipher, due}
use Rattle.context_books.specs.Batches.{Batch, place, block, items_of, own_places}
use Rattle.context_books.specs.Legal.{OpensOn, Legal, before, due_after}
use Rattle.context_books.specs.Guesses.{Guessed, through, least_guess, greatest_guess}
use Rattle.context_books.proofs.Lists.{own_places-append}
use Rattle.context_books.proofs.Places.{not_in_front, before_split}
use Rattle.context_books.proofs.Runs.{due_after-append, due_after_rises, due_passes}

abbrev any_of : ℕ → List Place → Bool
any_of l ps = list_any (λ q. q.lane == l) ps

-- ---- the part through the last place of a lane

none_from_any : (l : ℕ) (ps : List Place) → any_of l ps ≡ false → own_places l ps ≡ []
none_from_any l [] e = refl
none_from_any l (p ∷ ps) e = step (p.lane == l) e (none_from_any l ps)
  where
    step : (b : Bool) → (b || any_of l ps) ≡ false → (any_of l ps ≡ false → own_places l ps ≡ []) → cond b (p ∷ own_places l ps) (own_places l ps) ≡ []
    step true f rest = absurd (let g : true ≡ false = f in cc)
    step false f rest = rest f

any_from_none : (l : ℕ) (ps : List Place) → own_places l ps ≡ [] → any_of l ps ≡ false
any_from_none l [] e = refl
any_from_none l (p ∷ ps) e = step (p.lane == l) e (any_from_none l ps)
  where
    step : (b : Bool) → cond b (p ∷ own_places l ps) (own_places l ps) ≡ [] → (own_places l ps ≡ [] → any_of l ps ≡ false) → (b || any_of l ps) ≡ false
    step true f rest = absurd (let g : p ∷ own_places l ps ≡ [] = f in cc)
    step false f rest = rest f

any-append : (l : ℕ) (xs ys : List Place) → any_of l ys ≡ false → any_of l (xs ++ ys) ≡ any_of l xs
any-append l [] ys none = none
any-append l (x ∷ xs) ys none = ap (λ b. (x.lane == l) || b) (any-append l xs ys none)

-- it has the other places behind it
pub through_split : (l : ℕ) (ps : List Place) → (rest : List Place) × (ps ≡ through l ps ++ rest) × (own_places l rest ≡ [])
through_split l [] = ([], refl, refl)
through_split l (p ∷ ps) = step (any_of l (p ∷ ps)) refl (through_split l ps)
  where
    step : (b : Bool) → any_of l (p ∷ ps) ≡ b → ((rest : List Place) × (ps ≡ through l ps ++ rest) × (own_places l rest ≡ []))
        → (rest : List Place) × (p ∷ ps ≡ cond b (p ∷ through l ps) [] ++ rest) × (own_places l rest ≡ [])
    step true e t = (t.0, ap (λ m. p ∷ m) t.1, t.2)
    step false e t = (p ∷ ps, refl, none_from_any l (p ∷ ps) e)

pub through-append : (l : ℕ) (xs ys : List Place) → own_places l ys ≡ [] → through l (xs ++ ys) ≡ through l xs
through-append l [] [] none = refl
through-append l [] (y ∷ ys) none = ap (λ b. cond b (y ∷ through l ys) []) (any_from_none l (y ∷ ys) none)
through-append l (x ∷ xs) ys none =
    ap (λ b. cond b (x ∷ through l (xs ++ ys)) []) (any-append l (x ∷ xs) ys (any_from_none l ys none))
    ∙ ap (λ m. cond (any_of l (x ∷ xs)) (x ∷ m) []) (through-append l xs ys none)

-- ---- the two directions

pub before_call : (batch : Batch) (context : ℕ) (journal xs after : List Place) (l call m : ℕ) → Legal batch context journal
    → journal ≡ xs ++ (block l call 0 (suc m) ++ after) → before (place l call 0) journal ≡ xs
before_call batch context journal xs after l call m legal stands =
    ap (before (place l call 0)) stands
    ∙ before_split xs (block l call 1 m ++ after) (place l call 0)
    (not_in_front xs (block l call 1 m ++ after) (place l call 0) (subst (AllPairs (λ (p q : Place). p ≢ q)) stands legal.once))

pub between : (batch : Batch) (context : ℕ) (c : Cipher) (journal : List Place) (l call m guess : ℕ) → Legal batch context journal → Guessed batch c journal l call (suc m) guess
    → (least_guess batch c journal l call ≤ guess) × (guess ≤ greatest_guess batch c journal l call)
between batch context c journal l call m guess legal g =
    let xs = g.front ++ g.others in
    let is : before (place l call 0) journal ≡ xs =
    before_call batch context journal xs g.after l call m legal (g.stands ∙ sym (append_assoc g.front g.others (block l call 0 (suc m) ++ g.after))) in
    let up : due_after batch c g.front ≤ due_after batch c xs = due_after_rises batch c g.front g.others in
    let front : through l xs ≡ through l g.front = through-append l g.front g.others g.of_others in
    let parts = through_split l g.front in
    let low : due_after batch c (through l g.front) ≤ due_after batch c (through l g.front ++ parts.0) = due_after_rises batch c (through l g.front) parts.0 in
    let whole : due_after batch c (through l g.front ++ parts.0) ≡ due_after batch c g.front = ap (due_after batch c) (sym parts.1) in
    let number = g.number in
    let least : least_guess batch c journal l call ≡ due_after batch c (through l g.front) = ap (λ ps. due_after batch c (through l ps)) is ∙ ap (due_after batch c) front in
    let greatest : greatest_guess batch c journal l call ≡ due_after batch c xs = ap (due_after batch c) is in
    (omega arith, omega arith)

pub guessed_between : (batch : Batch) (context : ℕ) (c : Cipher) (journal : List Place) (l call m guess : ℕ) → Legal batch context journal → OpensOn batch context l call (suc m)
    → least_guess batch c journal l call ≤ guess → guess ≤ greatest_guess batch c journal l call → Guessed batch c journal l call (suc m) guess
guessed_between batch context c journal l call m guess legal opens low high =
    let t = legal.together l call (suc m) opens in
    let is : before (place l call 0) journal ≡ t.0 = before_call batch context journal t.0 t.1 l call m legal t.2 in
    let parts = through_split l t.0 in
    let a = through l t.0 in
    let least : least_guess batch c journal l call ≡ due_after batch c a = ap (λ ps. due_after batch c (through l ps)) is in
    let greatest : greatest_guess batch c journal l call ≡ due c (due_after batch c a) (items_of batch parts.0) =
    ap (due_after batch c) is ∙ ap (due_after batch c) parts.1 ∙ due_after-append batch c a parts.0 in
    let b = due_passes batch c (due_after batch c a) guess parts.0 (omega arith) (omega arith) in
    let none : own_places l b.0 ++ own_places l b.1 ≡ [] = sym (own_places-append l b.0 b.1) ∙ ap (own_places l) (sym b.2) ∙ parts.2 in
    record {
      front = a ++ b.0;
      others = b.1;
      after = t.1;
      stands = t.2 ∙ ap (λ ps. ps ++ (block l call 0 (suc m) ++ t.1)) (parts.1 ∙ ap (λ ps. a ++ ps) b.2 ∙ sym (append_assoc a b.0 b.1))
          ∙ append_assoc (a ++ b.0) b.1 (block l call 0 (suc m) ++ t.1);
      of_others = second_none (own_places l b.0) (own_places l b.1) none;
      number = due_after-append batch c a b.0 ∙ b.3;
    }
  where
    second_none : (xs ys : List Place) → xs ++ ys ≡ [] → ys ≡ []
    second_none [] ys e = e
    second_none (x ∷ xs) ys e = absurd (let f : x ∷ (xs ++ ys) ≡ [] = e in cc)

pub guesses_between : (batch : Batch) (context : ℕ) (c : Cipher) (journal : List Place) (l call n guess : ℕ) → Legal batch context journal → OpensOn batch context l call n → 0 < n
    → Guessed batch c journal l call n guess ↔ ((least_guess batch c journal l call ≤ guess) × (guess ≤ greatest_guess batch c journal l call))
guesses_between batch context c journal l call zero guess legal opens some = absurd (omega arith)
guesses_between batch context c journal l call (suc m) guess legal opens some =
    (λ g. between batch context c journal l call m guess legal g, λ b. guessed_between batch context c journal l call m guess legal opens b.0 b.1)
