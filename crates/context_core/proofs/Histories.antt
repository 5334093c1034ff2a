-- A history that grows by the places of a call: its journals, their marks, and entries that fit.
use Rattle.std.proofs.Common.{◌≡◌, ◌<◌, ℕ, suc, ◌+◌, ◌==◌, Bool, true, false, cond, List, [], ◌∷◌, ◌++◌, length, map, sym, refl, ap, ◌∙◌, subst, arith, Some, inl, inr, eq-eqb}
use Rattle.std.specs.Prelude.{slice_get}
use Rattle.std.proofs.lemmas.Simd.{map-map}
use Rattle.std.proofs.lemmas.Option.{slice_get_within}
use Rattle.call_places.specs.declared.entries.Place.{Place}
use Rattle.call_places.specs.declared.entries.Mark.{Mark}
use Rattle.call_places.specs.declared.entries.Step.{Step}
use Rattle.call_places.specs.declared.entries.Entry.{Entry}
use Rattle.call_places.specs.Entries.{own, seq_of, mark_of, StampsBelow}
use Rattle.hpke_context.specs.Answers.{Item, Cipher, answer, next}
use Rattle.context_books.specs.Batches.{Batch, Ask, Spot, spots, block, place, items_in, context_in, lane_of, on, own_places}
use Rattle.context_books.specs.Legal.{due_after}
use Rattle.context_books.specs.Histories.{mark, places, stamped_on, entry_places}
use Rattle.context_books.specs.Merging.{own_spots}
use Rattle.context_books.specs.Entries.{entries_from, steps_from, step_for, number_after, FitsAt, Fits}
use Rattle.context_books.specs.Lists.{In, EachFrom}
use Rattle.context_books.proofs.Lists.{own_places-on}
use Rattle.context_books.proofs.Runs.{drop_step, item_here}
use Rattle.context_books.proofs.HistoryJournals.{places-stamped_on, from}
use Rattle.context_books.proofs.EntryNumbers.{to_each, from_each, last_number, last_is, number_next, number_due}

-- ---- marks

pub stamped_on-append : (c s : ℕ) (xs ys : List Spot)
    → stamped_on c s (xs ++ ys) ≡ stamped_on c s xs ++ stamped_on c (s + length xs) ys
stamped_on-append c s [] ys = ap (λ n. stamped_on c n ys) (let e : s ≡ s + 0 = omega arith in e)
stamped_on-append c s (x ∷ xs) ys = step (x.context == c) (stamped_on-append c (s + 1) xs ys
    ∙ ap (λ n. stamped_on c (s + 1) xs ++ stamped_on c n ys)
    (let e : s + 1 + length xs ≡ s + suc (length xs) = omega arith in e))
  where
    step : (b : Bool)
        → stamped_on c (s + 1) (xs ++ ys)
        ≡ stamped_on c (s + 1) xs ++ stamped_on c (s + suc (length xs)) ys
        → cond b (mark x.place s ∷ stamped_on c (s + 1) (xs ++ ys)) (stamped_on c (s + 1) (xs ++ ys))
        ≡ cond b (mark x.place s ∷ stamped_on c (s + 1) xs) (stamped_on c (s + 1) xs)
        ++ stamped_on c (s + suc (length xs)) ys
    step true e = ap (λ l. mark x.place s ∷ l) e
    step false e = e

-- the marks of a call's entries
pub stamped_on-block : (c lane call i s : ℕ) (steps : List Step)
    → stamped_on c s (spots c (block lane call i (length steps)))
    ≡ map mark_of (entries_from lane call i s steps)
stamped_on-block c lane call i s [] = refl
stamped_on-block c lane call i s (x ∷ steps) =
    let rest = stamped_on c (s + 1) (spots c (block lane call (i + 1) (length steps))) in
    ap (λ b. cond b (mark (place lane call i) s ∷ rest) rest) (eq-eqb c c refl)
    ∙ ap (λ l. mark (place lane call i) s ∷ l) (stamped_on-block c lane call (i + 1) (s + 1) steps)

pub stamped_on-other : (c d s : ℕ) (ps : List Place) → (d == c) ≡ false
    → stamped_on c s (spots d ps) ≡ []
stamped_on-other c d s [] ne = refl
stamped_on-other c d s (p ∷ ps) ne =
    let rest = stamped_on c (s + 1) (spots d ps) in
    ap (λ b. cond b (mark p s ∷ rest) rest) ne ∙ stamped_on-other c d (s + 1) ps ne

-- the entries of a context have the stamps of their places in the history
below_each : (n : ℕ) (es : List Entry) → ((m : Mark) → In m (map mark_of es) → m.stamp < n)
    → StampsBelow n es
below_each n [] f = tt
below_each n (e ∷ es) f = (f (mark_of e) (inl refl), below_each n es (λ m i. f m (inr i)))

pub stamps_below : (c : ℕ) (h : List Spot) (es : List Entry) → map mark_of es ≡ stamped_on c 0 h
    → StampsBelow (length h) es
stamps_below c h es is = below_each (length h) es
    (λ m i. let t = from c 0 h m (subst (In m) is i) in
    let index : ℕ = t.0 in
    let at : m.stamp ≡ 0 + index = t.1 in
    let low : index < length h = slice_get_within h index _ t.2 in omega arith)

-- ---- places

pub places_are : (c : ℕ) (h : List Spot) (es : List Entry) → map mark_of es ≡ stamped_on c 0 h
    → entry_places es ≡ on c h
places_are c h es is =
    sym (map-map (λ (m : Mark). m.place) mark_of es) ∙ ap places is ∙ places-stamped_on c 0 h

own_of_places : (l : ℕ) (es : List Entry)
    → length (own_places l (entry_places es)) ≡ length (own l es)
own_of_places l [] = refl
own_of_places l (e ∷ es) = step (e.place.lane == l) (own_of_places l es)
  where
    step : (b : Bool) → length (own_places l (entry_places es)) ≡ length (own l es)
        → length (cond b (e.place ∷ own_places l (entry_places es)) (own_places l (entry_places es)))
        ≡ length (cond b (e ∷ own l es) (own l es))
    step true e = ap suc e
    step false e = e

pub own_count : (l c : ℕ) (h : List Spot) (es : List Entry) → map mark_of es ≡ stamped_on c 0 h
    → length (own l es) ≡ length (on c (own_spots l h))
own_count l c h es is =
    sym (own_of_places l es) ∙ ap (λ ps. length (own_places l ps)) (places_are c h es is)
    ∙ ap length (own_places-on l c h)

-- ---- entries that fit

each_append : (P : ℕ → Entry → Type 0) (n : ℕ) (xs ys : List Entry) → EachFrom P n xs
    → EachFrom P (last_number n xs) ys → EachFrom P n (xs ++ ys)
each_append P n [] ys a b = b
each_append P n (e ∷ xs) ys a b = (a.0, each_append P (number_after n e.step) xs ys a.1 b)

pub fits_more : (batch : Batch) (context : ℕ) (c : Cipher) (es more : List Entry)
    → Fits batch context c es → EachFrom (FitsAt batch context c) (seq_of es) more
    → Fits batch context c (es ++ more)
fits_more batch context c es more fits each =
    let P = FitsAt batch context c in
    let last : seq_of es ≡ last_number 0 es = sym (last_is 0 es
    ∙ (let z : 0 + seq_of es ≡ seq_of es = omega arith in z)) in
    from_each P (es ++ more) (each_append P 0 es more (to_each P es fits)
    (subst (λ n. EachFrom P n more) last each))

steps_fit_from : (batch : Batch) (c : Cipher) (n lane call i stamp : ℕ) (a : Ask) (xs : List Item)
    → slice_get (lane_of batch lane) call ≡ Some a
    → Rattle.std.proofs.Common.drop i (items_in a) ≡ xs
    → EachFrom (FitsAt batch (context_in a) c) n (entries_from lane call i stamp (steps_from c n xs))
steps_fit_from batch c n lane call i stamp a [] here left = tt
steps_fit_from batch c n lane call i stamp a (x ∷ xs) here left =
    let t = drop_step (items_in a) xs i x left in
    let rest = steps_fit_from batch c (next n (answer c n x)) lane call (i + 1) (stamp + 1) a xs
    here t.1 in (
      (x, item_here batch lane call i a x here t.0, refl),
      subst (λ k. EachFrom (FitsAt batch (context_in a) c) k
          (entries_from lane call (i + 1) (stamp + 1) (steps_from c (next n (answer c n x)) xs)))
          (sym (number_next c n x (step_for x (answer c n x)) refl)) rest,
    )

-- the entries of a call with the sequential context's steps
pub steps_fit : (batch : Batch) (c : Cipher) (n lane call stamp : ℕ) (a : Ask)
    → slice_get (lane_of batch lane) call ≡ Some a
    → EachFrom (FitsAt batch (context_in a) c) n
    (entries_from lane call 0 stamp (steps_from c n (items_in a)))
steps_fit batch c n lane call stamp a here =
    steps_fit_from batch c n lane call 0 stamp a (items_in a) here refl

-- the number that is due in a context
pub due_is : (batch : Batch) (context : ℕ) (c : Cipher) (h : List Spot) (es : List Entry)
    → map mark_of es ≡ stamped_on context 0 h → Fits batch context c es
    → due_after batch c (on context h) ≡ seq_of es
due_is batch context c h es is fits =
    ap (due_after batch c) (sym (places_are context h es is)) ∙ number_due batch context c es fits
