-- The replies to a call whose places stand behind a front of the journal: the sequential context's
-- answers, from the number on that is due after the front.
use Rattle.std.proofs.Common.{◌≡◌, ℕ, ◌+◌, ◌<◌, ◌≤◌, List, [], ◌∷◌, ◌++◌, length, map, drop, refl, sym, ap, ◌∙◌, subst, arith, append_assoc, inl, inr, Some}
use Rattle.std.specs.Prelude.{slice_get}
use Rattle.call_places.specs.declared.entries.Place.{Place}
use Rattle.call_places.specs.declared.entries.Entry.{Entry}
use Rattle.hpke_context.specs.Answers.{Item, Cipher, answer, next, run, due}
use Rattle.context_books.specs.Batches.{Batch, Ask, items_in, context_in, block, place, lane_of, item_or_none, IsServed}
use Rattle.context_books.specs.Legal.{reply_of, due_after, before, number_of}
use Rattle.context_books.specs.Entries.{numbers_from, number_after, FitsAt, Fits}
use Rattle.context_books.specs.Histories.{entry_places}
use Rattle.context_books.proofs.Members.{In-append}
use Rattle.context_books.specs.Lists.{In, EachFrom}
use Rattle.context_books.proofs.Places.{before_split}
use Rattle.context_books.proofs.Runs.{due_after-append, drop_step, item_here}
use Rattle.context_books.proofs.Replies.{reply_at}
use Rattle.context_books.proofs.EntryNumbers.{to_each}
use Rattle.context_books.specs.Lanes.{AllServed}

-- a place, and behind it those of the next items
not_again : (lane call i j : ℕ) → i < j → place lane call i ≡ place lane call j → ⊥
not_again lane call i j low e = let f : i ≡ j = ap (λ (p : Place). p.item) e in omega arith

module _ (batch : Batch) (c : Cipher) (journal : List Place) (lane call : ℕ) (ask : Ask)
    (here : slice_get (lane_of batch lane) call ≡ Some ask) (after : List Place) where
  -- a front of the journal before item i of the call: each of its places is served, and it has no
  -- later item of the call
  record Before (i : ℕ) (xs : List Item) (front : List Place) : Type 0 where
    left : drop i (items_in ask) ≡ xs
    stands : journal ≡ front ++ (block lane call i (length xs) ++ after)
    served : AllServed batch (context_in ask) front
    fresh : (j : ℕ) → i ≤ j → In (place lane call j) front → ⊥

  -- the same, one item further
  further : (i : ℕ) (x : Item) (xs : List Item) (front : List Place) → Before i (x ∷ xs) front
      → Before (i + 1) xs (front ++ place lane call i ∷ [])
  further i x xs front t =
      let s = drop_step (items_in ask) xs i x t.left in
      let p = place lane call i in
      let item = item_here batch lane call i ask x here s.0 in
      record {
        left = s.1;
        stands = t.stands
            ∙ sym (append_assoc front (p ∷ []) (block lane call (i + 1) (length xs) ++ after));
        served = λ q has. elim (In-append q front (p ∷ []) has) [
          | inl old ↦ t.served q old
          | inr new ↦ elim new [
            | inl is ↦ subst (λ r. IsServed batch (context_in ask) r) is
                (x, item)
            | inr none ↦ absurd none
          ]
        ];
        fresh = λ j low has. elim (In-append (place lane call j) front (p ∷ []) has) [
          | inl old ↦ t.fresh j (omega arith) old
          | inr new ↦ elim new
              [ inl is ↦ not_again lane call i j (omega arith) is | inr none ↦ absurd none ]
        ];
      }

  due_next : (i : ℕ) (x : Item) (xs : List Item) (front : List Place) → Before i (x ∷ xs) front
      → due_after batch c (front ++ place lane call i ∷ []) ≡ next (due_after batch c front)
      (answer c (due_after batch c front) x)
  due_next i x xs front t =
      let s = drop_step (items_in ask) xs i x t.left in
      due_after-append batch c front (place lane call i ∷ [])
      ∙ ap (λ o. due c (due_after batch c front) (item_or_none o []))
      (item_here batch lane call i ask x here s.0)

  -- the replies of the call's places are the answers one after another
  replies_from : (i : ℕ) (xs : List Item) (front : List Place) → Before i xs front
      → map (reply_of batch c journal) (block lane call i (length xs)) ≡ map Some
      (run c (due_after batch c front) xs)
  replies_from i [] front t = refl
  replies_from i (x ∷ xs) front t =
      let s = drop_step (items_in ask) xs i x t.left in
      let p = place lane call i in
      let rest = block lane call (i + 1) (length xs) ++ after in
      let first : reply_of batch c journal p ≡ Some (answer c (due_after batch c front) x) =
      ap (λ j. reply_of batch c j p) t.stands
      ∙ reply_at batch (context_in ask) c front rest p x t.served (t.fresh i (omega arith))
      (item_here batch lane call i ask x here s.0) in
      let later = replies_from (i + 1) xs (front ++ p ∷ []) (further i x xs front t)
      ∙ ap (λ n. map Some (run c n xs)) (due_next i x xs front t) in
      (λ k. first k ∷ later k)

  -- and their numbers those at which the answers are given
  numbers_are : (i : ℕ) (xs : List Item) (front : List Place) → Before i xs front
      → map (number_of batch c journal) (block lane call i (length xs)) ≡ numbers_from c
      (due_after batch c front) xs
  numbers_are i [] front t = refl
  numbers_are i (x ∷ xs) front t =
      let p = place lane call i in
      let rest = block lane call (i + 1) (length xs) ++ after in
      let first : number_of batch c journal p ≡ due_after batch c front =
      ap (due_after batch c) (ap (before p) t.stands
      ∙ before_split front rest p (t.fresh i (omega arith))) in
      let later = numbers_are (i + 1) xs (front ++ p ∷ []) (further i x xs front t)
      ∙ ap (λ n. numbers_from c n xs) (due_next i x xs front t) in
      (λ k. first k ∷ later k)

  module _ (front : List Place)
      (stands : journal ≡ front ++ (block lane call 0 (length (items_in ask)) ++ after))
      (served : AllServed batch (context_in ask) front) (fresh : (item : ℕ)
      → In (place lane call item) front → ⊥) where
    at_first : Before 0 (items_in ask) front
    at_first = record { left = refl; stands = stands; served = served; fresh = λ j low. fresh j }

    pub call_replies_are : map (reply_of batch c journal)
        (block lane call 0 (length (items_in ask))) ≡ map Some
        (run c (due_after batch c front) (items_in ask))
    call_replies_are = replies_from 0 (items_in ask) front at_first

    pub call_numbers_are : map (number_of batch c journal)
        (block lane call 0 (length (items_in ask))) ≡ numbers_from c (due_after batch c front)
        (items_in ask)
    call_numbers_are = numbers_are 0 (items_in ask) front at_first

-- ---- entries that fit

places_served : (batch : Batch) (context : ℕ) (c : Cipher) (n : ℕ) (es : List Entry)
    → EachFrom (FitsAt batch context c) n es → AllServed batch context (entry_places es)
places_served batch context c n [] t p has = absurd has
places_served batch context c n (e ∷ es) t p has = elim has [
  | inl is ↦ subst (λ r. IsServed batch context r) is (t.0.0, t.0.1)
  | inr later ↦ places_served batch context c (number_after n e.step) es t.1 p later
]

pub fitting_places_are_served : (batch : Batch) (context : ℕ) (c : Cipher) (es : List Entry)
    → Fits batch context c es → AllServed batch context (entry_places es)
fitting_places_are_served batch context c es fits =
    places_served batch context c 0 es (to_each (FitsAt batch context c) es fits)
