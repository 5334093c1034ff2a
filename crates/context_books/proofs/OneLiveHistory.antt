-- A table and journals are one history exactly where the notes, as one journal more, and the
-- journals are a legal history of calls that are two each.
use Rattle.std.proofs.Common.{◌≡◌, ◌≢◌, ℕ, zero, suc, ◌+◌, ◌*◌, ◌<◌, List, [], ◌∷◌, ◌++◌, length, map, Option, Some, None, sym, refl, ap, ◌∙◌, subst, arith, ◌⊎◌, inl, inr}
use Rattle.std.specs.Prelude.{slice_get, slice_index_or, Contains, ◌↔◌}
use Rattle.std.specs.List.{AllPairs}
use Rattle.std.proofs.lemmas.Bool.{cases_eq}
use Rattle.std.proofs.lemmas.List.{append-nil, map-append, get_or_past, length-map}
use Rattle.call_places.specs.declared.entries.Entry.{Entry}
use Rattle.call_places.specs.declared.entries.Mark.{Mark}
use Rattle.call_places.specs.declared.entries.Place.{Place}
use Rattle.call_places.specs.Orders.{StampsRise}
use Rattle.hpke_context.specs.Answers.{Item, Seal}
use Rattle.hpke_context.specs.Contexts.{ContextView}
use Rattle.context_books.specs.Batches.{Batch, Ask, Nothing, ToSeal, ToOpenAll, unseal, with_context, item_in_call, block, place, lane_of, IsServed}
use Rattle.context_books.specs.Histories.{entry_places, mark, places, stamps, marks_at, all_stamps, HasLowerStamp, AreAllFrom0, LegalMarks, LegalHistory}
use Rattle.context_books.specs.Legal.{OpensOn, IsInLaneOrder, Legal}
use Rattle.context_books.proofs.Members.{contains_in, in_contains, in_map, map_in, In-left, In-right, In-append, RisesBy, pairs_rise, rises_pairs, got}
use Rattle.context_books.specs.Lists.{In}
use Rattle.context_books.proofs.Places.{same_place}
use Rattle.batch_plans.specs.declared.plan.Plan.{Plan}
use Rattle.context_books.specs.Live.{Noting, noting_in, IsNoted, LiveHistory, note_mark, call_mark, events}
use Rattle.context_books.specs.LiveChecks.{note_ask}
use Rattle.context_books.proofs.LiveParts.{more}

-- ---- the numbers of the two calls

half : (n : ℕ) → ((k : ℕ) × (n ≡ 2 * k)) ⊎ ((k : ℕ) × (n ≡ 2 * k + 1))
half zero = inl (0, refl)
half (suc n) = elim (half n) [
  | inl t ↦ inr (t.0, (let k : ℕ = t.0 in let e : n ≡ 2 * k = t.1 in omega arith))
  | inr t ↦ inl (suc t.0, (let k : ℕ = t.0 in let e : n ≡ 2 * k + 1 = t.1 in omega arith))
]

abbrev note_place : Place → Place
note_place p = place p.lane (2 * p.call) p.item

abbrev call_place : Place → Place
call_place p = place p.lane (2 * p.call + 1) p.item

call_place_one : (p q : Place) → call_place p ≡ call_place q → p ≡ q
call_place_one p q e =
    same_place p q (ap (λ (r : Place). r.lane) e)
    (let f : 2 * p.call + 1 ≡ 2 * q.call + 1 = ap (λ (r : Place). r.call) e in omega arith)
    (ap (λ (r : Place). r.item) e)

note_place_one : (p q : Place) → note_place p ≡ note_place q → p ≡ q
note_place_one p q e =
    same_place p q (ap (λ (r : Place). r.lane) e)
    (let f : 2 * p.call ≡ 2 * q.call = ap (λ (r : Place). r.call) e in omega arith)
    (ap (λ (r : Place). r.item) e)

apart : (p q : Place) → note_place p ≡ call_place q → ⊥
apart p q e =
    absurd (let f : 2 * p.call ≡ 2 * q.call + 1 = ap (λ (r : Place). r.call) e in omega arith)

call_mark_one : (m k : Mark) → call_mark m ≡ call_mark k → m ≡ k
call_mark_one m k e =
    let p = call_place_one m.place k.place (ap (λ (x : Mark). x.place) e) in
    let s : m.stamp ≡ k.stamp = ap (λ (x : Mark). x.stamp) e in
    (λ i. mark (p i) (s i))

-- ---- places and stamps of what is mapped

called_places : (ms : List Mark) → places (map call_mark ms) ≡ map call_place (places ms)
called_places [] = refl
called_places (m ∷ ms) = ap (λ ps. call_place m.place ∷ ps) (called_places ms)

noted_places : (es : List Entry) → places (map note_mark es) ≡ map note_place (entry_places es)
noted_places [] = refl
noted_places (e ∷ es) = ap (λ ps. note_place e.place ∷ ps) (noted_places es)

rises_map : {X Y : Type 0} (S : X → X → Type 0) (R : Y → Y → Type 0) (f : X → Y)
    → ((x y : X) → S x y → R (f x) (f y)) → (xs : List X) → RisesBy S xs → RisesBy R (map f xs)
rises_map S R f g [] r = tt
rises_map S R f g (x ∷ xs) r = (
  λ y i. let t = map_in f y xs i in subst (R (f x)) t.2 (g x t.0 (r.0 t.0 t.1)),
  rises_map S R f g xs r.1,
)

map_rises : {X Y : Type 0} (S : X → X → Type 0) (R : Y → Y → Type 0) (f : X → Y)
    → ((x y : X) → R (f x) (f y) → S x y) → (xs : List X) → RisesBy R (map f xs) → RisesBy S xs
map_rises S R f g [] r = tt
map_rises S R f g (x ∷ xs) r = (
  λ y i. g x y (r.0 (f y) (in_map f y xs i)),
  map_rises S R f g xs r.1,
)

pairs_map : {X Y : Type 0} (S : X → X → Type 0) (R : Y → Y → Type 0) (f : X → Y)
    → ((x y : X) → S x y → R (f x) (f y)) → (xs : List X) → AllPairs S xs → AllPairs R (map f xs)
pairs_map S R f g xs t = pairs_rise R (map f xs) (rises_map S R f g xs (rises_pairs S xs t))

map_pairs : {X Y : Type 0} (S : X → X → Type 0) (R : Y → Y → Type 0) (f : X → Y)
    → ((x y : X) → R (f x) (f y) → S x y) → (xs : List X) → AllPairs R (map f xs) → AllPairs S xs
map_pairs S R f g xs t = pairs_rise S xs (map_rises S R f g xs (rises_pairs R (map f xs) t))

abbrev pub Apart : Place → Place → Type 0
Apart p q = p ≢ q

abbrev pub Earlier : Entry → Entry → Type 0
Earlier e f = e.stamp < f.stamp

pub notes_rise : (es : List Entry) → StampsRise es → RisesBy Earlier es
notes_rise [] t = tt
notes_rise (e ∷ []) t = (λ k i. absurd i, tt)
notes_rise (e ∷ f ∷ es) t =
    let rest = notes_rise (f ∷ es) t.1 in
    let first : e.stamp < f.stamp = t.0 in (
      λ k i. elim i [
        | inl is ↦ subst (λ (x : Entry). e.stamp < x.stamp) is first
        | inr later ↦ (let up : f.stamp < k.stamp = rest.0 k later in omega arith)
      ],
      rest,
    )

rises_notes : (es : List Entry) → RisesBy Earlier es → StampsRise es
rises_notes [] r = tt
rises_notes (e ∷ []) r = tt
rises_notes (e ∷ f ∷ es) r = (r.0 f (inl refl), rises_notes (f ∷ es) r.1)

-- ---- the journals with the table behind them

abbrev tabled : List (List Mark) → List Entry → List (List Mark)
tabled journals notes = map (map call_mark) journals ++ (map note_mark notes ∷ [])

at_context : (journals : List (List Mark)) (notes : List Entry) (c : ℕ) → c ≢ length journals
    → marks_at (tabled journals notes) c ≡ map call_mark (marks_at journals c)
at_context [] notes zero ne = absurd (ne refl)
at_context [] notes (suc c) ne = refl
at_context (ms ∷ journals) notes zero ne = refl
at_context (ms ∷ journals) notes (suc c) ne = at_context journals notes c (λ e. ne (ap suc e))

pub at_table : (journals : List (List Mark)) (notes : List Entry)
    → marks_at (tabled journals notes) (length journals) ≡ map note_mark notes
at_table [] notes = refl
at_table (ms ∷ journals) notes = at_table journals notes

none_there : (journals : List (List Mark)) → marks_at journals (length journals) ≡ []
none_there journals = get_or_past journals (length journals) [] (omega arith)

-- these are the events of a live history

stamps_are : (journals : List (List Mark)) (notes : List Entry)
    → all_stamps (tabled journals notes) ≡ stamps (events journals notes)
stamps_are [] notes = append-nil (stamps (map note_mark notes))
stamps_are (ms ∷ journals) notes =
    ap (λ ss. stamps (map call_mark ms) ++ ss) (stamps_are journals notes)
    ∙ sym (map-append (λ (m : Mark). m.stamp) (map call_mark ms) (events journals notes))
    ∙ sym (ap stamps (more ms journals notes))

tabled_event : (journals : List (List Mark)) (notes : List Entry) (c : ℕ) (m : Mark)
    → In m (marks_at (tabled journals notes) c) → In m (events journals notes)
tabled_event [] notes zero m i = i
tabled_event [] notes (suc c) m i = absurd i
tabled_event (ms ∷ journals) notes zero m i = subst (In m) (sym (more ms journals notes))
    (In-left m (map call_mark ms) (events journals notes) i)
tabled_event (ms ∷ journals) notes (suc c) m i = subst (In m) (sym (more ms journals notes))
    (In-right m (map call_mark ms) (events journals notes) (tabled_event journals notes c m i))

event_tabled : (journals : List (List Mark)) (notes : List Entry) (m : Mark)
    → In m (events journals notes) → (c : ℕ) × In m (marks_at (tabled journals notes) c)
event_tabled [] notes m i = (0, i)
event_tabled (ms ∷ journals) notes m i =
    elim (In-append m (map call_mark ms) (events journals notes)
    (subst (In m) (more ms journals notes) i)) [
      | inl a ↦ (0, a)
      | inr b ↦ (let t = event_tabled journals notes m b in (suc t.0, t.1))
    ]

-- ---- both directions

-- what the first of the two calls asks
abbrev pub AsksNote : ℕ → Option Ask → Option Noting → Type 0
AsksNote table ask n = ((ask ≡ None) × (n ≡ None)) ⊎ (ask ≡ Some (note_ask table n))

module _ (plan : Plan) (standing : List (Option ContextView)) (batch both : Batch)
    (journals : List (List Mark)) (notes : List Entry)
    (evens : (l k : ℕ) → AsksNote (length journals) (slice_get (lane_of both l) (2 * k))
    (noting_in plan standing (slice_get (slice_index_or plan.lanes l []) k)))
    (odds : (l k : ℕ) → slice_get (lane_of both l) (2 * k + 1) ≡ slice_get (lane_of batch l) k)
  where
    abbrev table : ℕ
    table = length journals

    abbrev noting_at : ℕ → ℕ → Option Noting
    noting_at l k = noting_in plan standing (slice_get (slice_index_or plan.lanes l []) k)

    -- ---- items

    even_item : (l k i c : ℕ) (x : Item)
        → item_in_call (slice_get (lane_of both l) (2 * k)) i ≡ Some (c, x)
        → (n : Noting) × (noting_at l k ≡ Some n) × (i ≡ 0) × (table ≡ c)
    even_item l k i c x e = elim (evens l k) [
      | inl none ↦ absurd (let f : None ≡ Some (c, x) = sym (ap (λ o. item_in_call o i) none.0) ∙ e in cc)
      | inr is ↦ from_note (noting_at l k) i (sym (ap (λ o. item_in_call o i) is) ∙ e) refl
    ]
      where
        from_note : (n : Option Noting) (i : ℕ)
            → item_in_call (Some (note_ask table n)) i ≡ Some (c, x) → noting_at l k ≡ n
            → (n : Noting) × (noting_at l k ≡ Some n) × (i ≡ 0) × (table ≡ c)
        from_note None i e is = absurd (let f : None ≡ Some (c, x) = e in cc)
        from_note (Some n) zero e is = (n, is, refl, first (table, Seal [] []) (c, x) e)
          where
            first : (x y : ℕ × Item) → Some x ≡ Some y → x.0 ≡ y.0
            first x y e = ap (λ (r : ℕ × Item). r.0) (let f : x ≡ y = cc in f)
        from_note (Some n) (suc i) e is = absurd (let f : None ≡ Some (c, x) = e in cc)

    item_even : (l k : ℕ) (n : Noting) → noting_at l k ≡ Some n
        → (x : Item) × (item_in_call (slice_get (lane_of both l) (2 * k)) 0 ≡ Some (table, x))
    item_even l k n noted = elim (evens l k) [
      | inl none ↦ absurd (let f : None ≡ Some n = sym none.1 ∙ noted in cc)
      | inr is ↦ (Seal [] [], ap (λ o. item_in_call o 0) (is ∙ ap (λ m. Some (note_ask table m)) noted))
    ]

    even_opens : (l k c : ℕ) (n : ℕ) → OpensOn both c l (2 * k) n → ⊥
    even_opens l k c n o = elim (evens l k) [
      | inl none ↦ absurd (let f : None ≡ Some (ToOpenAll c o.0) = sym none.0 ∙ o.1 in cc)
      | inr is ↦ none_opens (noting_at l k) (sym is ∙ o.1)
    ]
      where
        none_opens : (m : Option Noting) → Some (note_ask table m) ≡ Some (ToOpenAll c o.0) → ⊥
        none_opens None e = absurd (let f : Some Nothing ≡ Some (ToOpenAll c o.0) = e in cc)
        none_opens (Some m) e =
            absurd (let f : Some (ToSeal table [] []) ≡ Some (ToOpenAll c o.0) = e in cc)

    -- ---- served places

    call_served : (c : ℕ) (p : Place) → IsServed batch c p → IsServed both c (call_place p)
    call_served c p s = (s.0, ap (λ o. item_in_call o p.item) (odds p.lane p.call) ∙ s.1)

    served_call : (c : ℕ) (p : Place) → IsServed both c (call_place p) → IsServed batch c p
    served_call c p s = (s.0, sym (ap (λ o. item_in_call o p.item) (odds p.lane p.call)) ∙ s.1)

    note_served : (p : Place) (n : Noting) → IsNoted plan standing p n
        → IsServed both table (note_place p)
    note_served p n r =
        let x = item_even p.lane p.call n r.noting_is in
        (x.0, ap (λ i. item_in_call (slice_get (lane_of both p.lane) (2 * p.call)) i) r.first ∙ x.1)

    served_note : (c : ℕ) (p : Place) → IsServed both c (note_place p)
        → ((n : Noting) × IsNoted plan standing p n) × (table ≡ c)
    served_note c p s =
        let e = even_item p.lane p.call p.item c s.0 s.1 in
        ((e.0, record { first = e.2; noting_is = e.1 }), e.3)

    -- a place is that of a note or of a call
    which : (p : Place)
        → ((q : Place) × (note_place q ≡ p)) ⊎ ((q : Place) × (call_place q ≡ p))
    which p = elim (half p.call) [
      | inl t ↦ inl (place p.lane t.0 p.item, (λ i. place p.lane (sym t.1 i) p.item))
      | inr t ↦ inr (place p.lane t.0 p.item, (λ i. place p.lane (sym t.1 i) p.item))
    ]

    opens_call : (c l k n : ℕ) → OpensOn batch c l k n → OpensOn both c l (2 * k + 1) n
    opens_call c l k n o = (o.0, odds l k ∙ o.1, o.2)

    call_opens : (c l k n : ℕ) → OpensOn both c l (2 * k + 1) n → OpensOn batch c l k n
    call_opens c l k n o = (o.0, sym (odds l k) ∙ o.1, o.2)

    opens_at : (c l call other n : ℕ) → call ≡ other → OpensOn both c l call n
        → OpensOn both c l other n
    opens_at c l call other n e o = subst (λ k. OpensOn both c l k n) e o

    -- ---- the table by itself

    -- each call that is noted has a note, and there is no other
    abbrev pub AreNoted : Type 0
    AreNoted = (p : Place) → Contains (entry_places notes) p ↔ ((n : Noting) × IsNoted plan standing p n)

    marks_once : AllPairs Apart (entry_places notes) → AllPairs Apart (places (map note_mark notes))
    marks_once once = subst (AllPairs Apart) (sym (noted_places notes))
        (pairs_map Apart Apart note_place (λ p q ne e. ne (note_place_one p q e)) (entry_places notes) once)

    pub marks_rise : StampsRise notes → AllPairs HasLowerStamp (map note_mark notes)
    marks_rise rise = pairs_rise HasLowerStamp (map note_mark notes)
        (rises_map Earlier HasLowerStamp note_mark (λ e f low. low) notes (notes_rise notes rise))

    once_marked : AllPairs Apart (places (map note_mark notes)) → AllPairs Apart (entry_places notes)
    once_marked once = map_pairs Apart Apart note_place (λ p q ne e. ne (ap note_place e))
        (entry_places notes) (subst (AllPairs Apart) (noted_places notes) once)

    pub rise_marked : AllPairs HasLowerStamp (map note_mark notes) → StampsRise notes
    rise_marked rise = rises_notes notes (map_rises Earlier HasLowerStamp note_mark (λ e f low. low) notes
        (rises_pairs HasLowerStamp (map note_mark notes) rise))

    module _ (nothing : (p : Place) → IsServed batch table p → ⊥) where
      none_opened : (lane call n : ℕ) → OpensOn both table lane call n → n ≡ 0
      none_opened lane call zero o = refl
      none_opened lane call (suc n) o = elim (half call) [
        | inl k ↦ absurd (even_opens lane k.0 table (suc n) (opens_at table lane call (2 * k.0) (suc n) k.1 o))
        | inr k ↦ absurd (
            let own = call_opens table lane k.0 (suc n) (opens_at table lane call (2 * k.0 + 1) (suc n) k.1 o) in
            let x = got (map unseal own.0) 0 (omega (arith, length-map own.0 unseal, own.2)) in
            nothing (place lane k.0 0) (x.0, ap (λ a. item_in_call a 0) own.1 ∙ ap (with_context table) x.1))
      ]

      marks_served : AreNoted → (p : Place) → Contains (places (map note_mark notes)) p ↔ IsServed both table p
      marks_served noted p =
          let ps = entry_places notes in (
            λ has.
                let q = map_in note_place p ps
                (subst (In p) (noted_places notes) (in_contains (places (map note_mark notes)) p has)) in
                let n = (noted q.0).0 (contains_in ps q.0 q.1) in
                subst (IsServed both table) q.2 (note_served q.0 n.0 n.1),
            λ s. contains_in (places (map note_mark notes)) p (subst (In p) (sym (noted_places notes))
                (elim (which p) [
                  | inl q ↦ subst (λ r. In r (map note_place ps)) q.1
                      (in_map note_place q.0 ps (in_contains ps q.0
                      ((noted q.0).1 (served_note table q.0 (subst (IsServed both table) (sym q.1) s)).0)))
                  | inr q ↦ absurd (nothing q.0
                      (served_call table q.0 (subst (IsServed both table) (sym q.1) s)))
                ])),
          )

      pub marks_legal : AreNoted → AllPairs Apart (entry_places notes)
          → AllPairs IsInLaneOrder (entry_places notes) → Legal both table (places (map note_mark notes))
      marks_legal noted once in_order =
          let ps = places (map note_mark notes) in
          record {
            served = marks_served noted;
            once = marks_once once;
            in_order = subst (AllPairs IsInLaneOrder) (sym (noted_places notes))
                (pairs_map IsInLaneOrder IsInLaneOrder note_place (λ p q o lane. elim (o lane) [
                  | inl low ↦ inl (omega arith)
                  | inr t ↦ inr ((let e = t.0 in omega arith), t.1)
                ]) (entry_places notes) in_order);
            together = λ lane call n o.
                ([], ps, sym (ap (λ k. block lane call 0 k ++ ps) (none_opened lane call n o)));
          }

    stands_note : (p : Place) → Contains (places (map note_mark notes)) p
        → (q : Place) × In q (entry_places notes) × (note_place q ≡ p)
    stands_note p has = map_in note_place p (entry_places notes)
        (subst (In p) (noted_places notes) (in_contains (places (map note_mark notes)) p has))

    noted_marked : ((p : Place) → Contains (places (map note_mark notes)) p ↔ IsServed both table p) → AreNoted
    noted_marked served p = (
      λ has. (served_note table p ((served (note_place p)).0
          (contains_in (places (map note_mark notes)) (note_place p) (subst (In (note_place p))
          (sym (noted_places notes)) (in_map note_place p (entry_places notes)
          (in_contains (entry_places notes) p has)))))).0,
      λ n.
          let q = stands_note (note_place p) ((served (note_place p)).1 (note_served p n.0 n.1)) in
          contains_in (entry_places notes) p (subst (λ r. In r (entry_places notes)) (note_place_one q.0 p q.2) q.1),
    )

    pub legal_marked : Legal both table (places (map note_mark notes))
        → AreNoted × AllPairs Apart (entry_places notes) × AllPairs IsInLaneOrder (entry_places notes)
    legal_marked t = (
      noted_marked t.served,
      once_marked t.once,
      map_pairs IsInLaneOrder IsInLaneOrder note_place (λ p q o lane. elim (o lane) [
        | inl low ↦ inl (omega arith)
        | inr t ↦ inr ((let e = t.0 in omega arith), t.1)
      ]) (entry_places notes) (subst (AllPairs IsInLaneOrder) (noted_places notes) t.in_order),
    )

    -- ---- from the table and the journals

    module _ (noted : AreNoted)
        (once : AllPairs Apart (entry_places notes)) (rise : StampsRise notes)
        (h : LiveHistory batch journals notes) where
      called : (c : ℕ) → c ≢ table → LegalMarks both c (map call_mark (marks_at journals c))
      called c ne =
          let ms = marks_at journals c in
          let t = h.each c in
          record {
            served = λ p. (
              λ has.
                  let q = map_in call_place p (places ms)
                  (subst (In p) (called_places ms) (in_contains (places (map call_mark ms)) p has)) in
                  subst (IsServed both c) q.2
                  (call_served c q.0 ((t.served q.0).0 (contains_in (places ms) q.0 q.1))),
              λ s. contains_in (places (map call_mark ms)) p (subst (In p) (sym (called_places ms))
                  (elim (which p) [
                    | inl q ↦ absurd (ne (sym (served_note c q.0 (subst (IsServed both c) (sym q.1) s)).1))
                    | inr q ↦ subst (λ r. In r (map call_place (places ms))) q.1
                        (in_map call_place q.0 (places ms) (in_contains (places ms) q.0
                        ((t.served q.0).1 (served_call c q.0 (subst (IsServed both c) (sym q.1) s)))))
                  ])),
            );
            once = subst (AllPairs Apart) (sym (called_places ms))
                (pairs_map Apart Apart call_place (λ p q ne e. ne (call_place_one p q e)) (places ms)
                t.once);
            rise = pairs_map HasLowerStamp HasLowerStamp call_mark (λ m k low. low) ms t.rise;
            together = λ lane call n o. elim (half call) [
              | inl k ↦ absurd (even_opens lane k.0 c n (opens_at c lane call (2 * k.0) n k.1 o))
              | inr k ↦ (let b = t.together lane k.0 n
                  (call_opens c lane k.0 n (opens_at c lane call (2 * k.0 + 1) n k.1 o)) in (
                    b.0,
                    λ i low. contains_in (map call_mark ms) (mark (place lane call i) (b.0 + i))
                        (subst (λ j. In (mark (place lane j i) (b.0 + i)) (map call_mark ms)) (sym k.1)
                        (in_map call_mark (mark (place lane k.0 i) (b.0 + i)) ms
                        (in_contains ms (mark (place lane k.0 i) (b.0 + i)) (b.1 i low)))),
                  ))
            ];
          }

      nothing_called : (p : Place) → IsServed batch table p → ⊥
      nothing_called p s =
          subst (λ ms. In p (places ms)) (none_there journals)
          (in_contains (places (marks_at journals table)) p (((h.each table).served p).1 s))

      noted_marks : LegalMarks both table (map note_mark notes)
      noted_marks = record {
        served = marks_served nothing_called noted;
        once = marks_once once;
        rise = marks_rise rise;
        together = λ lane call n o.
            (0, λ i low. absurd (let none = none_opened nothing_called lane call n o in omega arith));
      }

      event : (c : ℕ) (m : Mark) → Contains (marks_at (tabled journals notes) c) m
          → Contains (events journals notes) m
      event c m has = contains_in (events journals notes) m (tabled_event journals notes c m
          (in_contains (marks_at (tabled journals notes) c) m has))

      pub forth : LegalHistory both (tabled journals notes)
      forth = record {
        each = λ c. elim (cases_eq c table) [
          | inl same ↦ subst (λ k. LegalMarks both k (marks_at (tabled journals notes) k)) (sym same)
              (subst (LegalMarks both table) (sym (at_table journals notes)) noted_marks)
          | inr ne ↦ subst (LegalMarks both c) (sym (at_context journals notes c ne)) (called c ne)
        ];
        stamped = subst AreAllFrom0 (sym (stamps_are journals notes)) h.stamped;
        in_order = λ c d m k has had. h.in_order m k (event c m has) (event d k had);
      }

    -- ---- and back

    module _ (h : LegalHistory both (tabled journals notes)) where
      the_table : LegalMarks both table (map note_mark notes)
      the_table = subst (LegalMarks both table) (at_table journals notes) (h.each table)

      pub noted_back : AreNoted
      noted_back = noted_marked the_table.served

      pub once_back : AllPairs Apart (entry_places notes)
      once_back = once_marked the_table.once

      pub rise_back : StampsRise notes
      rise_back = rise_marked the_table.rise

      nothing : LegalMarks batch table []
      nothing = record {
        served = λ p. (
          λ has. absurd (in_contains [] p has),
          λ s.
              let q = stands_note (call_place p) ((the_table.served (call_place p)).1 (call_served table p s)) in
              absurd (apart q.0 p q.2),
        );
        once = λ i j d low few. absurd (omega arith);
        rise = λ i j d low few. absurd (omega arith);
        together = λ lane call n o.
            let b = the_table.together lane (2 * call + 1) n (opens_call table lane call n o) in (
              0,
              λ i low.
                  let e = map_in note_mark (mark (place lane (2 * call + 1) i) (b.0 + i)) notes
                  (in_contains (map note_mark notes) (mark (place lane (2 * call + 1) i) (b.0 + i)) (b.1 i low)) in
                  absurd (apart e.0.place (place lane call i) (ap (λ (m : Mark). m.place) e.2)),
            );
      }

      uncalled : (c : ℕ) → LegalMarks both c (map call_mark (marks_at journals c))
          → LegalMarks batch c (marks_at journals c)
      uncalled c t =
          let ms = marks_at journals c in
          record {
            served = λ p. (
              λ has. served_call c p ((t.served (call_place p)).0 (contains_in (places (map call_mark ms)) (call_place p)
                  (subst (In (call_place p)) (sym (called_places ms)) (in_map call_place p (places ms) (in_contains (places ms) p has))))),
              λ s.
                  let q = map_in call_place (call_place p) (places ms) (subst (In (call_place p)) (called_places ms)
                  (in_contains (places (map call_mark ms)) (call_place p) ((t.served (call_place p)).1 (call_served c p s)))) in
                  contains_in (places ms) p (subst (λ r. In r (places ms)) (call_place_one q.0 p q.2) q.1),
            );
            once = map_pairs Apart Apart call_place (λ p q ne e. ne (ap call_place e)) (places ms)
                (subst (AllPairs Apart) (called_places ms) t.once);
            rise = map_pairs HasLowerStamp HasLowerStamp call_mark (λ m k low. low) ms t.rise;
            together = λ lane call n o.
                let b = t.together lane (2 * call + 1) n (opens_call c lane call n o) in (
                  b.0,
                  λ i low.
                      let want = mark (place lane call i) (b.0 + i) in
                      let m = map_in call_mark (call_mark want) ms (in_contains (map call_mark ms) (call_mark want) (b.1 i low)) in
                      contains_in ms want (subst (λ k. In k ms) (call_mark_one m.0 want m.2) m.1),
                );
          }

      stands : (m : Mark) → Contains (events journals notes) m
          → (c : ℕ) × Contains (marks_at (tabled journals notes) c) m
      stands m has =
          let t = event_tabled journals notes m (in_contains (events journals notes) m has) in
          (t.0, contains_in (marks_at (tabled journals notes) t.0) m t.1)

      pub history_back : LiveHistory batch journals notes
      history_back = record {
        each = λ c. elim (cases_eq c table) [
          | inl same ↦ subst (λ k. LegalMarks batch k (marks_at journals k)) (sym same)
              (subst (LegalMarks batch table) (sym (none_there journals)) nothing)
          | inr ne ↦ uncalled c (subst (LegalMarks both c) (at_context journals notes c ne) (h.each c))
        ];
        stamped = subst AreAllFrom0 (stamps_are journals notes) h.stamped;
        in_order = λ m k has had.
            let a = stands m has in
            let b = stands k had in
            h.in_order a.0 b.0 m k a.1 b.1;
      }
