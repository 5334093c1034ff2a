-- A live history by its parts: what the one order of events says of two places, of two notes, and of
-- a note and a place.
use Rattle.std.proofs.Common.{◌≡◌, ℕ, zero, suc, ◌+◌, ◌<◌, List, [], ◌∷◌, ◌++◌, map, Option, sym, refl, ap, ◌∙◌, subst, arith, append_assoc, ◌⊎◌, inl, inr}
use Rattle.std.specs.Prelude.{flat_map, Contains}
use Rattle.std.proofs.lemmas.List.{map-append}
use Rattle.call_places.specs.declared.entries.Entry.{Entry}
use Rattle.call_places.specs.declared.entries.Mark.{Mark}
use Rattle.call_places.specs.Entries.{stamps_of}
use Rattle.call_places.specs.Orders.{IsBefore}
use Rattle.hpke_context.specs.Contexts.{ContextView}
use Rattle.context_books.specs.Batches.{Batch}
use Rattle.context_books.specs.Histories.{entry_places, stamps, marks_at, all_stamps, HasLowerStamp, AreAllFrom0, LegalMarks}
use Rattle.context_books.specs.Lists.{In}
use Rattle.context_books.proofs.Members.{contains_in, in_contains, in_map, map_in, In-left, In-right, In-append}
use Rattle.batch_plans.specs.declared.plan.Plan.{Plan}
use Rattle.context_books.specs.Live.{LegalTable, LiveHistory, note_mark, call_mark, events}

pub record LiveParts (batch : Batch) (journals : List (List Mark)) (notes : List Entry) : Type 0 where
  pub each : (context : ℕ) → LegalMarks batch context (marks_at journals context)
  pub stamped : AreAllFrom0 (all_stamps journals ++ stamps_of notes)
  -- in a lane stamps rise by call, and in a call by item
  pub in_order : (c d : ℕ) (m k : Mark)
      → Contains (marks_at journals c) m → Contains (marks_at journals d) k
      → m.place.lane ≡ k.place.lane → IsBefore m.place k.place → HasLowerStamp m k
  -- a lane's notes rise by call
  pub noted_in_order : (e f : Entry) → Contains notes e → Contains notes f
      → e.place.lane ≡ f.place.lane → e.place.call < f.place.call → e.stamp < f.stamp
  -- a note comes after what its lane did in earlier calls
  pub noted_after : (c : ℕ) (m : Mark) (e : Entry)
      → Contains (marks_at journals c) m → Contains notes e
      → m.place.lane ≡ e.place.lane → m.place.call < e.place.call → m.stamp < e.stamp
  -- and before the places of its own call and of later ones
  pub noted_before : (c : ℕ) (m : Mark) (e : Entry)
      → Contains (marks_at journals c) m → Contains notes e
      → m.place.lane ≡ e.place.lane → e.place.call < m.place.call + 1 → e.stamp < m.stamp

-- ---- the events

pub more : (marks : List Mark) (journals : List (List Mark)) (notes : List Entry)
    → events (marks ∷ journals) notes ≡ map call_mark marks ++ events journals notes
more marks journals notes =
    append_assoc (map call_mark marks) (flat_map (map call_mark) journals) (map note_mark notes)

called_stamps : (ms : List Mark) → stamps (map call_mark ms) ≡ stamps ms
called_stamps [] = refl
called_stamps (m ∷ ms) = ap (λ ss. m.stamp ∷ ss) (called_stamps ms)

noted_stamps : (es : List Entry) → stamps (map note_mark es) ≡ stamps_of es
noted_stamps [] = refl
noted_stamps (e ∷ es) = ap (λ ss. e.stamp ∷ ss) (noted_stamps es)

stamps_are : (journals : List (List Mark)) (notes : List Entry)
    → stamps (events journals notes) ≡ all_stamps journals ++ stamps_of notes
stamps_are [] notes = noted_stamps notes
stamps_are (ms ∷ journals) notes =
    ap stamps (more ms journals notes)
    ∙ map-append (λ (m : Mark). m.stamp) (map call_mark ms) (events journals notes)
    ∙ (λ i. called_stamps ms i ++ stamps_are journals notes i)
    ∙ sym (append_assoc (stamps ms) (all_stamps journals) (stamps_of notes))

-- an event is that of a place or of a note
abbrev IsEvent : List (List Mark) → List Entry → Mark → Type 0
IsEvent journals notes m =
    ((c : ℕ) × (x : Mark) × In x (marks_at journals c) × (call_mark x ≡ m))
    ⊎ ((e : Entry) × In e notes × (note_mark e ≡ m))

event_of : (journals : List (List Mark)) (notes : List Entry) (m : Mark)
    → In m (events journals notes) → IsEvent journals notes m
event_of [] notes m i = inr (map_in note_mark m notes i)
event_of (ms ∷ journals) notes m i =
    elim (In-append m (map call_mark ms) (events journals notes)
    (subst (In m) (more ms journals notes) i)) [
      | inl a ↦ (let t = map_in call_mark m ms a in inl (0, t.0, t.1, t.2))
      | inr b ↦ elim (event_of journals notes m b) [
        | inl t ↦ inl (suc t.0, t.1, t.2, t.3)
        | inr t ↦ inr t
      ]
    ]

call_event : (journals : List (List Mark)) (notes : List Entry) (c : ℕ) (m : Mark)
    → In m (marks_at journals c) → In (call_mark m) (events journals notes)
call_event [] notes c m i = absurd i
call_event (ms ∷ journals) notes zero m i =
    subst (In (call_mark m)) (sym (more ms journals notes))
    (In-left (call_mark m) (map call_mark ms) (events journals notes) (in_map call_mark m ms i))
call_event (ms ∷ journals) notes (suc c) m i =
    subst (In (call_mark m)) (sym (more ms journals notes))
    (In-right (call_mark m) (map call_mark ms) (events journals notes)
    (call_event journals notes c m i))

-- ---- both directions

module _ (batch : Batch) (journals : List (List Mark)) (notes : List Entry) where
  abbrev Ordered : Mark → Mark → Type 0
  Ordered m k = m.place.lane ≡ k.place.lane → IsBefore m.place k.place → HasLowerStamp m k

  module _ (h : LiveHistory batch journals notes) where
    of_call : (c : ℕ) (m : Mark) → Contains (marks_at journals c) m
        → Contains (events journals notes) (call_mark m)
    of_call c m has = contains_in (events journals notes) (call_mark m)
        (call_event journals notes c m (in_contains (marks_at journals c) m has))

    of_note : (e : Entry) → Contains notes e → Contains (events journals notes) (note_mark e)
    of_note e has = contains_in (events journals notes) (note_mark e)
        (In-right (note_mark e) (flat_map (map call_mark) journals) (map note_mark notes)
        (in_map note_mark e notes (in_contains notes e has)))

    pub parts_of : LiveParts batch journals notes
    parts_of = record {
      each = h.each;
      stamped = subst AreAllFrom0 (stamps_are journals notes) h.stamped;
      in_order = λ c d m k has had lane before.
          h.in_order (call_mark m) (call_mark k) (of_call c m has) (of_call d k had) lane
          (elim before [ inl low ↦ inl (omega arith) | inr t ↦ inr ((let e = t.0 in omega arith), t.1) ]);
      noted_in_order = λ e f has had lane low.
          h.in_order (note_mark e) (note_mark f) (of_note e has) (of_note f had) lane
          (inl (omega arith));
      noted_after = λ c m e has had lane low.
          h.in_order (call_mark m) (note_mark e) (of_call c m has) (of_note e had) lane
          (inl (omega arith));
      noted_before = λ c m e has had lane low.
          h.in_order (note_mark e) (call_mark m) (of_note e had) (of_call c m has) (sym lane)
          (inl (omega arith));
    }

  -- the notes are those of a legal table: a call has one
  module _ {plan : Plan} {standing : List (Option ContextView)}
      (legal : LegalTable plan standing notes) (h : LiveParts batch journals notes) where
    first_item : (e : Entry) → In e notes → e.place.item ≡ 0
    first_item e i =
        let n = (legal.noted e.place).0 (contains_in (entry_places notes) e.place
        (in_map (λ (f : Entry). f.place) e notes i)) in
        n.1.first

    two_calls : (c d : ℕ) (x y : Mark) → In x (marks_at journals c) → In y (marks_at journals d)
        → Ordered (call_mark x) (call_mark y)
    two_calls c d x y i j lane before =
        h.in_order c d x y (contains_in (marks_at journals c) x i)
        (contains_in (marks_at journals d) y j) lane
        (elim before [ inl low ↦ inl (omega arith) | inr t ↦ inr ((let e = t.0 in omega arith), t.1) ])

    two_notes : (e f : Entry) → In e notes → In f notes → Ordered (note_mark e) (note_mark f)
    two_notes e f i j lane before = elim before [
      | inl low ↦ h.noted_in_order e f (contains_in notes e i) (contains_in notes f j) lane (omega arith)
      | inr t ↦ absurd (let a = t.1 in let z = first_item f j in omega arith)
    ]

    note_then_call : (d : ℕ) (e : Entry) (y : Mark) → In e notes → In y (marks_at journals d)
        → Ordered (note_mark e) (call_mark y)
    note_then_call d e y i j lane before = elim before [
      | inl low ↦ h.noted_before d y e (contains_in (marks_at journals d) y j) (contains_in notes e i)
          (sym lane) (omega arith)
      | inr t ↦ absurd (let a = t.0 in omega arith)
    ]

    call_then_note : (c : ℕ) (x : Mark) (f : Entry) → In x (marks_at journals c) → In f notes
        → Ordered (call_mark x) (note_mark f)
    call_then_note c x f i j lane before = elim before [
      | inl low ↦ h.noted_after c x f (contains_in (marks_at journals c) x i) (contains_in notes f j)
          lane (omega arith)
      | inr t ↦ absurd (let a = t.0 in omega arith)
    ]

    ordered : (m k : Mark) → IsEvent journals notes m → IsEvent journals notes k → Ordered m k
    ordered m k a b = elim a [
      | inl x ↦ subst (λ o. Ordered o k) x.3 (elim b [
        | inl y ↦ subst (Ordered (call_mark x.1)) y.3 (two_calls x.0 y.0 x.1 y.1 x.2 y.2)
        | inr f ↦ subst (Ordered (call_mark x.1)) f.2 (call_then_note x.0 x.1 f.0 x.2 f.1)
      ])
      | inr e ↦ subst (λ o. Ordered o k) e.2 (elim b [
        | inl y ↦ subst (Ordered (note_mark e.0)) y.3 (note_then_call y.0 e.0 y.1 e.1 y.2)
        | inr f ↦ subst (Ordered (note_mark e.0)) f.2 (two_notes e.0 f.0 e.1 f.1)
      ])
    ]

    pub of_parts : LiveHistory batch journals notes
    of_parts = record {
      each = h.each;
      stamped = subst AreAllFrom0 (sym (stamps_are journals notes)) h.stamped;
      in_order = λ m k has had. ordered m k
          (event_of journals notes m (in_contains (events journals notes) m has))
          (event_of journals notes k (in_contains (events journals notes) k had));
    }
