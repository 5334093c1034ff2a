-- From each lane's own places and the blocks of its openings to a legal journal.
use Rattle.std.proofs.Common.{◌≡◌, ℕ, zero, suc, ◌+◌, ◌<◌, ◌≤◌, ◌==◌, Bool, true, false, cond, List, [], ◌∷◌, length, sym, refl, ap, ◌∙◌, subst, arith, eq-eqb, eqb-true, Option, Some, None, inl, inr}
use Rattle.std.specs.Prelude.{slice_get, slice_index_or, ◌↔◌}
use Rattle.std.specs.List.{AllPairs}
use Rattle.std.proofs.lemmas.Option.{slice_get_within}
use Rattle.call_places.specs.declared.entries.Place.{Place}
use Rattle.hpke_context.specs.Answers.{Item}
use Rattle.call_places.specs.Orders.{IsBefore}
use Rattle.context_books.specs.Batches.{Batch, Ask, items_in, context_in, with_context, block, place, asked, on, own_places, lane_of, item_in, item_in_call, IsServed}
use Rattle.context_books.specs.Merging.{all_asked, lane_places, MergesLanes}
use Rattle.context_books.specs.Legal.{IsInLaneOrder, Legal}
use Rattle.context_books.proofs.Lists.{on-append, on-spots, is_cases}
use Rattle.context_books.proofs.Members.{In-left, In-right, In-append, contains_in, in_contains, got, RisesBy, rises-append, rises-filter, pairs_rise, pairs_at, one_list}
use Rattle.context_books.specs.Lists.{In}
use Rattle.context_books.proofs.Places.{in_own, own_in, own_lane, not_before, not_both}

-- ---- the places that a lane's calls ask for on a context

pub in_block : (p : Place) (l call i n : ℕ) → In p (block l call i n) → (p.lane ≡ l) × (p.call ≡ call) × (i ≤ p.item) × (p.item < i + n)
in_block p l call i zero h = absurd h
in_block p l call i (suc n) h = elim h [
  | inl e ↦ (
    sym (ap (λ (q : Place). q.lane) e),
    sym (ap (λ (q : Place). q.call) e),
    (let f : i ≡ p.item = ap (λ (q : Place). q.item) e in omega arith),
    (let f : i ≡ p.item = ap (λ (q : Place). q.item) e in omega arith),
  )
  | inr r ↦ (let t = in_block p l call (i + 1) n r in (t.0, t.1, (let a = t.2 in omega arith), (let a = t.3 in omega arith)))
]

pub block_in : (l call i n j : ℕ) → i ≤ j → j < i + n → In (place l call j) (block l call i n)
block_in l call i zero j a b = absurd (omega arith)
block_in l call i (suc n) j a b = elim (is_cases i j) [
  | inl e ↦ inl (ap (place l call) e)
  | inr ne ↦ inr (block_in l call (i + 1) n j (omega arith) (omega arith))
]

abbrev context_of : Option (ℕ × Item) → ℕ
context_of None = 0
context_of (Some x) = x.0

in_cond : (p : Place) (d c : ℕ) (ps : List Place) → In p (cond (d == c) ps []) → (d ≡ c) × In p ps
in_cond p d c ps h = step (d == c) refl h
  where
    step : (b : Bool) → (d == c) ≡ b → In p (cond b ps []) → (d ≡ c) × In p ps
    step true e i = (eqb-true d c e, i)
    step false e i = absurd i

item_within : (d c : ℕ) (xs : List Item) (i : ℕ) (x : Item) (o : Option Item) → slice_get xs i ≡ o → with_context d o ≡ Some (c, x) → (d ≡ c) × (i < length xs)
item_within d c xs i x None is e = absurd (let f : None ≡ Some (c, x) = e in cc)
item_within d c xs i x (Some y) is e = (ap context_of e, slice_get_within xs i y is)

asked_item : (c l call : ℕ) (a : Ask) (p : Place) → In p (on c (asked l call a)) → (p.lane ≡ l) × (p.call ≡ call) × ((x : Item) × (item_in a p.item ≡ Some (c, x)))
asked_item c l call a p h =
    let n = length (items_in a) in
    let t = in_cond p (context_in a) c (block l call 0 n) (subst (In p) (on-spots c (context_in a) (block l call 0 n)) h) in
    let b = in_block p l call 0 n t.1 in
    let x = got (items_in a) p.item (let u = b.3 in omega arith) in
    (b.0, b.1, (x.0, ap (with_context (context_in a)) x.1 ∙ ap (λ k. Some (k, x.0)) t.0))

item_asked : (c l call : ℕ) (a : Ask) (i : ℕ) (x : Item) → item_in a i ≡ Some (c, x) → In (place l call i) (on c (asked l call a))
item_asked c l call a i x e =
    let n = length (items_in a) in
    let t = item_within (context_in a) c (items_in a) i x (slice_get (items_in a) i) refl e in
    subst (In (place l call i)) (sym (on-spots c (context_in a) (block l call 0 n) ∙ ap (λ b. cond b (block l call 0 n) []) (eq-eqb (context_in a) c t.0)))
    (block_in l call 0 n i (omega arith) (let b = t.1 in omega arith))

pub all_asked_item : (c l call : ℕ) (asks : List Ask) (p : Place) → In p (on c (all_asked l call asks))
    → (p.lane ≡ l) × (i : ℕ) × (p.call ≡ call + i) × ((x : Item) × (item_in_call (slice_get asks i) p.item ≡ Some (c, x)))
all_asked_item c l call [] p h = absurd h
all_asked_item c l call (a ∷ asks) p h = elim (In-append p (on c (asked l call a)) (on c (all_asked l (call + 1) asks)) (subst (In p) (on-append c (asked l call a) (all_asked l (call + 1) asks)) h)) [
  | inl here ↦ (let t = asked_item c l call a p here in (t.0, 0, (let e = t.1 in omega arith), t.2))
  | inr later ↦ (let t = all_asked_item c l (call + 1) asks p later in (t.0, suc t.1, (let j : ℕ = t.1 in let e : p.call ≡ call + 1 + j = t.2 in omega arith), t.3))
]

pub item_all_asked : (c l call : ℕ) (asks : List Ask) (i j : ℕ) (x : Item) → item_in_call (slice_get asks i) j ≡ Some (c, x) → In (place l (call + i) j) (on c (all_asked l call asks))
item_all_asked c l call [] i j x e = absurd (let f : None ≡ Some (c, x) = e in cc)
item_all_asked c l call (a ∷ asks) zero j x e =
    subst (In (place l (call + 0) j)) (sym (on-append c (asked l call a) (all_asked l (call + 1) asks)))
    (In-left (place l (call + 0) j) (on c (asked l call a)) (on c (all_asked l (call + 1) asks))
    (subst (λ k. In (place l k j) (on c (asked l call a))) (let s : call ≡ call + 0 = omega arith in s) (item_asked c l call a j x e)))
item_all_asked c l call (a ∷ asks) (suc i) j x e =
    subst (In (place l (call + suc i) j)) (sym (on-append c (asked l call a) (all_asked l (call + 1) asks)))
    (In-right (place l (call + suc i) j) (on c (asked l call a)) (on c (all_asked l (call + 1) asks))
    (subst (λ k. In (place l k j) (on c (all_asked l (call + 1) asks))) (let s : call + 1 + i ≡ call + suc i = omega arith in s) (item_all_asked c l (call + 1) asks i j x e)))

-- ---- they rise

abbrev pub Rises : List Place → Type 0
Rises ps = RisesBy IsBefore ps

pub Rises-block : (l call i n : ℕ) → Rises (block l call i n)
Rises-block l call i zero = tt
Rises-block l call i (suc n) = (λ q h. let t = in_block q l call (i + 1) n h in inr (sym t.1, (let a = t.2 in omega arith)), Rises-block l call (i + 1) n)

Rises-cond : (b : Bool) (ps : List Place) → Rises ps → Rises (cond b ps [])
Rises-cond true ps r = r
Rises-cond false ps r = tt

Rises-asked : (c l call : ℕ) (a : Ask) → Rises (on c (asked l call a))
Rises-asked c l call a =
    let places = block l call 0 (length (items_in a)) in
    subst Rises (sym (on-spots c (context_in a) places)) (Rises-cond (context_in a == c) places (Rises-block l call 0 (length (items_in a))))

pub Rises-all_asked : (c l call : ℕ) (asks : List Ask) → Rises (on c (all_asked l call asks))
Rises-all_asked c l call [] = tt
Rises-all_asked c l call (a ∷ asks) =
    subst Rises (sym (on-append c (asked l call a) (all_asked l (call + 1) asks)))
    (rises-append IsBefore (on c (asked l call a)) (on c (all_asked l (call + 1) asks)) (Rises-asked c l call a) (Rises-all_asked c l (call + 1) asks)
    (λ p q i j. let t = asked_item c l call a p i in let u = all_asked_item c l (call + 1) asks q j in inl (let e = t.1 in let k : ℕ = u.1 in let f : q.call ≡ call + 1 + k = u.2 in omega arith)))

-- ---- a journal of which each lane's part rises is in lane order

Rises-tail : (b : Bool) (p : Place) (ps : List Place) → Rises (cond b (p ∷ ps) ps) → Rises ps
Rises-tail true p ps r = r.1
Rises-tail false p ps r = r

pub lane_ordered : (xs : List Place) → ((l : ℕ) → Rises (own_places l xs)) → AllPairs IsInLaneOrder xs
lane_ordered xs r = pairs_rise IsInLaneOrder xs (rises xs r)
  where
    rises : (xs : List Place) → ((l : ℕ) → Rises (own_places l xs)) → RisesBy IsInLaneOrder xs
    rises [] r = tt
    rises (x ∷ xs) r = (
      λ q i same.
          let mine : Rises (x ∷ own_places x.lane xs) = subst (λ b. Rises (cond b (x ∷ own_places x.lane xs) (own_places x.lane xs))) (eq-eqb x.lane x.lane refl) (r x.lane) in
          mine.0 q (subst (λ l. In q (own_places l xs)) (sym same) (in_own q xs i)),
      rises xs (λ l. Rises-tail (x.lane == l) x (own_places l xs) (r l)),
    )

-- ---- places that are asked for, and places that are served

pub asked_served : (batch : Batch) (c l : ℕ) (p : Place) → In p (lane_places c l (lane_of batch l)) → (p.lane ≡ l) × IsServed batch c p
asked_served batch c l p i =
    let a = all_asked_item c l 0 (lane_of batch l) p i in
    let n : ℕ = a.1 in
    let at : p.call ≡ 0 + n = a.2 in
    let call : n ≡ p.call = omega arith in
    (a.0, (a.3.0, ap (λ k. item_in_call (slice_get (lane_of batch k) p.call) p.item) a.0 ∙ ap (λ k. item_in_call (slice_get (lane_of batch l) k) p.item) (sym call) ∙ a.3.1))

pub served_asked : (batch : Batch) (c : ℕ) (p : Place) → IsServed batch c p → In p (lane_places c p.lane (lane_of batch p.lane))
served_asked batch c p x =
    subst (λ k. In (place p.lane k p.item) (lane_places c p.lane (lane_of batch p.lane))) (let s : 0 + p.call ≡ p.call = omega arith in s)
    (item_all_asked c p.lane 0 (lane_of batch p.lane) p.call p.item x.0 x.1)

-- ---- merged lanes are legal, and the other way round

pub legal : (batch : Batch) (c : ℕ) (journal : List Place) → MergesLanes batch c journal → Legal batch c journal
legal batch c journal g =
    let ordered : AllPairs IsInLaneOrder journal = lane_ordered journal (λ l. subst Rises (sym (g.lanes l)) (Rises-all_asked c l 0 (lane_of batch l))) in
    record {
      served = λ p. (
        λ has. (asked_served batch c p.lane p (subst (In p) (g.lanes p.lane) (in_own p journal (in_contains journal p has)))).1,
        λ is. contains_in journal p (own_in p.lane p journal (subst (In p) (sym (g.lanes p.lane)) (served_asked batch c p is))),
      );
      once = λ i j d a b same. let o = ordered i j d a b (ap (λ (q : Place). q.lane) same) in not_before (slice_index_or journal i d) (subst (IsBefore (slice_index_or journal i d)) (sym same) o);
      in_order = ordered;
      together = g.together;
    }

own_rises : (l : ℕ) (xs : List Place) → AllPairs IsInLaneOrder xs → Rises (own_places l xs)
own_rises l xs t =
    rises-filter IsBefore (λ (q : Place). q.lane == l) xs
    (λ i j x y low a b e f. pairs_at IsInLaneOrder xs t i j x y low a b (eqb-true x.lane l e ∙ sym (eqb-true y.lane l f)))

pub lane_is : (batch : Batch) (c : ℕ) (journal : List Place) → Legal batch c journal → (l : ℕ) → own_places l journal ≡ lane_places c l (lane_of batch l)
lane_is batch c journal t l =
    one_list IsBefore not_both (own_places l journal) (lane_places c l (lane_of batch l)) (own_rises l journal t.in_order) (Rises-all_asked c l 0 (lane_of batch l))
    (λ p i. subst (λ k. In p (lane_places c k (lane_of batch k))) (own_lane l p journal i) (served_asked batch c p ((t.served p).0 (contains_in journal p (own_in l p journal i)))))
    (λ p i. let a = asked_served batch c l p i in subst (λ k. In p (own_places k journal)) a.0 (in_own p journal (in_contains journal p ((t.served p).1 a.1))))

pub merged : (batch : Batch) (c : ℕ) (journal : List Place) → Legal batch c journal ↔ MergesLanes batch c journal
merged batch c journal = (λ t. record { lanes = lane_is batch c journal t; together = t.together }, legal batch c journal)
