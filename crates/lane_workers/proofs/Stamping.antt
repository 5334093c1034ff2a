-- A lane on its way: what one more call adds to what the lane shows of its stamps.
use Rattle.std.proofs.Common.{◌≡◌, ℕ, suc, ◌+◌, ◌<◌, ◌≤◌, ◌==◌, Bool, true, false, cond, List, [], ◌∷◌, ◌++◌, length, sym, refl, ap, ◌∙◌, subst, arith, ◌⊎◌, inl, inr}
use Rattle.call_places.specs.declared.entries.Place.{Place}
use Rattle.call_places.specs.declared.entries.Step.{Step}
use Rattle.call_places.specs.declared.entries.Entry.{Entry}
use Rattle.call_places.specs.Entries.{own}
use Rattle.call_places.specs.Orders.{IsBefore}
use Rattle.context_books.specs.Batches.{Ask, context_in, place}
use Rattle.context_books.specs.Entries.{entries_from}
use Rattle.context_books.proofs.Lists.{append-nil}
use Rattle.context_books.proofs.Members.{In-append, in_contains}
use Rattle.context_books.specs.Lists.{In}
use Rattle.context_books.proofs.EntryNumbers.{places_from}
use Rattle.lane_workers.specs.Showing.{StampsInOrder}
use Rattle.lane_workers.proofs.ShowingEntries.{own-append}
use Rattle.lane_workers.proofs.ShowingCalls.{own_of_block}
use Rattle.lane_workers.specs.OnTheWay.{StampsAre}

pub stamps_fresh : (lane : ℕ) → StampsAre lane 0 (λ c. []) 0
stamps_fresh lane = record {
  calls_below = λ c e i. absurd i;
  below = λ c e i. absurd i;
  in_order = λ c d e f i j before. absurd i;
}

-- entries of others change nothing
pub stamps_wait : (lane calls : ℕ) (seen others : ℕ → List Entry) (low : ℕ) → ((c : ℕ) → own lane (others c) ≡ []) → StampsAre lane calls seen low
    → StampsAre lane calls (λ c. seen c ++ others c) low
stamps_wait lane calls seen others low none t =
    let same = λ (c : ℕ). own-append lane (seen c) (others c) ∙ ap (λ es. own lane (seen c) ++ es) (none c) ∙ append-nil (own lane (seen c)) in
    record {
      calls_below = λ c e i. t.calls_below c e (subst (In e) (same c) i);
      below = λ c e i. t.below c e (subst (In e) (same c) i);
      in_order = λ c d e f i j. t.in_order c d e f (subst (In e) (same c) i) (subst (In f) (same d) j);
    }

-- ---- the entries that a call adds

added_in : (lane call i s : ℕ) (steps : List Step) (e : Entry) → In e (entries_from lane call i s steps)
    → (k : ℕ) × (k < length steps) × (e.place ≡ place lane call (i + k)) × (e.stamp ≡ s + k)
added_in lane call i s [] e h = absurd h
added_in lane call i s (x ∷ steps) e h = elim h [
  | inl is ↦ (0, omega arith, ap (λ (y : Entry). y.place) (sym is) ∙ ap (place lane call) (let z : i ≡ i + 0 = omega arith in z), ap (λ (y : Entry). y.stamp) (sym is) ∙ (let z : s ≡ s + 0 = omega arith in z))
  | inr later ↦
      (let t = added_in lane call (i + 1) (s + 1) steps e later in
      let k : ℕ = t.0 in
      (suc k, (let low : k < length steps = t.1 in omega arith), t.2 ∙ ap (place lane call) (let z : i + 1 + k ≡ i + suc k = omega arith in z), t.3 ∙ (let z : s + 1 + k ≡ s + suc k = omega arith in z)))
]

-- what a call adds in each context: its entries in its own, nothing in another one
abbrev pub added_to : ℕ → Ask → ℕ → ℕ → List Step → ℕ → List Entry
added_to lane a call first steps c = cond (context_in a == c) (entries_from lane call 0 first steps) []

module _ (lane calls : ℕ) (seen : ℕ → List Entry) (low : ℕ) (a : Ask) (first : ℕ) (steps : List Step) (enough : low ≤ first) (t : StampsAre lane calls seen low) where
  abbrev added : ℕ → List Entry
  added c = added_to lane a calls first steps c

  own_added : (c : ℕ) → own lane (added c) ≡ added c
  own_added c = step (context_in a == c)
    where
      step : (b : Bool) → own lane (cond b (entries_from lane calls 0 first steps) []) ≡ cond b (entries_from lane calls 0 first steps) []
      step true = own_of_block lane calls 0 (length steps) (entries_from lane calls 0 first steps) (places_from lane calls 0 first steps)
      step false = refl

  -- an own entry is an earlier one, or one of this call
  which : (c : ℕ) (e : Entry) → In e (own lane (seen c ++ added c)) → In e (own lane (seen c)) ⊎ In e (entries_from lane calls 0 first steps)
  which c e i = elim (In-append e (own lane (seen c)) (added c) (subst (In e) (own-append lane (seen c) (added c) ∙ ap (λ es. own lane (seen c) ++ es) (own_added c)) i)) [
    | inl old ↦ inl old
    | inr new ↦ inr (step (context_in a == c) new)
  ]
    where
      step : (b : Bool) → In e (cond b (entries_from lane calls 0 first steps) []) → In e (entries_from lane calls 0 first steps)
      step true j = j
      step false j = absurd j

  ordered : (c d : ℕ) (e f : Entry) → In e (own lane (seen c ++ added c)) → In f (own lane (seen d ++ added d)) → IsBefore e.place f.place → e.stamp < f.stamp
  ordered c d e f i j before = elim (which c e i) [
    | inl old_e ↦ elim (which d f j) [
      | inl old_f ↦ t.in_order c d e f old_e old_f before
      | inr new_f ↦ (let v = added_in lane calls 0 first steps f new_f in let b = t.below c e old_e in let s = v.3 in omega arith)
    ]
    | inr new_e ↦ (let u = added_in lane calls 0 first steps e new_e in
        let call : e.place.call ≡ calls = ap (λ (p : Place). p.call) u.2 in
        let item : e.place.item ≡ 0 + u.0 = ap (λ (p : Place). p.item) u.2 in
        let se = u.3 in
        elim (which d f j) [
          | inl old_f ↦ absurd (let b = t.calls_below d f old_f in elim before [ inl x ↦ absurd (omega arith) | inr x ↦ (let y = x.0 in absurd (omega arith)) ])
          | inr new_f ↦ (let v = added_in lane calls 0 first steps f new_f in
              let call_f : f.place.call ≡ calls = ap (λ (p : Place). p.call) v.2 in
              let item_f : f.place.item ≡ 0 + v.0 = ap (λ (p : Place). p.item) v.2 in
              let sf = v.3 in
              elim before [ inl x ↦ absurd (omega arith) | inr x ↦ (let y = x.1 in omega arith) ])
        ])
  ]

  -- one more call, whose first stamp is no lower than this one
  pub stamps_call : StampsAre lane (calls + 1) (λ c. seen c ++ added_to lane a calls first steps c) (first + length steps)
  stamps_call = record {
    calls_below = λ c e i. elim (which c e i) [
      | inl old ↦ (let b = t.calls_below c e old in omega arith)
      | inr new ↦ (let u = added_in lane calls 0 first steps e new in let call : e.place.call ≡ calls = ap (λ (p : Place). p.call) u.2 in omega arith)
    ];
    below = λ c e i. elim (which c e i) [
      | inl old ↦ (let b = t.below c e old in omega arith)
      | inr new ↦ (let u = added_in lane calls 0 first steps e new in let s = u.3 in let k = u.1 in omega arith)
    ];
    in_order = ordered;
  }

-- once all calls are made
pub stamps_show : (lane calls : ℕ) (seen : ℕ → List Entry) (low : ℕ) → StampsAre lane calls seen low → StampsInOrder lane seen
stamps_show lane calls seen low t = λ c d e f i j. t.in_order c d e f (in_contains (own lane (seen c)) e i) (in_contains (own lane (seen d)) f j)
