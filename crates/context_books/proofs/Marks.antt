-- Marks of one journal: from a legal history to each of its journals.
use Rattle.std.proofs.Common.{◌≡◌, ℕ, zero, suc, ◌+◌, ◌<◌, ◌≤◌, List, [], ◌∷◌, ◌++◌, length, sym, refl, ap, ◌∙◌, subst, arith, Some, None, inl, inr}
use Rattle.std.specs.Prelude.{slice_get, slice_index_or, Contains}
use Rattle.std.proofs.lemmas.List.{length-map}
use Rattle.call_places.specs.declared.entries.Place.{Place}
use Rattle.call_places.specs.declared.entries.Mark.{Mark}
use Rattle.call_places.specs.Orders.{IsBefore}
use Rattle.context_books.specs.Batches.{Batch, block, place}
use Rattle.context_books.specs.Legal.{StandTogether, Legal}
use Rattle.context_books.specs.Histories.{mark, places, marks_at, HasLowerStamp, LegalMarks, LegalHistory}
use Rattle.context_books.proofs.Members.{in_contains, got, value_at, contains_at, RisesBy, rises_pairs, pairs_at}
use Rattle.context_books.specs.Lists.{In}
use Rattle.context_books.proofs.Places.{either_before}

-- ---- marks by their index

pub place_at : (ms : List Mark) (i : ℕ) (m : Mark) → slice_get ms i ≡ Some m → slice_get (places ms) i ≡ Some m.place
place_at [] i m e = absurd (let f : None ≡ Some m = e in cc)
place_at (k ∷ ms) zero m e = ap (λ (x : Mark). Some x.place) (let f : Some k ≡ Some m = e in let g : k ≡ m = cc in g)
place_at (k ∷ ms) (suc i) m e = place_at ms i m e

-- ---- each journal of a legal history is legal

abbrev pub Rising : List Mark → Type 0
Rising ms = RisesBy HasLowerStamp ms

-- these marks of consecutive items have consecutive stamps
abbrev HasBlock : List Mark → ℕ → ℕ → ℕ → ℕ → ℕ → Type 0
HasBlock ms lane call item n first = (i : ℕ) → i < n → In (mark (place lane call (item + i)) (first + i)) ms

at_front : (ms : List Mark) (lane call item n first : ℕ) → Rising ms → ((k : Mark) → In k ms → first ≤ k.stamp) → HasBlock ms lane call item n first
    → (after : List Place) × (places ms ≡ block lane call item n ++ after)
at_front ms lane call item zero first r low h = (places ms, refl)
at_front [] lane call item (suc n) first r low h = absurd (h 0 (omega arith))
at_front (m ∷ ms) lane call item (suc n) first r low h =
    let least : first ≤ m.stamp = low m (inl refl) in
    let head : m ≡ mark (place lane call (item + 0)) (first + 0) =
    elim (h 0 (omega arith)) [ inl e ↦ e | inr later ↦ absurd (let f : m.stamp < first + 0 = r.0 (mark (place lane call (item + 0)) (first + 0)) later in omega arith) ] in
    let stamp : m.stamp ≡ first + 0 = ap (λ (x : Mark). x.stamp) head in
    let rest : HasBlock ms lane call (item + 1) n (first + 1) = λ i few. (
    elim (h (suc i) (omega arith)) [
      | inl e ↦ absurd (let f : m.stamp ≡ first + suc i = ap (λ (x : Mark). x.stamp) e in omega arith)
      | inr later ↦ subst (λ k. In (mark (place lane call k) (first + 1 + i)) ms) (let e : item + suc i ≡ item + 1 + i = omega arith in e)
          (subst (λ k. In (mark (place lane call (item + suc i)) k) ms) (let e : first + suc i ≡ first + 1 + i = omega arith in e) later)
    ]) in
    let t = at_front ms lane call (item + 1) n (first + 1) r.1 (λ k i. let f : m.stamp < k.stamp = r.0 k i in omega arith) rest in
    (t.0, (λ i. (ap (λ (x : Mark). x.place) head ∙ ap (place lane call) (let e : item + 0 ≡ item = omega arith in e)) i ∷ t.1 i))

stand_together : (ms : List Mark) (lane call n first : ℕ) → Rising ms → HasBlock ms lane call 0 n first → StandTogether (places ms) (block lane call 0 n)
stand_together ms lane call zero first r h = ([], places ms, refl)
stand_together [] lane call (suc n) first r h = absurd (h 0 (omega arith))
stand_together (m ∷ ms) lane call (suc n) first r h = elim (h 0 (omega arith)) [
  | inl e ↦ (let s : m.stamp ≡ first + 0 = ap (λ (x : Mark). x.stamp) e in
      let t = at_front (m ∷ ms) lane call 0 (suc n) first r (λ k i. elim i [
        | inl same ↦ (let f : m.stamp ≡ k.stamp = ap (λ (x : Mark). x.stamp) same in omega arith)
        | inr later ↦ (let f : m.stamp < k.stamp = r.0 k later in omega arith)
      ]) h in ([], t.0, t.1))
  | inr later ↦ (let low : m.stamp < first + 0 = r.0 (mark (place lane call (0 + 0)) (first + 0)) later in
      let t = stand_together ms lane call (suc n) first r.1 (λ i few. elim (h i few) [
        | inl e ↦ absurd (let s : m.stamp ≡ first + i = ap (λ (x : Mark). x.stamp) e in omega arith)
        | inr more ↦ more
      ]) in (m.place ∷ t.0, t.1, ap (λ ps. m.place ∷ ps) t.2))
]

-- what is legal of the marks of one context is legal of their places
pub marks_alone : (batch : Batch) (context : ℕ) (ms : List Mark) → LegalMarks batch context ms
    → ((m k : Mark) → Contains ms m → Contains ms k → m.place.lane ≡ k.place.lane → IsBefore m.place k.place → HasLowerStamp m k)
    → Legal batch context (places ms)
marks_alone batch context ms here order =
    record {
      served = here.served;
      once = here.once;
      in_order = λ i j d low few lane.
          let size : length (places ms) ≡ length ms = length-map ms (λ (m : Mark). m.place) in
          let m = got ms i (omega arith) in
          let k = got ms j (omega arith) in
          let p : slice_index_or (places ms) i d ≡ m.0.place = value_at (places ms) i m.0.place d (place_at ms i m.0 m.1) in
          let q : slice_index_or (places ms) j d ≡ k.0.place = value_at (places ms) j k.0.place d (place_at ms j k.0 k.1) in
          let up : m.0.stamp < k.0.stamp = pairs_at HasLowerStamp ms here.rise i j m.0 k.0 low m.1 k.1 in
          let same : m.0.place.lane ≡ k.0.place.lane = sym (ap (λ (x : Place). x.lane) p) ∙ lane ∙ ap (λ (x : Place). x.lane) q in
          let before : IsBefore m.0.place k.0.place = elim (either_before m.0.place k.0.place same) [
            | inr e ↦ absurd (here.once i j d low few (p ∙ e ∙ sym q))
            | inl o ↦ elim o [
              | inl b ↦ b
              | inr b ↦ absurd (let f : k.0.stamp < m.0.stamp = order k.0 m.0 (contains_at ms j k.0 k.1) (contains_at ms i m.0 m.1) (sym same) b in omega arith)
            ]
          ] in
          subst (λ x. IsBefore x (slice_index_or (places ms) j d)) (sym p) (subst (IsBefore m.0.place) (sym q) before);
      together = λ lane call n o.
          let c = here.together lane call n o in
          stand_together ms lane call n c.0 (rises_pairs HasLowerStamp ms here.rise)
          (λ i few. subst (λ k. In (mark (place lane call k) (c.0 + i)) ms) (let e : i ≡ 0 + i = omega arith in e) (in_contains ms (mark (place lane call i) (c.0 + i)) (c.1 i few)));
    }

pub legal_alone : (batch : Batch) (journals : List (List Mark)) (context : ℕ) → LegalHistory batch journals → Legal batch context (places (marks_at journals context))
legal_alone batch journals context t =
    marks_alone batch context (marks_at journals context) (t.each context) (t.in_order context context)
