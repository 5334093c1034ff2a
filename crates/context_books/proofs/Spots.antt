-- A history of all contexts in which each lane's places are those that it asks for, in order.
use Rattle.std.proofs.Common.{◌≡◌, ℕ, zero, suc, ◌+◌, ◌<◌, ◌≤◌, ◌==◌, Bool, true, false, cond, List, [], ◌∷◌, length, map, sym, refl, ap, ◌∙◌, subst, arith, eq-eqb, eqb-true, Some, None, inl, inr}
use Rattle.std.specs.Prelude.{slice_get}
use Rattle.std.specs.List.{AllPairs}
use Rattle.std.proofs.lemmas.List.{map-append}
use Rattle.call_places.specs.declared.entries.Place.{Place}
use Rattle.call_places.specs.Orders.{IsBefore}
use Rattle.context_books.specs.Batches.{Ask, items_in, context_in, Spot, spots, block, asked, own_places}
use Rattle.context_books.specs.Merging.{all_asked, own_spots}
use Rattle.context_books.specs.Legal.{IsInLaneOrder}
use Rattle.context_books.proofs.Members.{In-append, in_filter, filter_in, rises-append, pairs_at}
use Rattle.context_books.specs.Lists.{In}
use Rattle.context_books.proofs.Legals.{in_block, Rises, Rises-block, lane_ordered}

abbrev pub all_places : List Spot → List Place
all_places ss = map (λ s. s.place) ss

pub own-all_places : (l : ℕ) (ss : List Spot) → own_places l (all_places ss) ≡ all_places (own_spots l ss)
own-all_places l [] = refl
own-all_places l (s ∷ ss) = step (s.place.lane == l) (own-all_places l ss)
  where
    step : (b : Bool) → own_places l (all_places ss) ≡ all_places (own_spots l ss)
        → cond b (s.place ∷ own_places l (all_places ss)) (own_places l (all_places ss)) ≡ all_places (cond b (s ∷ own_spots l ss) (own_spots l ss))
    step true h = ap (λ m. s.place ∷ m) h
    step false h = h

pub all_places-spots : (c : ℕ) (ps : List Place) → all_places (spots c ps) ≡ ps
all_places-spots c [] = refl
all_places-spots c (p ∷ ps) = ap (λ l. p ∷ l) (all_places-spots c ps)

abbrev own_block : ℕ → ℕ → Ask → List Place
own_block l call a = block l call 0 (length (items_in a))

in_asked : (l call : ℕ) (a : Ask) (p : Place) → In p (all_places (asked l call a)) → p.call ≡ call
in_asked l call a p h = (in_block p l call 0 (length (items_in a)) (subst (In p) (all_places-spots (context_in a) (own_block l call a)) h)).1

in_all_asked : (l call : ℕ) (asks : List Ask) (p : Place) → In p (all_places (all_asked l call asks)) → call ≤ p.call
in_all_asked l call [] p h = absurd h
in_all_asked l call (a ∷ asks) p h = elim (In-append p (all_places (asked l call a)) (all_places (all_asked l (call + 1) asks)) (subst (In p) (map-append (λ (s : Spot). s.place) (asked l call a) (all_asked l (call + 1) asks)) h)) [
  | inl here ↦ (let e = in_asked l call a p here in omega arith)
  | inr later ↦ (let e = in_all_asked l (call + 1) asks p later in omega arith)
]

pub rises_all : (l call : ℕ) (asks : List Ask) → Rises (all_places (all_asked l call asks))
rises_all l call [] = tt
rises_all l call (a ∷ asks) =
    subst Rises (sym (map-append (λ (s : Spot). s.place) (asked l call a) (all_asked l (call + 1) asks)))
    (rises-append IsBefore (all_places (asked l call a)) (all_places (all_asked l (call + 1) asks))
    (subst Rises (sym (all_places-spots (context_in a) (own_block l call a))) (Rises-block l call 0 (length (items_in a)))) (rises_all l (call + 1) asks)
    (λ p q i j. let e = in_asked l call a p i in let f = in_all_asked l (call + 1) asks q j in inl (omega arith)))

-- the places of a history in which each lane's are those that it asks for stand in lane order
pub history_ordered : (h : List Spot) (asks : ℕ → List Ask) → ((l : ℕ) → own_spots l h ≡ all_asked l 0 (asks l)) → AllPairs IsInLaneOrder (all_places h)
history_ordered h asks mine = lane_ordered (all_places h) (λ l. subst Rises (sym (own-all_places l h ∙ ap all_places (mine l))) (rises_all l 0 (asks l)))

place_at : (h : List Spot) (i : ℕ) (s : Spot) → slice_get h i ≡ Some s → slice_get (all_places h) i ≡ Some s.place
place_at [] i s e = absurd (let f : None ≡ Some s = e in cc)
place_at (x ∷ h) zero s e = let is : x ≡ s = (let f : Some x ≡ Some s = e in cc) in ap (λ (t : Spot). Some t.place) is
place_at (x ∷ h) (suc i) s e = place_at h i s e

pub history_in_order : (h : List Spot) (asks : ℕ → List Ask) → ((l : ℕ) → own_spots l h ≡ all_asked l 0 (asks l))
    → (i j : ℕ) (s t : Spot) → i < j → slice_get h i ≡ Some s → slice_get h j ≡ Some t → s.place.lane ≡ t.place.lane → IsBefore s.place t.place
history_in_order h asks mine i j s t low a b =
    pairs_at IsInLaneOrder (all_places h) (history_ordered h asks mine) i j s.place t.place low (place_at h i s a) (place_at h j t b)

-- ---- the places of one lane

pub own_spot : (l : ℕ) (x : Spot) (ss : List Spot) → In x (own_spots l ss) → In x ss × (x.place.lane ≡ l)
own_spot l x ss i = let k = filter_in (λ (s : Spot). s.place.lane == l) x ss i in (k.0, eqb-true x.place.lane l k.1)

pub spot_own : (l : ℕ) (x : Spot) (ss : List Spot) → In x ss → x.place.lane ≡ l → In x (own_spots l ss)
spot_own l x ss i e = in_filter (λ (s : Spot). s.place.lane == l) x ss i (eq-eqb x.place.lane l e)
