-- Lists of places and spots: the part of one lane, the part on one context.
use Rattle.std.proofs.Common.{◌≡◌, ◌≢◌, ℕ, zero, suc, ◌+◌, ◌==◌, Bool, true, false, cond, List, [], ◌∷◌, ◌++◌, length, sym, refl, ap, ◌∙◌, arith, append_assoc, eq-eqb, ne_eqb}
use Rattle.std.proofs.lemmas.List.Elements.{filter-append}
use Rattle.call_places.specs.declared.entries.Place.{Place}
use Rattle.context_books.specs.Batches.{Ask, items_in, context_in, Spot, spots, block, place, asked, on, own_places}
use Rattle.context_books.specs.Merging.{all_asked, own_spots}

pub own_places-append : (l : ℕ) (xs ys : List Place) → own_places l (xs ++ ys) ≡ own_places l xs ++ own_places l ys
own_places-append l xs ys = filter-append (λ p. p.lane == l) xs ys

pub own_spots-append : (l : ℕ) (xs ys : List Spot) → own_spots l (xs ++ ys) ≡ own_spots l xs ++ own_spots l ys
own_spots-append l xs ys = filter-append (λ s. s.place.lane == l) xs ys

pub on-append : (c : ℕ) (xs ys : List Spot) → on c (xs ++ ys) ≡ on c xs ++ on c ys
on-append c [] ys = refl
on-append c (x ∷ xs) ys = step (x.context == c) (on-append c xs ys)
  where
    step : (b : Bool) → on c (xs ++ ys) ≡ on c xs ++ on c ys → cond b (x.place ∷ on c (xs ++ ys)) (on c (xs ++ ys)) ≡ cond b (x.place ∷ on c xs) (on c xs) ++ on c ys
    step true h = ap (λ l. x.place ∷ l) h
    step false h = h

pub on-spots : (c d : ℕ) (ps : List Place) → on c (spots d ps) ≡ cond (d == c) ps []
on-spots c d [] = step (d == c) []
  where
    step : (b : Bool) (none : List Place) → none ≡ cond b none none
    step true none = refl
    step false none = refl
on-spots c d (p ∷ ps) = step (d == c) (on-spots c d ps)
  where
    step : (b : Bool) → on c (spots d ps) ≡ cond b ps [] → cond b (p ∷ on c (spots d ps)) (on c (spots d ps)) ≡ cond b (p ∷ ps) []
    step true h = ap (λ l. p ∷ l) h
    step false h = h

pub on-spots_same : (c : ℕ) (ps : List Place) → on c (spots c ps) ≡ ps
on-spots_same c ps = on-spots c c ps ∙ ap (λ b. cond b ps []) (eq-eqb c c refl)

pub own_places-on : (l c : ℕ) (ss : List Spot) → own_places l (on c ss) ≡ on c (own_spots l ss)
own_places-on l c [] = refl
own_places-on l c (s ∷ ss) = step (s.context == c) (s.place.lane == l) refl refl (own_places-on l c ss)
  where
    step : (b d : Bool) → (s.context == c) ≡ b → (s.place.lane == l) ≡ d → own_places l (on c ss) ≡ on c (own_spots l ss)
        → own_places l (cond b (s.place ∷ on c ss) (on c ss)) ≡ on c (cond d (s ∷ own_spots l ss) (own_spots l ss))
    step true true e f h = ap (λ t. cond t (s.place ∷ own_places l (on c ss)) (own_places l (on c ss))) f ∙ ap (λ m. s.place ∷ m) h ∙ sym (ap (λ t. cond t (s.place ∷ on c (own_spots l ss)) (on c (own_spots l ss))) e)
    step true false e f h = ap (λ t. cond t (s.place ∷ own_places l (on c ss)) (own_places l (on c ss))) f ∙ h
    step false true e f h = h ∙ sym (ap (λ t. cond t (s.place ∷ on c (own_spots l ss)) (on c (own_spots l ss))) e)
    step false false e f h = h

pub own_spots-block : (l c call i n : ℕ) → own_spots l (spots c (block l call i n)) ≡ spots c (block l call i n)
own_spots-block l c call i zero = refl
own_spots-block l c call i (suc n) =
    let s : Spot = record { context = c; place = place l call i } in
    let rest = spots c (block l call (i + 1) n) in
    ap (λ b. cond b (s ∷ own_spots l rest) (own_spots l rest)) (eq-eqb l l refl) ∙ ap (λ m. s ∷ m) (own_spots-block l c call (i + 1) n)

pub own_spots-block_other : (k l c call i n : ℕ) → l ≢ k → own_spots k (spots c (block l call i n)) ≡ []
own_spots-block_other k l c call i zero ne = refl
own_spots-block_other k l c call i (suc n) ne =
    let s : Spot = record { context = c; place = place l call i } in
    let rest = spots c (block l call (i + 1) n) in
    ap (λ b. cond b (s ∷ own_spots k rest) (own_spots k rest)) (ne_eqb l k ne) ∙ own_spots-block_other k l c call (i + 1) n ne

pub own_spots-asked : (l call : ℕ) (a : Ask) → own_spots l (asked l call a) ≡ asked l call a
own_spots-asked l call a = own_spots-block l (context_in a) call 0 (length (items_in a))

pub own_spots-asked_other : (k l call : ℕ) (a : Ask) → l ≢ k → own_spots k (asked l call a) ≡ []
own_spots-asked_other k l call a ne = own_spots-block_other k l (context_in a) call 0 (length (items_in a)) ne

pub append-nil : {X : Type 0} (xs : List X) → xs ++ [] ≡ xs
append-nil [] = refl
append-nil (x ∷ xs) = ap (λ l. x ∷ l) (append-nil xs)

pub all_asked-append : (l call : ℕ) (xs ys : List Ask) → all_asked l call (xs ++ ys) ≡ all_asked l call xs ++ all_asked l (call + length xs) ys
all_asked-append l call [] ys = ap (λ k. all_asked l k ys) (let e : call ≡ call + 0 = omega arith in e)
all_asked-append l call (a ∷ xs) ys =
    ap (λ m. asked l call a ++ m) (all_asked-append l (call + 1) xs ys ∙ ap (λ k. all_asked l (call + 1) xs ++ all_asked l k ys) (let e : call + 1 + length xs ≡ call + suc (length xs) = omega arith in e))
    ∙ sym (append_assoc (asked l call a) (all_asked l (call + 1) xs) (all_asked l (call + suc (length xs)) ys))

-- a lane's spots are its own
pub own_spots-all_asked : (l call : ℕ) (asks : List Ask) → own_spots l (all_asked l call asks) ≡ all_asked l call asks
own_spots-all_asked l call [] = refl
own_spots-all_asked l call (a ∷ asks) =
    own_spots-append l (asked l call a) (all_asked l (call + 1) asks)
    ∙ ap (λ m. m ++ own_spots l (all_asked l (call + 1) asks)) (own_spots-asked l call a)
    ∙ ap (λ m. asked l call a ++ m) (own_spots-all_asked l (call + 1) asks)

pub own_spots-all_asked_other : (k l call : ℕ) (asks : List Ask) → l ≢ k → own_spots k (all_asked l call asks) ≡ []
own_spots-all_asked_other k l call [] ne = refl
own_spots-all_asked_other k l call (a ∷ asks) ne =
    own_spots-append k (asked l call a) (all_asked l (call + 1) asks)
    ∙ ap (λ m. m ++ own_spots k (all_asked l (call + 1) asks)) (own_spots-asked_other k l call a ne)
    ∙ own_spots-all_asked_other k l (call + 1) asks ne

pub is_cases : (i j : ℕ) → Rattle.std.specs.Prelude.◌⊎◌ (i ≡ j) (i ≢ j)
is_cases i j = Rattle.std.proofs.lemmas.Bool.cases_eq i j
