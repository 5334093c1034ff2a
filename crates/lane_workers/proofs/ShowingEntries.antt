-- The entries of one lane in a list of entries, and the block of a call.
use Rattle.std.proofs.Common.{◌≡◌, ℕ, zero, suc, ◌+◌, ◌<◌, ◌==◌, Bool, true, false, cond, List, [], ◌∷◌, ◌++◌, length, map, sym, refl, ap, ◌∙◌, subst, arith, length-append, eq-eqb, inl, inr}
use Rattle.std.proofs.lemmas.List.{nil_from_length, map-append}
use Rattle.std.proofs.lemmas.List.Elements.{filter-append}
use Rattle.call_places.specs.declared.entries.Mark.{Mark}
use Rattle.call_places.specs.declared.entries.Step.{Step}
use Rattle.call_places.specs.declared.entries.Entry.{Entry}
use Rattle.call_places.specs.Entries.{own, mark_of}
use Rattle.hpke_context.specs.Answers.{Cipher, Item}
use Rattle.context_books.specs.Batches.{block, place, own_places}
use Rattle.context_books.specs.Histories.{mark, entry_places}
use Rattle.context_books.specs.Entries.{entries_from, steps_from, number_after}
use Rattle.context_books.proofs.Members.{In-left, In-right, in_filter, filter_in}
use Rattle.context_books.specs.Lists.{In, EachFrom}
use Rattle.context_books.proofs.EntryNumbers.{places_from, length-steps_from}
use Rattle.lane_workers.specs.OnTheWay.{OfLane}

-- ---- one lane

pub own-append : (l : ℕ) (xs ys : List Entry) → own l (xs ++ ys) ≡ own l xs ++ own l ys
own-append l xs ys = filter-append (λ e. e.place.lane == l) xs ys

pub in_own : (l : ℕ) (e : Entry) (es : List Entry) → In e es → e.place.lane ≡ l → In e (own l es)
in_own l e es i is = in_filter (λ (x : Entry). x.place.lane == l) e es i (eq-eqb e.place.lane l is)

pub own_in : (l : ℕ) (e : Entry) (es : List Entry) → In e (own l es) → In e es
own_in l e es i = (filter_in (λ (x : Entry). x.place.lane == l) e es i).0

pub own_places-entries : (l : ℕ) (es : List Entry) → own_places l (entry_places es) ≡ entry_places (own l es)
own_places-entries l [] = refl
own_places-entries l (e ∷ es) = step (e.place.lane == l) (own_places-entries l es)
  where
    step : (b : Bool) → own_places l (entry_places es) ≡ entry_places (own l es)
        → cond b (e.place ∷ own_places l (entry_places es)) (own_places l (entry_places es)) ≡ entry_places (cond b (e ∷ own l es) (own l es))
    step true h = ap (λ m. e.place ∷ m) h
    step false h = h

-- behind all entries of a lane there are none of it
pub rest_none : (l : ℕ) (xs ys : List Entry) → own l xs ≡ own l (xs ++ ys) → own l ys ≡ []
rest_none l xs ys e =
    nil_from_length (own l ys)
    (let a : length (own l xs) ≡ length (own l (xs ++ ys)) = ap length e in
    let b : length (own l (xs ++ ys)) ≡ length (own l xs) + length (own l ys) = ap length (own-append l xs ys) ∙ length-append (own l xs) (own l ys) in
    omega arith)

-- ---- what holds of a lane's entries, in a longer list

none_here : (l : ℕ) (e : Entry) (es : List Entry) → own l (e ∷ es) ≡ [] → e.place.lane ≡ l → ⊥
none_here l e es none is = subst (In e) none (in_own l e (e ∷ es) (inl refl) is)

none_later : (l : ℕ) (e : Entry) (es : List Entry) → own l (e ∷ es) ≡ [] → own l es ≡ []
none_later l e es none = step (e.place.lane == l) none
  where
    step : (b : Bool) → cond b (e ∷ own l es) (own l es) ≡ [] → own l es ≡ []
    step true f = absurd (let g : e ∷ own l es ≡ [] = f in cc)
    step false f = f

module _ (P : ℕ → Entry → Type 0) (l : ℕ) where
  pub each_none : (n : ℕ) (es : List Entry) → own l es ≡ [] → EachFrom (OfLane l P) n es
  each_none n [] none = tt
  each_none n (e ∷ es) none = (λ is. absurd (none_here l e es none is), each_none (number_after n e.step) es (none_later l e es none))

  pub each_longer : (n : ℕ) (xs ys : List Entry) → own l ys ≡ [] → EachFrom (OfLane l P) n xs → EachFrom (OfLane l P) n (xs ++ ys)
  each_longer n [] ys none t = each_none n ys none
  each_longer n (e ∷ xs) ys none t = (t.0, each_longer (number_after n e.step) xs ys none t.1)

pub each_all : (P : ℕ → Entry → Type 0) (n : ℕ) (es : List Entry) → ((l : ℕ) → EachFrom (OfLane l P) n es) → EachFrom P n es
each_all P n [] t = tt
each_all P n (e ∷ es) t = ((t e.place.lane).0 refl, each_all P (number_after n e.step) es (λ l. (t l).1))

-- ---- the block of a call

-- its places are the call's
pub block_places : (c : Cipher) (n lane call stamp : ℕ) (xs : List Item) → entry_places (entries_from lane call 0 stamp (steps_from c n xs)) ≡ block lane call 0 (length xs)
block_places c n lane call stamp xs = places_from lane call 0 stamp (steps_from c n xs) ∙ ap (block lane call 0) (length-steps_from c n xs)

-- its stamps are consecutive
pub mark_added : (lane call i s : ℕ) (steps : List Step) (k : ℕ) → k < length steps → In (mark (place lane call (i + k)) (s + k)) (map mark_of (entries_from lane call i s steps))
mark_added lane call i s [] k low = absurd (omega arith)
mark_added lane call i s (x ∷ steps) zero low = inl (λ j. mark (place lane call ((let z : i ≡ i + 0 = omega arith in z) j)) ((let z : s ≡ s + 0 = omega arith in z) j))
mark_added lane call i s (x ∷ steps) (suc k) low =
    inr (subst (λ n. In (mark (place lane call n) (s + suc k)) (map mark_of (entries_from lane call (i + 1) (s + 1) steps))) (let z : i + 1 + k ≡ i + suc k = omega arith in z)
    (subst (λ n. In (mark (place lane call (i + 1 + k)) n) (map mark_of (entries_from lane call (i + 1) (s + 1) steps))) (let z : s + 1 + k ≡ s + suc k = omega arith in z)
    (mark_added lane call (i + 1) (s + 1) steps k (omega arith))))

-- a mark of the middle of a list of entries
pub mark_inside : (m : Mark) (xs ys zs : List Entry) → In m (map mark_of ys) → In m (map mark_of (xs ++ (ys ++ zs)))
mark_inside m xs ys zs i =
    subst (In m) (sym (map-append mark_of xs (ys ++ zs) ∙ ap (λ ms. map mark_of xs ++ ms) (map-append mark_of ys zs)))
    (In-right m (map mark_of xs) (map mark_of ys ++ map mark_of zs) (In-left m (map mark_of ys) (map mark_of zs) i))
