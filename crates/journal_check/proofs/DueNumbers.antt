-- The numbers that were due at a lane's places in a journal.
use Rattle.std.proofs.Common.{◌≡◌, ℕ, zero, suc, ◌+◌, ◌<◌, ◌==◌, ◌||◌, Bool, true, false, cond, List, [], ◌∷◌, ◌++◌, length, take, map, drop, get_or, set, Some, None, refl, sym, ap, ◌∙◌, subst, inl, eq-eqb, append_assoc, append-nil, ◌≤◌, arith}
use Rattle.std.specs.Prelude.{slice_get, slice_index}
use Rattle.std.specs.List.{list_any}
use Rattle.std.proofs.lemmas.List.{drop_all, get_or-set_same}
use Rattle.call_places.specs.declared.entries.Place.{Place}
use Rattle.call_places.specs.declared.entries.Mark.{Mark}
use Rattle.context_books.specs.Batches.{own_places}
use Rattle.context_books.specs.Guesses.{through}
use Rattle.context_books.specs.Histories.{places, marks_at}
use Rattle.context_books.proofs.Members.{got}
use Rattle.context_books.specs.Lists.{In}
use Rattle.context_books.proofs.OneLane.{taken_more}
use Rattle.context_books.proofs.Places.{own_lane}
use Rattle.journal_check.specs.Passing.{Reaches}
use Rattle.journal_check.proofs.Walks.{drop_next}
use Rattle.journal_check.proofs.Pulling.{no_place}

-- ---- up to a place of the lane

any_last : (lane : ℕ) (xs : List Place) (p : Place) → p.lane ≡ lane → list_any (λ (q : Place). q.lane == lane) (xs ++ (p ∷ [])) ≡ true
any_last lane [] p own = ap (λ b. b || false) (eq-eqb p.lane lane own)
any_last lane (x ∷ xs) p own = ap (λ b. (x.lane == lane) || b) (any_last lane xs p own) ∙ or_true (x.lane == lane)
  where
    or_true : (b : Bool) → (b || true) ≡ true
    or_true true = refl
    or_true false = refl

pub through_last : (lane : ℕ) (xs : List Place) (p : Place) → p.lane ≡ lane → through lane (xs ++ (p ∷ [])) ≡ xs ++ (p ∷ [])
through_last lane [] p own = ap (λ b. cond b (p ∷ []) []) (any_last lane [] p own)
through_last lane (x ∷ xs) p own =
    ap (λ b. cond b (x ∷ through lane (xs ++ (p ∷ []))) []) (any_last lane (x ∷ xs) p own)
    ∙ ap (λ (ys : List Place). x ∷ ys) (through_last lane xs p own)

-- ---- the next place of the lane

pub place_in : (marks : List Mark) (at : ℕ) (m : Mark) → slice_get marks at ≡ Some m → slice_get (places marks) at ≡ Some m.place
place_in [] at m is = absurd (let none : None ≡ Some m = is in cc)
place_in (x ∷ marks) zero m is = let same : x ≡ m = (let one : Some x ≡ Some m = is in cc) in ap (λ (k : Mark). Some k.place) same
place_in (x ∷ marks) (suc at) m is = place_in marks at m is

module _ (lane : ℕ) (marks : List Mark) (cursor at : ℕ) (there : at < length marks)
    (found : (m : Mark) → slice_get marks at ≡ Some m → own_places lane (places (drop cursor marks)) ≡ m.place ∷ own_places lane (places (drop (at + 1) marks))) where
  pub reach_here : Reaches lane marks (at + 1)
  reach_here =
      let m = got marks at there in
      let p : Place = m.0.place in
      let own : p.lane ≡ lane = own_lane lane p (places (drop cursor marks)) (subst (In p) (sym (found m.0 m.1)) (inl refl)) in
      let taken : take (at + 1) (places marks) ≡ take at (places marks) ++ (p ∷ []) = taken_more (places marks) at p (place_in marks at m.0 m.1) in
      ap (through lane) taken ∙ through_last lane (take at (places marks)) p own ∙ sym taken

-- ---- a step of a walk

module _ (journals : List (List Mark)) (cursors : List ℕ) (c lane : ℕ) (journal : List Mark) (here : journal ≡ marks_at journals c) (low : c < length cursors) (at : ℕ) (there : at < length journal)
    (found : (m : Mark) → slice_get journal at ≡ Some m
    → own_places lane (places (drop (slice_index cursors c) journal)) ≡ m.place ∷ own_places lane (places (drop (at + 1) journal))) where
  moved : slice_index (set cursors c (at + 1)) c ≡ at + 1
  moved = get_or-set_same cursors c (at + 1) 0 low

  pub step_reach : Reaches lane (marks_at journals c) (slice_index (set cursors c (at + 1)) c)
  step_reach =
      subst (Reaches lane (marks_at journals c)) (sym moved)
      (subst (λ (marks : List Mark). Reaches lane marks (at + 1)) here (reach_here lane journal (slice_index cursors c) at there found))

-- ---- so many of them

-- one number more
pub one_more : (f : Place → ℕ) (ps : List Place) (i n : ℕ) (found new : List ℕ) (number : ℕ) → length ps ≡ n → i < n → number ≡ f (get_or ps i no_place)
    → new ≡ found ++ (number ∷ []) → map f ps ≡ found ++ map f (drop i ps) → map f ps ≡ new ++ map f (drop (i + 1) ps)
one_more f ps i n found new number size lt is pushed so_far =
    let rest = map f (drop (i + 1) ps) in
    so_far
    ∙ ap (λ (qs : List Place). found ++ map f qs) (drop_next ps i no_place (omega arith))
    ∙ ap (λ (k : ℕ). found ++ (k ∷ rest)) (sym is)
    ∙ sym (append_assoc found (number ∷ []) rest)
    ∙ ap (λ (ns : List ℕ). ns ++ rest) (sym pushed)

-- no place of them is left
module _ (ps more : List Place) (i n : ℕ) (size : length ps ≡ n) (end : n ≤ i) where
  none_left : drop i ps ≡ []
  none_left = drop_all i ps (omega arith)

  pub found_all : (f : Place → ℕ) (found : List ℕ) → map f ps ≡ found ++ map f (drop i ps) → found ≡ map f ps
  found_all f found so_far = sym (so_far ∙ ap (λ (qs : List Place). found ++ map f qs) none_left ∙ append-nil found)

  pub left_behind : (own : List Place) → own ≡ drop i ps ++ more → own ≡ more
  left_behind own so_far = so_far ∙ ap (λ (qs : List Place). qs ++ more) none_left
