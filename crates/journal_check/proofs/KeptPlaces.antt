-- Journals of which one place more is kept than are asked for on their contexts.
use Rattle.std.proofs.Common.{◌≡◌, ◌≢◌, ℕ, zero, suc, ◌+◌, ◌<◌, ◌≤◌, ◌==◌, ◌||◌, not, Bool, true, false, cond, List, [], ◌∷◌, ◌++◌, length, take, drop, get_or, Option, Some, None, refl, sym, ap, ◌∙◌, subst, inl, inr, eq-eqb, eqb-true, append_assoc, arith}
use Rattle.std.specs.Prelude.{nat_lt}
use Rattle.std.specs.List.{list_all, flat_map, range_with_len}
use Rattle.std.proofs.lemmas.List.{take_all, length-take-le, length-append, length-map}
use Rattle.std.proofs.lemmas.Bool.{cases_eq, cases_lt}
use Rattle.call_places.specs.declared.entries.Place.{Place}
use Rattle.call_places.specs.declared.entries.Mark.{Mark}
use Rattle.context_books.specs.Batches.{Batch, own_places}
use Rattle.context_books.specs.Histories.{places, marks_at}
use Rattle.context_books.specs.Legal.{is_same_place}
use Rattle.context_books.specs.Checks.{has_lane, has_lanes, is_unbroken, is_legal}
use Rattle.context_books.proofs.Truths.{and_left, and_right, lt_true}
use Rattle.context_books.proofs.Places.{same_places}
use Rattle.context_books.proofs.Checking.{same_list}
use Rattle.result_lines.specs.Journals.{is_journal, broken_journal, stamps_rise}
use Rattle.journal_check.specs.Piles.{in_lanes, asked_on, kept_from, IsKept}
use Rattle.journal_check.proofs.Dealt.{lanes_same}
use Rattle.journal_check.proofs.Walks.{drop_next}

-- ---- how many places lie lane by lane

own_skips : (l : ℕ) (p : Place) (ps : List Place) → p.lane ≢ l → length (own_places l (p ∷ ps)) ≡ length (own_places l ps)
own_skips l p ps ne = step (p.lane == l) refl
  where
    step : (b : Bool) → (p.lane == l) ≡ b → length (own_places l (p ∷ ps)) ≡ length (own_places l ps)
    step true e = absurd (ne (eqb-true p.lane l e))
    step false e = ap (λ b. length (cond b (p ∷ own_places l ps) (own_places l ps))) e

own_takes : (l : ℕ) (p : Place) (ps : List Place) → p.lane ≡ l → length (own_places l (p ∷ ps)) ≡ suc (length (own_places l ps))
own_takes l p ps is = ap (λ b. length (cond b (p ∷ own_places l ps) (own_places l ps))) (eq-eqb p.lane l is)

abbrev lanes_from : List Place → ℕ → ℕ → List Place
lanes_from ps a n = flat_map (λ l. own_places l ps) (range_with_len a n)

lanes_skip : (p : Place) (ps : List Place) (n a : ℕ) → p.lane < a → length (lanes_from (p ∷ ps) a n) ≡ length (lanes_from ps a n)
lanes_skip p ps zero a lt = refl
lanes_skip p ps (suc n) a lt =
    length-append (own_places a (p ∷ ps)) (lanes_from (p ∷ ps) (a + 1) n)
    ∙ ap (λ k. k + length (lanes_from (p ∷ ps) (a + 1) n)) (own_skips a p ps (λ e. omega arith))
    ∙ ap (λ k. length (own_places a ps) + k) (lanes_skip p ps n (a + 1) (omega arith))
    ∙ sym (length-append (own_places a ps) (lanes_from ps (a + 1) n))

lanes_take : (p : Place) (ps : List Place) (n a : ℕ) → a ≤ p.lane → p.lane < a + n → length (lanes_from (p ∷ ps) a n) ≡ suc (length (lanes_from ps a n))
lanes_take p ps zero a le lt = absurd (omega arith)
lanes_take p ps (suc n) a le lt =
    length-append (own_places a (p ∷ ps)) (lanes_from (p ∷ ps) (a + 1) n)
    ∙ elim (cases_eq p.lane a) [
      | inl e ↦
          ap (λ k. k + length (lanes_from (p ∷ ps) (a + 1) n)) (own_takes a p ps e)
          ∙ ap (λ k. suc (length (own_places a ps)) + k) (lanes_skip p ps n (a + 1) (omega arith))
          ∙ (let z : suc (length (own_places a ps)) + length (lanes_from ps (a + 1) n) ≡ suc (length (own_places a ps) + length (lanes_from ps (a + 1) n)) = omega arith in z)
      | inr ne ↦
          ap (λ k. k + length (lanes_from (p ∷ ps) (a + 1) n)) (own_skips a p ps ne)
          ∙ ap (λ k. length (own_places a ps) + k) (lanes_take p ps n (a + 1) (omega arith) (omega arith))
          ∙ (let z : length (own_places a ps) + suc (length (lanes_from ps (a + 1) n)) ≡ suc (length (own_places a ps) + length (lanes_from ps (a + 1) n)) = omega arith in z)
    ]
    ∙ ap suc (sym (length-append (own_places a ps) (lanes_from ps (a + 1) n)))

no_lanes : (n a : ℕ) → length (lanes_from [] a n) ≡ 0
no_lanes zero a = refl
no_lanes (suc n) a = no_lanes n (a + 1)

all_in_lanes : (lanes : ℕ) (ps : List Place) → list_all (λ p. nat_lt p.lane lanes) ps ≡ true → length (in_lanes lanes ps) ≡ length ps
all_in_lanes lanes [] there = no_lanes lanes 0
all_in_lanes lanes (p ∷ ps) there =
    let low = lt_true p.lane lanes (and_left (nat_lt p.lane lanes) (list_all (λ p. nat_lt p.lane lanes) ps) there) in
    lanes_take p ps lanes 0 (omega arith) (omega arith)
    ∙ ap suc (all_in_lanes lanes ps (and_right (nat_lt p.lane lanes) (list_all (λ p. nat_lt p.lane lanes) ps) there))

-- a legal journal has as many places as are asked for
legal_size : (batch : Batch) (context : ℕ) (ps : List Place) → is_legal batch context ps ≡ true → length ps ≡ length (asked_on batch context)
legal_size batch context ps legal =
    let n = length batch in
    let lanes = and_left (has_lanes batch context ps) (is_unbroken batch ps) legal in
    let there = and_left (list_all (λ p. nat_lt p.lane n) ps) (list_all (has_lane batch context ps) (range_with_len 0 n)) lanes in
    let own = and_right (list_all (λ p. nat_lt p.lane n) ps) (list_all (has_lane batch context ps) (range_with_len 0 n)) lanes in
    sym (all_in_lanes n ps there)
    ∙ ap length (same_list is_same_place same_places (in_lanes n ps) (asked_on batch context) (lanes_same batch context ps ∙ own))

-- ---- a journal that is cut

module _ (stamps : Bool) (batch : Batch) (context : ℕ) where
  abbrev most : ℕ
  most = length (asked_on batch context)

  size_of : (marks : List Mark) → is_journal stamps batch context marks ≡ true → length marks ≡ most
  size_of marks good =
      sym (length-map marks (λ m. m.place))
      ∙ legal_size batch context (places marks) (and_left (is_legal batch context (places marks)) (not stamps || stamps_rise marks) good)

  other_size : (marks : List Mark) → length marks ≢ most → is_journal stamps batch context marks ≡ false
  other_size marks ne = go (is_journal stamps batch context marks) refl
    where
      go : (b : Bool) → is_journal stamps batch context marks ≡ b → is_journal stamps batch context marks ≡ false
      go true e = absurd (ne (size_of marks e))
      go false e = e

  pub cut_journal : (marks : List Mark) → is_journal stamps batch context (take (most + 1) marks) ≡ is_journal stamps batch context marks
  cut_journal marks = elim (cases_lt most (length marks)) [
    | inl more ↦
        let size : length (take (most + 1) marks) ≡ most + 1 = length-take-le (most + 1) marks (omega arith) in
        other_size (take (most + 1) marks) (λ e. omega arith) ∙ sym (other_size marks (λ e. omega arith))
    | inr few ↦ ap (is_journal stamps batch context) (take_all (most + 1) marks (omega arith))
  ]

-- ---- all journals

pub broken_kept : (stamps : Bool) (batch : Batch) (context : ℕ) (journals : List (List Mark))
    → broken_journal stamps batch context (kept_from batch context journals) ≡ broken_journal stamps batch context journals
broken_kept stamps batch context [] = refl
broken_kept stamps batch context (marks ∷ more) =
    ap (λ b. cond b (broken_journal stamps batch (context + 1) (kept_from batch (context + 1) more)) (Some context)) (cut_journal stamps batch context marks)
    ∙ ap (λ (later : Option ℕ). cond (is_journal stamps batch context marks) later (Some context)) (broken_kept stamps batch (context + 1) more)

pub kept_whole : (stamps : Bool) (batch : Batch) (context : ℕ) (journals : List (List Mark)) → broken_journal stamps batch context journals ≡ None
    → kept_from batch context journals ≡ journals
kept_whole stamps batch context [] none = refl
kept_whole stamps batch context (marks ∷ more) none = go (is_journal stamps batch context marks) refl none (λ later. kept_whole stamps batch (context + 1) more later)
  where
    go : (b : Bool) → is_journal stamps batch context marks ≡ b → cond b (broken_journal stamps batch (context + 1) more) (Some context) ≡ None
        → (broken_journal stamps batch (context + 1) more ≡ None → kept_from batch (context + 1) more ≡ more)
        → kept_from batch context (marks ∷ more) ≡ marks ∷ more
    go false e none whole = absurd cc
    go true e none whole =
        let size = size_of stamps batch context marks e in
        let head = take_all (length (asked_on batch context) + 1) marks (omega arith) in
        let tail = whole none in
        (λ i. head i ∷ tail i)

pub kept_size : (batch : Batch) (context : ℕ) (journals : List (List Mark)) → length (kept_from batch context journals) ≡ length journals
kept_size batch context [] = refl
kept_size batch context (marks ∷ more) = ap suc (kept_size batch (context + 1) more)

few_taken : (n : ℕ) (marks : List Mark) → length (take n marks) ≤ n
few_taken n marks = elim (cases_lt n (length marks)) [
  | inl more ↦ let size : length (take n marks) ≡ n = length-take-le n marks (omega arith) in omega arith
  | inr few ↦ let size : length (take n marks) ≡ length marks = ap length (take_all n marks few) in omega arith
]

pub kept_few : (batch : Batch) (context : ℕ) (journals : List (List Mark)) (c : ℕ) → c < length journals
    → length (marks_at (kept_from batch context journals) c) ≤ length (asked_on batch (context + c)) + 1
kept_few batch context [] c lt = absurd (omega arith)
kept_few batch context (marks ∷ more) zero lt =
    let here : length (asked_on batch context) ≡ length (asked_on batch (context + 0)) = ap (λ (k : ℕ). length (asked_on batch k)) (let z : context ≡ context + 0 = omega arith in z) in
    let few = few_taken (length (asked_on batch context) + 1) marks in
    omega (arith, here, few)
kept_few batch context (marks ∷ more) (suc c) lt =
    let there : length (asked_on batch (context + 1 + c)) ≡ length (asked_on batch (context + suc c)) = ap (λ (k : ℕ). length (asked_on batch k)) (let z : context + 1 + c ≡ context + suc c = omega arith in z) in
    let few = kept_few batch (context + 1) more c (omega arith) in
    omega (arith, there, few)

pub kept_few_of_all : (batch : Batch) (journals : List (List Mark)) (c : ℕ) → c < length journals
    → length (marks_at (kept_from batch 0 journals) c) ≤ length (asked_on batch c) + 1
kept_few_of_all batch journals c lt =
    let same : length (asked_on batch (0 + c)) ≡ length (asked_on batch c) = ap (λ (k : ℕ). length (asked_on batch k)) (let z : 0 + c ≡ c = omega arith in z) in
    let few = kept_few batch 0 journals c lt in
    omega (arith, same, few)

-- ---- one journal after another

-- the next journal was kept
pub keep_next : (batch : Batch) (journals : List (List Mark)) (i : ℕ) (d marks first : List Mark) (kept total : List (List Mark)) → i < length journals
    → marks ≡ get_or journals i d → first ≡ take (length (asked_on batch i) + 1) marks
    → kept ++ kept_from batch i (drop i journals) ≡ total
    → (kept ++ first ∷ []) ++ kept_from batch (i + 1) (drop (i + 1) journals) ≡ total
keep_next batch journals i d marks first kept total lt here is so_far =
    append_assoc kept (first ∷ []) (kept_from batch (i + 1) (drop (i + 1) journals))
    ∙ ap (λ (ms : List Mark). kept ++ ms ∷ kept_from batch (i + 1) (drop (i + 1) journals)) (is ∙ ap (take (length (asked_on batch i) + 1)) here)
    ∙ ap (λ (js : List (List Mark)). kept ++ kept_from batch i js) (sym (drop_next journals i d lt))
    ∙ so_far

-- what is kept
pub kept_is : (batch : Batch) (journals kept : List (List Mark)) → kept ≡ kept_from batch 0 journals → IsKept batch journals kept
kept_is batch journals kept is = subst (IsKept batch journals) (sym is) (record {
  size = kept_size batch 0 journals;
  few = kept_few_of_all batch journals;
  broken = λ stamps. broken_kept stamps batch 0 journals;
  whole = λ stamps. kept_whole stamps batch 0 journals;
})
