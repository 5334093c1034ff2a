-- Stamps of several journals: none is given twice.
use Rattle.std.proofs.Common.{◌≡◌, ℕ, zero, suc, ◌+◌, ◌<◌, ◌≤◌, ◌==◌, Bool, cond, List, [], ◌∷◌, ◌++◌, length, refl, ap, ◌∙◌, arith, eq-eqb, ne_eqb, inl, inr}
use Rattle.std.specs.Prelude.{count_by}
use Rattle.std.specs.List.{range_with_len}
use Rattle.std.proofs.lemmas.Bool.{cases_lt, cases_eq}
use Rattle.std.proofs.lemmas.List.Sorted.{sum_by-IsPermutation}
use Rattle.std.proofs.lemmas.List.Sums.{sum_by-cons, sum_by-append}
use Rattle.call_places.specs.declared.entries.Mark.{Mark}
use Rattle.context_books.specs.Histories.{stamps, marks_at, all_stamps, AreAllFrom0}
use Rattle.context_books.proofs.Members.{In-append, In-left, In-right, in_map, map_in}
use Rattle.context_books.specs.Lists.{In}

-- ---- no stamp is given twice

abbrev is_stamp : ℕ → ℕ → Bool
is_stamp s x = x == s

abbrev times : ℕ → List ℕ → ℕ
times s xs = count_by (is_stamp s) xs

times-cons : (s x : ℕ) (xs : List ℕ) → times s (x ∷ xs) ≡ cond (is_stamp s x) 1 0 + times s xs
times-cons s x xs = sum_by-cons (λ y. cond (is_stamp s y) 1 0) x xs

times-append : (s : ℕ) (xs ys : List ℕ) → times s (xs ++ ys) ≡ times s xs + times s ys
times-append s xs ys = sum_by-append (λ y. cond (is_stamp s y) 1 0) xs ys

range_none : (n a s : ℕ) → s < a → times s (range_with_len a n) ≡ 0
range_none zero a s low = refl
range_none (suc n) a s low = times-cons s a (range_with_len (a + 1) n) ∙ (λ i. cond (ne_eqb a s (λ e. absurd (omega arith)) i) 1 0 + range_none n (a + 1) s (omega arith) i)

range_once : (n a s : ℕ) → times s (range_with_len a n) ≤ 1
range_once zero a s = omega arith
range_once (suc n) a s = elim (cases_eq a s) [
  | inl e ↦ (let c : times s (a ∷ range_with_len (a + 1) n) ≡ 1 + times s (range_with_len (a + 1) n) = times-cons s a (range_with_len (a + 1) n) ∙ ap (λ b. cond b 1 0 + times s (range_with_len (a + 1) n)) (eq-eqb a s e) in
      let z = range_none n (a + 1) s (omega arith) in omega arith)
  | inr ne ↦ (let c : times s (a ∷ range_with_len (a + 1) n) ≡ 0 + times s (range_with_len (a + 1) n) = times-cons s a (range_with_len (a + 1) n) ∙ ap (λ b. cond b 1 0 + times s (range_with_len (a + 1) n)) (ne_eqb a s ne) in
      let r = range_once n (a + 1) s in omega arith)
]

one_time : (s : ℕ) (ms : List Mark) (m : Mark) → In m ms → m.stamp ≡ s → 1 ≤ times s (stamps ms)
one_time s [] m i e = absurd i
one_time s (k ∷ ms) m i e = elim i [
  | inl is ↦ (let c : times s (stamps (k ∷ ms)) ≡ 1 + times s (stamps ms) = times-cons s k.stamp (stamps ms) ∙ ap (λ b. cond b 1 0 + times s (stamps ms)) (eq-eqb k.stamp s (ap (λ (x : Mark). x.stamp) is ∙ e)) in omega arith)
  | inr later ↦ (let c = times-cons s k.stamp (stamps ms) in let r = one_time s ms m later e in omega arith)
]

one_of_all : (s : ℕ) (journals : List (List Mark)) (c : ℕ) (m : Mark) → In m (marks_at journals c) → m.stamp ≡ s → 1 ≤ times s (all_stamps journals)
one_of_all s [] c m i e = absurd i
one_of_all s (ms ∷ journals) zero m i e = let c = times-append s (stamps ms) (all_stamps journals) in let r = one_time s ms m i e in omega arith
one_of_all s (ms ∷ journals) (suc c) m i e = let a = times-append s (stamps ms) (all_stamps journals) in let r = one_of_all s journals c m i e in omega arith

two_of_all : (s : ℕ) (journals : List (List Mark)) (c d : ℕ) (m k : Mark) → c < d → In m (marks_at journals c) → In k (marks_at journals d) → m.stamp ≡ s → k.stamp ≡ s → 2 ≤ times s (all_stamps journals)
two_of_all s [] c d m k low i j e f = absurd i
two_of_all s (ms ∷ journals) zero zero m k low i j e f = absurd (omega arith)
two_of_all s (ms ∷ journals) zero (suc d) m k low i j e f =
    let a = times-append s (stamps ms) (all_stamps journals) in let r = one_time s ms m i e in let q = one_of_all s journals d k j f in omega arith
two_of_all s (ms ∷ journals) (suc c) zero m k low i j e f = absurd (omega arith)
two_of_all s (ms ∷ journals) (suc c) (suc d) m k low i j e f =
    let a = times-append s (stamps ms) (all_stamps journals) in let r = two_of_all s journals c d m k (omega arith) i j e f in omega arith

-- ---- stamps and marks

pub stamp_of : (journals : List (List Mark)) (s : ℕ) → In s (all_stamps journals) → (c : ℕ) × (m : Mark) × (c < length journals) × In m (marks_at journals c) × (m.stamp ≡ s)
stamp_of [] s i = absurd i
stamp_of (ms ∷ journals) s i = elim (In-append s (stamps ms) (all_stamps journals) i) [
  | inl here ↦ (let t = map_in (λ (m : Mark). m.stamp) s ms here in (0, t.0, omega arith, t.1, t.2))
  | inr later ↦ (let t = stamp_of journals s later in (suc t.0, t.1, (let low : t.0 < length journals = t.2 in omega arith), t.3, t.4))
]

pub in_all_stamps : (journals : List (List Mark)) (c : ℕ) (m : Mark) → In m (marks_at journals c) → In m.stamp (all_stamps journals)
in_all_stamps [] c m i = absurd i
in_all_stamps (ms ∷ journals) zero m i = In-left m.stamp (stamps ms) (all_stamps journals) (in_map (λ (k : Mark). k.stamp) m ms i)
in_all_stamps (ms ∷ journals) (suc c) m i = In-right m.stamp (stamps ms) (all_stamps journals) (in_all_stamps journals c m i)

pub count_once : (journals : List (List Mark)) → AreAllFrom0 (all_stamps journals) → (s : ℕ) → times s (all_stamps journals) ≤ 1
count_once journals given s =
    let total = length (all_stamps journals) in
    let same : times s (range_with_len 0 total) ≡ times s (all_stamps journals) = sum_by-IsPermutation (λ y. cond (is_stamp s y) 1 0) (all_stamps journals) (range_with_len 0 total) given in
    let r = range_once total 0 s in
    omega arith

-- no stamp is given in two journals
pub one_journal : (journals : List (List Mark)) → AreAllFrom0 (all_stamps journals) → (c d : ℕ) (m k : Mark) → In m (marks_at journals c) → In k (marks_at journals d) → m.stamp ≡ k.stamp → c ≡ d
one_journal journals given c d m k i j e = elim (cases_eq c d) [
  | inl same ↦ same
  | inr ne ↦ absurd (let one = count_once journals given k.stamp in elim (cases_lt c d) [
    | inl low ↦ (let two = two_of_all k.stamp journals c d m k low i j e refl in absurd (omega arith))
    | inr high ↦ (let two = two_of_all k.stamp journals d c k m (omega arith) j i refl e in absurd (omega arith))
  ])
]
