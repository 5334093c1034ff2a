-- Places that are put where their stamps say.
use Rattle.std.proofs.Common.{◌≡◌, ◌≢◌, ℕ, zero, suc, ◌+◌, ◌-◌, ◌<◌, ◌≤◌, List, [], ◌∷◌, ◌++◌, length, drop, get_or, slice_set, Some, refl, sym, ap, ◌∙◌, subst, inl, inr, append_assoc, arith}
use Rattle.std.specs.Prelude.{slice_get}
use Rattle.std.proofs.lemmas.Bool.{cases_eq}
use Rattle.std.proofs.lemmas.List.{length-set}
use Rattle.std.proofs.lemmas.Option.{slice_get_within}
use Rattle.call_places.specs.declared.entries.Mark.{Mark}
use Rattle.context_books.specs.Batches.{Spot, block, place, spots}
use Rattle.context_books.specs.Histories.{marks_at}
use Rattle.context_books.specs.Lists.{In}
use Rattle.journal_check.specs.Histories.{spot_of, AreAt, Agree, Puts, AllAt, PutsAll}
use Rattle.journal_check.proofs.Walks.{drop_next}

-- ---- what stands in a list after a write

get_set_here : {A : Type 0} (xs : List A) (i : ℕ) (v : A) → i < length xs → slice_get (slice_set xs i v) i ≡ Some v
get_set_here [] i v lt = absurd (omega arith)
get_set_here (x ∷ xs) zero v lt = refl
get_set_here (x ∷ xs) (suc i) v lt = get_set_here xs i v (omega arith)

pub get_set_other : {A : Type 0} (xs : List A) (i k : ℕ) (v : A) → k ≢ i → slice_get (slice_set xs i v) k ≡ slice_get xs k
get_set_other [] i k v ne = refl
get_set_other (x ∷ xs) zero zero v ne = absurd (ne refl)
get_set_other (x ∷ xs) zero (suc k) v ne = refl
get_set_other (x ∷ xs) (suc i) zero v ne = refl
get_set_other (x ∷ xs) (suc i) (suc k) v ne = get_set_other xs i k v (λ e. ne (ap suc e))

-- ---- one journal

module _ (old mid final : List Spot) (context : ℕ) (m : Mark) (ms : List Mark)
    (size : length mid ≡ length old)
    (kept : (h : List Spot) (s : ℕ) → length h ≡ length old → slice_get h m.stamp ≡ Some (spot_of context m) → Agree h old s → Agree h mid s)
    (put : (h : List Spot) → length h ≡ length old → slice_get h m.stamp ≡ Some (spot_of context m) → Agree h mid m.stamp) where
  pub puts_cons : Puts mid final context ms → Puts old final context (m ∷ ms)
  puts_cons t = record {
    size = t.size ∙ size;
    kept = λ h s same all agree.
        t.kept h s (same ∙ sym size) (λ k i. all k (inr i)) (kept h s same (all m (inl refl)) agree);
    put = λ h k same all i. elim i [
      | inl e ↦ subst (λ (x : Mark). Agree h final x.stamp) e
          (t.kept h m.stamp (same ∙ sym size) (λ k i. all k (inr i)) (put h same (all m (inl refl))))
      | inr later ↦ t.put h k (same ∙ sym size) (λ k i. all k (inr i)) later
    ];
  }

-- a place that was written
pub puts_next : (old final : List Spot) (context : ℕ) (marks : List Mark) (i : ℕ) (d : Mark) → i < length marks → (get_or marks i d).stamp < length old
    → Puts (slice_set old (get_or marks i d).stamp (spot_of context (get_or marks i d))) final context (drop (i + 1) marks) → Puts old final context (drop i marks)
puts_next old final context marks i d lt low t =
    let m = get_or marks i d in
    let mid = slice_set old m.stamp (spot_of context m) in
    let here = get_set_here old m.stamp (spot_of context m) low in
    subst (Puts old final context) (sym (drop_next marks i d lt))
    (puts_cons old mid final context m (drop (i + 1) marks) (length-set old m.stamp (spot_of context m))
    (λ h s same at agree. elim (cases_eq s m.stamp) [
      | inl e ↦ ap (slice_get mid) e ∙ here ∙ sym at ∙ ap (slice_get h) (sym e)
      | inr ne ↦ get_set_other old m.stamp s (spot_of context m) ne ∙ agree
    ])
    (λ h same at. here ∙ sym at) t)

-- one whose stamp is too large
pub puts_none : (old final : List Spot) (context : ℕ) (marks : List Mark) (i : ℕ) (d : Mark) → i < length marks → length old ≤ (get_or marks i d).stamp
    → Puts old final context (drop (i + 1) marks) → Puts old final context (drop i marks)
puts_none old final context marks i d lt high t =
    let m = get_or marks i d in
    subst (Puts old final context) (sym (drop_next marks i d lt))
    (puts_cons old old final context m (drop (i + 1) marks) refl (λ h s same at agree. agree)
    (λ h same at. absurd (let low = slice_get_within h m.stamp (spot_of context m) at in omega arith)) t)

-- ---- all journals

tail_at : (h : List Spot) (first : ℕ) (marks : List Mark) (journals : List (List Mark)) → AllAt h first (marks ∷ journals) → AllAt h (first + 1) journals
tail_at h first marks journals all c = subst (λ k. AreAt h k (marks_at journals c)) (let z : first + suc c ≡ first + 1 + c = omega arith in z) (all (suc c))

head_at : (h : List Spot) (first : ℕ) (marks : List Mark) (journals : List (List Mark)) → AllAt h first (marks ∷ journals) → AreAt h first marks
head_at h first marks journals all = subst (λ k. AreAt h k marks) (let z : first + 0 ≡ first = omega arith in z) (all 0)

all_cons : (old mid final : List Spot) (first : ℕ) (marks : List Mark) (journals : List (List Mark)) → Puts old mid first marks
    → PutsAll mid final (first + 1) journals → PutsAll old final first (marks ∷ journals)
all_cons old mid final first marks journals one rest = record {
  size = rest.size ∙ one.size;
  kept = λ h s same all agree.
      rest.kept h s (same ∙ sym one.size) (tail_at h first marks journals all) (one.kept h s same (head_at h first marks journals all) agree);
  put = step;
}
  where
    step : (h : List Spot) (c : ℕ) (m : Mark) → length h ≡ length old → AllAt h first (marks ∷ journals) → In m (marks_at (marks ∷ journals) c) → Agree h final m.stamp
    step h zero m same all i =
        rest.kept h m.stamp (same ∙ sym one.size) (tail_at h first marks journals all) (one.put h m same (head_at h first marks journals all) i)
    step h (suc c) m same all i = rest.put h c m (same ∙ sym one.size) (tail_at h first marks journals all) i

-- the places of the next journal were put
pub all_next : (old mid final : List Spot) (first : ℕ) (journals : List (List Mark)) (d marks : List Mark) → first < length journals → marks ≡ get_or journals first d
    → Puts old mid first marks → PutsAll mid final (first + 1) (drop (first + 1) journals) → PutsAll old final first (drop first journals)
all_next old mid final first journals d marks lt is one rest =
    subst (PutsAll old final first) (sym (drop_next journals first d lt))
    (all_cons old mid final first (get_or journals first d) (drop (first + 1) journals) (subst (Puts old mid first) is one) rest)

-- ---- the spots of a call

pub spots_go_on : (context lane call n i : ℕ) (before total : List Spot) → i < n
    → before ++ spots context (block lane call i (n - i)) ≡ total
    → (before ++ record { context = context; place = place lane call i } ∷ []) ++ spots context (block lane call (i + 1) (n - (i + 1))) ≡ total
spots_go_on context lane call n i before total lt so_far =
    let less : n - i ≡ suc (n - (i + 1)) = omega arith in
    append_assoc before (record { context = context; place = place lane call i } ∷ []) (spots context (block lane call (i + 1) (n - (i + 1))))
    ∙ ap (λ k. before ++ spots context (block lane call i k)) (sym less) ∙ so_far
