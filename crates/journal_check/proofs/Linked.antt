-- Where a lane goes on in a journal.
use Rattle.std.proofs.Common.{◌≡◌, ◌≢◌, ℕ, zero, suc, ◌+◌, ◌<◌, ◌≤◌, ◌==◌, cond, List, [], ◌∷◌, length, drop, get_or, slice_set, Some, None, sym, ap, ◌∙◌, subst, inl, inr, ne_eqb, arith}
use Rattle.std.specs.Prelude.{slice_get}
use Rattle.std.proofs.lemmas.Bool.{cases_eq}
use Rattle.std.proofs.lemmas.Option.{get_or_from_slice_get, slice_get_within}
use Rattle.call_places.specs.declared.entries.Mark.{Mark}
use Rattle.context_books.specs.Batches.{own_places}
use Rattle.context_books.specs.Histories.{places}
use Rattle.context_books.proofs.Members.{got}
use Rattle.journal_check.proofs.Walks.{drop_next}
use Rattle.journal_check.specs.Links.{GoesOnAt, AreFirsts, IsNext}
use Rattle.journal_check.proofs.Putting.{get_set_other}

get_set_here : {A : Type 0} (xs : List A) (i : ℕ) (v x : A) → slice_get (slice_set xs i v) i ≡ Some x → x ≡ v
get_set_here [] zero v x is = absurd (let none : None ≡ Some x = is in cc)
get_set_here [] (suc i) v x is = absurd (let none : None ≡ Some x = is in cc)
get_set_here (y ∷ xs) zero v x is = let one : Some v ≡ Some x = is in cc
get_set_here (y ∷ xs) (suc i) v x is = get_set_here xs i v x is

-- one index more at which a lane goes on
pub next_more : (marks : List Mark) (nexts : List ℕ) (i next : ℕ) → IsNext marks i next
    → ((k at : ℕ) → i + 1 ≤ k → slice_get nexts k ≡ Some at → IsNext marks k at)
    → (k at : ℕ) → i ≤ k → slice_get (slice_set nexts i next) k ≡ Some at → IsNext marks k at
next_more marks nexts i next here behind k at high is = elim (cases_eq k i) [
  | inl same ↦
      (let one : at ≡ next = get_set_here nexts i next at (subst (λ (j : ℕ). slice_get (slice_set nexts i next) j ≡ Some at) same is) in
      subst (λ (j : ℕ). IsNext marks j at) (sym same) (subst (IsNext marks i) (sym one) here))
  | inr other ↦ behind k at (omega arith) (sym (get_set_other nexts i k next other) ∙ is)
]

-- behind the end there is none
pub none_behind : (marks : List Mark) (nexts : List ℕ) (i k at : ℕ) → length nexts ≤ i → i ≤ k → slice_get nexts k ≡ Some at → IsNext marks k at
none_behind marks nexts i k at end high is = absurd (let low = slice_get_within nexts k at is in omega arith)

module _ (marks : List Mark) (i : ℕ) (m : Mark) (at : slice_get marks i ≡ Some m) where
  low : i < length marks
  low = slice_get_within marks i m at

  here : get_or marks i m ≡ m
  here = get_or_from_slice_get marks i m m at

  -- a lane that isn't that of a place has the same places from it and from behind it on
  passes : (lane : ℕ) → lane ≢ m.place.lane → GoesOnAt marks lane i (i + 1)
  passes lane other =
      let rest = own_places lane (places (drop (i + 1) marks)) in
      sym (ap (λ (ms : List Mark). own_places lane (places ms)) (drop_next marks i m low)
      ∙ ap (λ (k : Mark). cond (k.place.lane == lane) (k.place ∷ rest) rest) here
      ∙ ap (λ b. cond b (m.place ∷ rest) rest) (ne_eqb m.place.lane lane (λ e. other (sym e))))

  -- the first indexes, where that of the place's lane is now the place itself
  pub firsts_set : (firsts : List ℕ) → AreFirsts marks (i + 1) firsts → AreFirsts marks i (slice_set firsts m.place.lane i)
  firsts_set firsts are lane first is = elim (cases_eq lane m.place.lane) [
    | inl same ↦
        (let one : first ≡ i = get_set_here firsts m.place.lane i first (subst (λ (k : ℕ). slice_get (slice_set firsts m.place.lane i) k ≡ Some first) same is) in
        ap (λ (k : ℕ). own_places lane (places (drop k marks))) one)
    | inr other ↦ are lane first (sym (get_set_other firsts m.place.lane lane i other) ∙ is) ∙ passes lane other
  ]

  -- there is no index for the place's lane
  pub firsts_past : (firsts : List ℕ) → length firsts ≤ m.place.lane → AreFirsts marks (i + 1) firsts → AreFirsts marks i firsts
  firsts_past firsts high are lane first is =
      let below : lane < length firsts = slice_get_within firsts lane first is in
      are lane first is ∙ passes lane (λ e. omega (arith, below, high, e))

  -- behind the place its lane goes on at its first index
  pub next_is : (firsts : List ℕ) (next : ℕ) → slice_get firsts m.place.lane ≡ Some next → AreFirsts marks (i + 1) firsts → IsNext marks i next
  next_is firsts next is are k same =
      let one : m ≡ k = (let both : Some m ≡ Some k = sym at ∙ same in cc) in
      subst (λ (x : Mark). GoesOnAt marks x.place.lane (i + 1) next) one (are m.place.lane next is)

module _ (marks : List Mark) (firsts : List ℕ) (i : ℕ) (d : Mark) (lt : i < length marks) (are : AreFirsts marks (i + 1) firsts) where
  mark_here : (m : Mark) × (slice_get marks i ≡ Some m)
  mark_here = got marks i lt

  lane_here : mark_here.0.place.lane ≡ (get_or marks i d).place.lane
  lane_here = ap (λ (m : Mark). m.place.lane) (sym (get_or_from_slice_get marks i mark_here.0 d mark_here.1))

  pub link_past : length firsts ≤ (get_or marks i d).place.lane → AreFirsts marks i firsts
  link_past high = firsts_past marks i mark_here.0 mark_here.1 firsts (let same = lane_here in omega arith) are

  pub link_firsts : AreFirsts marks i (slice_set firsts (get_or marks i d).place.lane i)
  link_firsts = subst (λ (k : ℕ). AreFirsts marks i (slice_set firsts k i)) lane_here (firsts_set marks i mark_here.0 mark_here.1 firsts are)

  pub link_next : (get_or marks i d).place.lane < length firsts → IsNext marks i (get_or firsts (get_or marks i d).place.lane 0)
  link_next low =
      let lane = (get_or marks i d).place.lane in
      let next = got firsts lane low in
      let at : slice_get firsts mark_here.0.place.lane ≡ Some next.0 = ap (slice_get firsts) lane_here ∙ next.1 in
      subst (IsNext marks i) (sym (get_or_from_slice_get firsts lane next.0 0 next.1)) (next_is marks i mark_here.0 mark_here.1 firsts next.0 at are)
