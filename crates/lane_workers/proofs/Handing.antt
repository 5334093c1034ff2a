-- The first of a list of fresh passes, and contexts that are closed over the passes of all lanes.
use Rattle.std.proofs.Common.{◌≡◌, ℕ, zero, suc, ◌+◌, ◌<◌, ◌≤◌, List, [], ◌∷◌, ◌++◌, length, Option, Some, None, sym, refl, ap, ◌∙◌, subst, arith}
use Rattle.std.specs.Prelude.{slice_get, slice_index_or, remove, All, IsNone, IfSome, ◌↔◌}
use Rattle.std.proofs.lemmas.Option.{get_or_from_slice_get, slice_get_within}
use mathlib.Core.List.{IsPrefix}
use Rattle.call_places.specs.declared.entries.Entry.{Entry}
use Rattle.call_places.specs.Entries.{own}
use Rattle.call_places.specs.Orders.{StampsRise}
use Rattle.turn_lock.specs.Passes.{LockId, PassView, PassListView, fresh_pass, fresh_from, IsShown, NoOthers}
use Rattle.lane_workers.specs.Showing.{Closes}
use Rattle.lane_workers.specs.Served.{seen_of, seen_by}
use Rattle.lane_workers.specs.Turns.{pass_at}
use Rattle.lane_workers.proofs.Found.{one_of, none_some}

fresh_at : (lock : LockId) (k n i : ℕ) (p : PassView) → slice_get (fresh_from lock k n) i ≡ Some p
    → p.number ≡ k + i
fresh_at lock k zero i p e = absurd (none_some p e)
fresh_at lock k (suc n) zero p e =
    let a : k ≡ p.number = ap (λ (q : PassView). q.number) (one_of _ _ e) in omega arith
fresh_at lock k (suc n) (suc i) p e =
    let a = fresh_at lock (k + 1) n i p e in omega arith

pub first_of_fresh : (lock : LockId) (k m i : ℕ) (p : PassView)
    → slice_get (fresh_from lock k (suc m)) i ≡ Some p
    → All (λ (q : PassView). p.number ≤ q.number) (fresh_from lock k (suc m))
    → (p ≡ fresh_pass lock k) × (remove (fresh_from lock k (suc m)) i ≡ fresh_from lock (k + 1) m)
first_of_fresh lock k m zero p e low = (sym (one_of _ _ e), refl)
first_of_fresh lock k m (suc i) p e low =
    let a = fresh_at lock k (suc m) (suc i) p e in
    let b : p.number ≤ k = low 0 p (omega arith) in
    absurd (omega arith)

-- ---- a context that is closed

-- what the close of a context says of its book, by the passes that came back: each lane's is one of
-- them, and none is of another number
pub closes_over : (lanes context : ℕ) (passes : ℕ → List (Option PassView)) (entries : List Entry)
    (back : List PassView) → All (IsShown entries) back → NoOthers entries back → StampsRise entries
    → ((lane : ℕ) → lane < lanes → (p : PassView) × (pass_at (passes lane) context ≡ Some p)
    × (p.number ≡ lane) × (i : ℕ) × (slice_get back i ≡ Some p))
    → All (λ (p : PassView). p.number < lanes) back
    → Closes lanes (λ lane. seen_of (passes lane) context) entries
closes_over lanes context passes entries back shown others rise each few =
    let shown_at : (p : PassView) (i : ℕ) → slice_get back i ≡ Some p → IsShown entries p = λ p i at.
    subst (IsShown entries) (get_or_from_slice_get back i p p at)
    (shown i p (slice_get_within back i p at)) in
    record {
      begins = λ lane low.
          let t = each lane low in
          subst (λ es. IsPrefix es entries) (ap seen_by (sym t.1)) (shown_at t.0 t.3 t.4).begins;
      whole = λ lane low.
          let t = each lane low in
          ap (λ o. own lane (seen_by o)) t.1
          ∙ subst (λ n. own n t.0.seen ≡ own n entries) t.2 (shown_at t.0 t.3 t.4).whole;
      others = λ lane high. others lane
          (λ i d low is. let below = few i d low in absurd (omega arith));
      rise = rise;
    }

-- what the take of the lowest pass says, of a list of fresh ones
pub take_first : (old new : PassListView) (r : Option PassView) → (IsNone r ↔ (old.passes ≡ []))
    → IfSome r (λ p. (i : ℕ) × (slice_get old.passes i ≡ Some p)
    × (new.passes ≡ remove old.passes i))
    → IfSome r (λ p. All (λ (q : PassView). p.number ≤ q.number) old.passes) → new.made ≡ old.made
    → (lock : LockId) (lane left : ℕ) → old.passes ≡ fresh_from lock lane (suc left)
    → (r ≡ Some (fresh_pass lock lane))
    × (Some new ≡ Some (record { passes = fresh_from lock (lane + 1) left; made = old.made }))
take_first old new None none taken lowest made lock lane left is =
    absurd (some_left (sym (none.0 refl) ∙ is))
  where
    some_left : [] ≡ fresh_pass lock lane ∷ fresh_from lock (lane + 1) left → ⊥
    some_left e = cc
take_first old new (Some p) none taken lowest made lock lane left is =
    let i : ℕ = taken.0 in
    let t = first_of_fresh lock lane left i p
    (ap (λ (ps : List PassView). slice_get ps i) (sym is) ∙ taken.1)
    (subst (λ (ps : List PassView). All (λ (q : PassView). p.number ≤ q.number) ps) is lowest) in
    let rest : new.passes ≡ fresh_from lock (lane + 1) left =
    taken.2 ∙ ap (λ (ps : List PassView). remove ps i) is ∙ t.1 in
    (ap Some t.0, (λ h. Some (record { passes = rest h; made = made h })))

-- ---- lists that grow at their end

pub found_here : {X : Type 0} (xs : List X) (i : ℕ) (found d : X) → i < length xs
    → found ≡ slice_index_or xs i found → found ≡ slice_index_or xs i d
found_here [] i found d low e = absurd (omega arith)
found_here (x ∷ xs) zero found d low e = e
found_here (x ∷ xs) (suc i) found d low e = found_here xs i found d (omega arith) e

pub front_same : (xs : List (Option PassView)) (p : Option PassView) (k : ℕ) → k < length xs
    → pass_at (xs ++ p ∷ []) k ≡ pass_at xs k
front_same [] p k low = absurd (omega arith)
front_same (x ∷ xs) p zero low = refl
front_same (x ∷ xs) p (suc k) low = front_same xs p k (omega arith)

pub last_same : (xs : List (Option PassView)) (p : Option PassView)
    → pass_at (xs ++ p ∷ []) (length xs) ≡ p
last_same [] p = refl
last_same (x ∷ xs) p = last_same xs p
