-- The next call of a pass, from the last entry.
use Rattle.std.proofs.Common.{◌≡◌, ◌≢◌, ◌⊎◌, ⊎_elim, ℕ, ◌+◌, ◌<◌, ◌≤◌, ◌==◌, nat_le, ◌&&◌, if◌then◌else◌, cond, List, [], ◌∷◌, ◌++◌, sym, refl, ap, ◌∙◌, subst, arith, eq-eqb, ne_eqb, Some, None, Option}
use mathlib.Core.Logic.{dite}
use native.Mathlib.Decide.{ℕ_discrete}
use Rattle.std.proofs.lemmas.Bool.Decides.{nat_tests}
use Rattle.call_places.specs.declared.entries.Entry.{Entry}
use Rattle.call_places.specs.Entries.{own, IsOwn, CallsWithin, PlacesRise}
use Rattle.call_places.specs.Orders.{last_of}
use Rattle.turn_lock.specs.Passes.{next_after}
use Rattle.turn_lock.specs.Seats.{next_from}
use Rattle.turn_lock.proofs.Prefixes.{own-append}

last_append : (xs ys : List Entry) (y : Entry) → last_of (xs ++ y ∷ ys) ≡ last_of (y ∷ ys)
last_append [] ys y = refl
last_append (x ∷ []) ys y = refl
last_append (x ∷ z ∷ xs) ys y = last_append (z ∷ xs) ys y

append-nil : (l : List Entry) → l ++ [] ≡ l
append-nil [] = refl
append-nil (x ∷ l) = ap (λ m. x ∷ m) (append-nil l)

one_entry : (x y : Entry) → Some x ≡ Some y → x ≡ y
one_entry x y e = cc

own-here : (n : ℕ) (x : Entry) (xs : List Entry) → x.place.lane ≡ n → own n (x ∷ xs) ≡ x ∷ own n xs
own-here n x xs e = ap (λ b. cond b (x ∷ own n xs) (own n xs)) (eq-eqb x.place.lane n e)

own-there : (n : ℕ) (x : Entry) (xs : List Entry) → x.place.lane ≢ n → own n (x ∷ xs) ≡ own n xs
own-there n x xs ne = ap (λ b. cond b (x ∷ own n xs) (own n xs)) (ne_eqb x.place.lane n ne)

-- the last entry of all, where it is the lane's own, is a call before the next one
last_own : (n next : ℕ) (xs : List Entry) (e : Entry) → CallsWithin 0 next (own n xs) → last_of xs ≡ Some e → e.place.lane ≡ n → e.place.call < next
last_own n next [] e calls is mine = absurd (apart e is)
  where
    apart : (e : Entry) → None ≡ Some e → ⊥
    apart e is = cc
last_own n next (x ∷ []) e calls is mine =
    let same = one_entry x e is in
    let there = subst (λ l. CallsWithin 0 next l) (own-here n x [] (ap (λ (y : Entry). y.place.lane) same ∙ mine)) calls in
    subst (λ (y : Entry). y.place.call < next) same there.1
last_own n next (x ∷ y ∷ xs) e calls is mine =
    last_own n next (y ∷ xs) e
    (dite (ℕ_discrete x.place.lane n)
    (λ (h : x.place.lane ≡ n). (subst (λ l. CallsWithin 0 next l) (own-here n x (y ∷ xs) h) calls).2)
    (λ (h : x.place.lane ≢ n). subst (λ l. CallsWithin 0 next l) (own-there n x (y ∷ xs) h) calls))
    is mine

last_within : (from to : ℕ) (y : Entry) (ys : List Entry) (e : Entry) → CallsWithin from to (y ∷ ys) → last_of (y ∷ ys) ≡ Some e → e.place.call < to
last_within from to y [] e calls is = subst (λ (x : Entry). x.place.call < to) (one_entry y e is) calls.1
last_within from to y (z ∷ ys) e calls is = last_within from to z ys e calls.2 is

pub last_below : (n next to : ℕ) (seen added : List Entry) → CallsWithin next to added → CallsWithin 0 next (own n seen)
    → (e : Entry) → last_of (seen ++ added) ≡ Some e → e.place.lane ≡ n → next ≤ e.place.call → e.place.call < to
last_below n next to seen [] within calls e is mine late =
    let a = last_own n next seen e calls (ap last_of (sym (append-nil seen)) ∙ is) mine in absurd (omega arith)
last_below n next to seen (y ∷ ys) within calls e is mine late = last_within next to y ys e within (sym (last_append seen ys y) ∙ is)

tested : (n next lane call : ℕ) → lane ≡ n → next ≤ call → (if (lane == n) && nat_le next call then call + 1 else next) ≡ call + 1
tested n next lane call a b = grind (arith, nat_tests)

untested : (n next lane call : ℕ) → (lane ≡ n → call < next) → (if (lane == n) && nat_le next call then call + 1 else next) ≡ next
untested n next lane call a = dite (ℕ_discrete lane n)
    (λ (h : lane ≡ n). let b = a h in grind (arith, nat_tests))
    (λ (h : lane ≢ n). grind (arith, nat_tests))

next_last : (n next to : ℕ) (y : Entry) (ys : List Entry) → IsOwn n (y ∷ ys) → CallsWithin next to (y ∷ ys) → next_from n next (last_of (y ∷ ys)) ≡ next_after next (y ∷ ys)
next_last n next to y [] mine calls = tested n next y.place.lane y.place.call mine.0 calls.0
next_last n next to y (z ∷ ys) mine calls = next_last n next to z ys mine.1 calls.2

next_same : (n next : ℕ) (xs : List Entry) (l : Option Entry) → last_of xs ≡ l → CallsWithin 0 next (own n xs) → next_from n next l ≡ next
next_same n next xs None is calls = refl
next_same n next xs (Some e) is calls = untested n next e.place.lane e.place.call (λ mine. last_own n next xs e calls is mine)

pub next_is : (n next to : ℕ) (seen added : List Entry) → IsOwn n added → CallsWithin next to added → CallsWithin 0 next (own n seen) → next_from n next (last_of (seen ++ added)) ≡ next_after next added
next_is n next to seen [] mine within calls = ap (λ l. next_from n next (last_of l)) (append-nil seen) ∙ next_same n next seen (last_of seen) refl calls
next_is n next to seen (y ∷ ys) mine within calls = ap (next_from n next) (last_append seen ys y) ∙ next_last n next to y ys mine within

own-all : (n : ℕ) (xs : List Entry) → IsOwn n xs → own n xs ≡ xs
own-all n [] mine = refl
own-all n (x ∷ xs) mine = own-here n x xs mine.0 ∙ ap (λ l. x ∷ l) (own-all n xs mine.1)

widen : (from to to' : ℕ) (xs : List Entry) → to ≤ to' → CallsWithin from to xs → CallsWithin from to' xs
widen from to to' [] le calls = tt
widen from to to' (x ∷ xs) le calls = (calls.0, (let a = calls.1 in omega arith), widen from to to' xs le calls.2)

joined : (from to : ℕ) (xs ys : List Entry) → CallsWithin from to xs → CallsWithin from to ys → CallsWithin from to (xs ++ ys)
joined from to [] ys a b = b
joined from to (x ∷ xs) ys a b = (a.0, a.1, joined from to xs ys a.2 b)

next_up : (next to : ℕ) (xs : List Entry) → CallsWithin next to xs → next ≤ next_after next xs
next_up next to [] calls = omega arith
next_up next to (x ∷ []) calls = let a = calls.0 in omega arith
next_up next to (x ∷ y ∷ xs) calls = next_up next to (y ∷ xs) calls.2

below_next : (next : ℕ) (xs : List Entry) → PlacesRise xs → CallsWithin 0 (next_after next xs) xs
below_next next [] rise = tt
below_next next (x ∷ []) rise = (omega arith, omega arith, tt)
below_next next (x ∷ y ∷ xs) rise =
    let rest = below_next next (y ∷ xs) rise.1 in
    let b = rest.1 in
    (omega arith, ⊎_elim (λ (h : x.place.call < y.place.call). omega arith) (λ (h : (x.place.call ≡ y.place.call) × (x.place.item < y.place.item)). omega arith) rise.0, rest)

pub calls_after : (n next to : ℕ) (seen added : List Entry) → IsOwn n added → CallsWithin next to added → PlacesRise added → CallsWithin 0 next (own n seen) → CallsWithin 0 (next_after next added) (own n (seen ++ added))
calls_after n next to seen added mine within rise calls =
    subst (λ l. CallsWithin 0 (next_after next added) l) (sym (own-append n seen added ∙ ap (λ l. own n seen ++ l) (own-all n added mine)))
    (joined 0 (next_after next added) (own n seen) added (widen 0 next (next_after next added) (own n seen) (next_up next to added within) calls) (below_next next added rise))

-- what was added is determined
pub one_rest : (xs ys zs : List Entry) → xs ++ ys ≡ xs ++ zs → ys ≡ zs
one_rest [] ys zs e = e
one_rest (x ∷ xs) ys zs e = one_rest xs ys zs (ap (λ l. Rattle.std.proofs.Common.drop 1 l) e)
