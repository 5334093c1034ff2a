-- Beginnings of lists of entries, and the entries of one lane.
use Rattle.std.proofs.Common.{◌≡◌, ◌≢◌, ℕ, ◌==◌, List, [], ◌∷◌, ◌++◌, sym, refl, ap, ◌∙◌, append_assoc, cond, true, false, Bool, ne_eqb}
use mathlib.Core.List.{IsPrefix}
use Rattle.call_places.specs.declared.entries.Entry.{Entry}
use Rattle.call_places.specs.Entries.{own, IsOwn}
use Rattle.turn_lock.specs.Views.{part}
use Rattle.turn_lock.specs.Rule.{Fits}
use Rattle.turn_lock.specs.declared.views.Part.{Part}

pub prefix_append : (xs ys zs : List Entry) → IsPrefix xs ys → IsPrefix xs (ys ++ zs)
prefix_append xs ys zs h = (h.0 ++ zs, sym (append_assoc xs h.0 zs) ∙ ap (λ l. l ++ zs) h.1)

pub own-append : (n : ℕ) (xs ys : List Entry) → own n (xs ++ ys) ≡ own n xs ++ own n ys
own-append n [] ys = refl
own-append n (x ∷ xs) ys = step (x.place.lane == n) (own-append n xs ys)
  where
    step : (b : Bool) → own n (xs ++ ys) ≡ own n xs ++ own n ys → cond b (x ∷ own n (xs ++ ys)) (own n (xs ++ ys)) ≡ cond b (x ∷ own n xs) (own n xs) ++ own n ys
    step true h = ap (λ l. x ∷ l) h
    step false h = h

-- entries of one lane have none of another
pub own-other : (n k : ℕ) (xs : List Entry) → IsOwn n xs → k ≢ n → own k xs ≡ []
own-other n k [] all ne = refl
own-other n k (x ∷ xs) all ne = ap (λ b. cond b (x ∷ own k xs) (own k xs)) (ne_eqb x.place.lane k (λ e. ne (sym e ∙ all.0))) ∙ own-other n k xs all.1 ne

-- a part stays fitting where entries of another lane are added
pub fits_added : (log added : List Entry) (p : Part) (n : ℕ) → IsOwn n added → p.number ≢ n → Fits log p → Fits (log ++ added) p
fits_added log added p n all ne f = record {
  begins = prefix_append p.seen log added f.begins;
  whole = f.whole ∙ sym (own-append p.number log added ∙ ap (λ l. own p.number log ++ l) (own-other n p.number added all ne) ∙ append-nil (own p.number log));
}
  where
    append-nil : (l : List Entry) → l ++ [] ≡ l
    append-nil [] = refl
    append-nil (x ∷ l) = ap (λ m. x ∷ m) (append-nil l)

-- the whole log fits
pub fits_whole : (log : List Entry) (n : ℕ) → Fits log (part n log)
fits_whole log n = record { begins = ([], append-nil log); whole = refl }
  where
    append-nil : (l : List Entry) → l ++ [] ≡ l
    append-nil [] = refl
    append-nil (x ∷ l) = ap (λ m. x ∷ m) (append-nil l)
