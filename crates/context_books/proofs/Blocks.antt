-- The places and the entries of one call, which stand side by side.
use Rattle.std.proofs.Common.{◌≡◌, ℕ, zero, suc, ◌+◌, ◌<◌, ◌≤◌, List, [], ◌∷◌, ◌++◌, length, inr, refl, ap, ◌∙◌, arith}
use Rattle.std.specs.List.{range_with_len}
use Rattle.call_places.specs.declared.entries.Entry.{Entry}
use Rattle.call_places.specs.declared.entries.Step.{Step}
use Rattle.call_places.specs.Entries.{IsOwn, CallsWithin, PlacesRise, stamps_of, StampsBelow}
use Rattle.context_books.specs.Batches.{place, block}
use Rattle.context_books.specs.Entries.{entry, entries_from}

pub IsOwn-entries : (lane call item stamp : ℕ) (steps : List Step) → IsOwn lane (entries_from lane call item stamp steps)
IsOwn-entries lane call item stamp [] = tt
IsOwn-entries lane call item stamp (s ∷ steps) = (refl, IsOwn-entries lane call (item + 1) (stamp + 1) steps)

pub CallsWithin-entries : (lane call item stamp from to : ℕ) (steps : List Step) → from ≤ call → call < to → CallsWithin from to (entries_from lane call item stamp steps)
CallsWithin-entries lane call item stamp from to [] a b = tt
CallsWithin-entries lane call item stamp from to (s ∷ steps) a b = (a, b, CallsWithin-entries lane call (item + 1) (stamp + 1) from to steps a b)

pub PlacesRise-entries : (lane call item stamp : ℕ) (steps : List Step) → PlacesRise (entries_from lane call item stamp steps)
PlacesRise-entries lane call item stamp [] = tt
PlacesRise-entries lane call item stamp (s ∷ []) = tt
PlacesRise-entries lane call item stamp (s ∷ t ∷ steps) = (inr (refl, omega arith), PlacesRise-entries lane call (item + 1) (stamp + 1) (t ∷ steps))

pub stamps_of-entries : (lane call item stamp : ℕ) (steps : List Step) → stamps_of (entries_from lane call item stamp steps) ≡ range_with_len stamp (length steps)
stamps_of-entries lane call item stamp [] = refl
stamps_of-entries lane call item stamp (s ∷ steps) = ap (λ (l : List ℕ). stamp ∷ l) (stamps_of-entries lane call (item + 1) (stamp + 1) steps)

pub StampsBelow-entries : (lane call item stamp n : ℕ) (steps : List Step) → stamp + length steps ≤ n → StampsBelow n (entries_from lane call item stamp steps)
StampsBelow-entries lane call item stamp n [] h = tt
StampsBelow-entries lane call item stamp n (s ∷ steps) h = (omega arith, StampsBelow-entries lane call (item + 1) (stamp + 1) n steps (omega arith))

pub length-entries : (lane call item stamp : ℕ) (steps : List Step) → length (entries_from lane call item stamp steps) ≡ length steps
length-entries lane call item stamp [] = refl
length-entries lane call item stamp (s ∷ steps) = ap suc (length-entries lane call (item + 1) (stamp + 1) steps)

-- the entry of one step more
pub entries-push : (lane call item stamp : ℕ) (steps : List Step) (s : Step)
    → entries_from lane call item stamp (steps ++ s ∷ []) ≡ entries_from lane call item stamp steps ++ entry (place lane call (item + length steps)) (stamp + length steps) s ∷ []
entries-push lane call item stamp [] s =
    let i : item ≡ item + 0 = omega arith in
    let t : stamp ≡ stamp + 0 = omega arith in
    (λ k. entry (place lane call (i k)) (t k) s ∷ [])
entries-push lane call item stamp (x ∷ steps) s =
    let i : item + 1 + length steps ≡ item + suc (length steps) = omega arith in
    let t : stamp + 1 + length steps ≡ stamp + suc (length steps) = omega arith in
    ap (λ (l : List Entry). entry (place lane call item) stamp x ∷ l)
    (entries-push lane call (item + 1) (stamp + 1) steps s ∙ (λ k. entries_from lane call (item + 1) (stamp + 1) steps ++ entry (place lane call (i k)) (t k) s ∷ []))

-- ---- their places

pub length-block : (lane call item n : ℕ) → length (block lane call item n) ≡ n
length-block lane call item zero = refl
length-block lane call item (suc n) = ap suc (length-block lane call (item + 1) n)
