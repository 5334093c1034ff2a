-- ---- for the proofs: where a lane goes on in a journal
use Rattle.std.specs.Prelude.{ℕ, ◌≡◌, ◌+◌, List, drop, slice_get, Some}
use Rattle.call_places.specs.declared.entries.Mark.{Mark}
use Rattle.context_books.specs.Batches.{own_places}
use Rattle.context_books.specs.Histories.{places}

-- from one index on the lane has the same places as from another one
abbrev pub GoesOnAt : List Mark → ℕ → ℕ → ℕ → Type 0
GoesOnAt marks lane from at =
    own_places lane (places (drop at marks)) ≡ own_places lane (places (drop from marks))

-- from the first index of a lane on, it has all its places that stand from an index on
abbrev pub AreFirsts : List Mark → ℕ → List ℕ → Type 0
AreFirsts marks from firsts =
    (lane at : ℕ) → slice_get firsts lane ≡ Some at → GoesOnAt marks lane from at

-- from the next index of a place on, its lane has all places that stand behind it
abbrev pub IsNext : List Mark → ℕ → ℕ → Type 0
IsNext marks i at = (m : Mark) → slice_get marks i ≡ Some m → GoesOnAt marks m.place.lane (i + 1) at

-- the first indexes of lanes, and the next ones of places
pub record AreLinks (marks : List Mark) (firsts nexts : List ℕ) : Type 0 where
  pub firsts_are : AreFirsts marks 0 firsts
  pub nexts_are : (i at : ℕ) → slice_get nexts i ≡ Some at → IsNext marks i at
