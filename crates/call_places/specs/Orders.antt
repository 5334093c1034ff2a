-- The order of entries: which is the last, in a lane by place, in all lists by stamp.
use Rattle.std.specs.Prelude.{◌≡◌, ◌<◌, ◌⊎◌, List, [], ◌∷◌, Option, Some, None}
use Rattle.call_places.specs.declared.entries.Place.{Place}
use Rattle.call_places.specs.declared.entries.Entry.{Entry}

-- the last entry, if there is one
abbrev pub last_of : List Entry → Option Entry
last_of [] = None
last_of (e ∷ []) = Some e
last_of (e ∷ f ∷ entries) = last_of (f ∷ entries)

-- in a lane, the first place stands before the second: by call, and in a call by item
abbrev pub IsBefore : Place → Place → Type 0
IsBefore p q = (p.call < q.call) ⊎ ((p.call ≡ q.call) × (p.item < q.item))

-- each entry's stamp is below that of the next
abbrev pub StampsRise : List Entry → Type 0
StampsRise [] = Unit {0}
StampsRise (e ∷ []) = Unit {0}
StampsRise (e ∷ f ∷ entries) = (e.stamp < f.stamp) × StampsRise (f ∷ entries)
