-- Notes on names: which names are live in a list of entries, some of which add a name, retire it or
-- look it up.
use Rattle.std.specs.Prelude.{ℕ, ◌≡◌, ◌==◌, ◌||◌, Bool, false, List, take, filter, slice_get, Option, Some, None}
use Rattle.call_places.specs.declared.entries.Place.{Place}
use Rattle.call_places.specs.declared.entries.Act.{Act}
use Rattle.call_places.specs.declared.entries.Act.TheVariants.{Add, Retire}
use Rattle.call_places.specs.declared.entries.Step.{Step}
use Rattle.call_places.specs.declared.entries.Step.TheVariants.{Note}
use Rattle.call_places.specs.declared.entries.Entry.{Entry}
use Rattle.call_places.specs.Orders.{last_of}

-- the entry of a note
abbrev pub note_entry : Place → ℕ → ℕ → Act → Bool → Entry
note_entry p stamp name act live =
    record { place = p; stamp = stamp; step = Note name act live }

-- the step adds this name
abbrev pub adds : ℕ → Step → Bool
adds k (Note name Add live) = name == k
adds k step = false

-- the step retires this name
abbrev pub retires : ℕ → Step → Bool
retires k (Note name Retire live) = name == k
retires k step = false

-- the last of the entries that add or retire this name
abbrev pub last_change : ℕ → List Entry → Option Entry
last_change k entries = last_of (filter (λ e. adds k e.step || retires k e.step) entries)

-- the entry adds this name
abbrev pub is_added : ℕ → Option Entry → Bool
is_added k None = false
is_added k (Some e) = adds k e.step

-- after these entries the name is live: the last of those that add or retire it adds it
abbrev pub live_at : List Entry → ℕ → Bool
live_at entries k = is_added k (last_change k entries)

-- the step is a note, and tells whether its name was live after these entries
abbrev pub TellsLive : List Entry → Step → Type 0
TellsLive before (Note name act live) = live ≡ live_at before name
TellsLive before step = ⊥

-- each entry is a note, and tells whether its name was live after the entries before it
abbrev pub AreLive : List Entry → Type 0
AreLive entries = (i : ℕ) (e : Entry) → slice_get entries i ≡ Some e
    → TellsLive (take i entries) e.step
