-- ---- for the proofs: which names are live, by a bit for each
use Rattle.std.specs.Prelude.{ℕ, Bool, true, false, List, slice_set}
use Rattle.call_places.specs.declared.entries.Act.{Act}
use Rattle.call_places.specs.declared.entries.Act.TheVariants.{Add, Retire, Look}
use Rattle.call_places.specs.declared.entries.Step.{Step}
use Rattle.call_places.specs.declared.entries.Step.TheVariants.{Sealed, SealLimit, Opened, Failed, OpenLimit, Note}

-- the name of a note; what is none has name 0
abbrev pub name_of : Step → ℕ
name_of Sealed = 0
name_of SealLimit = 0
name_of Opened = 0
name_of Failed = 0
name_of OpenLimit = 0
name_of (Note name act live) = name

-- what a note does to them
abbrev pub changed : List Bool → ℕ → Act → List Bool
changed lives name Add = slice_set lives name true
changed lives name Retire = slice_set lives name false
changed lives name Look = lives
