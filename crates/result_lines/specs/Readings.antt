-- How a call that reads answers for a definition of Places.
use Rattle.std.specs.Prelude.{ℕ, ◌+◌, List, [], ◌∷◌, ◌≡◌, Option, Some, None, Result, Ok, Err}
use Rattle.call_places.specs.declared.entries.Mark.{Mark}
use Rattle.field_text.specs.declared.reasons.Reason.{Reason}
use Rattle.result_lines.specs.declared.stop.Stop.{Stop}
use Rattle.result_lines.specs.declared.stop.Stop.TheVariants as stops
use Rattle.result_lines.specs.declared.stamps.Stamps.{Stamps}
use Rattle.result_lines.specs.Forms.{mark_of_line}
use Rattle.result_lines.specs.Places.{LinesView}

-- a call that stopped had no memory, or the definition finds this wrong line
abbrev pub Stops : {Y : Type 0} → Stop → Result Y ℕ → Type 0
Stops stops.OutOfMemory told = Unit {0}
Stops (stops.Wrong line) told = told ≡ Err line

-- what the call returned, seen by view, is what the definition gives, unless memory ran out
abbrev pub Tells : {X Y : Type 0} → (X → Y) → Result X Stop → Result Y ℕ → Type 0
Tells view (Ok x) told = told ≡ Ok (view x)
Tells view (Err stop) told = Stops stop told

-- ---- for the proofs

-- the next line as a place, where it has that form
abbrev pub marked : Result Mark Reason → LinesView → Option (Mark × LinesView)
marked (Ok mark) more = Some (mark, more)
marked (Err reason) more = None

abbrev pub mark_from : Stamps → ℕ → List (List ℕ) → Option (Mark × LinesView)
mark_from stamps number [] = None
mark_from stamps number (part ∷ []) = None
mark_from stamps number (line ∷ next ∷ more) =
    marked (mark_of_line stamps line) (record { number = number + 1; parts = next ∷ more })

abbrev pub mark_at : Stamps → LinesView → Option (Mark × LinesView)
mark_at stamps lines = mark_from stamps lines.number lines.parts
