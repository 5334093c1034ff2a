-- How a call that reads answers for a definition of Fields or Lines.
use Rattle.std.specs.Prelude.{◌≡◌, Result, Ok, Err}
use Rattle.field_text.specs.declared.reasons.Reason.{Reason}
use Rattle.field_text.specs.declared.stop.Stop.{Stop}
use Rattle.field_text.specs.declared.stop.Stop.TheVariants as stops
use Rattle.field_text.specs.declared.faults.BadBatch.{BadBatch}
use Rattle.field_text.specs.declared.faults.ReadBatchFault.{ReadBatchFault}
use Rattle.field_text.specs.declared.faults.ReadBatchFault.TheVariants as faults

-- what the call returned, seen by view, is what the definition gives
abbrev pub Reads : {X Y : Type 0} → (X → Y) → Result X Reason → Result Y Reason → Type 0
Reads view (Ok x) read = read ≡ Ok (view x)
Reads view (Err reason) read = read ≡ Err reason

-- a call that stopped had no memory, or the definition gives its reason
abbrev pub Stops : {Y : Type 0} → Stop → Result Y Reason → Type 0
Stops stops.OutOfMemory read = Unit {0}
Stops (stops.Bad reason) read = read ≡ Err reason

-- what the call returned, seen by view, is what the definition gives, unless memory ran out
abbrev pub Gives : {X Y : Type 0} → (X → Y) → Result X Stop → Result Y Reason → Type 0
Gives view (Ok x) read = read ≡ Ok (view x)
Gives view (Err stop) read = Stops stop read

-- a call that gave nothing had no memory, or the definition gives its bad line and reason
abbrev pub IsFault : {P : Type 0} → ReadBatchFault → Result P BadBatch → Type 0
IsFault (faults.Bad bad) read = read ≡ Err bad
IsFault faults.OutOfMemory read = Unit {0}

-- what the call returned, seen by view, is what the definition gives, unless memory ran out
abbrev pub Finds : {X P : Type 0} → (X → P) → Result X ReadBatchFault → Result P BadBatch → Type 0
Finds view (Ok x) read = read ≡ Ok (view x)
Finds view (Err fault) read = IsFault fault read
