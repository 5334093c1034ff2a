-- How a call answers for a bytes field.
use Rattle.std.specs.Prelude.{◌≡◌, ℕ, List, Result, Ok, Err}
use Rattle.call_places.specs.declared.spans.Span.{Span}
use Rattle.field_text.specs.declared.reasons.Reason.{Reason}
use Rattle.field_text.specs.Fields.{Pooled}
use Rattle.request_frames.specs.declared.fields.FieldFault.{FieldFault}
use Rattle.request_frames.specs.declared.fields.FieldFault.TheVariants.{Bad, OutOfMemory}

-- a call that gave nothing had no memory, or the field has this reason
abbrev pub IsFieldFault : FieldFault → Result Pooled Reason → Type 0
IsFieldFault (Bad reason) read = read ≡ Err reason
IsFieldFault OutOfMemory read = Unit {0}

-- the span that a call gave and the pool that it left are those of the field, unless memory ran out
abbrev pub GivesField : Result Span FieldFault → List ℕ → Result Pooled Reason → Type 0
GivesField (Ok span) pool read = read ≡ Ok (record { span = span; pool = pool })
GivesField (Err fault) pool read = IsFieldFault fault read
