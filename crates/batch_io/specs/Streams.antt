-- What contracts see of the adapters over std's readers and writers.
use Rattle.std.specs.Prelude.{ℕ, ◌==◌, ◌&&◌, not, List, take, Option, Result, Ok, Err, ⊤, if◌then◌else◌}
use Rattle.std.specs.Io.KnownBytes.{Appends}
use Rattle.batch_io.specs.declared.outside.Got.{Got}
use Rattle.batch_io.specs.declared.outside.Got.TheVariants as got
use Rattle.batch_io.specs.declared.outside.Took.{Took}
use Rattle.batch_io.specs.declared.outside.Took.TheVariants as took

-- an adapter: what its reader has left or its writer holds, where that is known, and its faults
pub record AdapterView : Type 0 where
  pub known : Option (List ℕ)
  pub faults : ℕ

-- a write handed on the first bytes; what the writer holds after a fault is not said
abbrev pub HandsOn : Took → Option (List ℕ) → Option (List ℕ) → List ℕ → Type 0
HandsOn (took.Bytes n) old new piece = Appends old new (take n piece)
HandsOn took.Failed old new piece = ⊤

-- what a read answers, by what the reader answered
abbrev pub read_answer : {E : Type 0} → Result ℕ E → Got
read_answer (Ok n) = got.Bytes n
read_answer (Err e) = got.Failed

-- What a write of a piece of this size answers, by what the writer answered to the write and to the
-- flush after it. Where nothing is taken of a piece that isn't empty the write has failed.
abbrev pub write_answer : {E : Type 0} → Result ℕ E → Result (Unit {0}) E → ℕ → Took
write_answer (Ok n) (Ok done) size = if n == 0 && not (size == 0) then took.Failed else took.Bytes n
write_answer (Ok n) (Err e) size = took.Failed
write_answer (Err e) flushed size = took.Failed
