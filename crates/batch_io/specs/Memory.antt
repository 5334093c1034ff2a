-- What contracts see of the two ends that lie in memory. Sizes are in bytes.
use Rattle.std.specs.Prelude.{◌≡◌, ℕ, ◌-◌, ◌<◌, min, List, length, Contains}
use Rattle.batch_io.specs.Faults.{raised}

-- a source in memory
pub record SourceView : Type 0 where
  -- the bytes that are left
  pub left : List ℕ
  -- the most bytes that one call gives
  pub step : ℕ
  -- the numbers of the calls that fail, counted from 1
  pub failing : List ℕ
  -- how many calls there were
  pub calls : ℕ
  -- how many calls failed
  pub faults : ℕ

-- a sink in memory
pub record SinkView : Type 0 where
  -- the bytes that were written
  pub written : List ℕ
  -- how many bytes it can take in all
  pub room : ℕ
  -- the most bytes that one call takes
  pub step : ℕ
  -- the numbers of the calls that fail, counted from 1
  pub failing : List ℕ
  -- how many calls there were
  pub calls : ℕ
  -- how many calls failed
  pub faults : ℕ

-- after so many calls the next one is among those that fail
abbrev pub NextFails : List ℕ → ℕ → Type 0
NextFails failing calls = Contains failing (raised calls)

-- no room is left for the piece, which isn't empty
abbrev pub LacksRoom : SinkView → List ℕ → Type 0
LacksRoom sink piece = (length sink.written ≡ sink.room) × (0 < length piece)

-- the most bytes that a read into a buffer of this size can give
abbrev pub most_given : SourceView → ℕ → ℕ
most_given source size = min (min source.step size) (length source.left)

-- the most bytes that a write of a piece of this size can take
abbrev pub most_taken : SinkView → ℕ → ℕ
most_taken sink size = min (min sink.step size) (sink.room - length sink.written)
