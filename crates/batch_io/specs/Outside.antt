-- What a read and a write do to the bytes that are told, and when they may fail.
-- A byte string is a list of numbers below 256. What a source or a sink tells is Some of one, or None.
use Rattle.std.specs.Prelude.{◌≡◌, ℕ, ◌<◌, ◌≤◌, List, length, take, Option}
use Rattle.std.specs.Io.KnownBytes.{Consumes, Keeps, Appends, IsAtEnd}
use Rattle.batch_io.specs.declared.outside.Got.{Got}
use Rattle.batch_io.specs.declared.outside.Got.TheVariants as got
use Rattle.batch_io.specs.declared.outside.Took.{Took}
use Rattle.batch_io.specs.declared.outside.Took.TheVariants as took
use Rattle.batch_io.specs.Faults.{raised}

-- a read gave the next bytes, and none only at the end or for no room; or it failed, and took nothing
abbrev pub Gives : Got → Option (List ℕ) → Option (List ℕ) → List ℕ → Type 0
Gives (got.Bytes n) old new buf =
    (n ≤ length buf) × Consumes old new (take n buf) × (n ≡ 0 → 0 < length buf → IsAtEnd new)
Gives got.Failed old new buf = Keeps old new

-- a write appended the first bytes, at least one where there is one; or it failed, and appended nothing
abbrev pub Takes : Took → Option (List ℕ) → Option (List ℕ) → List ℕ → Type 0
Takes (took.Bytes n) old new piece =
    (n ≤ length piece) × Appends old new (take n piece) × (0 < length piece → 0 < n)
Takes took.Failed old new piece = Keeps old new

-- the count of faults after a read
abbrev pub faults_after_read : Got → ℕ → ℕ
faults_after_read (got.Bytes n) faults = faults
faults_after_read got.Failed faults = raised faults

-- the count of faults after a write
abbrev pub faults_after_write : Took → ℕ → ℕ
faults_after_write (took.Bytes n) faults = faults
faults_after_write took.Failed faults = raised faults
