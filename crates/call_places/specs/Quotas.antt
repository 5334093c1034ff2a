-- How many entries each lane may have.
use Rattle.std.specs.Prelude.{ℕ, ◌≡◌, ◌+◌, ◌<◌, List, length, slice_index, sum}
use Rattle.call_places.specs.declared.entries.Entry.{Entry}
use Rattle.call_places.specs.Entries.{own}

-- ---- for the proofs

-- so many are left to each lane of its quota, and to all lanes together
pub record AreLeft (quotas left : List ℕ) (entries : List Entry) : Type 0 where
  pub lanes : length left ≡ length quotas
  pub each : (lane : ℕ) → lane < length quotas
      → slice_index left lane + length (own lane entries) ≡ slice_index quotas lane
  pub all : sum left + length entries ≡ sum quotas
