-- Turns of a pass, in which its lane adds entries within a quota.
use Rattle.std.specs.Prelude.{ℕ, ◌≡◌, ◌+◌, ◌<◌, ◌≤◌, length, slice_index}
use Rattle.call_places.specs.Entries.{own}
use Rattle.turn_lock.specs.Passes.{LockId, PassView}

-- the pass may take a turn at this call, and its lane may add so many entries
pub record MayCall (lock : LockId) (p : PassView) (call count : ℕ) : Type 0 where
  pub of : p.lock ≡ lock
  pub turns : p.turns < 4294967295
  pub late : p.next_call ≤ call
  pub call_fits : call < 4294967295
  pub lane : p.number < length lock.terms.quotas
  pub room : length (own p.number p.seen) + count ≤ slice_index lock.terms.quotas p.number

-- the same pass, one turn later
pub record IsAfter (old new : PassView) : Type 0 where
  pub lock : new.lock ≡ old.lock
  pub number : new.number ≡ old.number
  pub turns : new.turns ≡ old.turns + 1
