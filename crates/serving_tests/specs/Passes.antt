-- What the functions of the tests say of passes.
use Rattle.std.specs.Prelude.{ℕ, ◌≡◌, ◌+◌, ◌*◌, ◌<◌, ◌≤◌, length, slice_index}
use Rattle.call_places.specs.Entries.{own}
use Rattle.turn_lock.specs.Passes.{LockId, PassView}

-- the pass may take two turns for each of so many calls, from this one on, and its lane may add an
-- entry at each
pub record MayDraw (lock : LockId) (call count : ℕ) (p : PassView) : Type 0 where
  pub of : p.lock ≡ lock
  pub turns : p.turns ≤ call
  pub late : p.next_call ≤ call
  pub calls_fit : call + 2 * count < 4294967295
  pub lane : p.number < length lock.terms.quotas
  pub room : length (own p.number p.seen) + count ≤ slice_index lock.terms.quotas p.number

-- the pass is of this lock, and has taken no turn
abbrev pub IsNew : LockId → PassView → Type 0
IsNew lock pass = (pass.lock ≡ lock) × (pass.turns ≡ 0) × (pass.next_call ≡ 0)
