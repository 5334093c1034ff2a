-- ---- for the proofs: what is kept while lanes are served one after another.
use Rattle.std.specs.Prelude.{ℕ, ◌≡◌, ◌<◌, false, length, slice_index_or, Option, Some, None}
use Rattle.call_places.specs.Notes.{live_at}
use Rattle.batch_plans.specs.declared.plan.CallLine.{CallLine}
use Rattle.batch_plans.specs.declared.plan.CallLine.TheVariants as calls
use Rattle.batch_plans.specs.declared.replies.CallRefusal.{CallRefusal}
use Rattle.batch_alone.specs.declared.tables.InTurn.{InTurn}
use Rattle.batch_alone.specs.Tables.{SoFar}

abbrev pub so_far : InTurn → SoFar
so_far t = record { notes = t.notes.items; stamps = t.stamps.items }

-- it is known of each name whether it is live
pub record KeepsLive (names : ℕ) (t : InTurn) : Type 0 where
  pub names_are : length t.live.items ≡ names
  pub each : (name : ℕ) → name < names
      → slice_index_or t.live.items name false ≡ live_at t.notes.items name

-- how many places a call is given
abbrev pub places_in : Option CallRefusal → CallLine → ℕ
places_in (Some why) call = 0
places_in None (calls.Seal context item) = 1
places_in None (calls.Unseal context item) = 1
places_in None (calls.UnsealAll context first count) = count
places_in None (calls.Export context exporter size) = 0
places_in None (calls.Add name) = 0
places_in None (calls.Retire name) = 0
