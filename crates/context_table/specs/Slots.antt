-- The keys of a plan as a program holds them, each in the slot of its number.
use Rattle.std.specs.Prelude.{◌≡◌, ℕ, List, Option, Some, None, slice_get}
use Rattle.batch_plans.specs.declared.plan.Plan.{Plan}
use Rattle.batch_plans.specs.declared.replies.KeyReply.{KeyReply}
use Rattle.context_table.specs.declared.keys.Key.{Key}
use Rattle.context_table.specs.declared.keys.Key.TheVariants.{Of761, Of857}
use Rattle.context_table.specs.Keys.{KeyView, key_at}

-- a key of either set
abbrev pub view_of : Key → KeyView
view_of (Of761 pair) = pair
view_of (Of857 pair) = pair

abbrev pub held_view : Option Key → Option KeyView
held_view None = None
held_view (Some key) = Some (view_of key)

-- the key in the slot of a number, where there is one
abbrev pub held_in : Option (Option Key) → Option KeyView
held_in None = None
held_in (Some slot) = held_view slot

-- the slots hold the keys that stand by these replies, each at its number
abbrev pub HoldKeys : Plan → List KeyReply → List (Option Key) → Type 0
HoldKeys plan replies slots = (k : ℕ) → held_in (slice_get slots k) ≡ key_at plan replies k
