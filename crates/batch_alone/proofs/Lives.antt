-- One note more, and how many places a call is given.
use Rattle.std.proofs.Common.{◌≡◌, ◌≢◌, ℕ, ◌<◌, Bool, false, List, [], ◌∷◌, ◌++◌, length, get_or, set, sym, refl, ap, ◌∙◌, get_or-set_same, get_or-set_other, Option, Some, None}
use Rattle.std.specs.Prelude.{slice_index_or}
use mathlib.Core.Logic.{dite}
use native.Mathlib.Decide.{ℕ_discrete}
use Rattle.call_places.specs.declared.entries.Act.{Act}
use Rattle.call_places.specs.declared.entries.Place.{Place}
use Rattle.call_places.specs.declared.entries.Entry.{Entry}
use Rattle.call_places.specs.Notes.{note_entry, live_at}
use Rattle.call_places.proofs.Live.{another}
use Rattle.hpke_context.specs.Contexts.{ContextView}
use Rattle.context_books.specs.Batches.{items_in}
use Rattle.batch_plans.specs.declared.plan.Plan.{Plan}
use Rattle.batch_plans.specs.declared.plan.CallLine.{CallLine}
use Rattle.batch_plans.specs.declared.plan.CallLine.TheVariants as calls
use Rattle.batch_plans.specs.declared.replies.CallRefusal.{CallRefusal}
use Rattle.batch_plans.specs.Within.{IsCallWithin}
use Rattle.context_books.specs.Asks.{asked_by, ask_unless, ask_of}
use Rattle.context_books.specs.Standing.{call_refusal}
use Rattle.context_books.proofs.Done.{length-messages}
use Rattle.batch_alone.specs.Turns.{places_in}

-- the list of live names, after a note of one of them
pub live_set : (entries : List Entry) (live : List Bool) (now : Bool) (p : Place) (stamp name : ℕ)
    (act : Act) (told : Bool) → name < length live
    → ((k : ℕ) → k < length live → slice_index_or live k false ≡ live_at entries k)
    → now ≡ live_at (entries ++ note_entry p stamp name act told ∷ []) name
    → (k : ℕ) → k < length live → slice_index_or (set live name now) k false
    ≡ live_at (entries ++ note_entry p stamp name act told ∷ []) k
live_set entries live now p stamp name act told is_name was here k below = dite (ℕ_discrete k name)
    (λ (is : k ≡ name).
    ap (λ i. get_or (set live name now) i false) is ∙ get_or-set_same live name now false is_name
    ∙ here ∙ ap (λ i. live_at (entries ++ note_entry p stamp name act told ∷ []) i) (sym is))
    (λ (apart : k ≢ name).
    get_or-set_other live name k now false apart ∙ was k below
    ∙ sym (another entries p stamp name k act told (λ q. apart (sym q))))

-- a call is given a place for each item that it asks
pub places_are : (plan : Plan) (contexts : List (Option ContextView)) (call : CallLine)
    → IsCallWithin (length plan.items) (length plan.pool) call
    → places_in (call_refusal contexts call) call ≡ length (items_in (ask_of plan contexts call))
places_are plan contexts call within = by_refusal (call_refusal contexts call)
  where
    of_kind : (c : CallLine) → IsCallWithin (length plan.items) (length plan.pool) c
        → places_in None c ≡ length (items_in (asked_by plan c))
    of_kind (calls.Seal context item) w = refl
    of_kind (calls.Unseal context item) w = refl
    of_kind (calls.UnsealAll context first count) w =
        sym (length-messages plan.items plan.pool first count w.3)
    of_kind (calls.Export context exporter size) w = refl
    of_kind (calls.Add name) w = refl
    of_kind (calls.Retire name) w = refl

    by_refusal : (o : Option CallRefusal)
        → places_in o call ≡ length (items_in (ask_unless o (asked_by plan call)))
    by_refusal None = of_kind call within
    by_refusal (Some why) = refl
