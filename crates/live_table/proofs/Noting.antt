-- One note more.
use Rattle.std.proofs.Common.{◌≡◌, ◌≢◌, ℕ, ◌+◌, ◌-◌, ◌<◌, ◌≤◌, Bool, false, List, [], ◌∷◌, ◌++◌, length, get_or, set, sym, refl, ap, ◌∙◌, subst, arith, get_or-set_same, get_or-set_other}
use Rattle.std.specs.Prelude.{slice_index, slice_index_or}
use Rattle.std.specs.List.{range_with_len}
use mathlib.Core.Logic.{dite}
use native.Mathlib.Decide.{ℕ_discrete}
use Rattle.call_places.specs.declared.entries.Act.{Act}
use Rattle.call_places.specs.declared.entries.Place.{Place}
use Rattle.call_places.specs.declared.entries.Entry.{Entry}
use Rattle.call_places.specs.Entries.{own}
use Rattle.call_places.specs.Orders.{StampsRise}
use Rattle.call_places.specs.Notes.{note_entry, live_at, AreLive}
use Rattle.call_places.specs.Quotas.{AreLeft}
use Rattle.call_places.proofs.Live.{another, AreLive-push}
use Rattle.call_places.proofs.Stamps.{StampsBelow-weaker, StampsRise-push}
use Rattle.call_places.proofs.Quotas.{one_left_less, room_for}
use Rattle.stamp_counter.specs.Seats.{SeatView}
use Rattle.stamp_counter.proofs.Stamping.{stamped_more}
use Rattle.live_table.specs.Notes.{AreNotes}

-- the list of live names, after a note of one of them
live_set : (entries : List Entry) (live : List Bool) (now : Bool) (p : Place) (stamp name : ℕ) (act : Act) (told : Bool)
    → length live ≡ 256 → name < 256
    → ((k : ℕ) → k < 256 → slice_index_or live k false ≡ live_at entries k)
    → now ≡ live_at (entries ++ note_entry p stamp name act told ∷ []) name
    → (k : ℕ) → k < 256 → slice_index_or (set live name now) k false ≡ live_at (entries ++ note_entry p stamp name act told ∷ []) k
live_set entries live now p stamp name act told size is_name was here k below = dite (ℕ_discrete k name)
    (λ (is : k ≡ name).
    ap (λ i. get_or (set live name now) i false) is ∙ get_or-set_same live name now false (omega arith)
    ∙ here ∙ ap (λ i. live_at (entries ++ note_entry p stamp name act told ∷ []) i) (sym is))
    (λ (apart : k ≢ name).
    get_or-set_other live name k now false apart ∙ was k below ∙ sym (another entries p stamp name k act told (λ q. apart (sym q))))

pub noted : (quotas : List ℕ) (entries entries' : List Entry) (capacity capacity' : ℕ) (live : List Bool) (now : Bool) (seat seat' : SeatView)
    (counter : List ℕ) (p : Place) (stamp name : ℕ) (act : Act) (told : Bool)
    → AreNotes quotas entries capacity live seat
    → p.lane < length quotas → length (own p.lane entries) < slice_index quotas p.lane
    → length live ≡ 256 → name < 256
    → told ≡ live_at entries name → now ≡ live_at (entries ++ note_entry p stamp name act told ∷ []) name
    → seat.low ≤ stamp
    → seat' ≡ record { counter = counter; low = stamp + 1; drawn = seat.drawn ++ range_with_len stamp 1; left = seat.left - 1 }
    → entries' ≡ entries ++ note_entry p stamp name act told ∷ [] → capacity' ≡ capacity
    → AreNotes quotas entries' capacity' (set live name now) seat'
noted quotas entries entries' capacity capacity' live now seat seat' counter p stamp name act told n lane room size is_name tells after least drew adds same =
    let e : Entry = note_entry p stamp name act told in
    let below = StampsBelow-weaker seat.low stamp entries least n.stamped.below in
    let all = room_for quotas n.left entries p.lane 1 n.places lane (omega arith) in record {
      left = set n.left p.lane (slice_index n.left p.lane - 1);
      places = subst (AreLeft quotas (set n.left p.lane (slice_index n.left p.lane - 1))) (sym adds) (one_left_less quotas n.left entries e (slice_index n.left p.lane) n.places lane room refl);
      room = (let a = n.room in omega arith);
      stamped = stamped_more quotas quotas entries entries' seat seat' (e ∷ []) counter stamp 1 n.stamped refl adds drew refl refl (omega arith, tt) least all;
      rise = subst StampsRise (sym adds) (StampsRise-push entries e n.rise below);
      told = subst AreLive (sym adds) (AreLive-push entries e n.told tells);
      live_is = λ k is_below. live_set entries live now p stamp name act told size is_name n.live_is after k is_below ∙ ap (λ l. live_at l k) (sym adds);
    }
