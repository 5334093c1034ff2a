-- What lies under the lock of a live table: its notes, with the seat that their stamps are drawn from.
use Rattle.std.specs.Prelude.{ℕ, ◌≡◌, ◌<◌, ◌≤◌, Bool, false, List, slice_index_or, sum}
use Rattle.call_places.specs.declared.entries.Entry.{Entry}
use Rattle.call_places.specs.declared.listed.Terms.{Terms}
use Rattle.call_places.specs.Orders.{StampsRise}
use Rattle.call_places.specs.Notes.{live_at, AreLive}
use Rattle.call_places.specs.Quotas.{AreLeft}
use Rattle.stamp_counter.specs.Seats.{SeatView}
use Rattle.stamp_counter.specs.Stamps.{IsStamped}

-- the notes, how many each lane may have, and their seat
pub record NotesView : Type 0 where
  pub quotas : List ℕ
  pub entries : List Entry
  pub seat : SeatView

-- no number is drawn, and the limit of 1 means nothing
abbrev pub terms_of : NotesView → Terms
terms_of n = record { limit = 1; quotas = n.quotas; counter = n.seat.counter }

-- ---- for the proofs

-- what the notes keep: each tells what was live before it, `live` tells what is live now, and there is
-- room for what the quotas leave
pub record AreNotes (quotas : List ℕ) (entries : List Entry) (capacity : ℕ) (live : List Bool)
    (seat : SeatView) : Type 0 where
  pub left : List ℕ
  pub places : AreLeft quotas left entries
  pub room : sum quotas ≤ capacity
  pub stamped : IsStamped quotas entries seat
  pub rise : StampsRise entries
  pub told : AreLive entries
  pub live_is : (name : ℕ) → name < 256 → slice_index_or live name false ≡ live_at entries name
