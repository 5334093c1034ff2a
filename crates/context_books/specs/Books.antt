-- What contracts see of a book, and what a draw adds to it.
use Rattle.std.specs.Prelude.{ℕ, ◌≡◌, ◌<◌, ◌≤◌, nat_lt, Bool, if◌then◌else◌, List, length, slice_index, sum}
use Rattle.call_places.specs.declared.entries.Entry.{Entry}
use Rattle.call_places.specs.declared.entries.Step.{Step}
use Rattle.call_places.specs.declared.entries.Step.TheVariants.{Sealed, SealLimit, Opened, Failed, OpenLimit, Note}
use Rattle.call_places.specs.Entries.{own, seq_of}
use Rattle.call_places.specs.Orders.{StampsRise}
use Rattle.call_places.specs.Quotas.{AreLeft}
use Rattle.context_books.specs.Entries.{AtNumbers}
use Rattle.context_books.specs.declared.book.Draw.{Draw}
use Rattle.context_books.specs.declared.book.Draw.TheVariants.{Number, Limit}

pub record BookView : Type 0 where
  -- LIMIT: the first number that isn't used
  pub limit : ℕ
  -- how many entries each lane may have
  pub quotas : List ℕ
  -- the oldest first
  pub entries : List Entry

-- LIMIT and the quotas are the same
pub record SameTerms (old new : BookView) : Type 0 where
  pub limit : new.limit ≡ old.limit
  pub quotas : new.quotas ≡ old.quotas

-- the step of a draw with this answer
abbrev pub drawn_step : Draw → Step
drawn_step (Number n) = Sealed
drawn_step Limit = SealLimit

-- the step of an open at this number, where the tag holds or doesn't
abbrev pub opened_at : ℕ → ℕ → Bool → Step
opened_at limit n holds = if holds then (if nat_lt n limit then Opened else OpenLimit) else Failed

-- the step may stand at this number: what sealed or opened stands below LIMIT, what was refused
-- there stands at LIMIT. A book notes no names
abbrev pub MayStand : ℕ → ℕ → Step → Type 0
MayStand limit n Sealed = n < limit
MayStand limit n SealLimit = n ≡ limit
MayStand limit n Opened = n < limit
MayStand limit n Failed = n ≤ limit
MayStand limit n OpenLimit = n ≡ limit
MayStand limit n (Note name act live) = ⊥

-- each entry's step may stand at the entry's number
abbrev pub KeepsLimit : ℕ → List Entry → Type 0
KeepsLimit limit entries = AtNumbers (λ n e. MayStand limit n e.step) entries

-- each lane has no more entries than its quota
abbrev pub KeepsQuotas : List ℕ → List Entry → Type 0
KeepsQuotas quotas entries = (lane : ℕ) → lane < length quotas
    → length (own lane entries) ≤ slice_index quotas lane

-- ---- for the proofs

-- what a book keeps: its seq is its entries', each lane has its quota's places left, and there is
-- room for all of them
pub record IsBook (limit seq : ℕ) (quotas left : List ℕ) (entries : List Entry) (capacity : ℕ)
    : Type 0 where
  pub seq_is : seq ≡ seq_of entries
  pub most : seq ≤ limit
  pub limits : KeepsLimit limit entries
  pub places : AreLeft quotas left entries
  pub few : sum quotas ≤ 65536
  pub room : sum quotas ≤ capacity
  pub rise : StampsRise entries
