-- The journals of all contexts of a batch as one history. Each place carries a stamp, a number that
-- says where it stands among the places of all journals.
use Rattle.std.specs.Prelude.{ℕ, ◌≡◌, ◌≢◌, ◌==◌, ◌+◌, ◌<◌, ◌↔◌, cond, List, [], ◌∷◌, length, map, flat_map, Contains, slice_index_or, IsPermutation}
use Rattle.std.specs.List.{AllPairs, range_with_len}
use Rattle.call_places.specs.declared.entries.Place.{Place}
use Rattle.call_places.specs.declared.entries.Mark.{Mark}
use Rattle.call_places.specs.Orders.{IsBefore}
use Rattle.context_books.specs.Batches.{Batch, Spot, place, IsServed}
use Rattle.context_books.specs.Legal.{OpensOn}
use Rattle.call_places.specs.declared.entries.Entry.{Entry}

abbrev pub mark : Place → ℕ → Mark
mark p stamp = record { place = p; stamp = stamp }

abbrev pub places : List Mark → List Place
places marks = map (λ m. m.place) marks

abbrev pub entry_places : List Entry → List Place
entry_places entries = map (λ e. e.place) entries

abbrev pub stamps : List Mark → List ℕ
stamps marks = map (λ m. m.stamp) marks

-- the journal of a context; one of which there is none is empty
abbrev pub marks_at : List (List Mark) → ℕ → List Mark
marks_at journals context = slice_index_or journals context []

-- the stamps of all journals
abbrev pub all_stamps : List (List Mark) → List ℕ
all_stamps journals = flat_map stamps journals

abbrev pub HasLowerStamp : Mark → Mark → Type 0
HasLowerStamp m k = m.stamp < k.stamp

-- the items of a call of n items have consecutive stamps in a journal, in their order
abbrev pub HaveConsecutiveStamps : List Mark → ℕ → ℕ → ℕ → Type 0
HaveConsecutiveStamps journal lane call n =
    (first : ℕ)
    × ((item : ℕ) → item < n → Contains journal (mark (place lane call item) (first + item)))

-- the journal of one context, with its stamps
pub record LegalMarks (batch : Batch) (context : ℕ) (journal : List Mark) : Type 0 where
  -- it holds each place served on the context, and nothing else
  pub served : (p : Place) → Contains (places journal) p ↔ IsServed batch context p
  -- it holds each once
  pub once : AllPairs (λ p q. p ≢ q) (places journal)
  -- its stamps rise
  pub rise : AllPairs HasLowerStamp journal
  -- the places of one opening of several messages have consecutive stamps, in the order of its
  -- items
  pub together : (lane call n : ℕ) → OpensOn batch context lane call n
      → HaveConsecutiveStamps journal lane call n

-- so many numbers from 0 on, each once, in any order
abbrev pub AreAllFrom0 : List ℕ → Type 0
AreAllFrom0 numbers = IsPermutation numbers (range_with_len 0 (length numbers))

-- The journals of all contexts: the stamps merge them into one history.
pub record LegalHistory (batch : Batch) (journals : List (List Mark)) : Type 0 where
  pub each : (context : ℕ) → LegalMarks batch context (marks_at journals context)
  -- all stamps together are the numbers from 0 on, as many as there are places, each once
  pub stamped : AreAllFrom0 (all_stamps journals)
  -- of two places of one lane, in whichever journals, the one with the lower call has the lower
  -- stamp; within one call the one with the lower item
  pub in_order : (c d : ℕ) (m k : Mark)
      → Contains (marks_at journals c) m → Contains (marks_at journals d) k
      → m.place.lane ≡ k.place.lane → IsBefore m.place k.place → HasLowerStamp m k

-- ---- the journals of a history

-- the journal of a context in a history of all contexts: the stamp of a place is its index there
abbrev pub stamped_on : ℕ → ℕ → List Spot → List Mark
stamped_on context stamp [] = []
stamped_on context stamp (s ∷ ss) =
    cond (s.context == context)
    (mark s.place stamp ∷ stamped_on context (stamp + 1) ss)
    (stamped_on context (stamp + 1) ss)

-- those of so many contexts
abbrev pub journals_of : ℕ → List Spot → List (List Mark)
journals_of contexts history =
    map (λ context. stamped_on context 0 history) (range_with_len 0 contexts)

-- ---- one list of all places
