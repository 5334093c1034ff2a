-- What each lane shows of the contexts once its calls are served, and what the contexts show once
-- they are closed. A lane has seen a front of a context's entries, and of its own entries there it
-- knows that they are right. The entries of a context that is closed are its book.
use Rattle.std.specs.Prelude.{ℕ, ◌≡◌, ◌<◌, ◌≤◌, List, [], ◌++◌, length, map, flat_map, Contains, IsPermutation, slice_get, slice_index_or, Some}
use Rattle.std.specs.List.{range_with_len}
use mathlib.Core.List.{IsPrefix}
use Rattle.call_places.specs.declared.entries.Place.{Place}
use Rattle.call_places.specs.declared.entries.Entry.{Entry}
use Rattle.call_places.specs.declared.entries.Mark.{Mark}
use Rattle.call_places.specs.Entries.{seq_of, own, mark_of, stamps_of}
use Rattle.call_places.specs.Orders.{IsBefore, StampsRise}
use Rattle.hpke_context.specs.Answers.{Item, Cipher, Answer, answer}
use Rattle.call_places.specs.Messages.{SealedMessage}
use Rattle.context_books.specs.Batches.{Batch, ToOpenAll, unseal, item_of, lane_of}
use Rattle.context_books.specs.Merging.{lane_places}
use Rattle.context_books.specs.Guesses.{guess_count, guess_at, missed}
use Rattle.context_books.specs.Entries.{step_for, steps_from, numbers_from, entries_from, AtNumbers}
use Rattle.context_books.specs.Histories.{entry_places}

-- what is shown of a batch
pub record Showing : Type 0 where
  pub seen : ℕ → ℕ → List Entry  -- by lane and context: what the lane has seen of it
  pub books : List (List Entry)  -- by context: its entries, once it is closed
  pub replies : Place → Answer  -- what the lanes answer to served items
  pub guesses : ℕ → List ℕ  -- by lane: those that it kept, one for each opening of several messages
  pub misses : ℕ → List ℕ  -- by lane: how many items each of these guesses missed

abbrev pub book : Showing → ℕ → List Entry
book s context = slice_index_or s.books context []

-- the journals, without stamps and with them
abbrev pub journal : Showing → ℕ → List Place
journal s context = entry_places (book s context)

abbrev pub stamped_journals : Showing → List (List Mark)
stamped_journals s = map (map mark_of) s.books

-- ---- one lane

-- an entry has the step of the sequential context at this number, and its place the reply
pub record AnsweredAt (batch : Batch) (context : ℕ) (c : Cipher) (replies : Place → Answer)
    (n : ℕ) (e : Entry) : Type 0 where
  pub item : Item
  pub of_place : item_of batch e.place ≡ Some (context, item)
  pub step : e.step ≡ step_for item (answer c n item)
  pub reply : replies e.place ≡ answer c n item

-- what a lane shows of one context
pub record LaneShows (batch : Batch) (context : ℕ) (c : Cipher) (lane : ℕ)
    (replies : Place → Answer) (seen : List Entry) : Type 0 where
  -- its own entries are those of its served items, in order
  pub places : entry_places (own lane seen) ≡ lane_places context lane (lane_of batch lane)
  -- each of them is answered at its number
  pub answered : AtNumbers
      (λ n e. e.place.lane ≡ lane → AnsweredAt batch context c replies n e) seen

-- What a lane shows of an opening of several messages. Its guess is the number that was due after a
-- front of what the lane has seen, which holds all its earlier entries. Its own entries follow
-- behind others' in one block, with the steps of the sequential context and consecutive stamps. Of
-- their numbers the guess missed so many.
pub record OpeningShows (c : Cipher) (seen : List Entry) (lane call : ℕ) (items : List Item)
    (guess misses : ℕ) : Type 0 where
  pub front : List Entry
  pub others : List Entry
  pub after : List Entry
  pub due : ℕ
  pub first_stamp : ℕ
  pub stands : seen ≡ front ++ (others
      ++ (entries_from lane call 0 first_stamp (steps_from c due items) ++ after))
  pub of_others : own lane others ≡ []
  pub due_is : due ≡ seq_of (front ++ others)
  pub guessed : guess ≡ seq_of front
  pub missed : misses ≡ missed guess 0 (numbers_from c due items)

-- the lane has a guess for each of its openings of several messages, and each shows what it guessed
-- and how many it missed
pub record OpeningsShow (batch : Batch) (ciphers : ℕ → Cipher) (lane : ℕ)
    (seen : ℕ → List Entry) (guesses misses : List ℕ) : Type 0 where
  pub count : length guesses ≡ guess_count (lane_of batch lane)
  pub each : (context call : ℕ) (messages : List SealedMessage)
      → slice_get (lane_of batch lane) call ≡ Some (ToOpenAll context messages)
      → OpeningShows (ciphers context) (seen context) lane call (map unseal messages)
      (guess_at (lane_of batch lane) guesses call) (guess_at (lane_of batch lane) misses call)

-- the stamps of the lane's own entries rise, over all contexts, by call, and in a call by item
abbrev pub StampsInOrder : ℕ → (ℕ → List Entry) → Type 0
StampsInOrder lane seen = (c d : ℕ) (e f : Entry)
    → Contains (own lane (seen c)) e → Contains (own lane (seen d)) f
    → IsBefore e.place f.place → e.stamp < f.stamp

-- all that a lane shows
pub record LaneIsShown (batch : Batch) (ciphers : ℕ → Cipher) (s : Showing) (lane : ℕ)
    : Type 0 where
  pub each : (context : ℕ)
      → LaneShows batch context (ciphers context) lane s.replies (s.seen lane context)
  pub openings : OpeningsShow batch ciphers lane (s.seen lane) (s.guesses lane) (s.misses lane)
  pub in_order : StampsInOrder lane (s.seen lane)

-- ---- one context

-- its entries begin with what each lane has seen; each lane's are its own of these, and no others
-- are there; their stamps rise
pub record Closes (lanes : ℕ) (seen : ℕ → List Entry) (entries : List Entry) : Type 0 where
  pub begins : (lane : ℕ) → lane < lanes → IsPrefix (seen lane) entries
  pub whole : (lane : ℕ) → lane < lanes → own lane (seen lane) ≡ own lane entries
  pub others : (lane : ℕ) → lanes ≤ lane → own lane entries ≡ []
  pub rise : StampsRise entries

-- ---- all of them

-- every lane shows its part, every context is closed, and the counter gave the stamps of all books:
-- the numbers from 0 on, each once
pub record AllShown (batch : Batch) (ciphers : ℕ → Cipher) (s : Showing) : Type 0 where
  pub lanes : (lane : ℕ) → lane < length batch → LaneIsShown batch ciphers s lane
  pub closes : (context : ℕ) → Closes (length batch) (λ lane. s.seen lane context) (book s context)
  pub count : ℕ
  pub given : IsPermutation (flat_map stamps_of s.books) (range_with_len 0 count)
