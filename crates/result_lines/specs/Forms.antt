-- What the lines of numbers say, a format of this program's own: `batch G M`, and the places of a
-- journal. A line is the list of its bytes, without its line feed.
use Rattle.std.specs.Prelude.{ℕ, Bool, true, false, List, Result, Ok, Err, codes, if◌then◌else◌}
use Rattle.std.specs.Str.{bytes_eq}
use Rattle.call_places.specs.declared.entries.Mark.{Mark}
use Rattle.field_text.specs.declared.reasons.Reason.{Reason}
use Rattle.field_text.specs.declared.reasons.Reason.TheVariants.{Word}
use Rattle.field_text.specs.Cuts.{pieces_of}
use Rattle.field_text.specs.Fields.{◌>>=◌, next, exactly, number}
use Rattle.context_books.specs.Batches.{place}
use Rattle.context_books.specs.Histories.{mark}
use Rattle.batch_plans.specs.Limits.{most_opening}
use Rattle.batch_plans.specs.declared.replies.Batch.{Batch}
use Rattle.result_lines.specs.declared.stamps.Stamps.{Stamps}
use Rattle.result_lines.specs.declared.stamps.Stamps.TheVariants.{Unprinted, Places, PlacesAndNotes}

-- a piece that is this word
abbrev pub word_of : List ℕ → List ℕ → Result (List ℕ) Reason
word_of word piece = if bytes_eq piece word then Ok piece else Err Word

-- the pieces behind the word `batch`
abbrev pub behind : Result (List ℕ × List (List ℕ)) Reason → Result (List (List ℕ)) Reason
behind (Ok read) = Ok read.1
behind (Err reason) = Err reason

abbrev pub batch_word : List (List ℕ) → Result (List (List ℕ)) Reason
batch_word pieces = behind (next (word_of (codes "batch")) pieces)

-- `batch G M`, with G below 2^64 and M at most the messages of one opening
unfoldable pub guess_in : List (List ℕ) → Result Batch Reason
guess_in pieces = do
  pieces ← exactly 3 pieces
  pieces ← batch_word pieces
  (guess, pieces) ← next (number 0 18446744073709551615) pieces
  (missed, pieces) ← next (number 0 most_opening) pieces
  Ok (record { guess = guess; missed = missed })

-- a number of a place: there are no more calls, items and places than there may be items
abbrev pub coordinate : List (List ℕ) → Result (ℕ × List (List ℕ)) Reason
coordinate pieces = next (number 0 65535) pieces

-- the stamps of version 2 are printed
abbrev pub stamps_for : Bool → Stamps
stamps_for printed = if printed then Places else Unprinted

abbrev pub are_printed : Stamps → Bool
are_printed Unprinted = false
are_printed Places = true
are_printed PlacesAndNotes = true

-- the greatest stamp: there are no more places than there may be items, and no more notes
abbrev pub most_stamp : Stamps → ℕ
most_stamp Unprinted = 0
most_stamp Places = 65535
most_stamp PlacesAndNotes = 131071

-- ` STAMP`, where it is printed
abbrev pub stamp_in : Stamps → List (List ℕ) → Result (ℕ × List (List ℕ)) Reason
stamp_in stamps pieces =
    if are_printed stamps then next (number 0 (most_stamp stamps)) pieces else Ok (0, pieces)

-- how many numbers a place has
abbrev pub mark_size : Stamps → ℕ
mark_size stamps = if are_printed stamps then 4 else 3

-- `LANE CALL ITEM`, and with stamps `LANE CALL ITEM STAMP`. Without stamps each is told as 0.
unfoldable pub mark_in : Stamps → List (List ℕ) → Result Mark Reason
mark_in stamps pieces = do
  pieces ← exactly (mark_size stamps) pieces
  (lane, pieces) ← coordinate pieces
  (call, pieces) ← coordinate pieces
  (item, pieces) ← coordinate pieces
  (stamp, pieces) ← stamp_in stamps pieces
  Ok (mark (place lane call item) stamp)

abbrev pub guess_of_line : List ℕ → Result Batch Reason
guess_of_line line = guess_in (pieces_of line)

abbrev pub mark_of_line : Stamps → List ℕ → Result Mark Reason
mark_of_line stamps line = mark_in stamps (pieces_of line)
