-- The text that a batch is answered with whose lanes add and retire contexts while they are served,
-- a format of this program's own. Numbers are decimal without leading zeros.
use Rattle.std.specs.Prelude.{ℕ, Bool, true, false, List, [], ◌∷◌, ◌++◌, map, take, drop, codes, decimal}
use Rattle.call_places.specs.declared.entries.Entry.{Entry}
use Rattle.call_places.specs.declared.entries.Mark.{Mark}
use Rattle.call_places.specs.declared.entries.Step.{Step}
use Rattle.call_places.specs.declared.entries.Step.TheVariants.{Note}
use Rattle.batch_plans.specs.declared.replies.KeyReply.{KeyReply}
use Rattle.batch_plans.specs.declared.replies.ContextReply.{ContextReply}
use Rattle.batch_plans.specs.ReplyText.{numbered, all_lines, setup_lines, lane_lines, mark_line, journal_lines, version_line}

-- ---- journals

-- `journal +K`, and the lines of its places
abbrev pub added_journal_lines : ℕ → List Mark → List (List ℕ)
added_journal_lines name marks =
    (codes "journal +" ++ decimal name ++ codes "\n") ∷ map (mark_line true) marks

-- ---- the table

-- the name of a note was live; no other step tells it
abbrev pub tells_live : Step → Bool
tells_live (Note name act live) = live
tells_live step = false

abbrev pub bit : Bool → ℕ
bit true = 1
bit false = 0

-- `LANE CALL BIT STAMP`
abbrev pub note_line : Entry → List ℕ
note_line e =
    decimal e.place.lane ++ codes " " ++ decimal e.place.call ++ codes " "
    ++ decimal (bit (tells_live e.step)) ++ codes " " ++ decimal e.stamp ++ codes "\n"

-- `table`, and the lines of its notes
abbrev pub table_lines : List Entry → List (List ℕ)
table_lines notes = codes "table\n" ∷ map note_line notes

-- ---- the whole text

-- The lines of a reply whose first contexts, so many, are those of context lines: its keys, these
-- contexts, the lines of each lane's calls, the journals of these contexts and of those that were
-- added, and the table. An added context has no line of its own.
unfoldable pub live_lines : ℕ → List KeyReply → List ContextReply → List (List (List ℕ))
    → List (List Mark) → List Entry → List (List ℕ)
live_lines lines keys contexts lanes journals notes =
    version_line 2
    ∷ setup_lines keys (take lines contexts)
    ++ all_lines (numbered lane_lines 0 lanes)
    ++ all_lines (numbered (journal_lines true) 0 (take lines journals))
    ++ all_lines (numbered added_journal_lines 0 (drop lines journals))
    ++ table_lines notes
    ++ codes "end\n" ∷ []
