-- The text that tells given replies, guesses, journals and notes as a result of a plan whose lanes
-- add and retire contexts.
use Rattle.std.specs.Prelude.{ℕ, ◌≡◌, ◌≢◌, ◌≤◌, List, codes, Option, Ok}
use Rattle.std.specs.List.{concat}
use Rattle.call_places.specs.declared.entries.Entry.{Entry}
use Rattle.call_places.specs.declared.entries.Mark.{Mark}
use Rattle.hpke_context.specs.Contexts.{ContextView}
use Rattle.batch_plans.specs.Names.{line_count}
use Rattle.batch_plans.specs.declared.plan.Plan.{Plan}
use Rattle.batch_plans.specs.declared.replies.Batch.{Batch}
use Rattle.batch_plans.specs.declared.replies.KeyReply.{KeyReply}
use Rattle.batch_plans.specs.declared.replies.ContextReply.{ContextReply}
use Rattle.batch_plans.specs.LiveText.{tells_live, live_lines}
use Rattle.context_books.specs.Live.{looked_up_plan}
use Rattle.result_lines.specs.declared.stamps.Stamps.TheVariants.{PlacesAndNotes}
use Rattle.result_lines.specs.declared.tables.NoteLine.{NoteLine}
use Rattle.result_lines.specs.Forms.{most_stamp}
use Rattle.result_lines.specs.Tables.{entry_of, table_told}
use Rattle.result_lines.specs.Told.{ToldView}
use Rattle.result_lines.specs.ToldLive.{told_live_by}
use Rattle.result_lines.specs.Printed.{told_lanes, lines_told, guesses_told, AreComplete, IsLine}

-- the whole text, where these are the replies to the key lines and the contexts
abbrev pub told_live_text : Plan → List KeyReply → List ContextReply → List (Option ContextView)
    → List (List ℕ) → List (List Batch) → List (List Mark) → List Entry → List ℕ
told_live_text plan keys replies contexts lines guesses journals notes =
    concat (live_lines (line_count plan) keys replies
    (told_lanes contexts (looked_up_plan plan notes).lanes lines guesses) journals notes)

-- ---- what can be told

-- a line of some bytes other than `table`
pub record IsReply (line : List ℕ) : Type 0 where
  pub one : IsLine line
  pub other : line ≢ codes "table\n"

-- what the line of a note says
abbrev pub note_told : Entry → NoteLine
note_told e =
    record {
      lane = e.place.lane;
      call = e.place.call;
      live = tells_live e.step;
      stamp = e.stamp;
    }

-- the numbers of a note fit their fields, and its call says the rest
pub record IsNoteWithin (plan : Plan) (standing : List (Option ContextView)) (e : Entry)
    : Type 0 where
  pub lane : e.place.lane ≤ 65535
  pub call : e.place.call ≤ 65535
  pub stamp : e.stamp ≤ most_stamp PlacesAndNotes
  pub own : entry_of plan standing (note_told e) ≡ e

-- ---- what is read, and what is printed

-- a text is that of what it tells, which is complete
pub record IsLiveTextOf (plan : Plan) (keys : List KeyReply) (replies : List ContextReply)
    (contexts : List (Option ContextView)) (notes : List Entry) (text : List ℕ) (told : ToldView)
    : Type 0 where
  pub is : text ≡ told_live_text plan keys replies contexts (lines_told told) (guesses_told told)
      told.journals notes
  pub complete : AreComplete (looked_up_plan plan notes) contexts (lines_told told)
      (guesses_told told) told.journals

-- the text that tells these has this table, and is read as what tells these
pub record IsLiveReadBack (plan : Plan) (keys : List KeyReply) (replies : List ContextReply)
    (contexts : List (Option ContextView)) (lines : List (List ℕ)) (guesses : List (List Batch))
    (journals : List (List Mark)) (notes : List Entry) : Type 0 where
  pub table_is : table_told plan contexts
      (told_live_text plan keys replies contexts lines guesses journals notes) ≡ notes
  pub told : ToldView
  pub is : told_live_by plan keys replies contexts notes
      (told_live_text plan keys replies contexts lines guesses journals notes) ≡ Ok told
  pub lines_are : lines_told told ≡ lines
  pub guesses_are : guesses_told told ≡ guesses
  pub journals_are : told.journals ≡ journals
