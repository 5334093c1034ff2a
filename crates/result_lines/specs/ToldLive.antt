-- What a result tells whose lanes add and retire contexts, read line by line. Its table is read first
-- (`Tables.antt`), so the calls are known as they were served; which lines there have to be follows
-- from these, as `Told.antt` has it. Behind the journals of context lines stand those of the contexts
-- that were added, and then the table.
use Rattle.std.specs.Prelude.{ℕ, ◌+◌, List, [], ◌∷◌, ◌++◌, codes, decimal, take, drop, Option, Result, Ok}
use Rattle.call_places.specs.declared.entries.Entry.{Entry}
use Rattle.hpke_context.specs.Contexts.{ContextView}
use Rattle.batch_plans.specs.Names.{line_count}
use Rattle.batch_plans.specs.declared.plan.Plan.{Plan}
use Rattle.batch_plans.specs.declared.plan.ContextLine.{ContextLine}
use Rattle.batch_plans.specs.declared.replies.KeyReply.{KeyReply}
use Rattle.batch_plans.specs.declared.replies.ContextReply.{ContextReply}
use Rattle.batch_plans.specs.LiveText.{table_lines}
use Rattle.context_books.specs.Live.{looked_up_plan}
use Rattle.result_lines.specs.declared.stamps.Stamps.TheVariants.{PlacesAndNotes}
use Rattle.result_lines.specs.Places.{◌>>=◌, marks_of}
use Rattle.result_lines.specs.Told.{ToldView, nothing_yet, with_line, with_lines, with_setup, with_lanes, journal_ended, with_journals, with_end}

-- `journal +K`, and its places
unfoldable pub with_added_journal : ℕ → ToldView → Result ToldView ℕ
with_added_journal name told = do
  told ← with_line (codes "journal +" ++ decimal name ++ codes "\n") told
  Ok (journal_ended told (marks_of PlacesAndNotes told.lines))

-- one for each context that is added, from this number on
abbrev pub with_added_journals : ℕ → List ContextLine → ToldView → Result ToldView ℕ
with_added_journals name [] told = Ok told
with_added_journals name (line ∷ more) told =
    (with_added_journal name told >>= with_added_journals (name + 1) more)

-- all of them: those of context lines, and then those of the contexts that are added
unfoldable pub with_all_journals : Plan → ToldView → Result ToldView ℕ
with_all_journals plan told = do
  told ← with_journals PlacesAndNotes 0 (take (line_count plan) plan.contexts) told
  with_added_journals 0 (drop (line_count plan) plan.contexts) told

-- What the text tells as a result of a plan whose lanes add and retire contexts, where these are the
-- replies to its key lines and its contexts, the contexts that stand, and the notes of its table; or
-- its first line that is missing, has no line feed or another form, or stands behind `end`.
unfoldable pub told_live_by : Plan → List KeyReply → List ContextReply → List (Option ContextView)
    → List Entry → List ℕ → Result ToldView ℕ
told_live_by plan keys replies contexts notes text = do
  told ← with_setup 2 keys (take (line_count plan) replies) (nothing_yet text)
  told ← with_lanes contexts 0 (looked_up_plan plan notes).lanes told
  told ← with_all_journals plan told
  told ← with_lines (table_lines notes) told
  with_end told
