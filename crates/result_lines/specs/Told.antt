-- What a result tells, read line by line. Which lines there have to be follows from the plan, the
-- replies to its set-up and the contexts that stand: those of the set-up just as they are printed, a
-- line of any bytes for each reply to a call, `batch G M` behind those of an opening of several
-- messages that is served, and journals.
use Rattle.std.specs.Prelude.{ℕ, zero, suc, ◌+◌, List, [], ◌∷◌, ◌++◌, codes, decimal, Option, Some, None, Result, Ok}
use Rattle.call_places.specs.declared.entries.Mark.{Mark}
use Rattle.hpke_context.specs.Contexts.{ContextView}
use Rattle.batch_plans.specs.declared.plan.Plan.{Plan}
use Rattle.batch_plans.specs.declared.plan.ContextLine.{ContextLine}
use Rattle.batch_plans.specs.declared.plan.CallLine.{CallLine}
use Rattle.batch_plans.specs.declared.plan.CallLine.TheVariants as calls
use Rattle.batch_plans.specs.declared.replies.KeyReply.{KeyReply}
use Rattle.batch_plans.specs.declared.replies.ContextReply.{ContextReply}
use Rattle.batch_plans.specs.declared.replies.CallRefusal.{CallRefusal}
use Rattle.batch_plans.specs.Lines.{key_line, context_line}
use Rattle.batch_plans.specs.ReplyText.{numbered, version_line, has_stamps}
use Rattle.context_books.specs.Standing.{call_refusal}
use Rattle.result_lines.specs.declared.told.GuessLine.{GuessLine}
use Rattle.result_lines.specs.declared.stamps.Stamps.{Stamps}
use Rattle.result_lines.specs.Forms.{stamps_for}
use Rattle.result_lines.specs.Places.{◌>>=◌, LinesView, MarksFound, all_of, next_line, line_due, guess_from, marks_of, ended}

-- a line that is a reply, without its line feed
pub record ReplyView : Type 0 where
  pub number : ℕ
  pub line : List ℕ

-- what the lines so far tell, and the lines to come
pub record ToldView : Type 0 where
  pub lines : LinesView
  -- all replies, in their order
  pub replies : List ReplyView
  -- the guesses of each lane before the one that is read, and of that lane
  pub lanes : List (List GuessLine)
  pub guesses : List GuessLine
  pub journals : List (List Mark)

abbrev pub nothing_yet : List ℕ → ToldView
nothing_yet text =
    record { lines = all_of text; replies = []; lanes = []; guesses = []; journals = [] }

-- ---- lines as they are printed

-- just this line
unfoldable pub with_line : List ℕ → ToldView → Result ToldView ℕ
with_line due told = do
  lines ← line_due due told.lines
  Ok (record told { lines = lines })

-- these lines
abbrev pub with_lines : List (List ℕ) → ToldView → Result ToldView ℕ
with_lines [] told = Ok told
with_lines (line ∷ more) told = (with_line line told >>= with_lines more)

-- ---- calls

-- a line of any bytes
unfoldable pub with_reply : ToldView → Result ToldView ℕ
with_reply told = do
  (line, lines) ← next_line told.lines
  Ok (
      record told {
        lines = lines;
        replies = told.replies ++ record { number = told.lines.number; line = line } ∷ [];
      }
      )

-- so many of them
abbrev pub with_replies : ℕ → ToldView → Result ToldView ℕ
with_replies zero told = Ok told
with_replies (suc more) told = (with_reply told >>= with_replies more)

-- `batch G M`
unfoldable pub with_guess : ToldView → Result ToldView ℕ
with_guess told = do
  (guess, lines) ← guess_from told.lines
  Ok (
      record told {
        lines = lines;
        guesses = told.guesses ++ record { number = told.lines.number; guess = guess } ∷ [];
      }
      )

-- a call that is served
abbrev pub with_served : CallLine → ToldView → Result ToldView ℕ
with_served (calls.Seal context item) told = with_reply told
with_served (calls.Unseal context item) told = with_reply told
with_served (calls.UnsealAll context first count) told = (with_replies count told >>= with_guess)
with_served (calls.Export context exporter size) told = with_reply told
with_served (calls.Add name) told = with_reply told
with_served (calls.Retire name) told = with_reply told

-- a call that may be refused
abbrev pub with_call_unless : Option CallRefusal → CallLine → ToldView → Result ToldView ℕ
with_call_unless None call told = with_served call told
with_call_unless (Some refusal) call told = with_reply told

abbrev pub with_call : List (Option ContextView) → CallLine → ToldView → Result ToldView ℕ
with_call contexts call told = with_call_unless (call_refusal contexts call) call told

abbrev pub with_calls : List (Option ContextView) → List CallLine → ToldView → Result ToldView ℕ
with_calls contexts [] told = Ok told
with_calls contexts (call ∷ more) told = (with_call contexts call told >>= with_calls contexts more)

-- the lane that was read is behind the others
abbrev pub lane_ended : ToldView → Result ToldView ℕ
lane_ended told = Ok (record told { lanes = told.lanes ++ told.guesses ∷ []; guesses = [] })

-- `lane L`, and the replies of its calls
unfoldable pub with_lane : List (Option ContextView) → ℕ → List CallLine → ToldView → Result ToldView ℕ
with_lane contexts number calls told = do
  told ← with_line (codes "lane " ++ decimal number ++ codes "\n") told
  told ← with_calls contexts calls told
  lane_ended told

-- those from this number on
abbrev pub with_lanes : List (Option ContextView) → ℕ → List (List CallLine) → ToldView
    → Result ToldView ℕ
with_lanes contexts number [] told = Ok told
with_lanes contexts number (calls ∷ more) told =
    (with_lane contexts number calls told >>= with_lanes contexts (number + 1) more)

-- ---- journals

abbrev pub journal_ended : ToldView → MarksFound → ToldView
journal_ended told found =
    record told { lines = found.lines; journals = told.journals ++ found.marks ∷ [] }

-- `journal C`, and its places
unfoldable pub with_journal : Stamps → ℕ → ToldView → Result ToldView ℕ
with_journal stamps number told = do
  told ← with_line (codes "journal " ++ decimal number ++ codes "\n") told
  Ok (journal_ended told (marks_of stamps told.lines))

-- one for each context line, from this number on
abbrev pub with_journals : Stamps → ℕ → List ContextLine → ToldView → Result ToldView ℕ
with_journals stamps number [] told = Ok told
with_journals stamps number (line ∷ more) told =
    (with_journal stamps number told >>= with_journals stamps (number + 1) more)

-- ---- the whole result

-- the lines of the set-up
unfoldable pub with_setup : ℕ → List KeyReply → List ContextReply → ToldView → Result ToldView ℕ
with_setup version keys replies told = do
  told ← with_line (version_line version) told
  told ← with_lines (numbered key_line 0 keys) told
  with_lines (numbered context_line 0 replies) told

-- the line `end`, and nothing behind it
unfoldable pub with_end : ToldView → Result ToldView ℕ
with_end told = do
  told ← with_line (codes "end\n") told
  number ← ended told.lines
  Ok told

-- What the text tells as a result of the plan, where these are the replies to its key lines and its
-- context lines, and the contexts that stand; or its first line that is missing, has no line feed or
-- another form, or stands behind `end`.
unfoldable pub told_by : Plan → List KeyReply → List ContextReply → List (Option ContextView)
    → List ℕ → Result ToldView ℕ
told_by plan keys replies contexts text = do
  told ← with_setup plan.version keys replies (nothing_yet text)
  told ← with_lanes contexts 0 plan.lanes told
  told ← with_journals (stamps_for (has_stamps plan.version)) 0 plan.contexts told
  with_end told
