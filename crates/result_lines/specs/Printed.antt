-- The text that tells given replies, guesses and journals as a result of a plan. Of the lines of its
-- calls each reply line is given, with its line feed.
use Rattle.std.specs.Prelude.{ℕ, ◌≡◌, ◌<◌, ◌≤◌, ◌^◌, ◌==◌, List, [], ◌∷◌, ◌++◌, Bool, false, length, map, take, drop, sum_by, Option, Ok}
use Rattle.std.specs.List.{All, concat}
use Rattle.call_places.specs.declared.entries.Mark.{Mark}
use Rattle.hpke_context.specs.Contexts.{ContextView}
use Rattle.batch_plans.specs.Limits.{most_opening, items_of}
use Rattle.batch_plans.specs.Room.{served_batches, served_or}
use Rattle.batch_plans.specs.declared.plan.Plan.{Plan}
use Rattle.batch_plans.specs.declared.plan.CallLine.{CallLine}
use Rattle.batch_plans.specs.declared.replies.Batch.{Batch}
use Rattle.batch_plans.specs.declared.replies.KeyReply.{KeyReply}
use Rattle.batch_plans.specs.declared.replies.ContextReply.{ContextReply}
use Rattle.batch_plans.specs.ReplyText.{reply_lines}
use Rattle.batch_plans.specs.AnswersText.{guess_line}
use Rattle.context_books.specs.Standing.{call_refusal}
use Rattle.result_lines.specs.declared.told.GuessLine.{GuessLine}
use Rattle.result_lines.specs.declared.stamps.Stamps.{Stamps}
use Rattle.result_lines.specs.declared.stamps.Stamps.TheVariants.{Unprinted, Places, PlacesAndNotes}
use Rattle.result_lines.specs.Forms.{stamps_for, most_stamp}
use Rattle.result_lines.specs.Places.{with_feed}
use Rattle.result_lines.specs.Told.{ReplyView, ToldView, told_by}

-- ---- how many lines a call has

-- where it is served, one for each item of an opening of several messages, and else one; a call that is
-- refused has one reply
abbrev pub call_replies : List (Option ContextView) → CallLine → ℕ
call_replies contexts call = served_or (call_refusal contexts call) (items_of call) 1

-- an opening of several messages that is served has a guess
abbrev pub call_guesses : List (Option ContextView) → CallLine → ℕ
call_guesses contexts call =
    served_or (call_refusal contexts call) (served_batches call) 0

-- the calls of a lane
abbrev pub lane_replies : List (Option ContextView) → List CallLine → ℕ
lane_replies contexts calls = sum_by (call_replies contexts) calls

abbrev pub lane_guesses : List (Option ContextView) → List CallLine → ℕ
lane_guesses contexts calls = sum_by (call_guesses contexts) calls

-- ---- the lines

-- those of calls: of each its replies, the next of these, and its guess
abbrev pub told_calls : List (Option ContextView) → List CallLine → List (List ℕ) → List Batch
    → List (List ℕ)
told_calls contexts [] replies guesses = []
told_calls contexts (call ∷ calls) replies guesses =
    take (call_replies contexts call) replies
    ++ (map guess_line (take (call_guesses contexts call) guesses)
    ++ told_calls contexts calls (drop (call_replies contexts call) replies)
    (drop (call_guesses contexts call) guesses))

-- those of each lane, whose guesses are given by themselves
abbrev pub told_lanes : List (Option ContextView) → List (List CallLine) → List (List ℕ)
    → List (List Batch) → List (List (List ℕ))
told_lanes contexts [] replies guesses = []
told_lanes contexts (calls ∷ lanes) replies [] = []
told_lanes contexts (calls ∷ lanes) replies (own ∷ guesses) =
    told_calls contexts calls replies own
    ∷ told_lanes contexts lanes (drop (lane_replies contexts calls) replies) guesses

-- the whole text, where these are the replies to the key lines and the context lines
abbrev pub told_text : Plan → List KeyReply → List ContextReply → List (Option ContextView)
    → List (List ℕ) → List (List Batch) → List (List Mark) → List ℕ
told_text plan keys replies contexts lines guesses journals =
    concat (reply_lines plan.version keys replies (told_lanes contexts plan.lanes lines guesses)
    journals)

-- ---- what a result tells

-- its reply lines, with their line feeds
abbrev pub lines_told : ToldView → List (List ℕ)
lines_told told = map (λ (reply : ReplyView). with_feed reply.line) told.replies

-- its guesses, lane by lane
abbrev pub guesses_told : ToldView → List (List Batch)
guesses_told told = map (map (λ (guess : GuessLine). guess.guess)) told.lanes

-- each call has its replies and guesses, each lane its guesses, and each context line its journal
pub record AreComplete (plan : Plan) (contexts : List (Option ContextView)) (lines : List (List ℕ))
    (guesses : List (List Batch)) (journals : List (List Mark)) : Type 0 where
  pub count : length lines ≡ sum_by (lane_replies contexts) plan.lanes
  pub kept : map (length {A = Batch}) guesses ≡ map (lane_guesses contexts) plan.lanes
  pub size : length journals ≡ length plan.contexts

-- ---- what can be told

-- some bytes without a line feed, and a line feed
pub record IsLine (line : List ℕ) : Type 0 where
  pub body : List ℕ
  pub is : line ≡ with_feed body
  pub one : All (λ byte. (byte == 10) ≡ false) body

-- the numbers fit their fields
pub record IsGuessWithin (told : Batch) : Type 0 where
  pub guess : told.guess < 2 ^ 64
  pub missed : told.missed ≤ most_opening

-- a place has no stamp where none is printed
abbrev pub IsStampWithin : Stamps → ℕ → Type 0
IsStampWithin Unprinted stamp = stamp ≡ 0
IsStampWithin Places stamp = stamp ≤ most_stamp Places
IsStampWithin PlacesAndNotes stamp = stamp ≤ most_stamp PlacesAndNotes

pub record IsPlaceWithin (stamps : Stamps) (m : Mark) : Type 0 where
  pub lane : m.place.lane ≤ 65535
  pub call : m.place.call ≤ 65535
  pub item : m.place.item ≤ 65535
  pub stamp : IsStampWithin stamps m.stamp

abbrev pub IsMarkWithin : Bool → Mark → Type 0
IsMarkWithin stamps = IsPlaceWithin (stamps_for stamps)

-- ---- what is read, and what is printed

-- a text is that of what it tells, which is complete
pub record IsTextOf (plan : Plan) (keys : List KeyReply) (replies : List ContextReply)
    (contexts : List (Option ContextView)) (text : List ℕ) (told : ToldView) : Type 0 where
  pub is : text
      ≡ told_text plan keys replies contexts (lines_told told) (guesses_told told) told.journals
  pub complete : AreComplete plan contexts (lines_told told) (guesses_told told) told.journals

-- the text that tells these is read as what tells them
pub record IsReadBack (plan : Plan) (keys : List KeyReply) (replies : List ContextReply)
    (contexts : List (Option ContextView)) (lines : List (List ℕ)) (guesses : List (List Batch))
    (journals : List (List Mark)) : Type 0 where
  pub told : ToldView
  pub is : told_by plan keys replies contexts
      (told_text plan keys replies contexts lines guesses journals)
      ≡ Ok told
  pub lines_are : lines_told told ≡ lines
  pub guesses_are : guesses_told told ≡ guesses
  pub journals_are : told.journals ≡ journals
