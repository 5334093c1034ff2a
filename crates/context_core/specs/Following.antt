-- ---- for the proofs: how the state of the program follows that of the core.
use Rattle.std.specs.Prelude.{ℕ, ◌≡◌, ◌+◌, ◌*◌, ◌<◌, ◌≤◌, ◌++◌, List, [], ◌∷◌, length, take, drop, map, replicate, sum_by, slice_get, slice_set, slice_index, slice_index_or, Option, Some, None}
use Rattle.std.specs.List.{All}
use Rattle.call_places.specs.declared.entries.Place.{Place}
use Rattle.call_places.specs.declared.entries.Step.{Step}
use Rattle.call_places.specs.Entries.{mark_of}
use Rattle.hpke_context.specs.Answers.{Cipher}
use Rattle.hpke_context.specs.Contexts.{ContextView, cipher_of}
use Rattle.context_books.specs.Batches.{Batch, Nothing, Spot, lane_of, on}
use Rattle.context_books.specs.Merging.{all_asked, lane_places, own_spots}
use Rattle.context_books.specs.Legal.{due_after}
use Rattle.context_books.specs.Guesses as guesses
use Rattle.context_books.specs.Guesses.{guess_count, guess_of}
use Rattle.context_books.specs.Histories.{journals_of, stamped_on}
use Rattle.context_books.specs.Entries.{steps_from, numbers_from, Fits}
use Rattle.context_core.specs.Core as core
use Rattle.context_core.specs.Core.{Core, happens}
use Rattle.context_core.specs.CoreStages as core_steps
use Rattle.context_core.specs.CoreStages.{placed, lane_at}
use Rattle.context_books.specs.declared.book.Draw.{Draw}
use Rattle.context_books.specs.declared.book.Draw.TheVariants.{Number}
use Rattle.context_books.specs.Books.{BookView}
use Rattle.context_books.specs.Openings.{IsTableFor, unseals}
use Rattle.batch_plans.specs.declared.plan.Plan.{Plan}
use Rattle.batch_plans.specs.declared.plan.CallLine.{CallLine}
use Rattle.batch_plans.specs.declared.plan.CallLine.TheVariants as calls
use Rattle.batch_plans.specs.Limits.{items_of}
use Rattle.batch_plans.specs.Within.{IsWithinLimits}
use Rattle.batch_plans.specs.Calls.{context_of}
use Rattle.batch_plans.specs.declared.replies.Batch.{Batch as Guess}
use Rattle.batch_plans.specs.Room.{lane_room}
use Rattle.batch_plans.specs.Progress.{Progress, begun, with_batch}
use Rattle.context_books.specs.Standing.{standing_at, call_refusal}
use Rattle.context_books.specs.ContextLines.{export_limits, AreOfLines}
use Rattle.context_books.specs.Asks.{asked_by, ask_of, batch_of, cipher_at}
use Rattle.context_books.specs.Runs.{Run, guesses_of}
use Rattle.context_books.specs.Lanes.{StandsBehind}
use Rattle.context_books.specs.LaneCalls.{lane_calls, opening_items, IsOpening}
use Rattle.context_books.specs.Writing.{due_at}
use Rattle.context_books.specs.Answered.{KeepsUp}
use Rattle.context_core.specs.declared.books.Books.{Books}
use Rattle.context_core.specs.declared.lanes.Lane.{Lane}
use Rattle.context_core.specs.declared.lanes.Stage.{Stage}
use Rattle.context_core.specs.declared.lanes.Stage.TheVariants.{Fresh, Drawn, Guessed, Tested, Settled}
use Rattle.context_core.specs.Books.{book_at}

-- ---- calls

-- from this lane on, four events for each call of each lane
abbrev pub long_ends : ℕ → List (List CallLine) → List ℕ
long_ends l [] = []
long_ends l (calls ∷ lanes) = replicate (4 * length calls) l ++ long_ends (l + 1) lanes

abbrev pub IsSeal : CallLine → Type 0
IsSeal (calls.Seal context item) = Unit {0}
IsSeal call = ⊥

-- an opening of several messages keeps its guess
abbrev pub with_guess : Progress → CallLine → Guess → Progress
with_guess p (calls.UnsealAll context first count) guess = with_batch p guess
with_guess p call guess = p

-- how many items an opening names
abbrev pub opened_count : CallLine → ℕ
opened_count (calls.Unseal context item) = 1
opened_count (calls.UnsealAll context first count) = count
opened_count call = 0

-- ---- the run of a state of the core

abbrev pub run_of : Plan → List (Option ContextView) → Core → Run
run_of plan contexts w =
    record {
      plan = plan;
      contexts = contexts;
      journals = journals_of (length plan.contexts) w.history;
      guesses = map (λ (lane : core.Lane). lane.guesses) w.lanes;
    }

abbrev pub core_stage : Stage → core_steps.Stage
core_stage Fresh = core_steps.Fresh
core_stage (Drawn drawn) = core_steps.HasPlaces
core_stage (Guessed guess) = core_steps.HasGuess
core_stage Tested = core_steps.HasTests
core_stage (Settled guess first missed start) = core_steps.HasPlaces

-- the steps of a call's items, which begin here in the lane's list
abbrev pub steps_at : Plan → CallLine → List Step → ℕ → List Step
steps_at plan call steps start = take (length (opening_items plan call)) (drop start steps)

-- the calls whose items aren't settled yet
abbrev pub unsettled : Stage → List CallLine → List CallLine
unsettled (Settled guess first missed start) calls = drop 1 calls
unsettled stage calls = calls

-- the call is done, and the lane goes on with the next one
pub record Finishes (old new : Lane) : Type 0 where
  pub call : new.call ≡ old.call + 1
  pub stage : new.stage ≡ Fresh
  pub done : new.done.items ≡ slice_set old.done.items old.call old.stage
  pub table : new.table ≡ old.table
  pub steps : new.steps.items ≡ old.steps.items
  pub settled : new.settled ≡ old.settled
  pub progress : new.progress ≡ old.progress

module _ (plan : Plan) (contexts : List (Option ContextView)) where
  abbrev pub batch : Batch
  batch = batch_of plan contexts

  abbrev pub ciphers : ℕ → Cipher
  ciphers = cipher_at contexts

  -- ---- books

  pub record IsBookOf (h : List Spot) (number : ℕ) (view : ContextView) (book : BookView)
      : Type 0 where
    pub limit : book.limit ≡ view.limit
    pub lanes : length book.quotas ≡ length plan.lanes
    pub quotas : (lane : ℕ) → lane < length plan.lanes
        → slice_index book.quotas lane ≡ length (lane_places number lane (lane_of batch lane))
    pub marks : map mark_of book.entries ≡ stamped_on number 0 h
    pub fits : Fits batch number (cipher_of view) book.entries

  -- each context that stands has its book of this history, and no other has one
  pub record AreBooks (h : List Spot) (books : Books) : Type 0 where
    pub count : length books.books.items ≡ length contexts
    pub each : (number : ℕ) (view : ContextView) → standing_at contexts number ≡ Some view
        → (book : BookView) × (book_at books number ≡ Some book) × IsBookOf h number view book
    pub none : (number : ℕ) → standing_at contexts number ≡ None → book_at books number ≡ None
    pub absent : (number : ℕ) → standing_at contexts number ≡ None → on number h ≡ []
    pub places : books.places ≡ length h
    pub checks : books.checks ≤ books.places

  -- ---- lanes

  -- a seal has its place, and what was drawn for it
  pub record HasDrawn (w : Core) (l number : ℕ) (call : CallLine) (drawn : Draw) : Type 0 where
    pub seal : IsSeal call
    pub free : call_refusal contexts call ≡ None
    pub front : List Place
    pub stands : StandsBehind (run_of plan contexts w) l number (asked_by plan call) front
    pub due : due_after batch (ciphers (context_of call)) front
        ≡ due_at (ciphers (context_of call)).limit drawn
    pub below : (n : ℕ) → drawn ≡ Number n
        → n < (ciphers (context_of call)).limit

  -- an opening is served
  pub record Opens (call : CallLine) : Type 0 where
    pub opening : IsOpening call
    pub free : call_refusal contexts call ≡ None

  pub record HasTested (lane : Lane) (call : CallLine) (guess : ℕ) : Type 0 where
    pub opens : Opens call
    pub guess_is : lane.table.guess ≡ guess
    pub table : (view : ContextView) → standing_at contexts (context_of call) ≡ Some view
        → IsTableFor view plan.pool (opening_items plan call) lane.table

  -- an opening has its places, and these are the steps of its items
  pub record HasSettled (w : Core) (l number : ℕ) (call : CallLine) (settled : List Step)
      (guess first missed : ℕ) : Type 0 where
    pub opens : Opens call
    pub front : List Place
    pub stands : StandsBehind (run_of plan contexts w) l number (asked_by plan call) front
    pub due : due_after batch (ciphers (context_of call)) front ≡ first
    pub steps : settled
        ≡ steps_from (ciphers (context_of call)) first (unseals plan.pool (opening_items plan call))
    pub missed_is : missed ≡ guesses.missed guess 0
        (numbers_from (ciphers (context_of call)) first (unseals plan.pool (opening_items plan call)))

  -- its steps lie among those that are settled
  pub record IsSettled (w : Core) (l number : ℕ) (call : CallLine) (steps : List Step)
      (settled guess first missed start : ℕ) : Type 0 where
    pub has : HasSettled w l number call (steps_at plan call steps start) guess first missed
    pub low : start + length (opening_items plan call) ≤ settled

  abbrev pub IsAt : Core → ℕ → Lane → CallLine → ℕ → Stage → Type 0
  IsAt w l lane call guess Fresh = Unit {0}
  IsAt w l lane call guess (Drawn drawn) = HasDrawn w l lane.call call drawn
  IsAt w l lane call guess (Guessed g) = Opens call × (g ≡ guess)
  IsAt w l lane call guess Tested = HasTested lane call guess
  IsAt w l lane call guess (Settled g first missed start) =
      IsSettled w l lane.call call lane.steps.items lane.settled g first missed start × (g ≡ guess)

  -- ---- calls that are done

  -- the guess of a call stands in its place among those that its lane keeps
  pub record KeepsGuess (l number : ℕ) (call : CallLine) (guesses : List ℕ) (guess : ℕ)
      : Type 0 where
    pub before : List ℕ
    pub behind : List ℕ
    pub stands : guesses ≡ before ++ (guess_of (ask_of plan contexts call) guess ++ behind)
    pub count : length before ≡ guess_count (take number (lane_of batch l))

  -- the last stage of a call that is done
  abbrev pub IsDone : Core → ℕ → List ℕ → ℕ → CallLine → List Step → ℕ → Stage → Type 0
  IsDone w l guesses number call steps settled Fresh = ask_of plan contexts call ≡ Nothing
  IsDone w l guesses number call steps settled (Drawn drawn) = HasDrawn w l number call drawn
  IsDone w l guesses number call steps settled (Guessed g) = ⊥
  IsDone w l guesses number call steps settled Tested = ⊥
  IsDone w l guesses number call steps settled (Settled g first missed start) =
      IsSettled w l number call steps settled g first missed start
      × KeepsGuess l number call guesses g

  -- there is room for the items of each call, and for the steps of those that are to come
  pub record HasTools (calls : List CallLine) (lane : Lane) : Type 0 where
    pub rows : All (λ call. items_of call ≤ lane.table.room) calls
    pub steps_room : lane.settled
        + sum_by opened_count (unsettled lane.stage (drop lane.call calls))
        ≤ length lane.steps.items

  pub record IsLane (w : Core) (l : ℕ) (lane : Lane) : Type 0 where
    pub guess : ℕ
    pub guesses : List ℕ
    pub at : slice_get w.lanes l
        ≡ Some (lane_at (lane_of batch l) lane.call (core_stage lane.stage) guess guesses)
    pub own : own_spots l w.history ≡ all_asked l 0 (take lane.call (lane_of batch l))
        ++ placed (core_stage lane.stage) l lane.call (drop lane.call (lane_of batch l))
    pub count : length guesses ≡ guess_count (take lane.call (lane_of batch l))
    pub within : lane.call ≤ length (lane_calls plan l)
    pub progress : lane.progress
        ≡ begun (lane_room plan (export_limits contexts) (lane_calls plan l))
    pub tools : HasTools (lane_calls plan l) lane
    pub stage : (call : CallLine) → slice_get (lane_calls plan l) lane.call ≡ Some call
        → IsAt w l lane call guess lane.stage
    pub notes : length lane.done.items ≡ length (lane_calls plan l)
    pub done : (k : ℕ) (call : CallLine) → k < lane.call
        → slice_get (lane_calls plan l) k ≡ Some call
        → IsDone w l guesses k call lane.steps.items lane.settled
        (slice_index_or lane.done.items k Fresh)

  -- a lane and the books follow the core
  pub record Follows (w : Core) (l : ℕ) (lane : Lane) (books : Books) : Type 0 where
    pub lane_follows : IsLane w l lane
    pub books_follow : AreBooks w.history books

  -- what a step of a lane, whose next call this is, asks for
  pub record MayStep (l : ℕ) (lane : Lane) (books : Books) (call : CallLine) : Type 0 where
    pub within : IsWithinLimits plan
    pub standing : AreOfLines plan.contexts contexts
    pub there : l < length plan.lanes
    pub call_is : slice_get (lane_calls plan l) lane.call ≡ Some call
    pub few : books.places ≤ 65536
    pub core : Core
    pub follows : Follows core l lane books

  -- the step is the core's
  abbrev pub Steps : ℕ → CallLine → Lane → Lane → Books → Books → Type 0
  Steps l call old new old_books new_books =
      (w : Core) → slice_get (lane_calls plan l) old.call ≡ Some call → l < length plan.lanes
      → Follows w l old old_books → Follows (happens batch ciphers w l) l new new_books

  -- ---- all lanes

  pub record IsRehearsal (w : Core) (lanes : List Lane) (books : Books) : Type 0 where
    pub books_follow : AreBooks w.history books
    pub count : length lanes ≡ length plan.lanes
    pub core_count : length w.lanes ≡ length plan.lanes
    pub each : (l : ℕ) (lane : Lane) → slice_get lanes l ≡ Some lane → IsLane w l lane
    pub others : (l : ℕ) → length plan.lanes ≤ l → own_spots l w.history ≡ []

  -- ---- replies

  -- all calls of a lane are done, and none is answered yet
  pub record AllDone (w : Core) (l : ℕ) (lane : Lane) : Type 0 where
    pub notes : length lane.done.items ≡ length (lane_calls plan l)
    pub settled : lane.settled ≤ length lane.steps.items
    pub progress : lane.progress
        ≡ begun (lane_room plan (export_limits contexts) (lane_calls plan l))
    pub each : (k : ℕ) (call : CallLine) → slice_get (lane_calls plan l) k ≡ Some call
        → IsDone w l (guesses_of (run_of plan contexts w) l) k call lane.steps.items lane.settled
        (slice_index_or lane.done.items k Fresh)

  abbrev pub AreDone : Core → List Lane → Type 0
  AreDone w lanes = (l : ℕ) (lane : Lane) → slice_get lanes l ≡ Some lane → AllDone w l lane

  -- each call of a lane is answered
  abbrev pub LaneIsAnswered : Core → ℕ → Progress → Type 0
  LaneIsAnswered w l p = KeepsUp (run_of plan contexts w) l (length (lane_calls plan l)) p

  abbrev pub AreAnswered : Core → List Lane → Type 0
  AreAnswered w lanes = (l : ℕ) (lane : Lane) → slice_get lanes l ≡ Some lane
      → LaneIsAnswered w l lane.progress

  -- what the replies to a call that is done ask for, of which this is the last stage
  pub record MayReply (w : Core) (l number : ℕ) (call : CallLine) (steps : List Step)
      (settled : ℕ) (stage : Stage) (p : Progress) : Type 0 where
    pub within : IsWithinLimits plan
    pub standing : AreOfLines plan.contexts contexts
    pub there : l < length plan.lanes
    pub call_is : slice_get (lane_calls plan l) number ≡ Some call
    pub done : IsDone w l (guesses_of (run_of plan contexts w) l) number call steps settled stage
    pub settled_low : settled ≤ length steps
    pub keeps_up : KeepsUp (run_of plan contexts w) l number p

  -- the replies to the call are put
  abbrev pub Replies : CallLine → List Step → Stage → Progress → Progress → Type 0
  Replies call steps stage old new =
      (w : Core) (l number settled : ℕ) → MayReply w l number call steps settled stage old
      → KeepsUp (run_of plan contexts w) l (number + 1) new
