-- The core: lanes that do one step at a time, in whichever order. It holds no key, no verdict on a
-- tag, no table and no lock; it says which histories of a batch there may be. The answers are those
-- of the sequential context along them (RFC 9180, 5.2).
use Rattle.std.specs.Prelude.{ℕ, ◌+◌, List, [], ◌∷◌, ◌++◌, length, map, replicate, slice_get, slice_set, Option, Some, None}
use Rattle.call_places.specs.declared.entries.Place.{Place}
use Rattle.hpke_context.specs.Answers.{Cipher}
use Rattle.context_books.specs.Batches.{Batch, Ask, Nothing, ToSeal, ToOpen, ToOpenAll, Spot, asked, on, context_in}
use Rattle.context_books.specs.Legal.{due_after}
use Rattle.context_books.specs.Guesses.{guess_of}

-- ---- the phases of a call

-- Draw gives a seal its place. Guess keeps the number that is due. Check tests tags ahead of time,
-- around that guess. Commit gives the items of an opening their places. Finish writes the replies.
pub data Phase : Type 0 where
  Draw : Phase
  Guess : Phase
  Check : Phase
  Commit : Phase
  Finish : Phase

-- those of a call, in order
abbrev pub phases : Ask → List Phase
phases Nothing = Finish ∷ []
phases (ToSeal context aad text) = Draw ∷ Finish ∷ []
phases (ToOpen context aad ct) = Guess ∷ Check ∷ Commit ∷ Finish ∷ []
phases (ToOpenAll context messages) = Guess ∷ Check ∷ Commit ∷ Finish ∷ []

-- a step of a lane
pub record Task : Type 0 where
  pub call : ℕ
  pub ask : Ask
  pub phase : Phase

abbrev pub tasks : ℕ → Ask → List Phase → List Task
tasks call ask phases = map (λ phase. record { call = call; ask = ask; phase = phase }) phases

-- all steps of a lane's calls, from this call on, in order
abbrev pub all_tasks : ℕ → List Ask → List Task
all_tasks call [] = []
all_tasks call (ask ∷ asks) = tasks call ask (phases ask) ++ all_tasks (call + 1) asks

-- ---- the state

pub record Lane : Type 0 where
  pub to_come : List Task  -- the steps that it has still to do
  pub guess : ℕ  -- what its last Guess kept
  pub guesses : List ℕ  -- the guesses of its finished openings of several messages

pub record Core : Type 0 where
  pub history : List Spot  -- all places that were given, in their order
  pub lanes : List Lane

-- the journal of a context is its part of the history
abbrev pub journal : Core → ℕ → List Place
journal w context = on context w.history

-- ---- one step

-- a lane after a step, and the places that the step gave
pub record Moved : Type 0 where
  pub lane : Lane
  pub given : List Spot

-- what a step does to its lane, where so much is due in the context of its call
abbrev pub moved : ℕ → ℕ → ℕ → Ask → Phase → Lane → Moved
moved due lane call ask Draw s = record { lane = s; given = asked lane call ask }
moved due lane call ask Guess s = record { lane = record s { guess = due }; given = [] }
moved due lane call ask Check s = record { lane = s; given = [] }
moved due lane call ask Commit s = record { lane = s; given = asked lane call ask }
moved due lane call ask Finish s =
    record { lane = record s { guesses = s.guesses ++ guess_of ask s.guess }; given = [] }

-- the first of a lane's steps to come; at its end a lane does nothing
abbrev pub step : (ℕ → ℕ) → ℕ → Lane → List Task → Moved
step due lane s [] = record { lane = s; given = [] }
step due lane s (t ∷ more) =
    moved (due (context_in t.ask)) lane t.call t.ask t.phase (record s { to_come = more })

-- the number that is due in each context
abbrev pub due_in : Batch → (ℕ → Cipher) → List Spot → ℕ → ℕ
due_in batch ciphers history context = due_after batch (ciphers context) (on context history)

abbrev pub with_moved : Core → ℕ → Moved → Core
with_moved w lane m =
    record { history = w.history ++ m.given; lanes = slice_set w.lanes lane m.lane }

abbrev pub happens_at : Batch → (ℕ → Cipher) → Core → ℕ → Option Lane → Core
happens_at batch ciphers w lane None = w
happens_at batch ciphers w lane (Some s) =
    with_moved w lane (step (due_in batch ciphers w.history) lane s s.to_come)

-- an event is the number of a lane, which does its next step; a lane that isn't there does nothing
abbrev pub happens : Batch → (ℕ → Cipher) → Core → ℕ → Core
happens batch ciphers w lane = happens_at batch ciphers w lane (slice_get w.lanes lane)

abbrev pub all_happen : Batch → (ℕ → Cipher) → Core → List ℕ → Core
all_happen batch ciphers w [] = w
all_happen batch ciphers w (lane ∷ events) =
    all_happen batch ciphers (happens batch ciphers w lane) events

-- ---- a whole run

abbrev pub at_first : List Ask → Lane
at_first asks = record { to_come = all_tasks 0 asks; guess = 0; guesses = [] }

abbrev pub start : Batch → Core
start batch = record { history = []; lanes = map at_first batch }

-- from this lane on, each lane to its end, one after another
abbrev pub to_the_ends : ℕ → Batch → List ℕ
to_the_ends lane [] = []
to_the_ends lane (asks ∷ batch) =
    replicate (length (all_tasks 0 asks)) lane ++ to_the_ends (lane + 1) batch

-- the core after the events of a schedule and then all that is left
abbrev pub core : Batch → (ℕ → Cipher) → List ℕ → Core
core batch ciphers schedule =
    all_happen batch ciphers (start batch) (schedule ++ to_the_ends 0 batch)
