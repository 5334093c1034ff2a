-- A program that keeps a lane as its next call and the stage of that call does the core's steps.
use Rattle.std.proofs.Common.{◌≡◌, ℕ, zero, suc, ◌+◌, List, [], ◌∷◌, ◌++◌, drop, sym, refl, ap, ◌∙◌, arith, Some, None}
use Rattle.std.specs.Prelude.{slice_get}
use Rattle.call_places.specs.Messages.{SealedMessage}
use Rattle.context_books.specs.Batches.{Ask, Nothing, ToSeal, ToOpen, ToOpenAll, asked}
use Rattle.context_books.specs.Guesses.{guess_of}
use Rattle.context_core.specs.Core.{all_tasks, Lane, Moved, step}
use Rattle.context_core.specs.CoreStages.{Stage, Fresh, HasGuess, HasTests, HasPlaces, tasks_at, lane_at}

abbrev pub moved_to : Lane → List Rattle.context_books.specs.Batches.Spot → Moved
moved_to s given = record { lane = s; given = given }

abbrev next_step : (ℕ → ℕ) → ℕ → Lane → Moved
next_step due l s = step due l s s.to_come

-- the calls from one that is there on
pub drop_at : (asks : List Ask) (call : ℕ) (a : Ask) → slice_get asks call ≡ Some a → drop call asks ≡ a ∷ drop (call + 1) asks
drop_at [] call a e = absurd (let f : None ≡ Some a = e in cc)
drop_at (b ∷ asks) zero a e = ap (λ x. x ∷ asks) (let f : Some b ≡ Some a = e in cc)
drop_at (b ∷ asks) (suc call) a e = drop_at asks call a e ∙ ap (λ k. a ∷ drop k (b ∷ asks)) (let z : suc (call + 1) ≡ suc call + 1 = omega arith in z)

fresh : (call : ℕ) (asks : List Ask) → all_tasks call asks ≡ tasks_at Fresh call asks
fresh call [] = refl
fresh call (a ∷ asks) = refl

at_tasks : (due : ℕ → ℕ) (l : ℕ) (stage : Stage) (call guess : ℕ) (guesses : List ℕ) (rest more : List Ask) → rest ≡ more
    → next_step due l (record { to_come = tasks_at stage call rest; guess = guess; guesses = guesses }) ≡ next_step due l (record { to_come = tasks_at stage call more; guess = guess; guesses = guesses })
at_tasks due l stage call guess guesses rest more e = ap (λ asks. next_step due l (record { to_come = tasks_at stage call asks; guess = guess; guesses = guesses })) e

module _ (due : ℕ → ℕ) (l : ℕ) (asks : List Ask) (call g : ℕ) (gs : List ℕ) where
  finished : (a : Ask) → moved_to (record { to_come = all_tasks (call + 1) (drop (call + 1) asks); guess = g; guesses = gs ++ guess_of a g }) [] ≡ moved_to (lane_at asks (call + 1) Fresh g (gs ++ guess_of a g)) []
  finished a = ap (λ ts. moved_to (record { to_come = ts; guess = g; guesses = gs ++ guess_of a g }) []) (fresh (call + 1) (drop (call + 1) asks))

  back : (stage : Stage) (a : Ask) (guess : ℕ) → drop call asks ≡ a ∷ drop (call + 1) asks → (given : List Rattle.context_books.specs.Batches.Spot)
      → moved_to (record { to_come = tasks_at stage call (a ∷ drop (call + 1) asks); guess = guess; guesses = gs }) given ≡ moved_to (lane_at asks call stage guess gs) given
  back stage a guess e given = ap (λ rest. moved_to (record { to_come = tasks_at stage call rest; guess = guess; guesses = gs }) given) (sym e)

  -- an export, or a call that is refused
  pub nothing_asked : slice_get asks call ≡ Some Nothing → next_step due l (lane_at asks call Fresh g gs) ≡ moved_to (lane_at asks (call + 1) Fresh g (gs ++ [])) []
  nothing_asked e = at_tasks due l Fresh call g gs (drop call asks) (Nothing ∷ drop (call + 1) asks) (drop_at asks call Nothing e) ∙ finished Nothing

  pub draws : (c : ℕ) (aad text : List ℕ) → slice_get asks call ≡ Some (ToSeal c aad text)
      → next_step due l (lane_at asks call Fresh g gs) ≡ moved_to (lane_at asks call HasPlaces g gs) (asked l call (ToSeal c aad text))
  draws c aad text e =
      let d = drop_at asks call (ToSeal c aad text) e in
      at_tasks due l Fresh call g gs (drop call asks) (ToSeal c aad text ∷ drop (call + 1) asks) d ∙ back HasPlaces (ToSeal c aad text) g d (asked l call (ToSeal c aad text))

  pub guesses_one : (c : ℕ) (aad ct : List ℕ) → slice_get asks call ≡ Some (ToOpen c aad ct) → next_step due l (lane_at asks call Fresh g gs) ≡ moved_to (lane_at asks call HasGuess (due c) gs) []
  guesses_one c aad ct e =
      let d = drop_at asks call (ToOpen c aad ct) e in
      at_tasks due l Fresh call g gs (drop call asks) (ToOpen c aad ct ∷ drop (call + 1) asks) d ∙ back HasGuess (ToOpen c aad ct) (due c) d []

  pub guesses_all : (c : ℕ) (ms : List SealedMessage) → slice_get asks call ≡ Some (ToOpenAll c ms) → next_step due l (lane_at asks call Fresh g gs) ≡ moved_to (lane_at asks call HasGuess (due c) gs) []
  guesses_all c ms e =
      let d = drop_at asks call (ToOpenAll c ms) e in
      at_tasks due l Fresh call g gs (drop call asks) (ToOpenAll c ms ∷ drop (call + 1) asks) d ∙ back HasGuess (ToOpenAll c ms) (due c) d []

  pub checks : (a : Ask) → slice_get asks call ≡ Some a → next_step due l (lane_at asks call HasGuess g gs) ≡ moved_to (lane_at asks call HasTests g gs) []
  checks a e = let d = drop_at asks call a e in at_tasks due l HasGuess call g gs (drop call asks) (a ∷ drop (call + 1) asks) d ∙ back HasTests a g d []

  pub commits : (a : Ask) → slice_get asks call ≡ Some a → next_step due l (lane_at asks call HasTests g gs) ≡ moved_to (lane_at asks call HasPlaces g gs) (asked l call a)
  commits a e = let d = drop_at asks call a e in at_tasks due l HasTests call g gs (drop call asks) (a ∷ drop (call + 1) asks) d ∙ back HasPlaces a g d (asked l call a)

  pub finishes : (a : Ask) → slice_get asks call ≡ Some a → next_step due l (lane_at asks call HasPlaces g gs) ≡ moved_to (lane_at asks (call + 1) Fresh g (gs ++ guess_of a g)) []
  finishes a e = at_tasks due l HasPlaces call g gs (drop call asks) (a ∷ drop (call + 1) asks) (drop_at asks call a e) ∙ finished a
