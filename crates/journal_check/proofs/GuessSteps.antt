-- The guesses of a lane, one call after another.
use Rattle.std.proofs.Common.{◌≡◌, ℕ, ◌+◌, ◌<◌, ◌≤◌, Bool, true, false, cond, List, ◌∷◌, length, map, drop, get_or, Option, Some, None, refl, sym, ap, ◌∙◌}
use Rattle.std.specs.Option.{is_some}
use Rattle.std.proofs.lemmas.List.{length-map}
use Rattle.call_places.specs.Messages.{sealed_messages}
use Rattle.hpke_context.specs.Contexts.{ContextView}
use Rattle.context_books.specs.Batches.{Ask, unseal}
use Rattle.batch_plans.specs.declared.plan.CallLine.{CallLine}
use Rattle.batch_plans.specs.declared.plan.CallLine.TheVariants as calls
use Rattle.batch_plans.specs.declared.replies.CallRefusal.{CallRefusal}
use Rattle.batch_plans.specs.Limits.{items_from}
use Rattle.context_books.specs.Standing.{call_refusal}
use Rattle.context_books.specs.Asks.{asked_by, ask_unless, ask_of}
use Rattle.context_books.specs.Runs.{Run}
use Rattle.context_books.specs.Lanes.{calls_of}
use Rattle.context_books.proofs.Done.{length-messages, lane_asks}
use Rattle.result_lines.specs.declared.told.GuessLine.{GuessLine}
use Rattle.result_lines.specs.Guesses.{is_right, wrong_guess, or_else, wrong_guesses}
use Rattle.journal_check.specs.Passing.{opens_unless, is_opening}
use Rattle.journal_check.proofs.Walks.{drop_next}
use Rattle.result_lines.proofs.Limited.{IsLine}

module _ (run : Run) (lane number : ℕ) (contexts : List (Option ContextView)) (asks : List Ask) where
  -- a call that keeps no guess
  past_unless : (call : CallLine) (refusal : Option CallRefusal) (guesses : List GuessLine) → opens_unless refusal call ≡ false
      → wrong_guess run lane number (ask_unless refusal (asked_by run.plan call) ∷ asks) guesses ≡ wrong_guess run lane (number + 1) asks guesses
  past_unless call (Some refusal) guesses _ = refl
  past_unless (calls.Seal context item) None guesses _ = refl
  past_unless (calls.Unseal context item) None guesses _ = refl
  past_unless (calls.UnsealAll context first count) None guesses asks_none = absurd (let clash : true ≡ false = asks_none in cc)
  past_unless (calls.Export context exporter size) None guesses _ = refl
  past_unless (calls.Add name) None guesses _ = refl
  past_unless (calls.Retire name) None guesses _ = refl

  -- one that keeps one
  opening_unless : (call : CallLine) (refusal : Option CallRefusal) → call_refusal contexts call ≡ refusal → opens_unless refusal call ≡ true → IsLine run.plan call
      → (told : GuessLine) (guesses : List GuessLine) (right : Bool)
      → ((context first count : ℕ) → call ≡ calls.UnsealAll context first count → call_refusal contexts call ≡ None → 1 ≤ count → right ≡ is_right run context lane number count told.guess)
      → wrong_guess run lane number (ask_unless refusal (asked_by run.plan call) ∷ asks) (told ∷ guesses)
      ≡ cond right (wrong_guess run lane (number + 1) asks guesses) (Some told.number)
  opening_unless call (Some refusal) is opens line told guesses right judged = absurd (let clash : false ≡ true = opens in cc)
  opening_unless (calls.Seal context item) None is opens line told guesses right judged = absurd (let clash : false ≡ true = opens in cc)
  opening_unless (calls.Unseal context item) None is opens line told guesses right judged = absurd (let clash : false ≡ true = opens in cc)
  opening_unless (calls.UnsealAll context first count) None is _ line told guesses right judged =
      let messages = sealed_messages run.plan.pool (items_from run.plan.items first count) in
      let size : length messages ≡ count = sym (length-map messages unseal) ∙ length-messages run.plan.items run.plan.pool first count line.3 in
      ap (λ (b : Bool). cond b (wrong_guess run lane (number + 1) asks guesses) (Some told.number))
      (ap (λ (k : ℕ). is_right run context lane number k told.guess) size ∙ sym (judged context first count refl is line.1))
  opening_unless (calls.Export context exporter size) None is opens line told guesses right judged = absurd (let clash : false ≡ true = opens in cc)
  opening_unless (calls.Add name) None is opens line told guesses right judged = absurd (let clash : false ≡ true = opens in cc)
  opening_unless (calls.Retire name) None is opens line told guesses right judged = absurd (let clash : false ≡ true = opens in cc)

  pub past : (call : CallLine) (guesses : List GuessLine) → is_opening contexts call ≡ false
      → wrong_guess run lane number (ask_of run.plan contexts call ∷ asks) guesses ≡ wrong_guess run lane (number + 1) asks guesses
  past call guesses asks_none = past_unless call (call_refusal contexts call) guesses asks_none

  pub opening : (call : CallLine) → is_opening contexts call ≡ true → IsLine run.plan call
      → (told : GuessLine) (guesses : List GuessLine) (right : Bool)
      → ((context first count : ℕ) → call ≡ calls.UnsealAll context first count → call_refusal contexts call ≡ None → 1 ≤ count → right ≡ is_right run context lane number count told.guess)
      → wrong_guess run lane number (ask_of run.plan contexts call ∷ asks) (told ∷ guesses)
      ≡ cond right (wrong_guess run lane (number + 1) asks guesses) (Some told.number)
  opening call opens line told guesses right judged = opening_unless call (call_refusal contexts call) refl opens line told guesses right judged

-- no guess
abbrev pub no_guess : GuessLine
no_guess = record { number = 0; guess = record { guess = 0; missed = 0 } }

module _ (run : Run) (lane i : ℕ) (contexts : List (Option ContextView)) (lines : List CallLine) (call : CallLine) (at : drop i lines ≡ call ∷ drop (i + 1) lines)
    (guesses : List GuessLine) (next : ℕ) (total : Option ℕ)
    (so_far : total ≡ wrong_guess run lane i (map (ask_of run.plan contexts) (drop i lines)) (drop next guesses)) where
  pub go_past : is_opening contexts call ≡ false → total ≡ wrong_guess run lane (i + 1) (map (ask_of run.plan contexts) (drop (i + 1) lines)) (drop next guesses)
  go_past asks_none =
      so_far
      ∙ ap (λ (cs : List CallLine). wrong_guess run lane i (map (ask_of run.plan contexts) cs) (drop next guesses)) at
      ∙ past run lane i contexts (map (ask_of run.plan contexts) (drop (i + 1) lines)) call (drop next guesses) asks_none

  pub at_opening : is_opening contexts call ≡ true → IsLine run.plan call → (told : GuessLine) → drop next guesses ≡ told ∷ drop (next + 1) guesses → (right : Bool)
      → ((context first count : ℕ) → call ≡ calls.UnsealAll context first count → call_refusal contexts call ≡ None → 1 ≤ count → right ≡ is_right run context lane i count told.guess)
      → total ≡ cond right (wrong_guess run lane (i + 1) (map (ask_of run.plan contexts) (drop (i + 1) lines)) (drop (next + 1) guesses)) (Some told.number)
  at_opening opens line told behind right judged =
      let asks = map (ask_of run.plan contexts) (drop (i + 1) lines) in
      so_far
      ∙ ap (λ (cs : List CallLine). wrong_guess run lane i (map (ask_of run.plan contexts) cs) (drop next guesses)) at
      ∙ ap (wrong_guess run lane i (ask_of run.plan contexts call ∷ asks)) behind
      ∙ opening run lane i contexts asks call opens line told (drop (next + 1) guesses) right judged

-- ---- one lane after another

module _ (run : Run) (lanes : List (List GuessLine)) (i : ℕ) (d guesses : List GuessLine) (found total : Option ℕ) (low : i < length lanes)
    (here : guesses ≡ get_or lanes i d) (is : found ≡ wrong_guess run i 0 (map (ask_of run.plan run.contexts) (calls_of run i)) guesses)
    (so_far : total ≡ wrong_guesses run i (drop i lanes)) where
  abbrev later : Option ℕ
  later = wrong_guesses run (i + 1) (drop (i + 1) lanes)

  judged : total ≡ or_else found later
  judged =
      so_far
      ∙ ap (wrong_guesses run i) (drop_next lanes i d low)
      ∙ ap (λ (asks : List Ask). or_else (wrong_guess run i 0 asks (get_or lanes i d)) later) (lane_asks run i)
      ∙ ap (λ (first : Option ℕ). or_else first later) (sym (is ∙ ap (wrong_guess run i 0 (map (ask_of run.plan run.contexts) (calls_of run i))) here))

  -- all guesses of the next one are right
  pub lane_right : is_some found ≡ false → total ≡ later
  lane_right none = go found judged none
    where
      go : (first : Option ℕ) → total ≡ or_else first later → is_some first ≡ false → total ≡ later
      go None all none = all
      go (Some line) all some = absurd (let clash : true ≡ false = some in cc)

  -- or one isn't
  pub lane_wrong : is_some found ≡ true → found ≡ total
  lane_wrong some = go found judged some
    where
      go : (first : Option ℕ) → total ≡ or_else first later → is_some first ≡ true → first ≡ total
      go None all none = absurd (let clash : false ≡ true = none in cc)
      go (Some line) all some = sym all
