-- Only the places of its journals tell what a run replies.
use Rattle.std.proofs.Common.{◌≡◌, ℕ, ◌+◌, List, [], ◌∷◌, length, map, refl, sym, ap, subst}
use Rattle.call_places.specs.declared.entries.Place.{Place}
use Rattle.call_places.specs.declared.entries.Mark.{Mark}
use Rattle.context_books.specs.Batches.{Ask, Nothing, ToSeal, ToOpen, ToOpenAll}
use Rattle.context_books.specs.Guesses.{AllGuessed, missed_in}
use Rattle.context_books.specs.Histories.{marks_at, places}
use Rattle.context_books.specs.Legal.{reply_of}
use Rattle.batch_plans.specs.declared.plan.CallLine.{CallLine}
use Rattle.batch_plans.specs.ReplyText.{all_lines, numbered}
use Rattle.context_books.specs.Standing.{call_refusal}
use Rattle.context_books.specs.Asks.{ask_of, cipher_at}
use Rattle.context_books.specs.Runs.{Run, run_along, asks_of, journal_of, guesses_of, answer_line_of, place_line, lines_of_items, item_lines, lines_unless}
use Rattle.result_lines.proofs.Opened.{opened}
use Rattle.result_lines.specs.Replies.{reply_lines, all_replies}
use Rattle.result_lines.proofs.RunTexts.{all_opened}

module _ (run : Run) (journals : List (List Mark)) (same : (context : ℕ) → places (marks_at journals context) ≡ journal_of run context) where
  -- the same run along other journals with the same places
  abbrev pub other : Run
  other = run_along run.plan run.contexts journals run.guesses

  place_same : (context : ℕ) (p : Place) → place_line other context p ≡ place_line run context p
  place_same context p = ap (λ (ps : List Place). answer_line_of (reply_of (asks_of run) (cipher_at run.contexts context) ps p)) (same context)

  items_same : (lane number : ℕ) (call : CallLine) → item_lines other lane number call ≡ item_lines run lane number call
  items_same lane number call = (λ i. lines_of_items (λ (context : ℕ) (p : Place). place_same context p i) run.plan run.contexts lane number call)

  reply_same : (lane number : ℕ) (call : CallLine) → reply_lines other lane number call ≡ reply_lines run lane number call
  reply_same lane number call = ap (lines_unless (call_refusal run.contexts call)) (items_same lane number call)

  pub replies_same : all_replies other ≡ all_replies run
  replies_same = (λ i. all_lines (numbered (λ (lane : ℕ) (calls : List CallLine). all_lines (numbered (λ (number : ℕ) (call : CallLine). reply_same lane number call i) 0 calls)) 0 run.plan.lanes))

  opened_same : (lane number : ℕ) (asks : List Ask) (guesses : List ℕ) → opened other lane number asks guesses ≡ opened run lane number asks guesses
  opened_same lane number [] guesses = refl
  opened_same lane number (Nothing ∷ asks) guesses = opened_same lane (number + 1) asks guesses
  opened_same lane number (ToSeal context aad text ∷ asks) guesses = opened_same lane (number + 1) asks guesses
  opened_same lane number (ToOpen context aad ct ∷ asks) guesses = opened_same lane (number + 1) asks guesses
  opened_same lane number (ToOpenAll context messages ∷ asks) [] = refl
  opened_same lane number (ToOpenAll context messages ∷ asks) (guess ∷ guesses) =
      (λ i. record { guess = guess; missed = missed_in (asks_of run) (cipher_at run.contexts context) (same context i) lane number (length messages) guess }
      ∷ opened_same lane (number + 1) asks guesses i)

  pub all_opened_same : all_opened other ≡ all_opened run
  all_opened_same = (λ i. numbered (λ (lane : ℕ) (calls : List CallLine). opened_same lane 0 (map (ask_of run.plan run.contexts) calls) (guesses_of run lane) i) 0 run.plan.lanes)

  pub guessed_same : (lane : ℕ) (guesses : List ℕ) → AllGuessed (asks_of run) (cipher_at run.contexts) (journal_of run) lane guesses
      → AllGuessed (asks_of run) (cipher_at run.contexts) (journal_of other) lane guesses
  guessed_same lane guesses guessed =
      subst (λ (js : ℕ → List Place). AllGuessed (asks_of run) (cipher_at run.contexts) js lane guesses) (λ i context. sym (same context) i) guessed
