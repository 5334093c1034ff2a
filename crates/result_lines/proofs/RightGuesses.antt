-- The guesses of a result are right exactly where they may have been made and the run prints them.
use Rattle.std.proofs.Common.{◌≡◌, ℕ, zero, suc, ◌+◌, ◌<◌, ◌==◌, Bool, true, false, cond, List, [], ◌∷◌, length, map, take, drop, Option, Some, None, refl, sym, ap, ◌∙◌, subst, eq-eqb, eqb-true, arith}
use Rattle.std.specs.Prelude.{slice_get, slice_index}
use Rattle.std.proofs.lemmas.List.Sums.{sum_by-cons}
use Rattle.std.proofs.lemmas.Option.{slice_get_within}
use Rattle.call_places.specs.Messages.{SealedMessage}
use Rattle.context_books.specs.Batches.{Ask, Nothing, ToSeal, ToOpen, ToOpenAll, lane_of}
use Rattle.context_books.specs.Guesses.{missed_in, guess_of, guess_count}
use Rattle.context_books.specs.Checks.{is_guessed}
use Rattle.context_books.proofs.Members.{value_at}
use Rattle.context_books.proofs.Truths.{and_left, and_right, both_true}
use Rattle.batch_plans.specs.declared.plan.CallLine.{CallLine}
use Rattle.batch_plans.specs.declared.replies.Batch.{Batch}
use Rattle.batch_plans.specs.ReplyText.{numbered}
use Rattle.context_books.specs.Asks.{ask_of, cipher_at}
use Rattle.context_books.specs.Runs.{Run, asks_of, journal_of, guesses_of}
use Rattle.context_books.proofs.Done.{lane_asks}
use Rattle.result_lines.specs.declared.told.GuessLine.{GuessLine}
use Rattle.result_lines.proofs.Growing.{batches}
use Rattle.result_lines.specs.Guesses.{is_right, wrong_guess, or_else, wrong_guesses}
use Rattle.result_lines.proofs.Opened.{opened_with, opened}
use Rattle.result_lines.proofs.RunTexts.{own_opened, drop_step, size_on, size_behind}

-- the numbers that were guessed
abbrev pub numbers_told : List GuessLine → List ℕ
numbers_told guesses = map (λ (told : GuessLine). told.guess.guess) guesses

not_some : (k : ℕ) → Some k ≡ None → ⊥
not_some k e = cc

-- a choice that finds nothing
passed : (test : Bool) (rest : Option ℕ) (k : ℕ) → cond test rest (Some k) ≡ None → (test ≡ true) × (rest ≡ None)
passed true rest k e = (refl, e)
passed false rest k e = absurd (not_some k e)

-- a guess of a call may have been made
abbrev pub MayGuess : Run → ℕ → ℕ → ℕ → ℕ → Type 0
MayGuess run lane context number guess =
    is_guessed (asks_of run) (cipher_at run.contexts context) (journal_of run context) lane number guess ≡ true

-- each opening of these calls, from this number on, has guessed what it may have
abbrev pub AllRight : Run → ℕ → ℕ → List Ask → List ℕ → Type 0
AllRight run lane number asks guesses = (i context : ℕ) (messages : List SealedMessage) → slice_get asks i ≡ Some (ToOpenAll context messages)
    → MayGuess run lane context (number + i) (slice_index guesses (guess_count (take i asks)))

count_skips : (ask : Ask) (asks : List Ask) (i : ℕ) → length (guess_of ask 0) ≡ 0 → guess_count (take (suc i) (ask ∷ asks)) ≡ guess_count (take i asks)
count_skips ask asks i none = omega (arith, none, sum_by-cons (λ (a : Ask). length (guess_of a 0)) ask (take i asks))

count_moves : (ask : Ask) (asks : List Ask) (i : ℕ) → length (guess_of ask 0) ≡ 1 → guess_count (take (suc i) (ask ∷ asks)) ≡ suc (guess_count (take i asks))
count_moves ask asks i one = omega (arith, one, sum_by-cons (λ (a : Ask). length (guess_of a 0)) ask (take i asks))

shift : (number i : ℕ) → (number + 1) + i ≡ number + suc i
shift number i = omega arith

module _ (run : Run) (lane : ℕ) where
  -- a call that is no opening of several messages
  right_skip : (number : ℕ) (ask : Ask) (asks : List Ask) (guesses : List ℕ) → length (guess_of ask 0) ≡ 0
      → ((context : ℕ) (messages : List SealedMessage) → ask ≡ ToOpenAll context messages → ⊥)
      → AllRight run lane (number + 1) asks guesses → AllRight run lane number (ask ∷ asks) guesses
  right_skip number ask asks guesses none other right zero context messages at = absurd (other context messages cc)
  right_skip number ask asks guesses none other right (suc i) context messages at =
      subst (λ (k : ℕ). MayGuess run lane context k (slice_index guesses (guess_count (take (suc i) (ask ∷ asks))))) (shift number i)
      (subst (λ (k : ℕ). MayGuess run lane context ((number + 1) + i) (slice_index guesses k)) (sym (count_skips ask asks i none)) (right i context messages at))

  pub skip_right : (number : ℕ) (ask : Ask) (asks : List Ask) (guesses : List ℕ) → length (guess_of ask 0) ≡ 0 → AllRight run lane number (ask ∷ asks) guesses
      → AllRight run lane (number + 1) asks guesses
  skip_right number ask asks guesses none right i context messages at =
      subst (λ (k : ℕ). MayGuess run lane context k (slice_index guesses (guess_count (take i asks)))) (sym (shift number i))
      (subst (λ (k : ℕ). MayGuess run lane context (number + suc i) (slice_index guesses k)) (count_skips ask asks i none) (right (suc i) context messages at))

  right_next : (number c : ℕ) (ms : List SealedMessage) (asks : List Ask) (guess : ℕ) (guesses : List ℕ) → MayGuess run lane c number guess
      → AllRight run lane (number + 1) asks guesses → AllRight run lane number (ToOpenAll c ms ∷ asks) (guess ∷ guesses)
  right_next number c ms asks guess guesses may right zero context messages at =
      let same : ToOpenAll c ms ≡ ToOpenAll context messages = cc in
      let of : c ≡ context = cc in
      subst (λ (d : ℕ). MayGuess run lane d (number + 0) guess) of
      (subst (λ (k : ℕ). MayGuess run lane c k guess) (let z : number ≡ number + 0 = omega arith in z) may)
  right_next number c ms asks guess guesses may right (suc i) context messages at =
      subst (λ (k : ℕ). MayGuess run lane context k (slice_index (guess ∷ guesses) (guess_count (take (suc i) (ToOpenAll c ms ∷ asks))))) (shift number i)
      (subst (λ (k : ℕ). MayGuess run lane context ((number + 1) + i) (slice_index (guess ∷ guesses) k)) (sym (count_moves (ToOpenAll c ms) asks i refl)) (right i context messages at))

  pub next_right : (number c : ℕ) (ms : List SealedMessage) (asks : List Ask) (guess : ℕ) (guesses : List ℕ) → AllRight run lane number (ToOpenAll c ms ∷ asks) (guess ∷ guesses)
      → MayGuess run lane c number guess × AllRight run lane (number + 1) asks guesses
  next_right number c ms asks guess guesses right = (
    subst (λ (k : ℕ). MayGuess run lane c k guess) (let z : number + 0 ≡ number = omega arith in z) (right 0 c ms refl),
    λ i context messages at.
        subst (λ (k : ℕ). MayGuess run lane context k (slice_index guesses (guess_count (take i asks)))) (sym (shift number i))
        (subst (λ (k : ℕ). MayGuess run lane context (number + suc i) (slice_index (guess ∷ guesses) k)) (count_moves (ToOpenAll c ms) asks i refl) (right (suc i) context messages at)),
  )

  -- ---- guesses that no line is told of are right

  pub right_told : (number : ℕ) (asks : List Ask) (told : List GuessLine) → length told ≡ guess_count asks → wrong_guess run lane number asks told ≡ None
      → (batches told ≡ opened run lane number asks (numbers_told told)) × AllRight run lane number asks (numbers_told told)
  right_told number [] [] size none = (refl, λ i context messages at. absurd cc)
  right_told number [] (t ∷ told) size none = absurd (omega arith)
  right_told number (Nothing ∷ asks) told size none =
      let later = right_told (number + 1) asks told (size_on Nothing asks (length told) refl size) none in
      (later.0, right_skip number Nothing asks (numbers_told told) refl (λ c ms e. cc) later.1)
  right_told number (ToSeal context aad text ∷ asks) told size none =
      let later = right_told (number + 1) asks told (size_on (ToSeal context aad text) asks (length told) refl size) none in
      (later.0, right_skip number (ToSeal context aad text) asks (numbers_told told) refl (λ c ms e. cc) later.1)
  right_told number (ToOpen context aad ct ∷ asks) told size none =
      let later = right_told (number + 1) asks told (size_on (ToOpen context aad ct) asks (length told) refl size) none in
      (later.0, right_skip number (ToOpen context aad ct) asks (numbers_told told) refl (λ c ms e. cc) later.1)
  right_told number (ToOpenAll context messages ∷ asks) [] size none =
      absurd (let sum = sum_by-cons (λ (a : Ask). length (guess_of a 0)) (ToOpenAll context messages) asks in omega arith)
  right_told number (ToOpenAll context messages ∷ asks) (t ∷ told) size none =
      let p = passed (is_right run context lane number (length messages) t.guess) (wrong_guess run lane (number + 1) asks told) t.number none in
      let may : MayGuess run lane context number t.guess.guess = and_left _ _ p.0 in
      let missed : t.guess.missed ≡ missed_in (asks_of run) (cipher_at run.contexts context) (journal_of run context) lane number (length messages) t.guess.guess =
      eqb-true _ _ (and_right _ _ p.0) in
      let later = right_told (number + 1) asks told (size_behind (ToOpenAll context messages) asks (length told) refl size) p.1 in
      ((λ i. record { guess = t.guess.guess; missed = missed i } ∷ later.0 i), right_next number context messages asks t.guess.guess (numbers_told told) may later.1)

  -- ---- of guesses that are right no line is told

  pub told_right : (number : ℕ) (asks : List Ask) (guesses : List ℕ) (told : List GuessLine) → length guesses ≡ guess_count asks → batches told ≡ opened run lane number asks guesses
      → AllRight run lane number asks guesses → wrong_guess run lane number asks told ≡ None
  told_right number [] guesses told size is right = refl
  told_right number (Nothing ∷ asks) guesses told size is right =
      told_right (number + 1) asks guesses told (size_on Nothing asks (length guesses) refl size) is (skip_right number Nothing asks guesses refl right)
  told_right number (ToSeal context aad text ∷ asks) guesses told size is right =
      told_right (number + 1) asks guesses told (size_on (ToSeal context aad text) asks (length guesses) refl size) is (skip_right number (ToSeal context aad text) asks guesses refl right)
  told_right number (ToOpen context aad ct ∷ asks) guesses told size is right =
      told_right (number + 1) asks guesses told (size_on (ToOpen context aad ct) asks (length guesses) refl size) is (skip_right number (ToOpen context aad ct) asks guesses refl right)
  told_right number (ToOpenAll context messages ∷ asks) guesses [] size is right = refl
  told_right number (ToOpenAll context messages ∷ asks) [] (t ∷ told) size is right = absurd cc
  told_right number (ToOpenAll context messages ∷ asks) (guess ∷ guesses) (t ∷ told) size is right =
      let first : t.guess ≡ opened_with run lane number context (length messages) guess = cc in
      let rest : batches told ≡ opened run lane (number + 1) asks guesses = cc in
      let now = next_right number context messages asks guess guesses right in
      let own = opened_with run lane number context (length messages) guess in
      let is_own : is_right run context lane number (length messages) own ≡ true =
      both_true (is_guessed (asks_of run) (cipher_at run.contexts context) (journal_of run context) lane number guess) (own.missed == own.missed) now.0 (eq-eqb own.missed own.missed refl) in
      ap (λ (b : Batch). cond (is_right run context lane number (length messages) b) (wrong_guess run lane (number + 1) asks told) (Some t.number)) first
      ∙ ap (λ (b : Bool). cond b (wrong_guess run lane (number + 1) asks told) (Some t.number)) is_own
      ∙ told_right (number + 1) asks guesses told (size_behind (ToOpenAll context messages) asks (length guesses) refl size) rest now.1

  -- the numbers that are printed are those that were guessed
  pub opened_numbers : (number : ℕ) (asks : List Ask) (guesses : List ℕ) → length guesses ≡ guess_count asks
      → map (λ (b : Batch). b.guess) (opened run lane number asks guesses) ≡ guesses
  opened_numbers number [] [] size = refl
  opened_numbers number [] (guess ∷ guesses) size = absurd (omega arith)
  opened_numbers number (Nothing ∷ asks) guesses size = opened_numbers (number + 1) asks guesses (size_on Nothing asks (length guesses) refl size)
  opened_numbers number (ToSeal context aad text ∷ asks) guesses size =
      opened_numbers (number + 1) asks guesses (size_on (ToSeal context aad text) asks (length guesses) refl size)
  opened_numbers number (ToOpen context aad ct ∷ asks) guesses size =
      opened_numbers (number + 1) asks guesses (size_on (ToOpen context aad ct) asks (length guesses) refl size)
  opened_numbers number (ToOpenAll context messages ∷ asks) [] size =
      absurd (let sum = sum_by-cons (λ (a : Ask). length (guess_of a 0)) (ToOpenAll context messages) asks in omega arith)
  opened_numbers number (ToOpenAll context messages ∷ asks) (guess ∷ guesses) size =
      ap (λ (gs : List ℕ). guess ∷ gs) (opened_numbers (number + 1) asks guesses (size_behind (ToOpenAll context messages) asks (length guesses) refl size))

-- ---- all lanes

or_none : (a b : Option ℕ) → or_else a b ≡ None → (a ≡ None) × (b ≡ None)
or_none None b e = (refl, e)
or_none (Some k) b e = absurd (not_some k e)

module _ (run : Run) where
  -- what the lanes from this number on tell is right
  record Lanes (k : ℕ) (told : List (List GuessLine)) (lanes : List (List CallLine)) : Type 0 where
    are : map batches told ≡ numbered (own_opened run) k lanes
    right : (i : ℕ) (calls : List CallLine) → slice_get lanes i ≡ Some calls
        → AllRight run (k + i) 0 (map (ask_of run.plan run.contexts) calls) (guesses_of run (k + i))

  asks_at : (lane : ℕ) (calls : List CallLine) → slice_get run.plan.lanes lane ≡ Some calls → lane_of (asks_of run) lane ≡ map (ask_of run.plan run.contexts) calls
  asks_at lane calls at = lane_asks run lane ∙ ap (map (ask_of run.plan run.contexts)) (value_at run.plan.lanes lane calls [] at)

  lanes_right : (k : ℕ) (lanes : List (List CallLine)) (told : List (List GuessLine)) → drop k run.plan.lanes ≡ lanes → drop k run.guesses ≡ map numbers_told told
      → map (length {A = GuessLine}) told ≡ map (λ (calls : List CallLine). guess_count (map (ask_of run.plan run.contexts) calls)) lanes
      → wrong_guesses run k told ≡ None → Lanes k told lanes
  lanes_right k [] [] lanes_are guesses_are sizes none = record { are = refl; right = λ i calls at. absurd cc }
  lanes_right k [] (t ∷ told) lanes_are guesses_are sizes none = absurd cc
  lanes_right k (calls ∷ lanes) [] lanes_are guesses_are sizes none = absurd cc
  lanes_right k (calls ∷ lanes) (t ∷ told) lanes_are guesses_are sizes none =
      let s = drop_step run.plan.lanes lanes k calls lanes_are in
      let g = drop_step run.guesses (map numbers_told told) k (numbers_told t) guesses_are in
      let own : guesses_of run k ≡ numbers_told t = value_at run.guesses k (numbers_told t) [] g.0 in
      let asks = map (ask_of run.plan run.contexts) calls in
      let size : length t ≡ guess_count asks = cc in
      let later_sizes : map (length {A = GuessLine}) told ≡ map (λ (cs : List CallLine). guess_count (map (ask_of run.plan run.contexts) cs)) lanes = cc in
      let both = or_none (wrong_guess run k 0 (lane_of (asks_of run) k) t) (wrong_guesses run (k + 1) told) none in
      let here = right_told run k 0 asks t size (ap (λ (a : List Ask). wrong_guess run k 0 a t) (sym (asks_at k calls s.0)) ∙ both.0) in
      let rest = lanes_right (k + 1) lanes told s.1 g.1 later_sizes both.1 in
      record {
        are = (λ i. (here.0 ∙ ap (opened run k 0 asks) (sym own)) i ∷ rest.are i);
        right = after k calls lanes (subst (AllRight run k 0 asks) (sym own) here.1) rest.right;
      }
    where
      after : (k : ℕ) (calls : List CallLine) (lanes : List (List CallLine)) → AllRight run k 0 (map (ask_of run.plan run.contexts) calls) (guesses_of run k)
          → ((i : ℕ) (cs : List CallLine) → slice_get lanes i ≡ Some cs → AllRight run ((k + 1) + i) 0 (map (ask_of run.plan run.contexts) cs) (guesses_of run ((k + 1) + i)))
          → (i : ℕ) (cs : List CallLine) → slice_get (calls ∷ lanes) i ≡ Some cs → AllRight run (k + i) 0 (map (ask_of run.plan run.contexts) cs) (guesses_of run (k + i))
      after k calls lanes here rest zero cs at =
          let same : calls ≡ cs = cc in
          subst (λ (l : ℕ). AllRight run l 0 (map (ask_of run.plan run.contexts) cs) (guesses_of run l)) (let z : k ≡ k + 0 = omega arith in z)
          (subst (λ (c : List CallLine). AllRight run k 0 (map (ask_of run.plan run.contexts) c) (guesses_of run k)) same here)
      after k calls lanes here rest (suc i) cs at =
          subst (λ (l : ℕ). AllRight run l 0 (map (ask_of run.plan run.contexts) cs) (guesses_of run l)) (shift k i) (rest i cs at)

  -- what is told where no guess is wrong
  pub all_right : (told : List (List GuessLine)) → run.guesses ≡ map numbers_told told
      → map (length {A = GuessLine}) told ≡ map (λ (calls : List CallLine). guess_count (map (ask_of run.plan run.contexts) calls)) run.plan.lanes
      → wrong_guesses run 0 told ≡ None
      → (map batches told ≡ numbered (own_opened run) 0 run.plan.lanes)
      × ((lane : ℕ) (calls : List CallLine) → slice_get run.plan.lanes lane ≡ Some calls → AllRight run lane 0 (lane_of (asks_of run) lane) (guesses_of run lane))
  all_right told is sizes none =
      let t = lanes_right 0 run.plan.lanes told refl is sizes none in (
        t.are,
        λ lane calls at.
            subst (λ (a : List Ask). AllRight run lane 0 a (guesses_of run lane)) (sym (asks_at lane calls at))
            (subst (λ (l : ℕ). AllRight run l 0 (map (ask_of run.plan run.contexts) calls) (guesses_of run l)) (let z : 0 + lane ≡ lane = omega arith in z) (t.right lane calls at)),
      )

  -- of what a run prints none is wrong
  pub none_wrong : (k : ℕ) (lanes : List (List CallLine)) (told : List (List GuessLine)) → drop k run.plan.lanes ≡ lanes → map batches told ≡ numbered (own_opened run) k lanes
      → ((lane : ℕ) → lane < length run.plan.lanes → length (guesses_of run lane) ≡ guess_count (lane_of (asks_of run) lane))
      → ((lane : ℕ) → lane < length run.plan.lanes → AllRight run lane 0 (lane_of (asks_of run) lane) (guesses_of run lane)) → wrong_guesses run k told ≡ None
  none_wrong k [] [] lanes_are is sizes right = refl
  none_wrong k [] (t ∷ told) lanes_are is sizes right = absurd cc
  none_wrong k (calls ∷ lanes) [] lanes_are is sizes right = refl
  none_wrong k (calls ∷ lanes) (t ∷ told) lanes_are is sizes right =
      let s = drop_step run.plan.lanes lanes k calls lanes_are in
      let low : k < length run.plan.lanes = slice_get_within run.plan.lanes k calls s.0 in
      let asks = lane_of (asks_of run) k in
      let first : batches t ≡ own_opened run k calls = cc in
      let rest : map batches told ≡ numbered (own_opened run) (k + 1) lanes = cc in
      let opens : batches t ≡ opened run k 0 asks (guesses_of run k) = first ∙ ap (λ (a : List Ask). opened run k 0 a (guesses_of run k)) (sym (asks_at k calls s.0)) in
      let here = told_right run k 0 asks (guesses_of run k) t (sizes k low) opens (right k low) in
      ap (λ (o : Option ℕ). or_else o (wrong_guesses run (k + 1) told)) here ∙ none_wrong (k + 1) lanes told s.1 rest sizes right
