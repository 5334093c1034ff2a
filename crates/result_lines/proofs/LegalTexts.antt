-- A text is legal exactly where it is that of an allowed run.
use Rattle.std.proofs.Common.{◌≡◌, ℕ, zero, suc, ◌+◌, ◌≤◌, ◌<◌, ◌⊎◌, nat_le, Bool, true, false, cond, List, [], ◌∷◌, ◌++◌, length, map, drop, codes, decimal, Option, Some, Result, Ok, Err, refl, sym, ap, ◌∙◌, subst, inl, inr, arith}
use Rattle.std.specs.Prelude.{slice_get, slice_index_or}
use Rattle.std.specs.List.{All, concat}
use Rattle.std.proofs.lemmas.List.{length-map}
use Rattle.std.proofs.lemmas.List.Elements.{All-nil, All-cons, All-weaker}
use Rattle.std.proofs.lemmas.Option.{slice_get_within}
use Rattle.call_places.specs.declared.entries.Mark.{Mark}
use Rattle.call_places.specs.Messages.{SealedMessage}
use Rattle.hpke_context.specs.Contexts.{ContextView}
use Rattle.context_books.specs.Batches.{Ask, Nothing, ToSeal, ToOpen, ToOpenAll, lane_of, block, place}
use Rattle.context_books.specs.Guesses.{AllGuessed, guess_count, guess_at, is_in_window, missed, least_guess, greatest_guess}
use Rattle.context_books.specs.Histories.{mark, marks_at, places}
use Rattle.context_books.specs.Legal.{Legal, number_of}
use Rattle.context_books.proofs.Checking.{guessed_iff}
use Rattle.context_books.proofs.Members.{got, value_at}
use Rattle.context_books.proofs.Truths.{and_right, le_true}
use Rattle.batch_plans.specs.Limits.{most_opening}
use Rattle.batch_plans.specs.Within.{IsWithinLimits}
use Rattle.batch_plans.specs.declared.plan.Plan.{Plan}
use Rattle.batch_plans.specs.declared.plan.CallLine.{CallLine}
use Rattle.batch_plans.specs.declared.replies.Batch.{Batch}
use Rattle.batch_plans.specs.declared.replies.KeyReply.{KeyReply}
use Rattle.batch_plans.specs.declared.replies.ContextReply.{ContextReply}
use Rattle.batch_plans.specs.ReplyText.{all_lines, numbered, has_stamps, lane_lines, mark_line, journal_lines, version_line}
use Rattle.batch_plans.specs.Lines.{key_line, context_line}
use Rattle.context_books.specs.Asks.{ask_of, batch_of, cipher_at}
use Rattle.context_books.specs.Runs.{Run, asks_of, journal_of, guesses_of, IsAllowed, run_text, run_along, LegalFor}
use Rattle.context_books.proofs.Done.{lane_asks}
use Rattle.result_lines.specs.declared.told.GuessLine.{GuessLine}
use Rattle.result_lines.specs.Told.{ToldView, told_by}
use Rattle.result_lines.specs.Printed.{told_lanes, told_text, lines_told, IsLine, IsGuessWithin}
use Rattle.result_lines.specs.Printed as printed
use Rattle.result_lines.specs.PrintedLive.{IsReply}
use Rattle.result_lines.proofs.Growing.{batches}
use Rattle.result_lines.proofs.FirstLines.{ok_is}
use Rattle.result_lines.proofs.Took.{told_took, text_parts}
use Rattle.result_lines.proofs.Gave.{told_back}
use Rattle.result_lines.specs.declared.verdicts.Verdict.TheVariants as verdicts
use Rattle.result_lines.specs.Guesses.{wrong_guesses}
use Rattle.result_lines.specs.OneRun.{PrintTheSame}
use Rattle.result_lines.proofs.Opened.{opened_with, opened}
use Rattle.result_lines.specs.Replies.{all_replies, wrong_reply}
use Rattle.result_lines.specs.Verdicts.{run_told, IsVerdictOn, IsVerdictBy}
use Rattle.result_lines.proofs.Counting.{journal_few, number_low}
use Rattle.result_lines.proofs.DueReplies.{due_told, told_due, replies_are_lines}
use Rattle.result_lines.proofs.LegalJournals.{each_legal, opening_size, as_printed}
use Rattle.result_lines.proofs.RightGuesses.{numbers_told, MayGuess, AllRight, skip_right, next_right, opened_numbers, all_right, none_wrong}
use Rattle.result_lines.proofs.RunTexts.{length-block, all_kept, own_opened, all_opened, AreCounted, drop_step, run_complete, run_text_is, all_counted}
use Rattle.result_lines.proofs.SameJournals.{other, replies_same, all_opened_same, guessed_same}

legal_form : (plan : Plan) (contexts : List (Option ContextView)) (read : Result ToldView ℕ) → IsVerdictBy plan contexts read verdicts.Legal
    → (told : ToldView) × (read ≡ Ok told) × IsVerdictOn (run_told plan contexts told) (has_stamps plan.version) told verdicts.Legal
legal_form plan contexts (Ok told) legal = (told, refl, legal)
legal_form plan contexts (Err line) legal = absurd cc

-- ---- guesses, as they are kept and as they are tested

-- a place in a lane of the plan
module _ (run : Run) (within : IsWithinLimits run.plan) (legal : (context : ℕ) → Legal (asks_of run) context (journal_of run context)) where
  -- openings that guessed what they may
  pub guessed_of : (lane : ℕ) → length (guesses_of run lane) ≡ guess_count (lane_of (asks_of run) lane) → AllRight run lane 0 (lane_of (asks_of run) lane) (guesses_of run lane)
      → AllGuessed (asks_of run) (cipher_at run.contexts) (journal_of run) lane (guesses_of run lane)
  guessed_of lane count right = record {
    count = count;
    each = λ context call n opens.
        let size = opening_size run.plan run.contexts within lane call context opens.0 opens.1 in
        (guessed_iff (asks_of run) context (cipher_at run.contexts context) (journal_of run context) lane call n (guess_at (lane_of (asks_of run) lane) (guesses_of run lane) call)
        (legal context) opens (omega (arith, size.0, opens.2))).0
        (subst (λ (k : ℕ). MayGuess run lane context k (guess_at (lane_of (asks_of run) lane) (guesses_of run lane) call)) (let z : 0 + call ≡ call = omega arith in z)
        (right call context opens.0 opens.1));
  }

  pub right_of : (lane : ℕ) → AllGuessed (asks_of run) (cipher_at run.contexts) (journal_of run) lane (guesses_of run lane) → AllRight run lane 0 (lane_of (asks_of run) lane) (guesses_of run lane)
  right_of lane guessed call context messages at =
      let size = opening_size run.plan run.contexts within lane call context messages at in
      let guess = guess_at (lane_of (asks_of run) lane) (guesses_of run lane) call in
      subst (λ (k : ℕ). MayGuess run lane context k guess) (let z : call ≡ 0 + call = omega arith in z)
      ((guessed_iff (asks_of run) context (cipher_at run.contexts context) (journal_of run context) lane call (length messages) guess (legal context) (messages, at, refl) size.0).1
      (guessed.each context call (length messages) (messages, at, refl)))

  -- ---- guesses fit their fields

  missed_few : (guess i : ℕ) (numbers : List ℕ) → missed guess i numbers ≤ length numbers
  missed_few guess i [] = omega arith
  missed_few guess i (number ∷ numbers) =
      (let rest = missed_few guess (i + 1) numbers in
      let here : (cond (is_in_window guess i number) 0 1) ≤ 1 = at_most_one (is_in_window guess i number) in
      omega arith)
    where
      at_most_one : (b : Bool) → cond b 0 1 ≤ 1
      at_most_one true = omega arith
      at_most_one false = omega arith

  one_fits : (lane number context : ℕ) (messages : List SealedMessage) (guess : ℕ) → MayGuess run lane context number guess → length messages ≤ most_opening
      → IsGuessWithin (opened_with run lane number context (length messages) guess)
  one_fits lane number context messages guess may few =
      let n = length messages in
      let most : guess ≤ greatest_guess (asks_of run) (cipher_at run.contexts context) (journal_of run context) lane number =
      le_true guess _ (and_right (nat_le (least_guess (asks_of run) (cipher_at run.contexts context) (journal_of run context) lane number) guess) _ may) in
      let low = number_low (asks_of run) (cipher_at run.contexts context) (journal_of run context) (place lane number 0) in
      let journal = journal_few run.plan run.contexts within context (journal_of run context) (legal context) in
      let numbers = map (number_of (asks_of run) (cipher_at run.contexts context) (journal_of run context)) (block lane number 0 n) in
      let size : length numbers ≡ n = length-map (block lane number 0 n) _ ∙ length-block lane number 0 n in
      let missed_low = missed_few guess 0 numbers in
      record { guess = omega arith; missed = omega arith }

  opened_fit : (lane number : ℕ) (asks : List Ask) (guesses : List ℕ) → AllRight run lane number asks guesses
      → ((i context : ℕ) (messages : List SealedMessage) → slice_get asks i ≡ Some (ToOpenAll context messages) → length messages ≤ most_opening)
      → All IsGuessWithin (opened run lane number asks guesses)
  opened_fit lane number [] guesses right few = All-nil IsGuessWithin
  opened_fit lane number (Nothing ∷ asks) guesses right few =
      opened_fit lane (number + 1) asks guesses (skip_right run lane number Nothing asks guesses refl right) (λ i c ms at. few (suc i) c ms at)
  opened_fit lane number (ToSeal context aad text ∷ asks) guesses right few =
      opened_fit lane (number + 1) asks guesses (skip_right run lane number (ToSeal context aad text) asks guesses refl right) (λ i c ms at. few (suc i) c ms at)
  opened_fit lane number (ToOpen context aad ct ∷ asks) guesses right few =
      opened_fit lane (number + 1) asks guesses (skip_right run lane number (ToOpen context aad ct) asks guesses refl right) (λ i c ms at. few (suc i) c ms at)
  opened_fit lane number (ToOpenAll context messages ∷ asks) [] right few = All-nil IsGuessWithin
  opened_fit lane number (ToOpenAll context messages ∷ asks) (guess ∷ guesses) right few =
      let now = next_right run lane number context messages asks guess guesses right in
      All-cons IsGuessWithin (opened_with run lane number context (length messages) guess) (opened run lane (number + 1) asks guesses)
      (one_fits lane number context messages guess now.0 (few 0 context messages refl))
      (opened_fit lane (number + 1) asks guesses now.1 (λ i c ms at. few (suc i) c ms at))

  lanes_fit : (k : ℕ) (lanes : List (List CallLine)) → ((i : ℕ) (calls : List CallLine) → slice_get lanes i ≡ Some calls → All IsGuessWithin (own_opened run (k + i) calls))
      → All (All IsGuessWithin) (numbered (own_opened run) k lanes)
  lanes_fit k [] each = All-nil (All IsGuessWithin)
  lanes_fit k (calls ∷ lanes) each =
      All-cons (All IsGuessWithin) (own_opened run k calls) (numbered (own_opened run) (k + 1) lanes)
      (subst (λ (l : ℕ). All IsGuessWithin (own_opened run l calls)) (let z : k + 0 ≡ k = omega arith in z) (each 0 calls refl))
      (lanes_fit (k + 1) lanes (λ i cs at. subst (λ (l : ℕ). All IsGuessWithin (own_opened run l cs)) (let z : k + suc i ≡ (k + 1) + i = omega arith in z) (each (suc i) cs at)))

  pub asks_at : (lane : ℕ) (calls : List CallLine) → slice_get run.plan.lanes lane ≡ Some calls → lane_of (asks_of run) lane ≡ map (ask_of run.plan run.contexts) calls
  asks_at lane calls at = lane_asks run lane ∙ ap (map (ask_of run.plan run.contexts)) (value_at run.plan.lanes lane calls [] at)

  pub guesses_fit : ((lane : ℕ) → lane < length run.plan.lanes → AllRight run lane 0 (lane_of (asks_of run) lane) (guesses_of run lane)) → All (All IsGuessWithin) (all_opened run)
  guesses_fit right =
      lanes_fit 0 run.plan.lanes
      (λ i calls at.
      let low = slice_get_within run.plan.lanes i calls at in
      subst (λ (l : ℕ). All IsGuessWithin (own_opened run l calls)) (let z : i ≡ 0 + i = omega arith in z)
      (subst (λ (asks : List Ask). All IsGuessWithin (opened run i 0 asks (guesses_of run i))) (asks_at i calls at)
      (opened_fit i 0 (lane_of (asks_of run) i) (guesses_of run i) (right i low)
      (λ call context messages here. (opening_size run.plan run.contexts within i call context messages here).1))))

-- ---- what is told where no part is wrong

pub index_sizes : {Y : Type 0} (size : Y → ℕ) (told : List (List GuessLine)) (lanes : List Y) → map (length {A = GuessLine}) told ≡ map size lanes
    → (lane : ℕ) (y : Y) → slice_get lanes lane ≡ Some y → length (slice_index_or (map numbers_told told) lane []) ≡ size y
index_sizes size [] [] sizes lane y at = absurd cc
index_sizes size [] (z ∷ lanes) sizes lane y at = absurd cc
index_sizes size (t ∷ told) [] sizes lane y at = absurd cc
index_sizes size (t ∷ told) (z ∷ lanes) sizes zero y at =
    let first : length t ≡ size z = cc in
    let same : z ≡ y = cc in
    length-map t _ ∙ first ∙ ap size same
index_sizes size (t ∷ told) (z ∷ lanes) sizes (suc lane) y at =
    let rest : map (length {A = GuessLine}) told ≡ map size lanes = cc in
    index_sizes size told lanes rest lane y at

pub sizes_of : (told : List (List GuessLine)) → map (length {A = Batch}) (map batches told) ≡ map (length {A = GuessLine}) told
sizes_of [] = refl
sizes_of (t ∷ told) = (λ i. length-map t (λ (g : GuessLine). g.guess) i ∷ sizes_of told i)

pub kept_of : (plan : Plan) (contexts : List (Option ContextView)) (lanes : List (List CallLine))
    → map (λ (calls : List CallLine). guess_count (map (ask_of plan contexts) calls)) lanes ≡ map (printed.lane_guesses contexts) lanes
kept_of plan contexts [] = refl
kept_of plan contexts (calls ∷ lanes) = (λ i. all_kept plan contexts calls i ∷ kept_of plan contexts lanes i)

-- ---- what is printed where no part is wrong

bare_marks : (marks : List Mark) → map (mark_line false) marks ≡ map (mark_line false) (map (λ (m : Mark). mark m.place 0) marks)
bare_marks [] = refl
bare_marks (m ∷ marks) = ap (λ (ls : List (List ℕ)). mark_line false m ∷ ls) (bare_marks marks)

bare_lines : (k : ℕ) (journals : List (List Mark))
    → numbered (journal_lines false) k journals ≡ numbered (journal_lines false) k (map (map (λ (m : Mark). mark m.place 0)) journals)
bare_lines k [] = refl
bare_lines k (marks ∷ journals) =
    (λ i. (((codes "journal " ++ decimal k) ++ codes "\n") ∷ bare_marks marks i) ∷ bare_lines (k + 1) journals i)

bare_text : (stamps : Bool) → stamps ≡ false → (k : ℕ) (journals : List (List Mark))
    → concat (all_lines (numbered (journal_lines stamps) k journals))
    ≡ concat (all_lines (numbered (journal_lines stamps) k (map (map (λ (m : Mark). mark m.place 0)) journals)))
bare_text true is k journals = absurd cc
bare_text false is k journals = ap (λ (parts : List (List (List ℕ))). concat (all_lines parts)) (bare_lines k journals)

pub numbers_of : (told : List (List GuessLine)) → map numbers_told told ≡ map (map (λ (b : Batch). b.guess)) (map batches told)
numbers_of [] = refl
numbers_of (t ∷ told) = (λ i. each t i ∷ numbers_of told i)
  where
    each : (t : List GuessLine) → numbers_told t ≡ map (λ (b : Batch). b.guess) (batches t)
    each [] = refl
    each (g ∷ t) = ap (λ (gs : List ℕ). g.guess.guess ∷ gs) (each t)

-- the guesses that a run prints are its own
pub opened_guesses : (run : Run) → AreCounted run → (k : ℕ) (lanes : List (List CallLine)) (guesses : List (List ℕ)) → drop k run.plan.lanes ≡ lanes → drop k run.guesses ≡ guesses
    → length lanes ≡ length guesses → map (map (λ (b : Batch). b.guess)) (numbered (own_opened run) k lanes) ≡ guesses
opened_guesses run counted k [] [] lanes_are guesses_are size = refl
opened_guesses run counted k [] (own ∷ guesses) lanes_are guesses_are size = absurd (omega arith)
opened_guesses run counted k (calls ∷ lanes) [] lanes_are guesses_are size = absurd (omega arith)
opened_guesses run counted k (calls ∷ lanes) (own ∷ guesses) lanes_are guesses_are size =
    let s = drop_step run.plan.lanes lanes k calls lanes_are in
    let g = drop_step run.guesses guesses k own guesses_are in
    let low = slice_get_within run.plan.lanes k calls s.0 in
    let asks : lane_of (asks_of run) k ≡ map (ask_of run.plan run.contexts) calls =
    lane_asks run k ∙ ap (map (ask_of run.plan run.contexts)) (value_at run.plan.lanes k calls [] s.0) in
    let own_is : guesses_of run k ≡ own = value_at run.guesses k own [] g.0 in
    let here : map (λ (b : Batch). b.guess) (own_opened run k calls) ≡ own =
    opened_numbers run k 0 (map (ask_of run.plan run.contexts) calls) (guesses_of run k) (counted k low ∙ ap guess_count asks) ∙ own_is in
    (λ i. here i ∷ opened_guesses run counted (k + 1) lanes guesses s.1 g.1 (omega arith) i)

module _ (plan : Plan) (keys : List KeyReply) (replies : List ContextReply) (contexts : List (Option ContextView)) (text : List ℕ) (within : IsWithinLimits plan) where
  abbrev Replies : Type 0
  Replies = (journals : List (List Mark)) × (guesses : List (List ℕ)) × IsAllowed (run_along plan contexts journals guesses)
      × (text ≡ run_text keys replies (run_along plan contexts journals guesses))

  pub sound : IsVerdictBy plan contexts (told_by plan keys replies contexts text) verdicts.Legal → Replies
  sound is =
      let form = legal_form plan contexts (told_by plan keys replies contexts text) is in
      let told : ToldView = form.0 in
      let run = run_told plan contexts told in
      let stamps = has_stamps plan.version in
      let of = told_took plan keys replies contexts text told form.1 in
      let parts = form.2 in
      let legal = parts.0 in
      let each = each_legal stamps (asks_of run) told.journals legal in
      let sizes : map (length {A = GuessLine}) told.lanes ≡ map (λ (calls : List CallLine). guess_count (map (ask_of plan contexts) calls)) plan.lanes =
      sym (sizes_of told.lanes) ∙ of.complete.kept ∙ sym (kept_of plan contexts plan.lanes) in
      let counted : AreCounted run = (λ lane low.
      let calls = got plan.lanes lane low in
      index_sizes (λ (cs : List CallLine). guess_count (map (ask_of plan contexts) cs)) told.lanes plan.lanes sizes lane calls.0 calls.1
      ∙ ap guess_count (sym (asks_at run within each lane calls.0 calls.1))) in
      let right = all_right run told.lanes refl sizes parts.2 in
      let lines : lines_told told ≡ all_replies run =
      due_told told.replies (all_replies run) (sym (length-map told.replies _) ∙ of.complete.count ∙ sym (all_counted run within counted)) parts.1 in (
        told.journals,
        run.guesses,
        record {
          journals = of.complete.size;
          lanes = length-map told.lanes numbers_told ∙ sym (length-map told.lanes (length {A = GuessLine})) ∙ ap length sizes ∙ length-map plan.lanes _;
          legal = legal;
          guessed = λ lane low.
              let calls = got plan.lanes lane low in
              guessed_of run within each lane (counted lane low) (right.1 lane calls.0 calls.1);
        },
        of.is ∙ (λ i. told_text plan keys replies contexts (lines i) (right.0 i) told.journals) ∙ sym (run_text_is run within counted keys replies),
      )

  -- ---- what an allowed run prints

  same_text : (stamps : Bool) (lines : List (List ℕ)) (guesses : List (List Batch)) (journals own : List (List Mark)) → has_stamps plan.version ≡ stamps
      → (own ≡ journals) ⊎ ((stamps ≡ false) × (own ≡ map (map (λ (m : Mark). mark m.place 0)) journals))
      → told_text plan keys replies contexts lines guesses journals ≡ told_text plan keys replies contexts lines guesses own
  same_text stamps lines guesses journals own is (inl same) = ap (told_text plan keys replies contexts lines guesses) (sym same)
  same_text stamps lines guesses journals own is (inr bare) =
      let lanes = told_lanes contexts plan.lanes lines guesses in
      let bared = map (map (λ (m : Mark). mark m.place 0)) journals in
      text_parts plan.version keys replies lanes journals
      ∙ ap (λ (bytes : List ℕ). (version_line plan.version ++ (concat (numbered key_line 0 keys) ++ concat (numbered context_line 0 replies)))
      ++ (concat (all_lines (numbered lane_lines 0 lanes)) ++ (bytes ++ codes "end\n"))) (bare_text (has_stamps plan.version) (is ∙ bare.0) 0 journals)
      ∙ sym (text_parts plan.version keys replies lanes bared)
      ∙ ap (told_text plan keys replies contexts lines guesses) (sym bare.1)

  -- what the text of an allowed run is read as
  record Back (journals : List (List Mark)) (guesses : List (List ℕ)) : Type 0 where
    told : ToldView
    read : told_by plan keys replies contexts text ≡ Ok told
    numbers : map numbers_told told.lanes ≡ guesses
    places_are : (context : ℕ) → places (marks_at told.journals context) ≡ places (marks_at journals context)
    stamps_are : has_stamps plan.version ≡ true → told.journals ≡ journals
    legal : IsVerdictOn (run_told plan contexts told) (has_stamps plan.version) told verdicts.Legal

  back : (journals : List (List Mark)) (guesses : List (List ℕ)) → IsAllowed (run_along plan contexts journals guesses)
      → text ≡ run_text keys replies (run_along plan contexts journals guesses) → Back journals guesses
  back journals guesses allowed is =
      let start = run_along plan contexts journals guesses in
      let stamps = has_stamps plan.version in
      let batch = batch_of plan contexts in
      let p = as_printed plan contexts within stamps journals allowed.legal in
      let run = other start p.own p.same in
      let each = each_legal stamps batch p.own p.legal in
      let counted : AreCounted run = (λ lane low. (allowed.guessed lane low).count) in
      let right : (lane : ℕ) → lane < length plan.lanes → AllRight run lane 0 (lane_of (asks_of run) lane) (guesses_of run lane) =
      (λ lane low. right_of run within each lane (guessed_same start p.own p.same lane (guesses_of run lane) (allowed.guessed lane low))) in
      let again = told_back plan keys replies contexts (all_replies run) (all_opened run) p.own (run_complete run within counted (p.size ∙ allowed.journals))
      (All-weaker IsReply IsLine (λ line r. r.one) (all_replies run) (replies_are_lines run within each)) (guesses_fit run within each right) p.fits in
      let told : ToldView = again.told in
      let text_is : text ≡ told_text plan keys replies contexts (all_replies run) (all_opened run) p.own =
      is ∙ run_text_is start within counted keys replies
      ∙ (λ i. told_text plan keys replies contexts (sym (replies_same start p.own p.same) i) (sym (all_opened_same start p.own p.same) i) journals)
      ∙ same_text stamps (all_replies run) (all_opened run) journals p.own refl p.text in
      let read : told_by plan keys replies contexts text ≡ Ok told = ap (told_by plan keys replies contexts) text_is ∙ again.is in
      let guesses_are : map numbers_told told.lanes ≡ guesses =
      numbers_of told.lanes ∙ ap (map (map (λ (b : Batch). b.guess))) again.guesses_are ∙ opened_guesses run counted 0 plan.lanes guesses refl refl (sym allowed.lanes) in
      let run_is : run_told plan contexts told ≡ run = (λ i. run_along plan contexts (again.journals_are i) (guesses_are i)) in
      record {
        told = told;
        read = read;
        numbers = guesses_are;
        places_are = λ context. ap (λ (js : List (List Mark)). places (marks_at js context)) again.journals_are ∙ p.same context;
        stamps_are = λ stamped. again.journals_are ∙ elim p.text [
          | inl same ↦ same
          | inr bare ↦ absurd (let clash : true ≡ false = sym stamped ∙ bare.0 in cc)
        ];
        legal = (
          subst (LegalFor stamps batch) (sym again.journals_are) p.legal,
          ap (λ (r : Run). wrong_reply told.replies (all_replies r)) run_is ∙ told_due told.replies (all_replies run) again.lines_are,
          ap (λ (r : Run). wrong_guesses r 0 told.lanes) run_is ∙ none_wrong run 0 plan.lanes told.lanes refl again.guesses_are counted right,
        );
      }

  pub complete : Replies → IsVerdictBy plan contexts (told_by plan keys replies contexts text) verdicts.Legal
  complete (journals, guesses, allowed, is) =
      let b = back journals guesses allowed is in
      subst (λ (read : Result ToldView ℕ). IsVerdictBy plan contexts read verdicts.Legal) (sym b.read) b.legal

  -- ---- a text is that of one run

  pub one_run : (journals others : List (List Mark)) (guesses further : List (List ℕ)) → IsAllowed (run_along plan contexts journals guesses)
      → IsAllowed (run_along plan contexts others further) → text ≡ run_text keys replies (run_along plan contexts journals guesses)
      → text ≡ run_text keys replies (run_along plan contexts others further) → PrintTheSame (run_along plan contexts journals guesses) (run_along plan contexts others further)
  one_run journals others guesses further first second is also =
      let a = back journals guesses first is in
      let b = back others further second also in
      let same : b.told ≡ a.told = ok_is b.told a.told (sym b.read ∙ a.read) in
      record {
        guesses_are = sym b.numbers ∙ ap (λ (t : ToldView). map numbers_told t.lanes) same ∙ a.numbers;
        places_are = λ context. sym (b.places_are context) ∙ ap (λ (t : ToldView). places (marks_at t.journals context)) same ∙ a.places_are context;
        stamps_are = λ stamped. sym (b.stamps_are stamped) ∙ ap (λ (t : ToldView). t.journals) same ∙ a.stamps_are stamped;
      }
