-- The replies of the first batch.
use Rattle.std.proofs.Common.{◌≡◌, ℕ, zero, suc, ◌+◌, ◌<◌, ◌≤◌, Bool, true, false, if◌then◌else◌, List, [], ◌∷◌, ◌++◌, length, map, take, drop, Some, None, inl, inr, refl, sym, ap, subst, ◌∙◌, arith}
use Rattle.std.specs.Prelude.{slice_index_or, sum_by}
use Rattle.std.specs.List.{All, AllByRecursion, range_with_len, flat_map}
use Rattle.std.proofs.lemmas.List.{length-map, take_all}
use Rattle.std.proofs.lemmas.List.FromFn.{length-range_with_len}
use Rattle.std.proofs.lemmas.List.Sums.{sum_by-cons}
use Rattle.std.proofs.lemmas.List.Elements.{recursion_from_All}
use Rattle.key_schedule.specs.declared.modes.Role.TheVariants as roles
use Rattle.hkdf_labelled.specs.declared.suites.Aead.TheVariants as aeads
use Rattle.hpke_context.specs.Answers.{Cipher}
use Rattle.hpke_context.specs.Contexts.{ContextView, cipher_of}
use Rattle.context_books.specs.Batches.{Ask, lane_of, place}
use Rattle.context_books.specs.Legal.{Legal}
use Rattle.context_books.proofs.Members.{In-left, In-right, In-append, in_map, map_in, in_range, range_below}
use Rattle.context_books.specs.Lists.{In}
use Rattle.batch_plans.specs.declared.plan.CallLine.{CallLine}
use Rattle.batch_plans.specs.declared.plan.CallLine.TheVariants.{Seal}
use Rattle.batch_plans.specs.declared.replies.Reply.{Reply}
use Rattle.batch_plans.specs.declared.replies.Batch.{Batch as Guess}
use Rattle.batch_plans.specs.declared.replies.LaneAnswers.{LaneAnswers}
use Rattle.batch_plans.specs.Replies.{IsPrintable}
use Rattle.batch_plans.specs.AnswersText.{reply_line, is_refused, guess_line, calls_lines, answered_lines, lanes_lines}
use Rattle.batch_plans.specs.ReplyText.{numbered, all_lines}
use Rattle.context_books.specs.Standing.{standing_at, call_refusal}
use Rattle.context_books.specs.Asks.{ask_of, asked_by, ask_unless, cipher_in, cipher_at}
use Rattle.context_books.specs.Runs.{Run, asks_of, journal_of, place_line, answer_line_of, call_lines, lane_call_lines, served_lines, lines_unless}
use Rattle.context_books.proofs.Done.{lane_asks}
use Rattle.demo_runs.specs.Plans.{SealsText}
use Rattle.demo_runs.specs.Steps.{sealed_line, SealedLanes}
use Rattle.demo_runs.proofs.Journals.{the_ask, AllAsk, number_at, reply_is, number_low, place_in, number_has_place, length-journal}

-- a call with one item has one reply and no guess, whatever its reply
one_reply : (b : Bool) (pool : List ℕ) (calls : List CallLine) (reply : Reply) (replies : List Reply) (guesses : List Guess)
    → map (reply_line pool) (take (if b then 1 else 1) (reply ∷ replies))
    ++ (map guess_line (take (if b then 0 else 0) guesses)
    ++ calls_lines pool calls (drop (if b then 1 else 1) (reply ∷ replies)) (drop (if b then 0 else 0) guesses))
    ≡ reply_line pool reply ∷ calls_lines pool calls replies guesses
one_reply true pool calls reply replies guesses = refl
one_reply false pool calls reply replies guesses = refl

-- a run whose calls all seal T on context 0, which stands
pub record SealingRun (run : Run) : Type 0 where
  pub sender : ContextView
  pub stands : standing_at run.contexts 0 ≡ Some sender
  pub role : sender.role ≡ roles.Sender
  pub aead : sender.suite.aead ≡ aeads.Aes128
  pub calls : AllByRecursion (λ (calls : List CallLine). AllByRecursion (SealsText run.plan.pool) calls) run.plan.lanes
  pub legal : Legal (asks_of run) 0 (journal_of run 0)
  pub few : sum_by (λ (calls : List CallLine). length calls) run.plan.lanes ≤ sender.limit

module _ (run : Run) (t : SealingRun run) where
  abbrev pub sender : ContextView
  sender = t.sender

  abbrev pub cipher : Cipher
  cipher = cipher_of sender

  not_refused : (call : CallLine) → SealsText run.plan.pool call → call_refusal run.contexts call ≡ None
  not_refused call s =
      subst (λ (call : CallLine). call_refusal run.contexts call ≡ None) (sym s.call_is)
      (rw (t.stands, t.role, t.aead) refl)

  ask_is : (call : CallLine) → SealsText run.plan.pool call → ask_of run.plan run.contexts call ≡ the_ask
  ask_is call s =
      ap (λ r. ask_unless r (asked_by run.plan call)) (not_refused call s)
      ∙ ap (asked_by run.plan) s.call_is
      ∙ rw (s.aad, s.text) refl

  asks_are : (calls : List CallLine) → AllByRecursion (SealsText run.plan.pool) calls
      → AllAsk (map (ask_of run.plan run.contexts) calls)
  asks_are [] all = tt
  asks_are (call ∷ calls) all = (ask_is call all.0, asks_are calls all.1)

  lane_calls : (lanes : List (List CallLine)) (l : ℕ)
      → AllByRecursion (λ (calls : List CallLine). AllByRecursion (SealsText run.plan.pool) calls) lanes
      → AllByRecursion (SealsText run.plan.pool) (slice_index_or lanes l [])
  lane_calls [] l all = tt
  lane_calls (calls ∷ lanes) zero all = all.0
  lane_calls (calls ∷ lanes) (suc l) all = lane_calls lanes l all.1

  pub all_ask : (l : ℕ) → AllAsk (lane_of (asks_of run) l)
  all_ask l = subst AllAsk (sym (lane_asks run l)) (asks_are (slice_index_or run.plan.lanes l []) (lane_calls run.plan.lanes l t.calls))

  length-lane : (l : ℕ) → length (lane_of (asks_of run) l) ≡ length (slice_index_or run.plan.lanes l [])
  length-lane l = ap length (lane_asks run l) ∙ length-map (slice_index_or run.plan.lanes l []) (ask_of run.plan run.contexts)

  -- as many as there are calls
  asks_sum : (lanes : List (List CallLine)) → sum_by (λ (asks : List Ask). length asks) (map (map (ask_of run.plan run.contexts)) lanes)
      ≡ sum_by (λ (calls : List CallLine). length calls) lanes
  asks_sum [] = refl
  asks_sum (calls ∷ lanes) =
      let asks : List Ask = map (ask_of run.plan run.contexts) calls in
      omega (
        arith,
        sum_by-cons (λ (asks : List Ask). length asks) asks (map (map (ask_of run.plan run.contexts)) lanes),
        sum_by-cons (λ (calls : List CallLine). length calls) calls lanes,
        length-map calls (ask_of run.plan run.contexts),
        asks_sum lanes,
      )

  pub journal_size : length (journal_of run 0) ≡ sum_by (λ (calls : List CallLine). length calls) run.plan.lanes
  journal_size =
      length-journal (asks_of run) all_ask (journal_of run 0) t.legal cipher ∙ asks_sum run.plan.lanes

  enough : length (journal_of run 0) ≤ sender.limit
  enough = let size = journal_size in let few = t.few in omega arith

  -- the number of a call
  abbrev pub call_number : ℕ → ℕ → ℕ
  call_number l i = number_at (asks_of run) all_ask (journal_of run 0) t.legal cipher (place l i 0)

  cipher_is : cipher_at run.contexts 0 ≡ cipher
  cipher_is = ap cipher_in t.stands

  line_is : (l i : ℕ) → i < length (slice_index_or run.plan.lanes l []) → place_line run 0 (place l i 0) ≡ sealed_line sender (call_number l i)
  line_is l i low =
      let here = place_in (asks_of run) all_ask (journal_of run 0) t.legal cipher l i (let e = length-lane l in omega arith) in
      ap (λ (c : Cipher). answer_line_of (Rattle.context_books.specs.Legal.reply_of (asks_of run) c (journal_of run 0) (place l i 0))) cipher_is
      ∙ ap answer_line_of (reply_is (asks_of run) all_ask (journal_of run 0) t.legal cipher (place l i 0) here enough)

  -- ---- the lines of a lane

  lane_lines : (l k : ℕ) (calls : List CallLine) → AllByRecursion (SealsText run.plan.pool) calls
      → k + length calls ≤ length (slice_index_or run.plan.lanes l [])
      → all_lines (numbered (call_lines run l) k calls) ≡ map (sealed_line sender) (map (call_number l) (range_with_len k (length calls)))
  lane_lines l k [] all few = refl
  lane_lines l k (call ∷ calls) all few =
      let one : call_lines run l k call ≡ sealed_line sender (call_number l k) ∷ [] =
      ap (λ r. lines_unless r (served_lines run l k call)) (not_refused call all.0)
      ∙ ap (served_lines run l k) all.0.call_is
      ∙ ap (λ (line : List ℕ). line ∷ []) (line_is l k (omega arith)) in
      ap (λ (lines : List (List ℕ)). lines ++ all_lines (numbered (call_lines run l) (k + 1) calls)) one
      ∙ ap (λ (lines : List (List ℕ)). sealed_line sender (call_number l k) ∷ lines) (lane_lines l (k + 1) calls all.1 (omega arith))

  -- the numbers of all lanes, from one on
  abbrev pub all_numbers : ℕ → List (List CallLine) → List (List ℕ)
  all_numbers l [] = []
  all_numbers l (calls ∷ lanes) = map (call_number l) (range_with_len 0 (length calls)) ∷ all_numbers (l + 1) lanes

  -- ---- all lanes

  seals_lines : (pool : List ℕ) (calls : List CallLine) (replies : List Reply) (guesses : List Guess)
      → AllByRecursion (SealsText run.plan.pool) calls
      → calls_lines pool calls replies guesses ≡ map (reply_line pool) (take (length calls) replies)
  seals_lines pool [] replies guesses all = refl
  seals_lines pool (call ∷ calls) replies guesses all =
      subst (λ (call : CallLine). calls_lines pool (call ∷ calls) replies guesses ≡ map (reply_line pool) (take (suc (length calls)) replies)) (sym all.0.call_is)
      (go replies (λ rest. seals_lines pool calls rest guesses all.1))
    where
      go : (replies : List Reply)
          → ((rest : List Reply) → calls_lines pool calls rest guesses ≡ map (reply_line pool) (take (length calls) rest))
          → calls_lines pool (Seal 0 all.0.item ∷ calls) replies guesses
          ≡ map (reply_line pool) (take (suc (length calls)) replies)
      go [] later = later [] ∙ ap (map (reply_line pool)) (take_all (length calls) [] (omega arith))
      go (reply ∷ replies) later =
          one_reply (is_refused (Some reply)) pool calls reply replies guesses
          ∙ ap (λ (lines : List (List ℕ)). reply_line pool reply ∷ lines) (later replies)

  some_lanes : (l : ℕ) (lanes : List (List CallLine)) (answers : List LaneAnswers)
      → AllByRecursion (λ (calls : List CallLine). AllByRecursion (SealsText run.plan.pool) calls) lanes
      → ((i : ℕ) → slice_index_or lanes i [] ≡ slice_index_or run.plan.lanes (l + i) [])
      → length answers ≡ length lanes → AllByRecursion IsPrintable answers
      → lanes_lines lanes answers ≡ numbered (lane_call_lines run) l lanes
      → SealedLanes sender lanes answers (all_numbers l lanes)
  some_lanes l [] [] all same size printable e = tt
  some_lanes l [] (lane ∷ answers) all same size printable e = absurd (omega arith)
  some_lanes l (calls ∷ lanes) [] all same size printable e = absurd (omega arith)
  some_lanes l (calls ∷ lanes) (lane ∷ answers) all same size printable e =
      let here : calls ≡ slice_index_or run.plan.lanes l [] =
      same 0 ∙ ap (λ (k : ℕ). slice_index_or run.plan.lanes k []) (let f : l + 0 ≡ l = omega arith in f) in
      let first : answered_lines calls lane ≡ lane_call_lines run l calls = cc in
      let rest : lanes_lines lanes answers ≡ numbered (lane_call_lines run) (l + 1) lanes = cc in
      let few : 0 + length calls ≤ length (slice_index_or run.plan.lanes l []) = let f = ap (λ (cs : List CallLine). length cs) here in omega arith in (
        record {
          count = length-map (range_with_len 0 (length calls)) (call_number l) ∙ length-range_with_len 0 (length calls);
          lines = sym (seals_lines lane.pool calls lane.replies lane.batches all.0) ∙ first ∙ lane_lines l 0 calls all.0 few;
          printable = printable.0;
        },
        some_lanes (l + 1) lanes answers all.1
            (λ i. same (suc i) ∙ ap (λ (k : ℕ). slice_index_or run.plan.lanes k []) (let f : l + suc i ≡ (l + 1) + i = omega arith in f))
            (omega arith) printable.1 rest,
      )

  pub lanes_sealed : (answers : List LaneAnswers) → length answers ≡ length run.plan.lanes → All IsPrintable answers
      → lanes_lines run.plan.lanes answers ≡ numbered (lane_call_lines run) 0 run.plan.lanes
      → SealedLanes sender run.plan.lanes answers (all_numbers 0 run.plan.lanes)
  lanes_sealed answers size printable e =
      some_lanes 0 run.plan.lanes answers t.calls
      (λ i. ap (λ (k : ℕ). slice_index_or run.plan.lanes k []) (let f : i ≡ 0 + i = omega arith in f))
      size (recursion_from_All IsPrintable answers printable) e

  -- ---- their numbers

  abbrev pub joined : ℕ → List (List CallLine) → List ℕ
  joined l lanes = flat_map (λ (ns : List ℕ). ns) (all_numbers l lanes)

  numbers_low : (l : ℕ) (lanes : List (List CallLine))
      → ((i : ℕ) → slice_index_or lanes i [] ≡ slice_index_or run.plan.lanes (l + i) [])
      → (n : ℕ) → In n (joined l lanes) → n < length (journal_of run 0)
  numbers_low l [] same n here = absurd here
  numbers_low l (calls ∷ lanes) same n here =
      elim (In-append n (map (call_number l) (range_with_len 0 (length calls))) (joined (l + 1) lanes) here) [
        | inl first ↦
            (let from = map_in (call_number l) n (range_with_len 0 (length calls)) first in
            let i : ℕ = from.0 in
            let low : i < 0 + length calls = range_below (length calls) 0 i from.1 in
            let lane : calls ≡ slice_index_or run.plan.lanes l [] =
            same 0 ∙ ap (λ (k : ℕ). slice_index_or run.plan.lanes k []) (let f : l + 0 ≡ l = omega arith in f) in
            let size : length (lane_of (asks_of run) l) ≡ length calls = length-lane l ∙ ap (λ (cs : List CallLine). length cs) (sym lane) in
            let here = place_in (asks_of run) all_ask (journal_of run 0) t.legal cipher l i (omega arith) in
            let small = number_low (asks_of run) all_ask (journal_of run 0) t.legal cipher (place l i 0) here in
            let is : call_number l i ≡ n = from.2 in
            omega arith)
        | inr later ↦ numbers_low (l + 1) lanes
            (λ i. same (suc i) ∙ ap (λ (k : ℕ). slice_index_or run.plan.lanes k []) (let f : l + suc i ≡ (l + 1) + i = omega arith in f))
            n later
      ]

  number_here : (l k i : ℕ) (lanes : List (List CallLine)) → i < length (slice_index_or lanes k [])
      → In (call_number (l + k) i) (joined l lanes)
  number_here l k i [] low = absurd (omega arith)
  number_here l zero i (calls ∷ lanes) low =
      let same : l + 0 ≡ l = omega arith in
      In-left (call_number (l + 0) i) (map (call_number l) (range_with_len 0 (length calls))) (joined (l + 1) lanes)
      (subst (λ (m : ℕ). In (call_number m i) (map (call_number l) (range_with_len 0 (length calls)))) (sym same)
      (in_map (call_number l) i (range_with_len 0 (length calls)) (in_range (length calls) 0 i (omega arith) (omega arith))))
  number_here l (suc k) i (calls ∷ lanes) low =
      let same : (l + 1) + k ≡ l + suc k = omega arith in
      In-right (call_number (l + suc k) i) (map (call_number l) (range_with_len 0 (length calls))) (joined (l + 1) lanes)
      (subst (λ (m : ℕ). In (call_number m i) (joined (l + 1) lanes)) same (number_here (l + 1) k i lanes low))

  pub all_low : (n : ℕ) → In n (joined 0 run.plan.lanes) → n < length (journal_of run 0)
  all_low = numbers_low 0 run.plan.lanes (λ i. ap (λ (k : ℕ). slice_index_or run.plan.lanes k []) (let f : i ≡ 0 + i = omega arith in f))

  pub all_there : (n : ℕ) → n < length (journal_of run 0) → In n (joined 0 run.plan.lanes)
  all_there n low =
      let p = number_has_place (asks_of run) all_ask (journal_of run 0) t.legal cipher n low in
      let l : ℕ = p.lane in
      let small : p.call < length (slice_index_or run.plan.lanes l []) = let size = length-lane l in let f = p.low in omega arith in
      let same : 0 + l ≡ l = omega arith in
      subst (λ (m : ℕ). In m (joined 0 run.plan.lanes)) p.number
      (subst (λ (m : ℕ). In (call_number m p.call) (joined 0 run.plan.lanes)) same (number_here 0 l p.call run.plan.lanes small))
