-- The text of a run is that of its replies, its guesses and its journals.
use Rattle.std.proofs.Common.{◌≡◌, ℕ, zero, suc, ◌+◌, ◌<◌, List, [], ◌∷◌, ◌++◌, length, map, take, drop, Option, Some, None, refl, sym, ap, ◌∙◌, subst, append_assoc, append-nil, length-append, arith}
use Rattle.std.specs.Prelude.{sum_by, slice_get, slice_index, slice_index_or}
use Rattle.std.specs.List.{All, concat}
use Rattle.std.proofs.lemmas.List.{length-map}
use Rattle.std.proofs.lemmas.List.Elements.{All-head, All-tail}
use Rattle.std.proofs.lemmas.List.Sums.{sum_by-cons}
use Rattle.std.proofs.lemmas.Option.{slice_get_within}
use Rattle.call_places.specs.Messages.{sealed_messages}
use Rattle.hpke_context.specs.Contexts.{ContextView}
use Rattle.context_books.specs.Batches.{Ask, lane_of, block, unseal}
use Rattle.context_books.specs.Guesses.{missed_in, guess_of, guess_count, guess_at}
use Rattle.context_books.proofs.Members.{value_at}
use Rattle.batch_plans.specs.declared.plan.Plan.{Plan}
use Rattle.batch_plans.specs.declared.plan.CallLine.{CallLine}
use Rattle.batch_plans.specs.declared.plan.CallLine.TheVariants as calls
use Rattle.batch_plans.specs.declared.replies.Batch.{Batch as Told}
use Rattle.batch_plans.specs.declared.replies.KeyReply.{KeyReply}
use Rattle.batch_plans.specs.declared.replies.ContextReply.{ContextReply}
use Rattle.batch_plans.specs.declared.replies.CallRefusal.{CallRefusal}
use Rattle.batch_plans.specs.declared.replies.CallRefusal.TheVariants.{NoContext}
use Rattle.batch_plans.specs.Room.{served_batches, served_or}
use Rattle.batch_plans.specs.Limits.{items_from, items_of}
use Rattle.batch_plans.specs.Within.{IsWithinLimits}
use Rattle.batch_plans.specs.Lines.{batch_line}
use Rattle.batch_plans.specs.ReplyText as texts
use Rattle.batch_plans.specs.ReplyText.{all_lines, numbered}
use Rattle.batch_plans.specs.AnswersText.{guess_line}
use Rattle.context_books.specs.Standing.{call_refusal}
use Rattle.context_books.specs.Asks.{asked_by, ask_unless, ask_of, cipher_at}
use Rattle.context_books.specs.Runs.{Run, asks_of, journal_of, guesses_of, place_line, served_lines, lines_unless, call_lines, lane_call_lines, run_text, item_lines}
use Rattle.context_books.proofs.Refusals.{added_refused, retired_refused}
use Rattle.context_books.proofs.Done.{lane_asks, length-messages}
use Rattle.result_lines.specs.Printed.{call_replies, call_guesses, told_calls, told_lanes, told_text, AreComplete}
use Rattle.result_lines.specs.Printed as printed
use Rattle.result_lines.proofs.Took.{calls_split, lanes_split}
use Rattle.result_lines.proofs.Opened.{opened_with, opened, Keeps}
use Rattle.result_lines.specs.Replies.{reply_lines, lane_replies, all_replies}
use Rattle.result_lines.proofs.Limited.{IsLine, lines_of_limits}

-- ---- one call

pub length-block : (lane call i n : ℕ) → length (block lane call i n) ≡ n
length-block lane call i zero = refl
length-block lane call i (suc n) = ap (λ (k : ℕ). suc k) (length-block lane call (i + 1) n)

-- an opening asks for as many messages as it names items
pub messages_size : (plan : Plan) (context first count : ℕ) → IsLine plan (calls.UnsealAll context first count)
    → length (sealed_messages plan.pool (items_from plan.items first count)) ≡ count
messages_size plan context first count within =
    let messages = sealed_messages plan.pool (items_from plan.items first count) in
    sym (length-map messages unseal) ∙ length-messages plan.items plan.pool first count within.3

-- a call that keeps no guess
pub keeps_on : (run : Run) (lane number : ℕ) (ask : Ask) (asks : List Ask) (guesses : List ℕ) → length (guess_of ask 0) ≡ 0
    → Keeps run lane number (ask ∷ asks) guesses → Keeps run lane (number + 1) asks guesses
keeps_on run lane number ask asks guesses none keeps i =
    let shift : (number + 1) + i ≡ number + suc i = omega arith in
    let count : guess_count (take (suc i) (ask ∷ asks)) ≡ guess_count (take i asks) =
    sum_by-cons (λ (a : Ask). length (guess_of a 0)) ask (take i asks) ∙ ap (λ (n : ℕ). n + guess_count (take i asks)) none
    ∙ (let z : 0 + guess_count (take i asks) ≡ guess_count (take i asks) = omega arith in z) in
    ap (guess_at (lane_of (asks_of run) lane) (guesses_of run lane)) shift ∙ keeps (suc i) ∙ ap (slice_index guesses) count

pub size_on : (ask : Ask) (asks : List Ask) (n : ℕ) → length (guess_of ask 0) ≡ 0 → n ≡ guess_count (ask ∷ asks) → n ≡ guess_count asks
size_on ask asks n none size = omega (arith, none, size, sum_by-cons (λ (a : Ask). length (guess_of a 0)) ask asks)

-- one that keeps one
pub keeps_behind : (run : Run) (lane number : ℕ) (ask : Ask) (asks : List Ask) (guess : ℕ) (guesses : List ℕ) → length (guess_of ask 0) ≡ 1
    → Keeps run lane number (ask ∷ asks) (guess ∷ guesses) → Keeps run lane (number + 1) asks guesses
keeps_behind run lane number ask asks guess guesses one keeps i =
    let shift : (number + 1) + i ≡ number + suc i = omega arith in
    let count : guess_count (take (suc i) (ask ∷ asks)) ≡ suc (guess_count (take i asks)) =
    sum_by-cons (λ (a : Ask). length (guess_of a 0)) ask (take i asks) ∙ ap (λ (n : ℕ). n + guess_count (take i asks)) one
    ∙ (let z : 1 + guess_count (take i asks) ≡ suc (guess_count (take i asks)) = omega arith in z) in
    ap (guess_at (lane_of (asks_of run) lane) (guesses_of run lane)) shift ∙ keeps (suc i) ∙ ap (slice_index (guess ∷ guesses)) count

pub size_behind : (ask : Ask) (asks : List Ask) (n : ℕ) → length (guess_of ask 0) ≡ 1 → suc n ≡ guess_count (ask ∷ asks) → n ≡ guess_count asks
size_behind ask asks n one size = omega (arith, one, size, sum_by-cons (λ (a : Ask). length (guess_of a 0)) ask asks)

pub keeps_now : (run : Run) (lane number : ℕ) (ask : Ask) (asks : List Ask) (guess : ℕ) (guesses : List ℕ) → Keeps run lane number (ask ∷ asks) (guess ∷ guesses)
    → guess_at (lane_of (asks_of run) lane) (guesses_of run lane) number ≡ guess
keeps_now run lane number ask asks guess guesses keeps =
    ap (guess_at (lane_of (asks_of run) lane) (guesses_of run lane)) (let z : number ≡ number + 0 = omega arith in z) ∙ keeps 0

-- the lines of a call are its replies and what it prints of its guess
pub record Part (run : Run) (lane number : ℕ) (refusal : Option CallRefusal) (call : CallLine) (asks : List Ask) (guesses : List ℕ) : Type 0 where
  pub own : List Told
  pub later : List ℕ
  pub kept : length own ≡ served_or refusal (served_batches call) 0
  pub lines : lines_unless refusal (served_lines run lane number call) ≡ lines_unless refusal (item_lines run lane number call) ++ map guess_line own
  pub opens : opened run lane number (ask_unless refusal (asked_by run.plan call) ∷ asks) guesses ≡ own ++ opened run lane (number + 1) asks later
  pub size : length later ≡ guess_count asks
  pub keeps : Keeps run lane (number + 1) asks later

plain : (run : Run) (lane number : ℕ) (refusal : Option CallRefusal) (call : CallLine) (asks : List Ask) (guesses : List ℕ)
    → lines_unless refusal (served_lines run lane number call) ≡ lines_unless refusal (item_lines run lane number call) → 0 ≡ served_or refusal (served_batches call) 0
    → opened run lane number (ask_unless refusal (asked_by run.plan call) ∷ asks) guesses ≡ opened run lane (number + 1) asks guesses
    → length (guess_of (ask_unless refusal (asked_by run.plan call)) 0) ≡ 0 → length guesses ≡ guess_count (ask_unless refusal (asked_by run.plan call) ∷ asks)
    → Keeps run lane number (ask_unless refusal (asked_by run.plan call) ∷ asks) guesses → Part run lane number refusal call asks guesses
plain run lane number refusal call asks guesses same none opens silent size keeps =
    let ask = ask_unless refusal (asked_by run.plan call) in
    record {
      own = [];
      later = guesses;
      kept = none;
      lines = same ∙ sym (append-nil (lines_unless refusal (item_lines run lane number call)));
      opens = opens;
      size = size_on ask asks (length guesses) silent size;
      keeps = keeps_on run lane number ask asks guesses silent keeps;
    }

pub part : (run : Run) (lane number : ℕ) (refusal : Option CallRefusal) (call : CallLine) (asks : List Ask) (guesses : List ℕ) → IsLine run.plan call
    → length guesses ≡ guess_count (ask_unless refusal (asked_by run.plan call) ∷ asks) → Keeps run lane number (ask_unless refusal (asked_by run.plan call) ∷ asks) guesses
    → Part run lane number refusal call asks guesses
part run lane number (Some refusal) call asks guesses within size keeps = plain run lane number (Some refusal) call asks guesses refl refl refl refl size keeps
part run lane number None (calls.Seal context item) asks guesses within size keeps = plain run lane number None (calls.Seal context item) asks guesses refl refl refl refl size keeps
part run lane number None (calls.Unseal context item) asks guesses within size keeps = plain run lane number None (calls.Unseal context item) asks guesses refl refl refl refl size keeps
part run lane number None (calls.Export context exporter n) asks guesses within size keeps =
    plain run lane number None (calls.Export context exporter n) asks guesses refl refl refl refl size keeps
part run lane number None (calls.Add name) asks guesses within size keeps = plain run lane number None (calls.Add name) asks guesses refl refl refl refl size keeps
part run lane number None (calls.Retire name) asks guesses within size keeps = plain run lane number None (calls.Retire name) asks guesses refl refl refl refl size keeps
part run lane number None (calls.UnsealAll context first count) asks [] within size keeps =
    let ask = asked_by run.plan (calls.UnsealAll context first count) in
    absurd (let sum = sum_by-cons (λ (a : Ask). length (guess_of a 0)) ask asks in omega arith)
part run lane number None (calls.UnsealAll context first count) asks (guess ∷ guesses) within size keeps =
    let ask = asked_by run.plan (calls.UnsealAll context first count) in
    let items = map (place_line run context) (block lane number 0 count) in
    record {
      own = opened_with run lane number context count guess ∷ [];
      later = guesses;
      kept = refl;
      lines =
          ap (λ (g : ℕ). items ++ batch_line g (missed_in (asks_of run) (cipher_at run.contexts context) (journal_of run context) lane number count g) ∷ [])
          (keeps_now run lane number ask asks guess guesses keeps);
      opens = ap (λ (n : ℕ). opened_with run lane number context n guess ∷ opened run lane (number + 1) asks guesses) (messages_size run.plan context first count within);
      size = size_behind ask asks (length guesses) refl size;
      keeps = keeps_behind run lane number ask asks guess guesses refl keeps;
    }

pub replies_count : (run : Run) (lane number : ℕ) (refusal : Option CallRefusal) (call : CallLine) → call_refusal run.contexts call ≡ refusal
    → length (lines_unless refusal (item_lines run lane number call)) ≡ served_or refusal (items_of call) 1
replies_count run lane number (Some refusal) call is = refl
replies_count run lane number None (calls.Seal context item) is = refl
replies_count run lane number None (calls.Unseal context item) is = refl
replies_count run lane number None (calls.UnsealAll context first count) is = length-map (block lane number 0 count) (place_line run context) ∙ length-block lane number 0 count
replies_count run lane number None (calls.Export context exporter size) is = refl
replies_count run lane number None (calls.Add name) is = absurd (let clash : None ≡ Some NoContext = sym is ∙ added_refused run.contexts name in cc)
replies_count run lane number None (calls.Retire name) is = absurd (let clash : None ≡ Some NoContext = sym is ∙ retired_refused run.contexts name in cc)

-- ---- the calls of a lane

module _ (run : Run) (lane : ℕ) where
  abbrev pub replies_from : ℕ → List CallLine → List (List ℕ)
  replies_from number calls = all_lines (numbered (reply_lines run lane) number calls)

  abbrev pub asks_from : List CallLine → List Ask
  asks_from calls = map (ask_of run.plan run.contexts) calls

  pub lane_lines_are : (number : ℕ) (calls : List CallLine) (guesses : List ℕ) → All (IsLine run.plan) calls → length guesses ≡ guess_count (asks_from calls)
      → Keeps run lane number (asks_from calls) guesses
      → all_lines (numbered (call_lines run lane) number calls)
      ≡ told_calls run.contexts calls (replies_from number calls) (opened run lane number (asks_from calls) guesses)
  lane_lines_are number [] guesses within size keeps = refl
  lane_lines_are number (call ∷ more) guesses within size keeps =
      let refusal = call_refusal run.contexts call in
      let p = part run lane number refusal call (asks_from more) guesses (All-head (IsLine run.plan) call more within) size keeps in
      let rest = lane_lines_are (number + 1) more p.later (All-tail (IsLine run.plan) call more within) p.size p.keeps in
      let replies = reply_lines run lane number call in
      let later = opened run lane (number + 1) (asks_from more) p.later in
      (λ i. p.lines i ++ rest i)
      ∙ append_assoc replies (map guess_line p.own) (told_calls run.contexts more (replies_from (number + 1) more) later)
      ∙ sym (calls_split run.contexts call more replies (replies_from (number + 1) more) p.own later (replies_count run lane number refusal call refl) p.kept)
      ∙ ap (told_calls run.contexts (call ∷ more) (replies ++ replies_from (number + 1) more)) (sym p.opens)

  pub replies_size : (number : ℕ) (calls : List CallLine) → length (replies_from number calls) ≡ printed.lane_replies run.contexts calls
  replies_size number [] = refl
  replies_size number (call ∷ more) =
      length-append (reply_lines run lane number call) (replies_from (number + 1) more)
      ∙ (λ i. replies_count run lane number (call_refusal run.contexts call) call refl i + replies_size (number + 1) more i)
      ∙ sym (sum_by-cons (call_replies run.contexts) call more)

  pub opened_size : (number : ℕ) (calls : List CallLine) (guesses : List ℕ) → All (IsLine run.plan) calls → length guesses ≡ guess_count (asks_from calls)
      → Keeps run lane number (asks_from calls) guesses → length (opened run lane number (asks_from calls) guesses) ≡ printed.lane_guesses run.contexts calls
  opened_size number [] guesses within size keeps = refl
  opened_size number (call ∷ more) guesses within size keeps =
      let p = part run lane number (call_refusal run.contexts call) call (asks_from more) guesses (All-head (IsLine run.plan) call more within) size keeps in
      let later = opened run lane (number + 1) (asks_from more) p.later in
      ap length p.opens ∙ length-append p.own later
      ∙ (λ i. p.kept i + opened_size (number + 1) more p.later (All-tail (IsLine run.plan) call more within) p.size p.keeps i)
      ∙ sym (sum_by-cons (call_guesses run.contexts) call more)

-- how many guesses the calls of a lane keep, by its asks and by its calls
one_kept : (plan : Plan) (refusal : Option CallRefusal) (call : CallLine) → length (guess_of (ask_unless refusal (asked_by plan call)) 0) ≡ served_or refusal (served_batches call) 0
one_kept plan (Some refusal) call = refl
one_kept plan None (calls.Seal context item) = refl
one_kept plan None (calls.Unseal context item) = refl
one_kept plan None (calls.UnsealAll context first count) = refl
one_kept plan None (calls.Export context exporter size) = refl
one_kept plan None (calls.Add name) = refl
one_kept plan None (calls.Retire name) = refl

pub all_kept : (plan : Plan) (contexts : List (Option ContextView)) (calls : List CallLine) → guess_count (map (ask_of plan contexts) calls) ≡ printed.lane_guesses contexts calls
all_kept plan contexts [] = refl
all_kept plan contexts (call ∷ more) =
    sum_by-cons (λ (a : Ask). length (guess_of a 0)) (ask_of plan contexts call) (map (ask_of plan contexts) more)
    ∙ (λ i. one_kept plan (call_refusal contexts call) call i + all_kept plan contexts more i)
    ∙ sym (sum_by-cons (call_guesses contexts) call more)

-- ---- all lanes

-- what the openings of a lane print
abbrev pub own_opened : Run → ℕ → List CallLine → List Told
own_opened run lane calls = opened run lane 0 (map (ask_of run.plan run.contexts) calls) (guesses_of run lane)

abbrev pub all_opened : Run → List (List Told)
all_opened run = numbered (own_opened run) 0 run.plan.lanes

-- each lane has its guesses
abbrev pub AreCounted : Run → Type 0
AreCounted run = (lane : ℕ) → lane < length run.plan.lanes → length (guesses_of run lane) ≡ guess_count (lane_of (asks_of run) lane)

pub drop_step : {X : Type 0} (all xs : List X) (i : ℕ) (x : X) → drop i all ≡ x ∷ xs → (slice_get all i ≡ Some x) × (drop (i + 1) all ≡ xs)
drop_step [] xs zero x is = absurd cc
drop_step [] xs (suc i) x is = absurd cc
drop_step (y ∷ all) xs zero x is = (cc, cc)
drop_step (y ∷ all) xs (suc i) x is =
    let t = drop_step all xs i x is in
    (t.0, ap (λ (n : ℕ). drop n (y ∷ all)) (let z : suc i + 1 ≡ suc (i + 1) = omega arith in z) ∙ t.1)

module _ (run : Run) (within : IsWithinLimits run.plan) (counted : AreCounted run) where
  -- what is known of a lane
  pub record Lane (lane : ℕ) (calls : List CallLine) : Type 0 where
    pub lines : All (IsLine run.plan) calls
    pub size : length (guesses_of run lane) ≡ guess_count (map (ask_of run.plan run.contexts) calls)
    pub keeps : Keeps run lane 0 (map (ask_of run.plan run.contexts) calls) (guesses_of run lane)

  pub lane_at : (lane : ℕ) (calls : List CallLine) → slice_get run.plan.lanes lane ≡ Some calls → Lane lane calls
  lane_at lane calls at =
      let low : lane < length run.plan.lanes = slice_get_within run.plan.lanes lane calls at in
      let is : slice_index_or run.plan.lanes lane [] ≡ calls = value_at run.plan.lanes lane calls [] at in
      let asks : lane_of (asks_of run) lane ≡ map (ask_of run.plan run.contexts) calls = lane_asks run lane ∙ ap (map (ask_of run.plan run.contexts)) is in
      record {
        lines = subst (All (IsLine run.plan)) is (lines_of_limits run.plan lane [] within low);
        size = counted lane low ∙ ap guess_count asks;
        keeps = λ i. ap (λ (k : ℕ). slice_index (guesses_of run lane) (guess_count (take k (lane_of (asks_of run) lane)))) (let z : 0 + i ≡ i = omega arith in z)
            ∙ ap (λ (all : List Ask). slice_index (guesses_of run lane) (guess_count (take i all))) asks;
      }

  lanes_are : (k : ℕ) (lanes : List (List CallLine)) → drop k run.plan.lanes ≡ lanes
      → numbered (lane_call_lines run) k lanes ≡ told_lanes run.contexts lanes (all_lines (numbered (lane_replies run) k lanes)) (numbered (own_opened run) k lanes)
  lanes_are k [] is = refl
  lanes_are k (calls ∷ lanes) is =
      let s = drop_step run.plan.lanes lanes k calls is in
      let l = lane_at k calls s.0 in
      let r1 = lane_replies run k calls in
      let r2 = all_lines (numbered (lane_replies run) (k + 1) lanes) in
      (λ i. lane_lines_are run k 0 calls (guesses_of run k) l.lines l.size l.keeps i ∷ lanes_are (k + 1) lanes s.1 i)
      ∙ sym (lanes_split run.contexts calls lanes r1 r2 (own_opened run k calls) (numbered (own_opened run) (k + 1) lanes) (replies_size run k 0 calls))

  lines_count : (k : ℕ) (lanes : List (List CallLine))
      → length (all_lines (numbered (lane_replies run) k lanes)) ≡ sum_by (printed.lane_replies run.contexts) lanes
  lines_count k [] = refl
  lines_count k (calls ∷ lanes) =
      length-append (lane_replies run k calls) (all_lines (numbered (lane_replies run) (k + 1) lanes))
      ∙ (λ i. replies_size run k 0 calls i + lines_count (k + 1) lanes i)
      ∙ sym (sum_by-cons (printed.lane_replies run.contexts) calls lanes)

  pub guesses_count : (k : ℕ) (lanes : List (List CallLine)) → drop k run.plan.lanes ≡ lanes
      → map (length {A = Told}) (numbered (own_opened run) k lanes) ≡ map (printed.lane_guesses run.contexts) lanes
  guesses_count k [] is = refl
  guesses_count k (calls ∷ lanes) is =
      let s = drop_step run.plan.lanes lanes k calls is in
      let l = lane_at k calls s.0 in
      (λ i. opened_size run k 0 calls (guesses_of run k) l.lines l.size l.keeps i ∷ guesses_count (k + 1) lanes s.1 i)

  -- the replies and guesses of a run are complete
  pub run_complete : length run.journals ≡ length run.plan.contexts → AreComplete run.plan run.contexts (all_replies run) (all_opened run) run.journals
  run_complete size = record {
    count = lines_count 0 run.plan.lanes;
    kept = guesses_count 0 run.plan.lanes refl;
    size = size;
  }

  -- and its text is theirs
  pub run_text_is : (keys : List KeyReply) (replies : List ContextReply)
      → run_text keys replies run ≡ told_text run.plan keys replies run.contexts (all_replies run) (all_opened run) run.journals
  run_text_is keys replies =
      ap (λ (lanes : List (List (List ℕ))). concat (texts.reply_lines run.plan.version keys replies lanes run.journals)) (lanes_are 0 run.plan.lanes refl)

  -- the replies of every run along the same journals are as many
  pub all_counted : length (all_replies run) ≡ sum_by (printed.lane_replies run.contexts) run.plan.lanes
  all_counted = lines_count 0 run.plan.lanes
