-- The replies and the guess that a call adds to a lane's answers.
use Rattle.std.proofs.Common.{◌≡◌, ◌+◌, ◌<◌, ℕ, true, false, List, [], ◌∷◌, ◌++◌, length, map, Option, Some, None, refl, sym, ap, ◌∙◌, subst, arith, append-nil, sum_by, Bor}
use Rattle.std.specs.Prelude.{slice_get}
use Rattle.std.specs.List.{All}
use Rattle.std.proofs.lemmas.List.{length-map}
use Rattle.std.proofs.lemmas.List.Elements.{All-nil, All-cons, All-head, All-tail}
use Rattle.hpke_context.specs.Answers.{Answer, Sealed_at, Opened_at, Failed_at, At_limit, run}
use Rattle.hpke_context.specs.Contexts.{ContextView, cipher_of}
use Rattle.stamp_counter.specs.Seats.{CounterView}
use Rattle.context_books.specs.Openings.{unseals}
use Rattle.shared_context.specs.Calls.{SharedView}
use Rattle.batch_plans.specs.declared.plan.Plan.{Plan}
use Rattle.batch_plans.specs.declared.plan.CallLine.{CallLine}
use Rattle.batch_plans.specs.declared.plan.CallLine.TheVariants as calls
use Rattle.batch_plans.specs.declared.replies.Batch.{Batch}
use Rattle.batch_plans.specs.declared.replies.CallRefusal.{CallRefusal}
use Rattle.batch_plans.specs.declared.replies.Reply.{Reply}
use Rattle.batch_plans.specs.declared.replies.Reply.TheVariants as replies
use Rattle.batch_plans.specs.Limits.{items_of}
use Rattle.batch_plans.specs.Room.{opened_room, served_batches, served_or}
use Rattle.batch_plans.specs.Progress.{Progress, with_reply, with_batch}
use Rattle.batch_plans.specs.Lines.{exported_line}
use Rattle.batch_plans.specs.AnswersText.{reply_line, is_given, is_refused, HasReplies}
use Rattle.batch_plans.proofs.CallLines.{HasReplies-one, HasReplies-refused, HasReplies-opening}
use Rattle.context_books.specs.Standing.{call_refusal}
use Rattle.context_books.specs.Runs.{answer_line}
use Rattle.context_books.specs.Writing.{PutsReplies}
use Rattle.context_books.specs.LaneCalls.{opening_items, IsOpening}
use Rattle.context_books.proofs.Items.{one_line_each}
use Rattle.context_books.proofs.Within.{opening_count}
use Rattle.lane_workers.specs.declared.works.LaneWork.{LaneWork}
use Rattle.lane_workers.specs.Turns.{views}
use Rattle.lane_workers.specs.Lanes.{MayAnswer}
use Rattle.lane_workers.proofs.Answering.{fits}
use Rattle.lane_workers.specs.Readings.{AddsReplies}

-- ---- replies that were given

-- a line that isn't empty, as each but that of a reply that was not given
abbrev pub HasWords : List ℕ → Type 0
HasWords line = 0 < length line

pub answer_words : (x : Answer) → HasWords (answer_line x)
answer_words (Sealed_at number ct) = omega arith
answer_words (Opened_at number text) = omega arith
answer_words (Failed_at number) = omega arith
answer_words At_limit = omega arith

pub answers_words : (xs : List Answer) → All HasWords (map answer_line xs)
answers_words [] = All-nil HasWords
answers_words (x ∷ xs) =
    All-cons HasWords (answer_line x) (map answer_line xs) (answer_words x) (answers_words xs)

pub exported_words : (bytes : List ℕ) → All HasWords (exported_line bytes ∷ [])
exported_words bytes = All-cons HasWords (exported_line bytes) [] (omega arith) (All-nil HasWords)

given_by_line : (pool : List ℕ) (reply : Reply) → HasWords (reply_line pool reply)
    → is_given reply ≡ true
given_by_line pool replies.Blank words = absurd (omega arith)
given_by_line pool (replies.Sealed number text) words = refl
given_by_line pool (replies.Opened number text) words = refl
given_by_line pool (replies.Failed number) words = refl
given_by_line pool replies.Limit words = refl
given_by_line pool (replies.Exported text) words = refl
given_by_line pool (replies.Refused refusal) words = refl
given_by_line pool replies.Added words = refl
given_by_line pool replies.Retired words = refl

given_by_lines : (pool : List ℕ) (more : List Reply) → All HasWords (map (reply_line pool) more)
    → All (λ reply. is_given reply ≡ true) more
given_by_lines pool [] words = All-nil (λ reply. is_given reply ≡ true)
given_by_lines pool (reply ∷ more) words =
    let line = reply_line pool reply in
    let lines = map (reply_line pool) more in
    All-cons (λ reply. is_given reply ≡ true) reply more
    (given_by_line pool reply (All-head HasWords line lines words))
    (given_by_lines pool more (All-tail HasWords line lines words))

-- ---- a call that is served

pub one_reply : (call : CallLine) (more : List Reply) → served_batches call ≡ 0 → length more ≡ 1
    → HasReplies call more []
one_reply call [] single one = absurd (omega (arith, one))
one_reply call (reply ∷ []) single one = HasReplies-one call reply single
one_reply call (reply ∷ other ∷ more) single one = absurd (omega (arith, one))

pub count_by_lines : (old new : Progress) (size : ℕ) (lines : List (List ℕ))
    → (w : PutsReplies old new size lines) → length w.more ≡ length lines
count_by_lines old new size lines w =
    sym (length-map w.more (reply_line new.pool)) ∙ ap length w.lines_are

pub each_served : (why : Option CallRefusal) (served refused count : ℕ) → why ≡ None → count ≡ served
    → count ≡ served_or why served refused
each_served why served refused count free is = is ∙ sym (ap (λ r. served_or r served refused) free)

pub given_put : (old new : Progress) (size : ℕ) (lines : List (List ℕ))
    → (w : PutsReplies old new size lines) → All HasWords lines
    → All (λ reply. is_given reply ≡ true) w.more
given_put old new size lines w words =
    given_by_lines new.pool w.more (subst (λ ls. All HasWords ls) (sym w.lines_are) words)

-- a call that isn't an opening of several messages
abbrev pub adds_one : (contexts : List (Option SharedView)) (call : CallLine) (old new : Progress)
    (size : ℕ) (lines : List (List ℕ)) → (w : PutsReplies old new size lines)
    → call_refusal (views contexts) call ≡ None → served_batches call ≡ 0 → items_of call ≡ 1
    → length lines ≡ 1 → All HasWords lines → AddsReplies contexts call old new
adds_one contexts call old new size lines w free single item one words =
    let count = count_by_lines old new size lines w ∙ one in
    record {
      more = w.more;
      guesses = [];
      replies = w.replies;
      batches = w.batches ∙ sym (append-nil old.batches);
      has = one_reply call w.more single count;
      each = each_served (call_refusal (views contexts) call) (items_of call + served_batches call) 1
          (length w.more + 0) free (omega (arith, count, single, item));
      given = given_put old new size lines w words;
    }

-- the same of what its progress is equal to
abbrev pub adds_by : {contexts : List (Option SharedView)} {call : CallLine} {old new now : Progress}
    → (a : AddsReplies contexts call old new) → new ≡ now → AddsReplies contexts call old now
adds_by a is = record {
  more = a.more;
  guesses = a.guesses;
  replies = ap (λ (p : Progress). p.replies) (sym is) ∙ a.replies;
  batches = ap (λ (p : Progress). p.batches) (sym is) ∙ a.batches;
  has = a.has;
  each = a.each;
  given = a.given;
}

-- ---- an opening

abbrev pub opened_answers : Plan → ContextView → ℕ → CallLine → List Answer
opened_answers plan view first call =
    run (cipher_of view) first (unseals plan.pool (opening_items plan call))

abbrev pub opened_lines : Plan → ContextView → ℕ → CallLine → List (List ℕ)
opened_lines plan view first call = map answer_line (opened_answers plan view first call)

abbrev pub opened_size : Plan → CallLine → ℕ
opened_size plan call = sum_by opened_room (opening_items plan call)

-- it has a line for each item
pub opened_each : (plan : Plan) (contexts : List (Option SharedView))
    (counter : Option (Bor CounterView)) (k : ℕ) (call : CallLine) (w : LaneWork)
    → MayAnswer plan contexts counter k call w → IsOpening call → (view : ContextView) (first : ℕ)
    → length (opened_lines plan view first call) ≡ items_of call
opened_each plan contexts counter k call w may opening view first =
    one_line_each (cipher_of view) first plan.pool (opening_items plan call)
    ∙ opening_count plan call opening (fits plan contexts counter k call w may)

pub first_served : (more : List Reply) → 0 < length more
    → All (λ reply. is_refused (Some reply) ≡ false) more → is_refused (slice_get more 0) ≡ false
first_served [] some served = absurd (omega arith)
first_served (reply ∷ more) some served =
    All-head (λ r. is_refused (Some r) ≡ false) reply more served

-- an opening of several messages, whose guess is put behind its replies
abbrev pub adds_all : (contexts : List (Option SharedView)) (call : CallLine)
    (context first count : ℕ) (old mid new : Progress) (size : ℕ) (lines : List (List ℕ))
    (batch : Batch) → (w : PutsReplies old mid size lines) → call_refusal (views contexts) call ≡ None
    → call ≡ calls.UnsealAll context first count → 0 < count → length lines ≡ count
    → All HasWords lines → new ≡ with_batch mid batch → AddsReplies contexts call old new
adds_all contexts call context first count old mid new size lines batch w free opens some each words
    is =
    let counted : length w.more ≡ count = count_by_lines old mid size lines w ∙ each in
    record {
      more = w.more;
      guesses = batch ∷ [];
      replies = ap (λ (p : Progress). p.replies) is ∙ w.replies;
      batches = ap (λ (p : Progress). p.batches) is ∙ ap (λ bs. bs ++ batch ∷ []) w.batches;
      has = subst (λ x. HasReplies x w.more (batch ∷ [])) (sym opens)
          (HasReplies-opening context first count w.more batch some counted
          (first_served w.more (omega (arith, some, counted)) w.served));
      each = each_served (call_refusal (views contexts) call) (items_of call + served_batches call) 1
          (length w.more + 1) free
          (omega (arith, counted, ap items_of opens, ap served_batches opens));
      given = given_put old mid size lines w words;
    }

-- ---- a call that is refused

abbrev pub adds_refusal : (contexts : List (Option SharedView)) (call : CallLine) (old new : Progress)
    (why : CallRefusal) → call_refusal (views contexts) call ≡ Some why
    → new ≡ with_reply old (replies.Refused why) → AddsReplies contexts call old new
adds_refusal contexts call old new why refused is = record {
  more = replies.Refused why ∷ [];
  guesses = [];
  replies = ap (λ (p : Progress). p.replies) is;
  batches = ap (λ (p : Progress). p.batches) is ∙ sym (append-nil old.batches);
  has = HasReplies-refused call why;
  each = sym (ap (λ r. served_or r (items_of call + served_batches call) 1) refused);
  given = All-cons (λ reply. is_given reply ≡ true) (replies.Refused why) [] refl
      (All-nil (λ reply. is_given reply ≡ true));
}
