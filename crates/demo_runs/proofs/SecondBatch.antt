-- What the second batch gives.
use Rattle.std.proofs.Common.{◌≡◌, ℕ, zero, suc, ◌+◌, ◌<◌, ◌≤◌, List, [], ◌∷◌, length, map, take, get_or, Option, Some, None, refl, sym, ap, subst, ◌∙◌, arith}
use Rattle.std.specs.Prelude.{slice_get}
use Rattle.std.specs.List.{range_with_len}
use Rattle.std.proofs.lemmas.List.{length-map}
use Rattle.hpke_context.specs.Answers.{Item, Answer, Sealed_at, Opened_at, next, run as run_items}
use Rattle.hpke_context.specs.Contexts.{ContextView, cipher_of}
use Rattle.context_books.specs.Legal.{Legal}
use Rattle.context_books.proofs.Steps.{seal_below}
use Rattle.batch_plans.specs.declared.plan.Plan.{Plan}
use Rattle.batch_plans.specs.declared.plan.CallLine.{CallLine}
use Rattle.batch_plans.specs.declared.replies.KeyReply.{KeyReply}
use Rattle.batch_plans.specs.declared.replies.KeyReply.TheVariants.{Generated, Secret, Peer, Refused}
use Rattle.batch_plans.specs.declared.replies.ContextReply.{ContextReply}
use Rattle.batch_plans.specs.declared.replies.LaneAnswers.{LaneAnswers}
use Rattle.batch_plans.specs.declared.replies.Answers.{Answers}
use Rattle.batch_plans.specs.AnswersText.{reply_line, IsAnswered, answered_lines, lanes_lines}
use Rattle.batch_plans.specs.ReplyText.{has_stamps, numbered}
use Rattle.context_books.specs.Standing.{standing_at}
use Rattle.context_books.specs.ContextLines.{AreOfLines}
use Rattle.context_books.specs.Runs.{Run, asks_of, journal_of, LegalFor, lane_call_lines, run_along}
use Rattle.context_table.specs.SetUp.{IsSetUp}
use Rattle.context_table.specs.Laws.{EndsMatch, Message, to_seal, to_open, sealed_from, opened_from, OpensInOrder}
use Rattle.context_table.proofs.OneSetUp.{one_set_up_lem}
use Rattle.demo_runs.specs.Plans.{IsOpeningPlan}
use Rattle.demo_runs.specs.SetUp.{set_up_plan}
use Rattle.demo_runs.specs.Demo.{sealed_at, sealed_text}
use Rattle.demo_runs.specs.declared.batches.DemoBatch.{DemoBatch}
use Rattle.demo_runs.specs.declared.batches.ServedBatch.{ServedBatch}
use Rattle.demo_runs.specs.Batches.{AnswersARun, ciphertexts, HasCiphertexts, IsSealed, IsBegun, IsOpening, HasOpened}
use Rattle.demo_runs.specs.Steps.{opened_line, IsOpenedLane}
use Rattle.demo_runs.proofs.SetUps.{SenderStands, sender_stands, set_up_of, get_standing, BothStand, both_stand}
use Rattle.demo_runs.proofs.Reported.{sealed_count}
use Rattle.demo_runs.proofs.OpeningRuns.{the_unseal, joined, OpeningRun, journal_is, lane_opened}

-- ---- what was sealed is opened

abbrev the_message : List ℕ → Message
the_message ct = record { aad = []; text = sealed_text }

sealed_all : (sender : ContextView) (n k : ℕ) → n + k ≤ sender.limit
    → run_items (cipher_of sender) n (map to_seal (map the_message (map (sealed_at sender) (range_with_len n k))))
    ≡ sealed_from n (map (sealed_at sender) (range_with_len n k))
sealed_all sender n zero few = refl
sealed_all sender n (suc k) few =
    let rest : List Item = map to_seal (map the_message (map (sealed_at sender) (range_with_len (n + 1) k))) in
    ap (λ a. a ∷ run_items (cipher_of sender) (next n a) rest) (seal_below (cipher_of sender) n [] sealed_text (omega arith))
    ∙ ap (λ (answers : List Answer). Sealed_at n (sealed_at sender n) ∷ answers) (sealed_all sender (n + 1) k (omega arith))

open_items : (cts : List (List ℕ)) → to_open (map the_message cts) cts ≡ map the_unseal cts
open_items [] = refl
open_items (ct ∷ cts) = ap (λ (xs : List Item). the_unseal ct ∷ xs) (open_items cts)

opened_at : (n i : ℕ) (cts : List (List ℕ)) → i < length cts
    → slice_get (opened_from n (map the_message cts)) i ≡ Some (Opened_at (n + i) sealed_text)
opened_at n i [] low = absurd (omega arith)
opened_at n zero (ct ∷ cts) low = ap (λ (k : ℕ). Some (Opened_at k sealed_text)) (let e : n ≡ n + 0 = omega arith in e)
opened_at n (suc i) (ct ∷ cts) low =
    opened_at (n + 1) i cts (omega arith)
    ∙ ap (λ (k : ℕ). Some (Opened_at k sealed_text)) (let e : (n + 1) + i ≡ n + suc i = omega arith in e)

answers_are : (sender recipient : ContextView) (cts : List (List ℕ)) → OpensInOrder sender recipient
    → sender.limit ≡ 65536 → recipient.limit ≡ 65536 → length cts ≤ 65536 → cts ≡ ciphertexts sender (length cts)
    → (n : ℕ) → n < length cts
    → slice_get (run_items (cipher_of recipient) 0 (map the_unseal cts)) n ≡ Some (Opened_at n sealed_text)
answers_are sender recipient cts opens limit most few are n low =
    let sealed : run_items (cipher_of sender) 0 (map to_seal (map the_message cts)) ≡ sealed_from 0 cts =
    subst (λ (xs : List (List ℕ)). run_items (cipher_of sender) 0 (map to_seal (map the_message xs)) ≡ sealed_from 0 xs) (sym are)
    (sealed_all sender 0 (length cts) (omega arith)) in
    let size = length-map cts the_message in
    let opened = opens 0 (map the_message cts) cts sealed (omega arith) in
    ap (λ (xs : List Item). slice_get (run_items (cipher_of recipient) 0 xs) n) (sym (open_items cts))
    ∙ ap (λ (answers : List Answer). slice_get answers n) opened
    ∙ opened_at 0 n cts low
    ∙ ap (λ (k : ℕ). Some (Opened_at k sealed_text)) (let e : 0 + n ≡ n = omega arith in e)

-- ---- what the first batch found

pub record Found (messages : ℕ) (keys : List KeyReply) (standing : List (Option ContextView)) (cts : List (List ℕ)) : Type 0 where
  pub public : List ℕ
  pub secret : List ℕ
  pub keys_are : keys ≡ Generated public secret ∷ []
  pub context : ContextView
  pub stands : standing_at standing 0 ≡ Some context
  pub cts_are : cts ≡ ciphertexts context messages

pub found : (messages : ℕ) (keys : List KeyReply) (standing : List (Option ContextView)) (cts : List (List ℕ))
    → HasCiphertexts messages keys standing (Some cts) → Found messages keys standing cts
found messages [] standing cts h = absurd (let e : Some cts ≡ None = h in cc)
found messages (Generated public secret ∷ []) standing cts h =
    record { public = public; secret = secret; keys_are = refl; context = h.0; stands = h.1; cts_are = (let e : Some cts ≡ Some (ciphertexts h.0 messages) = h.2 in cc) }
found messages (Generated public secret ∷ key ∷ keys) standing cts h = absurd (let e : Some cts ≡ None = h in cc)
found messages (Secret public ∷ keys) standing cts h = absurd (let e : Some cts ≡ None = h in cc)
found messages (Peer ∷ keys) standing cts h = absurd (let e : Some cts ≡ None = h in cc)
found messages (Refused refusal ∷ keys) standing cts h = absurd (let e : Some cts ≡ None = h in cc)

-- ---- the batch

pub record SecondBatch (seed : ℕ) (cts : List (List ℕ)) (plan : Plan) (keys : List KeyReply) (contexts : List ContextReply)
    (standing : List (Option ContextView)) (answers : Answers) : Type 0 where
  pub ends : EndsMatch
  pub sealed : IsSealed seed (length cts) (Some cts)
  pub is : IsOpeningPlan seed cts plan
  pub set_up : IsSetUp plan keys contexts standing
  pub lines : AreOfLines plan.contexts standing
  pub run : AnswersARun plan standing answers
  pub answered : IsAnswered plan answers
  pub few : length cts ≤ 65536

one_lane : (answers : List LaneAnswers) → length answers ≡ 1 → (a : LaneAnswers) × (answers ≡ a ∷ [])
one_lane [] size = absurd (omega arith)
one_lane (a ∷ []) size = (a, refl)
one_lane (a ∷ b ∷ answers) size = absurd (omega arith)

module _ (seed : ℕ) (cts : List (List ℕ)) (plan : Plan) (keys : List KeyReply) (contexts : List ContextReply)
    (standing : List (Option ContextView)) (answers : Answers) (t : SecondBatch seed cts plan keys contexts standing answers) where
  short : IsSetUp (set_up_plan seed) keys contexts standing
  short = set_up_of seed plan t.is.begins keys contexts standing t.set_up

  -- the set-up is that of the first batch
  has : HasCiphertexts (length cts) keys standing (Some cts)
  has =
      let same = one_set_up_lem (set_up_plan seed) t.sealed.keys keys t.sealed.contexts contexts t.sealed.standing standing t.sealed.set_up short in
      subst (λ (ks : List KeyReply). HasCiphertexts (length cts) ks standing (Some cts)) same.0
      (subst (λ (ss : List (Option ContextView)). HasCiphertexts (length cts) t.sealed.keys ss (Some cts)) same.2 t.sealed.found_is)

  the_found : Found (length cts) keys standing cts
  the_found = found (length cts) keys standing cts has

  set_up_is : IsSetUp (set_up_plan seed) (Generated the_found.public the_found.secret ∷ []) contexts standing
  set_up_is = subst (λ (ks : List KeyReply). IsSetUp (set_up_plan seed) ks contexts standing) the_found.keys_are short

  sender : SenderStands contexts standing
  sender = sender_stands seed the_found.public the_found.secret contexts standing set_up_is

  both : BothStand sender.sender standing
  both =
      both_stand t.ends seed the_found.public the_found.secret contexts standing
      (subst (λ lines. AreOfLines lines standing) t.is.begins.contexts t.lines) set_up_is sender

  cts_are : cts ≡ ciphertexts sender.sender (length cts)
  cts_are =
      let same : Some the_found.context ≡ Some sender.sender = sym the_found.stands ∙ get_standing standing 0 (Some sender.sender) sender.stands in
      let is : the_found.context ≡ sender.sender = cc in
      the_found.cts_are ∙ ap (λ (c : ContextView). ciphertexts c (length cts)) is

  abbrev the_run : Run
  the_run = run_along plan standing answers.journals t.run.guesses

  legal : Legal (asks_of the_run) 1 (journal_of the_run 1)
  legal =
      subst (λ (v : ℕ). LegalFor (has_stamps v) (asks_of the_run) answers.journals) t.is.begins.version t.run.allowed.legal 1

  opening : OpeningRun the_run cts
  opening = record {
    recipient = both.recipient;
    stands = both.stands;
    role = both.role;
    aead = both.aead;
    lane = t.is.lane;
    lanes = t.is.lanes;
    parts = t.is.parts;
    whole = t.is.whole;
    opens = t.is.opens;
    legal = legal;
    answers = answers_are sender.sender both.recipient cts both.opens sender.limit both.limit t.few cts_are;
  }

  count : length answers.lanes ≡ 1
  count = t.answered.lanes ∙ ap (λ (lanes : List (List CallLine)). length lanes) t.is.lanes

  pub some_lane : 0 < length answers.lanes
  some_lane = let e = count in omega arith

  the_lane : (a : LaneAnswers) × (answers.lanes ≡ a ∷ [])
  the_lane = one_lane answers.lanes count

  lines_are : answered_lines t.is.lane the_lane.0 ≡ lane_call_lines the_run 0 t.is.lane
  lines_are =
      let e : answered_lines t.is.lane the_lane.0 ∷ [] ≡ lane_call_lines the_run 0 t.is.lane ∷ [] =
      (λ i. lanes_lines (sym t.is.lanes i) (sym the_lane.1 i)) ∙ t.run.lines ∙ (λ i. numbered (lane_call_lines the_run) 0 (t.is.lanes i)) in
      cc

  pub lane_is : (d : LaneAnswers) → IsOpenedLane (length cts) (get_or answers.lanes 0 d)
  unfolding opening
  lane_is d =
      let a : LaneAnswers = the_lane.0 in
      let size : length (joined t.is.parts) ≡ length cts = ap (λ (xs : List (List ℕ)). length xs) t.is.whole in
      let opened = lane_opened the_run cts opening a.pool 0 t.is.lane t.is.parts [] t.is.opens (journal_is the_run cts opening) a.replies a.batches lines_are in
      let first : get_or answers.lanes 0 d ≡ a = ap (λ (xs : List LaneAnswers). get_or xs 0 d) the_lane.1 in
      subst (IsOpenedLane (length cts)) (sym first)
      (record {
        few = t.few;
        lines = subst (λ (n : ℕ). map (reply_line a.pool) (take n a.replies) ≡ map opened_line (range_with_len 0 n)) size opened;
        printable = subst (λ (x : LaneAnswers). Rattle.batch_plans.specs.Replies.IsPrintable x) first (t.answered.printable 0 d some_lane);
      })

  pub first_lane : (lane : LaneAnswers) (held : List LaneAnswers) → held ≡ answers.lanes → lane ≡ get_or held 0 lane → IsOpenedLane (length cts) lane
  first_lane lane held same first =
      subst (IsOpenedLane (length cts)) (sym (first ∙ ap (λ (xs : List LaneAnswers). get_or xs 0 lane) same)) (lane_is lane)

-- ---- set up and served

pub opens : (seed : ℕ) (cts : List (List ℕ)) (plan : Plan) (batch : DemoBatch) → IsOpeningPlan seed cts plan
    → IsBegun plan batch → IsOpening seed cts batch
opens seed cts plan batch is begun =
    record { ready = begun.ready; is = subst (IsOpeningPlan seed cts) (sym begun.plan_is) is }

pub second_of : (seed messages : ℕ) (cts : List (List ℕ)) (served : ServedBatch) → EndsMatch
    → (t : HasOpened seed messages cts served)
    → SecondBatch seed cts served.plan t.batch.answers.keys t.batch.answers.contexts t.batch.standing served.answers
second_of seed messages cts served ends t =
    let b = t.batch in
    let same = sym t.served_is.plan_is in
    let size = sealed_count seed messages cts t.sealed in
    record {
      ends = ends;
      sealed = subst (λ (n : ℕ). IsSealed seed n (Some cts)) (sym size) t.sealed;
      is = subst (IsOpeningPlan seed cts) same t.is.is;
      set_up = subst (λ (p : Plan). IsSetUp p b.answers.keys b.answers.contexts b.standing) same t.is.ready.set_up;
      lines = subst (λ (p : Plan). AreOfLines p.contexts b.standing) same t.is.ready.lines;
      run = t.served_is.run;
      answered = t.served_is.answered;
      few = subst (λ (n : ℕ). n ≤ 65536) (sym size) t.few;
    }

pub opened_lane : (seed messages : ℕ) (cts : List (List ℕ)) (served : ServedBatch) → EndsMatch → HasOpened seed messages cts served
    → (lane : LaneAnswers) (held : List LaneAnswers) → held ≡ served.answers.lanes → lane ≡ get_or held 0 lane
    → IsOpenedLane messages lane
opened_lane seed messages cts served ends t lane held same first =
    subst (λ (n : ℕ). IsOpenedLane n lane) (sealed_count seed messages cts t.sealed)
    (first_lane seed cts served.plan t.batch.answers.keys t.batch.answers.contexts t.batch.standing served.answers
    (second_of seed messages cts served ends t) lane held same first)

pub lane_there : (seed messages : ℕ) (cts : List (List ℕ)) (served : ServedBatch) → EndsMatch → HasOpened seed messages cts served
    → (held : List LaneAnswers) → held ≡ served.answers.lanes → 0 < length held
lane_there seed messages cts served ends t held same =
    subst (λ (lanes : List LaneAnswers). 0 < length lanes) (sym same)
    (some_lane seed cts served.plan t.batch.answers.keys t.batch.answers.contexts t.batch.standing served.answers
    (second_of seed messages cts served ends t))
