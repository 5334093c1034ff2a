-- The answers that a run makes of those of its rehearsal.
use Rattle.std.proofs.Common.{◌≡◌, ◌<◌, ◌+◌, ℕ, List, [], ◌∷◌, length, map, take, drop, get_or, Bool, true, false, Option, Some, None, sym, ap, ◌∙◌, subst, arith}
use Rattle.std.specs.Prelude.{slice_get}
use Rattle.std.specs.List.{All, refill}
use Rattle.std.proofs.lemmas.List.Elements.{All-nil, All-cons, All-tail, All-append, All-take, All-drop}
use Rattle.std.proofs.lemmas.Option.{slice_get-get_or}
use Rattle.call_places.specs.declared.entries.Entry.{Entry}
use Rattle.call_places.specs.declared.entries.Mark.{Mark}
use Rattle.hpke_context.specs.Contexts.{ContextView}
use Rattle.context_core.specs.Rehearsals.{AreAnswersOf}
use Rattle.context_core.proofs.Ended.{refill_is}
use Rattle.batch_plans.specs.declared.plan.Plan.{Plan}
use Rattle.batch_plans.specs.declared.plan.CallLine.{CallLine}
use Rattle.batch_plans.specs.declared.plan.CallLine.TheVariants as calls
use Rattle.batch_plans.specs.declared.replies.Answers.{Answers}
use Rattle.batch_plans.specs.declared.replies.ContextReply.{ContextReply}
use Rattle.batch_plans.specs.declared.replies.ContextReply.TheVariants as contexts
use Rattle.batch_plans.specs.declared.replies.ContextRefusal.TheVariants.{NoKey, NeedSecret, NoEnc, EncSize, PskPair, PskExtra, PskMissing}
use Rattle.batch_plans.specs.declared.replies.LaneAnswers.{LaneAnswers}
use Rattle.batch_plans.specs.declared.replies.Reply.{Reply}
use Rattle.batch_plans.specs.Within.{IsWithinLimits}
use Rattle.batch_plans.specs.Names.{line_count}
use Rattle.batch_plans.specs.Replies.{IsInRange, IsPrintable}
use Rattle.batch_plans.specs.AnswersText.{reply_count, IsAnswered, UsesUp}
use Rattle.context_books.specs.ContextLines.{AreOfLines}
use Rattle.context_books.proofs.LookedUp.{calls_looked}
use Rattle.batch_alone.specs.Own.{add_reply, retire_reply, own_reply, put_first, with_own, with_own_replies}
use Rattle.batch_alone.specs.Tables.{table_of, restamped}
use Rattle.batch_alone.proofs.OwnLines.{looked_uses}
use Rattle.batch_alone.proofs.Whole.{placed, rehearsal, IsMade}

-- ---- own replies can be printed

add_range : (size : ℕ) (reply : Option ContextReply) → IsInRange size (add_reply reply)
add_range size None = tt
add_range size (Some contexts.Shared) = tt
add_range size (Some (contexts.Sender enc)) = tt
add_range size (Some contexts.Recipient) = tt
add_range size (Some (contexts.Refused NoKey)) = tt
add_range size (Some (contexts.Refused NeedSecret)) = tt
add_range size (Some (contexts.Refused NoEnc)) = tt
add_range size (Some (contexts.Refused EncSize)) = tt
add_range size (Some (contexts.Refused PskPair)) = tt
add_range size (Some (contexts.Refused PskExtra)) = tt
add_range size (Some (contexts.Refused PskMissing)) = tt

retire_range : (size : ℕ) (live : Bool) → IsInRange size (retire_reply live)
retire_range size true = tt
retire_range size false = tt

module _ (size : ℕ) (plan : Plan) (adds : List ContextReply) where
  replaced : (reply : Reply) → IsInRange size reply → (rs : List Reply) → All (IsInRange size) rs
      → All (IsInRange size) (put_first (Some reply) rs)
  replaced reply is [] all = All-nil (IsInRange size)
  replaced reply is (r ∷ rs) all =
      All-cons (IsInRange size) reply rs is (All-tail (IsInRange size) r rs all)

  first_range : (live : Bool) (call : CallLine) (rs : List Reply) → All (IsInRange size) rs
      → All (IsInRange size) (put_first (own_reply plan adds live call) rs)
  first_range live (calls.Seal context item) rs all = all
  first_range live (calls.Unseal context item) rs all = all
  first_range live (calls.UnsealAll context first count) rs all = all
  first_range live (calls.Export context exporter n) rs all = all
  first_range live (calls.Add name) rs all =
      let x = slice_get adds (line_count plan + name) in
      replaced (add_reply x) (add_range size x) rs all
  first_range live (calls.Retire name) rs all =
      replaced (retire_reply live) (retire_range size live) rs all

  own_range : (live : ℕ → Bool) (number : ℕ) (cs : List CallLine) (rs : List Reply)
      → All (IsInRange size) rs
      → All (IsInRange size) (with_own (λ k call. own_reply plan adds (live k) call) number cs rs)
  own_range live number [] rs all = all
  own_range live number (call ∷ cs) rs all =
      let n = reply_count call (slice_get rs 0) in
      All-append (IsInRange size) (put_first (own_reply plan adds (live number) call) (take n rs))
      (with_own (λ k call. own_reply plan adds (live k) call) (number + 1) cs (drop n rs))
      (first_range (live number) call (take n rs) (All-take (IsInRange size) n rs all))
      (own_range live (number + 1) cs (drop n rs) (All-drop (IsInRange size) n rs all))

-- ---- the answers that are made

module _ (plan : Plan) (standing : List (Option ContextView)) (within : IsWithinLimits plan)
    (of_lines : AreOfLines plan.contexts standing) where
  -- what the bodies give
  pub record Gives (mid : Answers) (plan_now : Plan) (adds : List ContextReply) (notes : List Entry)
      (stamps : List ℕ) (lanes new : List LaneAnswers) (journals marks : List (List Mark))
      : Type 0 where
    pub mid_is : AreAnswersOf (rehearsal plan standing within of_lines) mid
    pub mid_lanes : length mid.lanes ≡ length plan.lanes
    pub plan_is : plan_now ≡ plan
    pub adds_are : adds ≡ mid.contexts
    pub notes_are : notes ≡ (table_of plan standing).notes
    pub stamps_are : stamps ≡ (table_of plan standing).stamps
    pub lanes_are : lanes ≡ mid.lanes
    pub size : length new ≡ length lanes
    pub each : (l : ℕ) (given : LaneAnswers) → l < length lanes
        → get_or new l given ≡ with_own_replies plan_now adds notes l
        (get_or plan_now.lanes l []) (get_or lanes l given)
    pub journals_are : journals ≡ mid.journals
    pub marks_size : length marks ≡ length journals
    pub marks_are : marks ≡ map (map (restamped stamps)) journals

  abbrev pub made : Answers → List LaneAnswers → List (List Mark) → List Entry → Answers
  made mid new marks noted =
      record {
        keys = mid.keys;
        contexts = mid.contexts;
        lanes = refill (length mid.lanes) mid.lanes new;
        journals = refill (length mid.journals) mid.journals marks;
        notes = noted;
      }

  module _ (mid : Answers) (plan_now : Plan) (adds : List ContextReply) (notes : List Entry)
      (stamps : List ℕ) (lanes new : List LaneAnswers) (journals marks : List (List Mark))
      (t : Gives mid plan_now adds notes stamps lanes new journals marks) (noted : List Entry)
      (noted_are : noted ≡ (table_of plan standing).notes) where
    new_size : length new ≡ length mid.lanes
    new_size = t.size ∙ ap length t.lanes_are

    pub is_made : IsMade plan standing within of_lines mid (made mid new marks noted)
    is_made = record {
      mid_is = t.mid_is;
      mid_lanes = t.mid_lanes;
      notes = noted_are;
      journals = refill_is (length mid.journals) mid.journals marks
          (t.marks_size ∙ ap length t.journals_are)
          ∙ t.marks_are
          ∙ (λ i. map (map (restamped (t.stamps_are i))) (t.journals_are i));
      lanes = ap length (refill_is (length mid.lanes) mid.lanes new new_size) ∙ new_size;
      each = λ l one low.
          ap (λ (xs : List LaneAnswers). get_or xs l one)
          (refill_is (length mid.lanes) mid.lanes new new_size)
          ∙ t.each l one (let same = ap length t.lanes_are in omega arith)
          ∙ (λ i. with_own_replies (t.plan_is i) (t.adds_are i) (t.notes_are i) l
          (get_or (t.plan_is i).lanes l []) (get_or (t.lanes_are i) l one));
    }

    pub is_answered : IsAnswered (placed plan standing within of_lines []) mid
        → IsAnswered plan (made mid new marks noted)
    is_answered p = record {
      keys = p.keys;
      contexts = p.contexts;
      lanes = is_made.lanes ∙ t.mid_lanes;
      journals = ap length (refill_is (length mid.journals) mid.journals marks
          (t.marks_size ∙ ap length t.journals_are))
          ∙ t.marks_size ∙ ap length t.journals_are ∙ p.journals;
      printable = λ l one low.
          let there : l < length mid.lanes = (let same = is_made.lanes in omega arith) in
          subst IsPrintable (sym (is_made.each l one there))
          (own_range (length (get_or mid.lanes l one).pool) plan mid.contexts
          (λ k. Rattle.context_books.specs.Live.was_live (table_of plan standing).notes
          (Rattle.context_books.specs.Batches.place l k 0)) 0 (get_or plan.lanes l [])
          (get_or mid.lanes l one).replies (p.printable l one there));
    }

  -- each reply of a rehearsal is one of its call, also of the call as it was written
  pub used_by_calls : (mid : Answers) (plan_now : Plan) (lanes : List LaneAnswers)
      → AreAnswersOf (rehearsal plan standing within of_lines) mid → plan_now ≡ plan
      → lanes ≡ mid.lanes → (l : ℕ) (given : LaneAnswers) → l < length lanes
      → UsesUp (get_or plan_now.lanes l []) (get_or lanes l given).replies
      (get_or lanes l given).batches
  used_by_calls mid plan_now lanes mid_is plan_is lanes_are l given low =
      let notes = (table_of plan standing).notes in
      let there : l < length mid.lanes = (let same = ap length lanes_are in omega arith) in
      let one = get_or mid.lanes l given in
      let uses = mid_is.used l one (slice_get-get_or mid.lanes l given there) in
      subst (λ (p : Plan). UsesUp (get_or p.lanes l []) (get_or lanes l given).replies
      (get_or lanes l given).batches) (sym plan_is)
      (subst (λ (ls : List LaneAnswers). UsesUp (get_or plan.lanes l []) (get_or ls l given).replies
      (get_or ls l given).batches) (sym lanes_are)
      (looked_uses plan notes l 0 (get_or plan.lanes l []) one.replies one.batches
      (subst (λ cs. UsesUp cs one.replies one.batches) (calls_looked plan notes l) uses)))
