-- The replies of a run, which are lines other than `table`.
use Rattle.std.proofs.Common.{◌≡◌, ℕ, zero, suc, ◌+◌, ◌≤◌, ◌<◌, Bool, true, false, cond, List, [], ◌∷◌, length, map, drop, Option, Some, None, refl, sym, ap, ◌∙◌, subst, arith}
use Rattle.std.specs.Prelude.{slice_get, slice_index_or}
use Rattle.std.specs.List.{All}
use Rattle.std.specs.Str.{bytes_eq}
use Rattle.std.proofs.lemmas.List.{length-map}
use Rattle.std.proofs.lemmas.List.Elements.{All-nil, All-cons, All-head, All-tail, All-append}
use Rattle.std.proofs.lemmas.Option.{slice_get_within}
use Rattle.std.proofs.lemmas.Slice.Eq.{bytes_eq-Decides}
use Rattle.call_places.specs.declared.entries.Place.{Place}
use Rattle.call_places.specs.Messages.{SealedMessage, sealed_messages}
use Rattle.call_places.specs.Spans.{span_bytes}
use Rattle.hpke_context.specs.Answers.{Item}
use Rattle.hpke_context.specs.Contexts.{ContextView, exported_by}
use Rattle.context_books.specs.Batches.{Ask, ToOpenAll, unseal, with_context, item_of, item_in_call, lane_of, block, place}
use Rattle.context_books.specs.Legal.{Legal}
use Rattle.context_books.proofs.Members.{got, value_at}
use Rattle.context_books.proofs.Replies.{served_reply}
use Rattle.batch_plans.specs.declared.plan.CallLine.{CallLine}
use Rattle.batch_plans.specs.declared.plan.CallLine.TheVariants as calls
use Rattle.batch_plans.specs.declared.replies.CallRefusal.{CallRefusal}
use Rattle.batch_plans.specs.Calls.{context_of}
use Rattle.batch_plans.specs.Limits.{items_from}
use Rattle.batch_plans.specs.Within.{IsWithinLimits}
use Rattle.batch_plans.specs.ReplyText.{all_lines, numbered}
use Rattle.context_books.specs.Standing.{standing_at, refusal_on, call_refusal}
use Rattle.context_books.specs.Asks.{asked_by, cipher_at}
use Rattle.context_books.specs.Runs.{Run, asks_of, journal_of, answer_line_of, place_line, export_line, lines_unless, item_lines}
use Rattle.context_books.specs.Lanes.{calls_of}
use Rattle.context_books.proofs.Done.{ask_served, length-messages}
use Rattle.result_lines.specs.Places.{with_feed}
use Rattle.result_lines.specs.PrintedLive.{IsReply}
use Rattle.result_lines.specs.Told.{ReplyView}
use Rattle.result_lines.specs.Replies.{reply_lines, lane_replies, all_replies, wrong_reply}
use Rattle.result_lines.proofs.Limited.{lines_of_limits}
use Rattle.result_lines.proofs.Limited as limited
use Rattle.result_lines.proofs.RunTexts.{drop_step}
use Rattle.result_lines.proofs.ReplyLines.{answer_reply, exported_reply, refused_reply}

-- ---- replies that no line is told of are those that are due

abbrev pub told_lines : List ReplyView → List (List ℕ)
told_lines replies = map (λ (reply : ReplyView). with_feed reply.line) replies

pub due_told : (replies : List ReplyView) (due : List (List ℕ)) → length replies ≡ length due → wrong_reply replies due ≡ None → told_lines replies ≡ due
due_told [] [] size none = refl
due_told [] (line ∷ due) size none = absurd (omega arith)
due_told (reply ∷ replies) [] size none = absurd (omega arith)
due_told (reply ∷ replies) (line ∷ due) size none =
    step (bytes_eq (with_feed reply.line) line) refl none (λ rest. due_told replies due (omega arith) rest)
  where
    step : (b : Bool) → bytes_eq (with_feed reply.line) line ≡ b → cond b (wrong_reply replies due) (Some reply.number) ≡ None
        → (wrong_reply replies due ≡ None → told_lines replies ≡ due) → told_lines (reply ∷ replies) ≡ line ∷ due
    step true is e later = (λ i. (bytes_eq-Decides (with_feed reply.line) line).0 is i ∷ later e i)
    step false is e later = absurd cc

pub told_due : (replies : List ReplyView) (due : List (List ℕ)) → told_lines replies ≡ due → wrong_reply replies due ≡ None
told_due [] due is = refl
told_due (reply ∷ replies) [] is = absurd cc
told_due (reply ∷ replies) (line ∷ due) is =
    let first : with_feed reply.line ≡ line = cc in
    let rest : told_lines replies ≡ due = cc in
    ap (λ (b : Bool). cond b (wrong_reply replies due) (Some reply.number)) ((bytes_eq-Decides (with_feed reply.line) line).1 first)
    ∙ told_due replies due rest

-- ---- each reply is a line

-- the context of a call that is served stands
pub stands_for : (contexts : List (Option ContextView)) (call : CallLine) → call_refusal contexts call ≡ None
    → (context : ContextView) × (standing_at contexts (context_of call) ≡ Some context)
stands_for contexts call free = go (standing_at contexts (context_of call)) refl free
  where
    go : (o : Option ContextView) → standing_at contexts (context_of call) ≡ o → refusal_on o call ≡ None → (context : ContextView) × (standing_at contexts (context_of call) ≡ Some context)
    go None is free = absurd cc
    go (Some context) is free = (context, is)

module _ (run : Run) (within : IsWithinLimits run.plan) (legal : (context : ℕ) → Legal (asks_of run) context (journal_of run context)) where
  place_is : (context : ℕ) (p : Place) (x : Item) → item_of (asks_of run) p ≡ Some (context, x) → IsReply (place_line run context p)
  place_is context p x item =
      subst IsReply (sym (ap answer_line_of (served_reply (asks_of run) context (cipher_at run.contexts context) (journal_of run context) p x (legal context) item))) (answer_reply _)

  item_at : (lane number i context : ℕ) (ask : Ask) (x : Item) → slice_get (lane_of (asks_of run) lane) number ≡ Some ask → item_in_call (Some ask) i ≡ Some (context, x)
      → IsReply (place_line run context (place lane number i))
  item_at lane number i context ask x here item =
      place_is context (place lane number i) x (ap (λ (o : Option Ask). item_in_call o i) here ∙ item)

  block_is : (lane number context : ℕ) (messages : List SealedMessage) → slice_get (lane_of (asks_of run) lane) number ≡ Some (ToOpenAll context messages)
      → (i n : ℕ) → i + n ≤ length messages → All IsReply (map (place_line run context) (block lane number i n))
  block_is lane number context messages here i zero low = All-nil IsReply
  block_is lane number context messages here i (suc n) low =
      let size : length (map unseal messages) ≡ length messages = length-map messages unseal in
      let x = got (map unseal messages) i (omega arith) in
      All-cons IsReply (place_line run context (place lane number i)) (map (place_line run context) (block lane number (i + 1) n))
      (item_at lane number i context (ToOpenAll context messages) x.0 here (ap (with_context context) x.1))
      (block_is lane number context messages here (i + 1) n (omega arith))

  one_line : (line : List ℕ) → IsReply line → All IsReply (line ∷ [])
  one_line line is = All-cons IsReply line [] is (All-nil IsReply)

  items_are : (lane number : ℕ) (call : CallLine) → limited.IsLine run.plan call → slice_get (lane_of (asks_of run) lane) number ≡ Some (asked_by run.plan call)
      → call_refusal run.contexts call ≡ None → All IsReply (item_lines run lane number call)
  items_are lane number (calls.Seal context item) fits here free =
      one_line _ (item_at lane number 0 context (asked_by run.plan (calls.Seal context item)) _ here refl)
  items_are lane number (calls.Unseal context item) fits here free =
      one_line _ (item_at lane number 0 context (asked_by run.plan (calls.Unseal context item)) _ here refl)
  items_are lane number (calls.UnsealAll context first count) fits here free =
      let messages = sealed_messages run.plan.pool (items_from run.plan.items first count) in
      let size : length messages ≡ count = sym (length-map messages unseal) ∙ length-messages run.plan.items run.plan.pool first count fits.3 in
      block_is lane number context messages here 0 count (omega arith)
  items_are lane number (calls.Export context exporter size) fits here free =
      let s = stands_for run.contexts (calls.Export context exporter size) free in
      one_line _ (subst (λ (o : Option ContextView). IsReply (export_line o (span_bytes run.plan.pool exporter) size)) (sym s.1)
      (exported_reply (exported_by s.0 (span_bytes run.plan.pool exporter) size)))
  items_are lane number (calls.Add name) fits here free = All-nil IsReply
  items_are lane number (calls.Retire name) fits here free = All-nil IsReply

  pub replies_are : (lane number : ℕ) (call : CallLine) → limited.IsLine run.plan call → slice_get (calls_of run lane) number ≡ Some call → All IsReply (reply_lines run lane number call)
  replies_are lane number call fits at = go (call_refusal run.contexts call) refl
    where
      go : (refusal : Option CallRefusal) → call_refusal run.contexts call ≡ refusal → All IsReply (lines_unless refusal (item_lines run lane number call))
      go None free = items_are lane number call fits (ask_served run lane number call at free) free
      go (Some refusal) is = one_line _ (refused_reply refusal)

  lane_are : (lane number : ℕ) (calls : List CallLine) → All (limited.IsLine run.plan) calls → drop number (calls_of run lane) ≡ calls
      → All IsReply (all_lines (numbered (reply_lines run lane) number calls))
  lane_are lane number [] fits is = All-nil IsReply
  lane_are lane number (call ∷ more) fits is =
      let s = drop_step (calls_of run lane) more number call is in
      All-append IsReply (reply_lines run lane number call) (all_lines (numbered (reply_lines run lane) (number + 1) more))
      (replies_are lane number call (All-head (limited.IsLine run.plan) call more fits) s.0)
      (lane_are lane (number + 1) more (All-tail (limited.IsLine run.plan) call more fits) s.1)

  lanes_are : (k : ℕ) (lanes : List (List CallLine)) → drop k run.plan.lanes ≡ lanes → All IsReply (all_lines (numbered (lane_replies run) k lanes))
  lanes_are k [] is = All-nil IsReply
  lanes_are k (calls ∷ lanes) is =
      let s = drop_step run.plan.lanes lanes k calls is in
      let low : k < length run.plan.lanes = slice_get_within run.plan.lanes k calls s.0 in
      let own : slice_index_or run.plan.lanes k [] ≡ calls = value_at run.plan.lanes k calls [] s.0 in
      All-append IsReply (lane_replies run k calls) (all_lines (numbered (lane_replies run) (k + 1) lanes))
      (lane_are k 0 calls (subst (All (limited.IsLine run.plan)) own (lines_of_limits run.plan k [] within low)) own)
      (lanes_are (k + 1) lanes s.1)

  -- all replies of a run along legal journals are lines, none of which is `table`
  pub replies_are_lines : All IsReply (all_replies run)
  replies_are_lines = lanes_are 0 run.plan.lanes refl
