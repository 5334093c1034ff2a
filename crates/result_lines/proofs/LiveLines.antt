-- The text of a run whose lanes add and retire contexts is that of its replies, its guesses, its
-- journals and its table.
use Rattle.std.proofs.Common.{◌≡◌, ◌||◌, ℕ, ◌+◌, ◌<◌, Bool, true, false, List, [], ◌∷◌, ◌++◌, length, map, drop, Option, Some, refl, sym, ap, ◌∙◌, subst, append_assoc, length-append, if◌then◌else◌}
use Rattle.std.specs.Prelude.{nat_lt, sum_by, slice_get, slice_index_or}
use Rattle.std.specs.List.{All, concat}
use Rattle.std.proofs.lemmas.List.{nil_from_length}
use Rattle.std.proofs.lemmas.List.Elements.{All-nil, All-cons, All-head, All-tail, All-append}
use Rattle.std.proofs.lemmas.List.Sums.{sum_by-cons}
use Rattle.std.proofs.lemmas.Option.{slice_get_within}
use Rattle.context_books.specs.Batches.{Ask, place}
use Rattle.context_books.specs.Guesses.{guess_count}
use Rattle.context_books.specs.Legal.{Legal}
use Rattle.context_books.proofs.Members.{value_at}
use Rattle.batch_plans.specs.declared.plan.Plan.{Plan}
use Rattle.batch_plans.specs.declared.plan.CallLine.{CallLine}
use Rattle.batch_plans.specs.declared.plan.CallLine.TheVariants as calls
use Rattle.batch_plans.specs.declared.replies.Batch.{Batch as Told}
use Rattle.batch_plans.specs.declared.replies.KeyReply.{KeyReply}
use Rattle.batch_plans.specs.declared.replies.CallRefusal.{CallRefusal}
use Rattle.batch_plans.specs.declared.replies.CallRefusal.TheVariants.{NoContext}
use Rattle.batch_plans.specs.Calls.{context_of}
use Rattle.batch_plans.specs.Room.{served_batches, served_or}
use Rattle.batch_plans.specs.Limits.{first_name, items_of}
use Rattle.batch_plans.specs.Within.{IsWithinLimits}
use Rattle.batch_plans.specs.Names.{line_count, at_position}
use Rattle.batch_plans.specs.ReplyText.{all_lines, numbered}
use Rattle.batch_plans.specs.AnswersText.{guess_line}
use Rattle.batch_plans.specs.LiveText.{live_lines}
use Rattle.context_books.specs.Standing.{call_refusal}
use Rattle.context_books.specs.Asks.{ask_of}
use Rattle.context_books.specs.Live.{LiveRun, run_of, was_live, looked_up, live_call_lines, live_lane_lines, live_run_text}
use Rattle.context_books.specs.Lanes.{calls_of}
use Rattle.context_books.specs.Runs.{Run, asks_of, journal_of, guesses_of, call_lines}
use Rattle.context_books.proofs.Refusals.{added_refused, retired_refused}
use Rattle.result_lines.specs.Printed.{call_replies, told_calls, told_lanes, AreComplete}
use Rattle.result_lines.specs.Printed as printed
use Rattle.result_lines.specs.PrintedLive.{IsReply, told_live_text}
use Rattle.result_lines.proofs.Took.{calls_split, lanes_split}
use Rattle.result_lines.specs.LiveVerdicts.{live_reply_lines, live_lane_replies, live_replies}
use Rattle.result_lines.proofs.Opened.{opened, Keeps}
use Rattle.result_lines.specs.Replies.{reply_lines}
use Rattle.result_lines.proofs.DueReplies.{replies_are}
use Rattle.result_lines.proofs.Limited.{IsLine, lines_of_limits}
use Rattle.result_lines.proofs.LookedLimits.{own, looked_within}
use Rattle.result_lines.proofs.ReplyLines.{add_reply, retire_reply}
use Rattle.result_lines.proofs.RunTexts.{part, replies_count, own_opened, all_opened, AreCounted, drop_step, lane_at, guesses_count}

-- ---- calls that no context serves

added_is : (plan : Plan) (name : ℕ) (b : Bool) → (if b then at_position plan (calls.Add name) else calls.Add name) ≡ calls.Add name
added_is plan name true = refl
added_is plan name false = refl

retired_is : (plan : Plan) (name : ℕ) (b : Bool) → (if b then at_position plan (calls.Retire name) else calls.Retire name) ≡ calls.Retire name
retired_is plan name true = refl
retired_is plan name false = refl

none_kept : (refusal : Option CallRefusal) (n : ℕ) (own : List Told) → refusal ≡ Some NoContext → length own ≡ served_or refusal n 0 → own ≡ []
none_kept refusal n own is kept = nil_from_length own (kept ∙ ap (λ (o : Option CallRefusal). served_or o n 0) is)

module _ (live : LiveRun) (within : IsWithinLimits live.plan) where
  abbrev run : Run
  run = run_of live

  abbrev looked : ℕ → ℕ → CallLine → CallLine
  looked lane number call = looked_up live.plan live.notes lane number call

  abbrev lane_from : ℕ → ℕ → List CallLine → List CallLine
  lane_from lane number lines = own live.plan live.notes lane number lines

  looked_added : (lane number name : ℕ) → call_refusal live.standing (looked lane number (calls.Add name)) ≡ Some NoContext
  looked_added lane number name =
      ap (call_refusal live.standing) (added_is live.plan name (nat_lt (context_of (calls.Add name)) first_name || was_live live.notes (place lane number 0)))
      ∙ added_refused live.standing name

  looked_retired : (lane number name : ℕ) → call_refusal live.standing (looked lane number (calls.Retire name)) ≡ Some NoContext
  looked_retired lane number name =
      ap (call_refusal live.standing) (retired_is live.plan name (nat_lt (context_of (calls.Retire name)) first_name || was_live live.notes (place lane number 0)))
      ∙ retired_refused live.standing name

  -- the lines of a call are its replies and its guess
  call_is : (lane number : ℕ) (call : CallLine) (kept : List Told)
      → call_lines run lane number (looked lane number call) ≡ reply_lines run lane number (looked lane number call) ++ map guess_line kept
      → length kept ≡ served_or (call_refusal live.standing (looked lane number call)) (served_batches (looked lane number call)) 0
      → live_call_lines live lane number call ≡ live_reply_lines live lane number call ++ map guess_line kept
  call_is lane number (calls.Seal context item) kept lines size = lines
  call_is lane number (calls.Unseal context item) kept lines size = lines
  call_is lane number (calls.UnsealAll context first count) kept lines size = lines
  call_is lane number (calls.Export context exporter n) kept lines size = lines
  call_is lane number (calls.Add name) kept lines size =
      let none = none_kept (call_refusal live.standing (looked lane number (calls.Add name))) (served_batches (looked lane number (calls.Add name))) kept (looked_added lane number name) size in
      sym (ap (λ (own : List Told). live_reply_lines live lane number (calls.Add name) ++ map guess_line own) none)
  call_is lane number (calls.Retire name) kept lines size =
      let none = none_kept (call_refusal live.standing (looked lane number (calls.Retire name))) (served_batches (looked lane number (calls.Retire name))) kept (looked_retired lane number name) size in
      sym (ap (λ (own : List Told). live_reply_lines live lane number (calls.Retire name) ++ map guess_line own) none)

  call_count : (lane number : ℕ) (call : CallLine) → length (live_reply_lines live lane number call) ≡ call_replies live.standing (looked lane number call)
  call_count lane number (calls.Seal context item) = replies_count run lane number (call_refusal live.standing (looked lane number (calls.Seal context item))) (looked lane number (calls.Seal context item)) refl
  call_count lane number (calls.Unseal context item) = replies_count run lane number (call_refusal live.standing (looked lane number (calls.Unseal context item))) (looked lane number (calls.Unseal context item)) refl
  call_count lane number (calls.UnsealAll context first count) =
      replies_count run lane number (call_refusal live.standing (looked lane number (calls.UnsealAll context first count))) (looked lane number (calls.UnsealAll context first count)) refl
  call_count lane number (calls.Export context exporter n) = replies_count run lane number (call_refusal live.standing (looked lane number (calls.Export context exporter n))) (looked lane number (calls.Export context exporter n)) refl
  call_count lane number (calls.Add name) =
      sym (ap (λ (o : Option CallRefusal). served_or o (items_of (looked lane number (calls.Add name))) 1) (looked_added lane number name))
  call_count lane number (calls.Retire name) =
      sym (ap (λ (o : Option CallRefusal). served_or o (items_of (looked lane number (calls.Retire name))) 1) (looked_retired lane number name))

  -- ---- the calls of a lane

  abbrev replies_from : ℕ → ℕ → List CallLine → List (List ℕ)
  replies_from lane number lines = all_lines (numbered (live_reply_lines live lane) number lines)

  abbrev asks_from : List CallLine → List Ask
  asks_from lines = map (ask_of run.plan run.contexts) lines

  lane_is : (lane number : ℕ) (lines : List CallLine) (guesses : List ℕ) → All (IsLine run.plan) (lane_from lane number lines) → length guesses ≡ guess_count (asks_from (lane_from lane number lines))
      → Keeps run lane number (asks_from (lane_from lane number lines)) guesses
      → all_lines (numbered (live_call_lines live lane) number lines)
      ≡ told_calls live.standing (lane_from lane number lines) (replies_from lane number lines) (opened run lane number (asks_from (lane_from lane number lines)) guesses)
  lane_is lane number [] guesses fits size keeps = refl
  lane_is lane number (call ∷ more) guesses fits size keeps =
      let here = looked lane number call in
      let later_lines = lane_from lane (number + 1) more in
      let refusal = call_refusal live.standing here in
      let p = part run lane number refusal here (asks_from later_lines) guesses (All-head (IsLine run.plan) here later_lines fits) size keeps in
      let rest = lane_is lane (number + 1) more p.later (All-tail (IsLine run.plan) here later_lines fits) p.size p.keeps in
      let replies = live_reply_lines live lane number call in
      let later = opened run lane (number + 1) (asks_from later_lines) p.later in
      let lines = call_is lane number call p.own p.lines p.kept in
      (λ i. lines i ++ rest i)
      ∙ append_assoc replies (map guess_line p.own) (told_calls live.standing later_lines (replies_from lane (number + 1) more) later)
      ∙ sym (calls_split live.standing here later_lines replies (replies_from lane (number + 1) more) p.own later (call_count lane number call) p.kept)
      ∙ ap (told_calls live.standing (here ∷ later_lines) (replies ++ replies_from lane (number + 1) more)) (sym p.opens)

  lane_count : (lane number : ℕ) (lines : List CallLine) → length (replies_from lane number lines) ≡ printed.lane_replies live.standing (lane_from lane number lines)
  lane_count lane number [] = refl
  lane_count lane number (call ∷ more) =
      length-append (live_reply_lines live lane number call) (replies_from lane (number + 1) more)
      ∙ (λ i. call_count lane number call i + lane_count lane (number + 1) more i)
      ∙ sym (sum_by-cons (call_replies live.standing) (looked lane number call) (lane_from lane (number + 1) more))

  -- ---- all lanes

  abbrev lanes_from : ℕ → List (List CallLine) → List (List CallLine)
  lanes_from k lanes = numbered (λ l lines. lane_from l 0 lines) k lanes

  fits : IsWithinLimits run.plan
  fits = looked_within live.plan live.notes within

  replies_size : (k : ℕ) (lanes : List (List CallLine)) → length (all_lines (numbered (live_lane_replies live) k lanes)) ≡ sum_by (printed.lane_replies live.standing) (lanes_from k lanes)
  replies_size k [] = refl
  replies_size k (lines ∷ lanes) =
      length-append (live_lane_replies live k lines) (all_lines (numbered (live_lane_replies live) (k + 1) lanes))
      ∙ (λ i. lane_count k 0 lines i + replies_size (k + 1) lanes i)
      ∙ sym (sum_by-cons (printed.lane_replies live.standing) (lane_from k 0 lines) (lanes_from (k + 1) lanes))

  -- as many replies as the calls have
  pub live_count : length (live_replies live) ≡ sum_by (printed.lane_replies live.standing) run.plan.lanes
  live_count = replies_size 0 live.plan.lanes

  module _ (counted : AreCounted run) where
    lanes_are : (k : ℕ) (lanes : List (List CallLine)) → drop k run.plan.lanes ≡ lanes_from k lanes
        → numbered (live_lane_lines live) k lanes
        ≡ told_lanes live.standing (lanes_from k lanes) (all_lines (numbered (live_lane_replies live) k lanes)) (numbered (own_opened run) k (lanes_from k lanes))
    lanes_are k [] is = refl
    lanes_are k (lines ∷ lanes) is =
        let s = drop_step run.plan.lanes (lanes_from (k + 1) lanes) k (lane_from k 0 lines) is in
        let l = lane_at run fits counted k (lane_from k 0 lines) s.0 in
        let r1 = live_lane_replies live k lines in
        let r2 = all_lines (numbered (live_lane_replies live) (k + 1) lanes) in
        (λ i. lane_is k 0 lines (guesses_of run k) l.lines l.size l.keeps i ∷ lanes_are (k + 1) lanes s.1 i)
        ∙ sym (lanes_split live.standing (lane_from k 0 lines) (lanes_from (k + 1) lanes) r1 r2 (own_opened run k (lane_from k 0 lines)) (numbered (own_opened run) (k + 1) (lanes_from (k + 1) lanes)) (lane_count k 0 lines))

    -- the replies and guesses are complete
    pub live_complete : length live.journals ≡ length live.plan.contexts → AreComplete run.plan live.standing (live_replies live) (all_opened run) live.journals
    live_complete size = record {
      count = live_count;
      kept = guesses_count run fits counted 0 run.plan.lanes refl;
      size = size;
    }

    -- and the text is theirs
    pub live_text_is : (keys : List KeyReply)
        → live_run_text keys live ≡ told_live_text live.plan keys live.replies live.standing (live_replies live) (all_opened run) live.journals live.notes
    live_text_is keys =
        ap (λ (lanes : List (List (List ℕ))). concat (live_lines (line_count live.plan) keys live.replies lanes live.journals live.notes)) (lanes_are 0 live.plan.lanes refl)

  -- ---- each reply is a line

  module _ (legal : (context : ℕ) → Legal (asks_of run) context (journal_of run context)) where
    one : (line : List ℕ) → IsReply line → All IsReply (line ∷ [])
    one line is = All-cons IsReply line [] is (All-nil IsReply)

    call_lines_are : (lane number : ℕ) (call : CallLine) → IsLine run.plan (looked lane number call) → slice_get (calls_of run lane) number ≡ Some (looked lane number call)
        → All IsReply (live_reply_lines live lane number call)
    call_lines_are lane number (calls.Seal context item) fit at = replies_are run fits legal lane number (looked lane number (calls.Seal context item)) fit at
    call_lines_are lane number (calls.Unseal context item) fit at = replies_are run fits legal lane number (looked lane number (calls.Unseal context item)) fit at
    call_lines_are lane number (calls.UnsealAll context first count) fit at = replies_are run fits legal lane number (looked lane number (calls.UnsealAll context first count)) fit at
    call_lines_are lane number (calls.Export context exporter n) fit at = replies_are run fits legal lane number (looked lane number (calls.Export context exporter n)) fit at
    call_lines_are lane number (calls.Add name) fit at = one _ (add_reply (slice_get live.replies (line_count live.plan + name)))
    call_lines_are lane number (calls.Retire name) fit at = one _ (retire_reply (was_live live.notes (place lane number 0)))

    lane_lines_are : (lane number : ℕ) (lines : List CallLine) → All (IsLine run.plan) (lane_from lane number lines) → drop number (calls_of run lane) ≡ lane_from lane number lines
        → All IsReply (replies_from lane number lines)
    lane_lines_are lane number [] fit is = All-nil IsReply
    lane_lines_are lane number (call ∷ more) fit is =
        let here = looked lane number call in
        let later = lane_from lane (number + 1) more in
        let s = drop_step (calls_of run lane) later number here is in
        All-append IsReply (live_reply_lines live lane number call) (replies_from lane (number + 1) more)
        (call_lines_are lane number call (All-head (IsLine run.plan) here later fit) s.0)
        (lane_lines_are lane (number + 1) more (All-tail (IsLine run.plan) here later fit) s.1)

    lanes_lines_are : (k : ℕ) (lanes : List (List CallLine)) → drop k run.plan.lanes ≡ lanes_from k lanes → All IsReply (all_lines (numbered (live_lane_replies live) k lanes))
    lanes_lines_are k [] is = All-nil IsReply
    lanes_lines_are k (lines ∷ lanes) is =
        let mine = lane_from k 0 lines in
        let s = drop_step run.plan.lanes (lanes_from (k + 1) lanes) k mine is in
        let low : k < length run.plan.lanes = slice_get_within run.plan.lanes k mine s.0 in
        let at : slice_index_or run.plan.lanes k [] ≡ mine = value_at run.plan.lanes k mine [] s.0 in
        All-append IsReply (live_lane_replies live k lines) (all_lines (numbered (live_lane_replies live) (k + 1) lanes))
        (lane_lines_are k 0 lines (subst (All (IsLine run.plan)) at (lines_of_limits run.plan k [] fits low)) at)
        (lanes_lines_are (k + 1) lanes s.1)

    pub live_replies_are_lines : All IsReply (live_replies live)
    live_replies_are_lines = lanes_lines_are 0 live.plan.lanes refl
