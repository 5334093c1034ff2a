-- The replies to a call that is done are those that it is due in the run of the core's last state.
use Rattle.std.proofs.Common.{◌≡◌, ◌<◌, ℕ, ◌+◌, List, [], ◌∷◌, ◌++◌, length, map, take, get_or, sym, refl, ap, ◌∙◌, subst, arith, Option, Some, None}
use Rattle.std.specs.Prelude.{slice_get, slice_index, sum_by}
use Rattle.std.proofs.lemmas.List.{get_or-append-add}
use Rattle.std.proofs.lemmas.Option.{slice_get-get_or, get_or_from_slice_get}
use Rattle.call_places.specs.declared.entries.Step.{Step}
use Rattle.call_places.specs.declared.spans.Item.{Item as Spans}
use Rattle.call_places.specs.declared.spans.Span.{Span}
use Rattle.call_places.specs.Spans.{span_bytes}
use Rattle.hpke_context.specs.Answers.{Cipher, Seal, Unseal, answer, run}
use Rattle.hpke_context.specs.Contexts.{ContextView, cipher_of, exported_by}
use Rattle.context_books.specs.Batches.{Ask, lane_of}
use Rattle.context_books.specs.Legal.{due_after}
use Rattle.context_books.specs.Guesses.{guess_of, guess_at, guess_count, missed}
use Rattle.context_books.specs.Entries.{numbers_from}
use Rattle.context_core.specs.Core.{Core}
use Rattle.context_books.specs.declared.book.Draw.{Draw}
use Rattle.context_books.specs.Openings.{unseals}
use Rattle.batch_plans.specs.declared.plan.Plan.{Plan}
use Rattle.batch_plans.specs.declared.plan.CallLine.{CallLine}
use Rattle.batch_plans.specs.declared.plan.CallLine.TheVariants as calls
use Rattle.batch_plans.specs.declared.replies.CallRefusal.{CallRefusal}
use Rattle.batch_plans.specs.declared.replies.Reply.TheVariants.{Refused}
use Rattle.batch_plans.specs.declared.replies.Batch.{Batch as Guess}
use Rattle.batch_plans.specs.Limits.{items_of, items_from}
use Rattle.batch_plans.specs.Within.{IsCallWithin, IsWithinLimits}
use Rattle.batch_plans.specs.Calls.{context_of}
use Rattle.batch_plans.specs.Room.{served_room, served_batches, opened_room}
use Rattle.batch_plans.specs.Progress.{Progress, with_reply}
use Rattle.batch_plans.specs.Lines.{exported_line, batch_line}
use Rattle.batch_plans.specs.AnswersText.{guess_line}
use Rattle.batch_plans.proofs.Rooms.{lane_within}
use Rattle.context_books.specs.Standing.{standing_at, call_refusal}
use Rattle.context_books.specs.ContextLines.{AreOfLines}
use Rattle.context_books.specs.Asks.{asked_by, ask_unless, ask_of, batch_of, cipher_at, cipher_in}
use Rattle.context_books.specs.Runs as runs
use Rattle.context_books.specs.Runs.{answer_line, call_lines, guesses_of}
use Rattle.context_books.proofs.CallLines.{export_lines, seal_lines, unseal_lines, unseal_all_lines}
use Rattle.context_books.specs.Lanes.{StandsBehind}
use Rattle.context_books.specs.LaneCalls.{lane_calls, opening_items, IsOpening}
use Rattle.context_books.specs.Writing.{due_at, PutsReplies}
use Rattle.context_books.specs.Answered.{KeepsUp}
use Rattle.context_books.proofs.Rooms.{FindsRoom}
use Rattle.context_books.proofs.Items.{one_line_each}
use Rattle.context_books.proofs.Within.{line_within, opening_count, opening_room}
use Rattle.context_books.proofs.KeepingUp.{keeps_up_begun, keeps_up_room, keeps_up_left, keeps_up_one, keeps_up_refused, keeps_up_all}
use Rattle.context_core.specs.declared.lanes.Lane.{Lane}
use Rattle.context_core.specs.declared.lanes.Stage.{Stage}
use Rattle.context_core.specs.declared.lanes.Stage.TheVariants.{Fresh}
use Rattle.context_core.specs.Following.{run_of, steps_at, with_guess, HasDrawn, HasSettled, KeepsGuess, IsDone, AllDone, MayReply}

-- the guess of an opening of several messages
guess_there : (asks : List Ask) (guesses before behind : List ℕ) (number guess : ℕ)
    → guesses ≡ before ++ guess ∷ behind → length before ≡ guess_count (take number asks)
    → guess_at asks guesses number ≡ guess
guess_there asks guesses before behind number guess is count =
    ap (λ gs. slice_index gs (guess_count (take number asks))) is
    ∙ ap (slice_index (before ++ guess ∷ behind)) (sym count
    ∙ (let e : length before ≡ length before + 0 = omega arith in e))
    ∙ get_or-append-add before (guess ∷ behind) 0 0

module _ (plan : Plan) (contexts : List (Option ContextView)) (w : Core) (l number : ℕ)
    (call : CallLine) (steps : List Step) (settled : ℕ) (stage : Stage) (p : Progress)
    (may : MayReply plan contexts w l number call steps settled stage p) where
  abbrev all : runs.Run
  all = run_of plan contexts w

  abbrev ciphers : ℕ → Cipher
  ciphers = cipher_at contexts

  -- ---- a call that is refused

  pub refused_left : (why : CallRefusal) → call_refusal contexts call ≡ Some why → 0 < p.left
  refused_left why is = keeps_up_left all may.standing l number call may.call_is p why may.keeps_up is

  pub refused_on : (new : Progress) (why : CallRefusal) → call_refusal contexts call ≡ Some why
      → new ≡ with_reply p (Refused why) → KeepsUp all l (number + 1) new
  refused_on new why is put =
      keeps_up_refused all may.standing l number call may.call_is p new why may.keeps_up is put

  -- ---- a call that is served

  pub fits : IsCallWithin (length plan.items) (length plan.pool) call
  fits = line_within plan l number call may.within may.there may.call_is

  pub finds_room : call_refusal contexts call ≡ None → FindsRoom plan call p
  finds_room free = keeps_up_room all may.standing l number call may.call_is p may.keeps_up free

  one_on : (new : Progress) (line : List ℕ) (size : ℕ) → call_refusal contexts call ≡ None
      → served_batches call ≡ 0 → served_room plan.items call ≡ size
      → PutsReplies p new size (line ∷ []) → call_lines all l number call ≡ line ∷ []
      → KeepsUp all l (number + 1) new
  one_on new line size free single room puts lines =
      keeps_up_one all may.standing l number call may.call_is p new line may.keeps_up free single
      (subst (λ n. PutsReplies p new n (line ∷ [])) (sym room) puts) lines

  -- an export
  pub exported_on : (context : ℕ) (exporter : Span) (size : ℕ) (view : ContextView) (new : Progress)
      → call ≡ calls.Export context exporter size → call_refusal contexts call ≡ None
      → standing_at contexts context ≡ Some view
      → PutsReplies p new size
      (exported_line (exported_by view (span_bytes plan.pool exporter) size) ∷ [])
      → KeepsUp all l (number + 1) new
  exported_on context exporter size view new is free stands puts =
      one_on new _ size free (ap served_batches is) (ap (served_room plan.items) is) puts
      (ap (call_lines all l number) is
      ∙ export_lines all l number context exporter size view
      (ap (call_refusal contexts) (sym is) ∙ free) stands)

  -- a seal
  pub sealed_on : (context : ℕ) (item : Spans) (view : ContextView) (drawn : Draw) (new : Progress)
      → call ≡ calls.Seal context item → standing_at contexts context ≡ Some view
      → HasDrawn plan contexts w l number call drawn
      → PutsReplies p new (item.text.len + 16)
      (answer_line (answer (cipher_of view) (due_at view.limit drawn)
      (Seal (span_bytes plan.pool item.aad) (span_bytes plan.pool item.text))) ∷ [])
      → KeepsUp all l (number + 1) new
  sealed_on context item view drawn new is stands d puts =
      let aad = span_bytes plan.pool item.aad in
      let text = span_bytes plan.pool item.text in
      let e = subst (λ (x : CallLine). HasDrawn plan contexts w l number x drawn) is d in
      let cipher : ciphers context ≡ cipher_of view = ap cipher_in stands in
      one_on new _ (item.text.len + 16) d.free (ap served_batches is)
      (ap (served_room plan.items) is) puts
      (ap (call_lines all l number) is
      ∙ seal_lines all l number context item e.front (may.call_is ∙ ap Some is) e.free e.stands
      ∙ ap (λ n. answer_line (answer (ciphers context) n (Seal aad text)) ∷ []) e.due
      ∙ ap (λ (x : Cipher). answer_line (answer x (due_at x.limit drawn) (Seal aad text)) ∷ [])
      cipher)

  -- ---- an opening

  abbrev items : List Spans
  items = opening_items plan call

  module _ (view : ContextView) (stands : standing_at contexts (context_of call) ≡ Some view)
      (guess first misses start : ℕ)
      (has : HasSettled plan contexts w l number call (steps_at plan call steps start) guess first
      misses) (keeps : KeepsGuess plan contexts l number call (guesses_of all l) guess) where
    cipher_of_call : ciphers (context_of call) ≡ cipher_of view
    cipher_of_call = ap cipher_in stands

    abbrev opened : List (List ℕ)
    opened = map answer_line (run (cipher_of view) first (unseals plan.pool items))

    -- by the kind of the call
    by_kind : (x : CallLine) → call ≡ x → (new mid : Progress)
        → PutsReplies p mid (served_room plan.items call) opened
        → new ≡ with_guess mid x (record { guess = guess; missed = misses })
        → KeepsUp all l (number + 1) new
    by_kind (calls.Unseal c item) is new mid puts kept =
        let aad = span_bytes plan.pool item.aad in
        let ct = span_bytes plan.pool item.text in
        let line : List ℕ = answer_line (answer (cipher_of view) first (Unseal aad ct)) in
        let one_line : opened ≡ line ∷ [] =
        ap (λ x. map answer_line (run (cipher_of view) first
        (unseals plan.pool (opening_items plan x)))) is in
        let cipher : ciphers c ≡ cipher_of view =
        ap (λ x. ciphers (context_of x)) (sym is) ∙ cipher_of_call in
        let due : due_after (batch_of plan contexts) (ciphers c) has.front ≡ first =
        ap (λ x. due_after (batch_of plan contexts) (ciphers (context_of x)) has.front) (sym is)
        ∙ has.due in
        let lines : call_lines all l number call ≡ line ∷ [] =
        ap (call_lines all l number) is
        ∙ unseal_lines all l number c item has.front (may.call_is ∙ ap Some is)
        (ap (call_refusal contexts) (sym is) ∙ has.opens.free)
        (subst (λ x. StandsBehind all l number (asked_by plan x) has.front) is has.stands)
        ∙ ap (λ n. answer_line (answer (ciphers c) n (Unseal aad ct)) ∷ []) due
        ∙ ap (λ (x : Cipher). answer_line (answer x first (Unseal aad ct)) ∷ []) cipher in
        one_on new line (served_room plan.items call) has.opens.free (ap served_batches is) refl
        (subst (λ ls. PutsReplies p new (served_room plan.items call) ls) one_line
        (subst (λ (q : Progress). PutsReplies p q (served_room plan.items call) opened) (sym kept)
        puts)) lines
    by_kind (calls.UnsealAll c f n) is new mid puts kept =
        let x : CallLine = calls.UnsealAll c f n in
        let within = subst (IsCallWithin (length plan.items) (length plan.pool)) is fits in
        let each : length opened ≡ n =
        one_line_each (cipher_of view) first plan.pool items
        ∙ opening_count plan call has.opens.opening fits ∙ ap items_of is in
        let cipher : ciphers c ≡ cipher_of view =
        ap (λ y. ciphers (context_of y)) (sym is) ∙ cipher_of_call in
        let named : items ≡ items_from plan.items f n = ap (opening_items plan) is in
        let due : due_after (batch_of plan contexts) (ciphers c) has.front ≡ first =
        ap (λ y. due_after (batch_of plan contexts) (ciphers (context_of y)) has.front) (sym is)
        ∙ has.due in
        let free : call_refusal contexts x ≡ None =
        ap (call_refusal contexts) (sym is) ∙ has.opens.free in
        let ask_is : ask_of plan contexts call ≡ asked_by plan x =
        ap (λ r. ask_unless r (asked_by plan call)) has.opens.free ∙ ap (asked_by plan) is in
        let guess_is = guess_there (lane_of (batch_of plan contexts) l) (guesses_of all l) keeps.before
        keeps.behind number guess
        (keeps.stands ∙ ap (λ y. keeps.before ++ (guess_of y guess ++ keeps.behind)) ask_is)
        keeps.count in
        let kept_guess : Guess = record { guess = guess; missed = misses } in
        let lines : call_lines all l number x ≡ opened ++ guess_line kept_guess ∷ [] =
        unseal_all_lines all l number c f n guess has.front within (may.call_is ∙ ap Some is) free
        (subst (λ y. StandsBehind all l number (asked_by plan y) has.front) is has.stands) guess_is
        ∙ (λ i. map answer_line (run (cipher i) (due i) (unseals plan.pool (sym named i)))
        ++ batch_line guess (missed guess 0
        (numbers_from (cipher i) (due i) (unseals plan.pool (sym named i)))) ∷ [])
        ∙ ap (λ (y : Cipher). opened ++ batch_line guess (missed guess 0
        (numbers_from y first (unseals plan.pool items))) ∷ []) (sym cipher_of_call)
        ∙ ap (λ m. opened ++ batch_line guess m ∷ []) (sym has.missed_is) in
        keeps_up_all all may.standing l number c f n (may.call_is ∙ ap Some is) p mid new opened
        kept_guess may.keeps_up free
        (subst (λ y. PutsReplies p mid (served_room plan.items y) opened) is puts)
        (omega arith) each kept lines
    by_kind call is new mid puts kept = absurd (subst IsOpening is has.opens.opening)

    pub opened_on : (new mid : Progress) → PutsReplies p mid (sum_by opened_room items) opened
        → new ≡ with_guess mid call (record { guess = guess; missed = misses })
        → KeepsUp all l (number + 1) new
    opened_on new mid puts kept =
        by_kind call refl new mid
        (subst (λ n. PutsReplies p mid n opened) (opening_room plan call has.opens.opening) puts) kept

-- ---- a lane whose calls are done

module _ (plan : Plan) (contexts : List (Option ContextView)) (within : IsWithinLimits plan)
    (standing : AreOfLines plan.contexts contexts) (l : ℕ) (there : l < length plan.lanes) (w : Core)
    (lane : Lane) (d : AllDone plan contexts w l lane) where
  -- before the first call is answered
  pub begun_up : KeepsUp (run_of plan contexts w) l 0 lane.progress
  begun_up = subst (KeepsUp (run_of plan contexts w) l 0) (sym d.progress)
      (keeps_up_begun (run_of plan contexts w) l (lane_within plan within l [] there))

  -- the next call may be answered
  pub may_reply : (k : ℕ) (calls : List CallLine) (call other : CallLine) (steps : List Step)
      (stage : Stage) (p : Progress) → lane_calls plan l ≡ calls → k < length calls
      → call ≡ get_or calls k other → steps ≡ lane.steps.items
      → stage ≡ get_or lane.done.items k stage → KeepsUp (run_of plan contexts w) l k p
      → MayReply plan contexts w l k call steps lane.settled stage p
  may_reply k calls call other steps stage p calls_are low call_is steps_are stage_is keeps =
      let at : slice_get (lane_calls plan l) k ≡ Some call =
      ap (λ cs. slice_get cs k) calls_are ∙ slice_get-get_or calls k other low
      ∙ ap Some (sym call_is) in
      let size = ap length calls_are in
      let noted : get_or lane.done.items k Fresh ≡ stage =
      get_or_from_slice_get lane.done.items k stage Fresh
      (slice_get-get_or lane.done.items k stage (let e = d.notes in omega arith)
      ∙ ap Some (sym stage_is)) in
      record {
        within = within;
        standing = standing;
        there = there;
        call_is = at;
        done = subst (λ (s : Stage). IsDone plan contexts w l
            (guesses_of (run_of plan contexts w) l) k call steps lane.settled s) noted
            (subst (λ xs. IsDone plan contexts w l (guesses_of (run_of plan contexts w) l) k call xs
            lane.settled (get_or lane.done.items k Fresh)) (sym steps_are) (d.each k call at));
        settled_low = (let e = ap length steps_are in let f = d.settled in omega arith);
        keeps_up = keeps;
      }
