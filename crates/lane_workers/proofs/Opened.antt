-- Openings, from what their functions say.
use Rattle.std.proofs.Common.{◌≡◌, ℕ, ◌+◌, ◌<◌, ◌≤◌, Bool, true, false, List, [], ◌∷◌, ◌++◌, length, map, take, drop, Option, Some, None, sym, refl, ap, ◌∙◌, subst, arith, append_assoc, Bor}
use Rattle.std.specs.Prelude.{slice_set}
use Rattle.std.proofs.lemmas.List.{length-map, set-set}
use Rattle.call_places.specs.declared.entries.Entry.{Entry}
use Rattle.call_places.specs.declared.entries.Place.{Place}
use Rattle.call_places.specs.declared.spans.Item.{Item as Spans}
use Rattle.call_places.specs.Messages.{SealedMessage}
use Rattle.call_places.specs.Spans.{span_bytes}
use Rattle.call_places.specs.Entries.{own, seq_of}
use Rattle.turn_lock.specs.Passes.{PassView}
use Rattle.stamp_counter.specs.Seats.{CounterView}
use Rattle.hpke_context.specs.Answers.{Answer, Unseal, Cipher, answer, run}
use Rattle.hpke_context.specs.Contexts.{ContextView, cipher_of}
use Rattle.context_books.specs.Batches.{Ask, ToOpenAll, block, unseal, items_in, context_in}
use Rattle.context_books.specs.Guesses.{missed}
use Rattle.context_books.specs.Entries.{entries_from, steps_from, numbers_from}
use Rattle.lane_workers.specs.Showing.{OpeningShows}
use Rattle.lane_workers.specs.OnTheWay.{AllReplied}
use Rattle.lane_workers.proofs.ShowingEntries.{own-append}
use Rattle.lane_workers.proofs.ShowingCalls.{opening_shows}
use Rattle.context_books.specs.Openings.{unseals, opening_steps}
use Rattle.shared_context.specs.Calls.{SharedView, HasCommitted}
use Rattle.speculative_open.specs.Tables.{TableView}
use Rattle.batch_plans.specs.declared.plan.Plan.{Plan}
use Rattle.batch_plans.specs.declared.plan.CallLine.{CallLine}
use Rattle.batch_plans.specs.declared.plan.CallLine.TheVariants as calls
use Rattle.batch_plans.specs.declared.replies.Batch.{Batch}
use Rattle.batch_plans.specs.Limits.{items_of, items_from}
use Rattle.batch_plans.specs.Within.{IsCallWithin}
use Rattle.batch_plans.specs.Calls.{context_of, keeps_guess}
use Rattle.batch_plans.specs.Room.{served_room, served_batches}
use Rattle.batch_plans.specs.Progress.{Progress, with_batch}
use Rattle.batch_plans.specs.Lines.{batch_line}
use Rattle.batch_plans.specs.AnswersText.{guess_line}
use Rattle.context_books.specs.Standing.{call_refusal}
use Rattle.context_books.specs.ContextLines.{export_limits}
use Rattle.context_books.specs.Asks.{ask_of, asked_by, cipher_at}
use Rattle.context_books.specs.Runs.{answer_line}
use Rattle.context_books.specs.Writing.{PutsReplies}
use Rattle.context_books.specs.Answered.{HasAnswered, HasRoomFor}
use Rattle.context_books.proofs.Answering.{answered_all}
use Rattle.context_books.proofs.Rooms.{room_after_all}
use Rattle.context_books.proofs.Items.{one_line_each}
use Rattle.lane_workers.specs.declared.works.LaneWork.{LaneWork}
use Rattle.lane_workers.specs.Served.{Told, told_lines, told_served}
use Rattle.context_books.specs.LaneCalls.{opening_items, IsOpening}
use Rattle.lane_workers.specs.Turns.{shared_at, pass_at, views, with_progress, Opens}
use Rattle.context_books.specs.LaneCalls as lanes
use Rattle.lane_workers.specs.Lanes.{told_done, IsPassAt, HasSeat, LaneIsAt, MayAnswer}
use Rattle.lane_workers.proofs.Onward.{TellsOn, pass_within, pass_same, replied, guess_told, turned}
use Rattle.lane_workers.proofs.Answering as answering
use Rattle.lane_workers.proofs.Answering.{next_within}
use Rattle.context_books.proofs.Misses.{few_missed}
use Rattle.context_books.proofs.Within.{opening_count, opening_few, opening_asks, opening_context, opening_room}
use Rattle.lane_workers.proofs.Found.{one_of}

replied_lines : (replies : Place → Answer) (ps : List Place) (xs : List Answer)
    → AllReplied replies ps xs → map (λ p. answer_line (replies p)) ps ≡ map answer_line xs
replied_lines replies [] [] t = refl
replied_lines replies [] (x ∷ xs) t = absurd t
replied_lines replies (p ∷ ps) [] t = absurd t
replied_lines replies (p ∷ ps) (x ∷ xs) t =
    let first = ap answer_line t.0 in
    let rest = replied_lines replies ps xs t.1 in
    (λ i. first i ∷ rest i)

abbrev is_several : Ask → Bool
is_several (ToOpenAll context messages) = true
is_several ask = false

-- an opening of several messages keeps its guess
keeps_several : (plan : Plan) (call : CallLine)
    → keeps_guess call ≡ is_several (asked_by plan call)
keeps_several plan (calls.UnsealAll context first count) = refl
keeps_several plan call = refl

module _ (plan : Plan) (contexts : List (Option SharedView)) (counter : Option (Bor CounterView))
    (k : ℕ) (call : CallLine) (w : LaneWork) (may : MayAnswer plan contexts counter k call w)
    (free : call_refusal (views contexts) call ≡ None) (s : SharedView)
    (stands : shared_at contexts (context_in (ask_of plan (views contexts) call)) ≡ Some s)
    (opening : IsOpening call) (new : LaneWork) (guess misses : ℕ)
    (o : Opens plan s w new k call guess misses) where
  abbrev lane : ℕ
  lane = w.lane

  abbrev stand : List (Option ContextView)
  stand = views contexts

  abbrev calls_here : List CallLine
  calls_here = lanes.lane_calls plan lane

  abbrev a : Ask
  a = ask_of plan stand call

  abbrev n : ℕ
  n = context_in a

  abbrev c : Cipher
  c = cipher_at stand n

  abbrev t : LaneIsAt plan contexts counter lane k w
  t = may.is_at

  abbrev items : List Spans
  items = opening_items plan call

  abbrev first : ℕ
  first = o.first

  ask_is : a ≡ asked_by plan call
  ask_is = answering.ask_is plan contexts counter k call w may free

  cipher_is : c ≡ cipher_of s.context
  cipher_is = answering.cipher_is plan contexts counter k call w may free s stands

  n_is : n ≡ context_of call
  n_is = ap context_in ask_is ∙ opening_context plan call opening

  items_is : items_in a ≡ unseals plan.pool items
  items_is = ap items_in ask_is ∙ opening_asks plan call opening

  count : length items ≡ items_of call
  count = opening_count plan call opening (answering.fits plan contexts counter k call w may)

  few : length items ≤ 65536
  few = let f = opening_few plan call (answering.fits plan contexts counter k call w may) in
      let i = count in omega arith

  -- ---- the passes

  abbrev old : PassView
  old = o.guesses.pass

  abbrev seen_then : PassView
  seen_then = o.guesses.after

  was : pass_at w.passes.items n ≡ Some old
  was = ap (pass_at w.passes.items) n_is ∙ o.guesses.was

  of : IsPassAt s lane k old
  of = answering.pass_known plan contexts counter k call w may free s stands old was

  low : context_of call < length w.passes.items
  low = pass_within w.passes.items (context_of call) old o.guesses.was

  same_pass : o.commits.pass ≡ seen_then
  same_pass = one_of o.commits.pass seen_then
      (sym o.commits.was ∙ ap (λ ps. pass_at ps (context_of call)) o.guesses.passes
      ∙ pass_same w.passes.items (context_of call) seen_then low)

  committed : HasCommitted seen_then o.commits.after o.commits.seat o.commits.back k
      (opening_steps s.context first plan.pool items) first
  committed = subst (λ (x : PassView). HasCommitted x o.commits.after o.commits.seat o.commits.back k
      (opening_steps s.context first plan.pool items) first) same_pass o.commits.has_committed

  abbrev os : List Entry
  os = o.guesses.has_guessed.others.0 ++ committed.others.0

  number_then : seen_then.number ≡ lane
  number_then = o.guesses.has_guessed.after.number ∙ of.number

  first_none : own lane o.guesses.has_guessed.others.0 ≡ []
  first_none = subst (λ i. own i o.guesses.has_guessed.others.0 ≡ []) of.number
      o.guesses.has_guessed.others.2

  last_none : own lane committed.others.0 ≡ []
  last_none = subst (λ i. own i committed.others.0 ≡ []) number_then committed.others.2

  both_seen : seen_then.seen ++ committed.others.0 ≡ old.seen ++ os
  both_seen = ap (λ es. es ++ committed.others.0) o.guesses.has_guessed.others.1
      ∙ append_assoc old.seen o.guesses.has_guessed.others.0 committed.others.0

  due_is : first ≡ seq_of (old.seen ++ os)
  due_is = committed.due ∙ ap seq_of (committed.others.1 ∙ both_seen)

  steps_is : opening_steps s.context first plan.pool items ≡ steps_from c first (items_in a)
  steps_is = (λ i. steps_from (sym cipher_is i) first (sym items_is i))

  misses_is : missed guess 0 (numbers_from c first (items_in a)) ≡ misses
  misses_is = (λ i. missed guess 0 (numbers_from (cipher_is i) first (items_is i)))
      ∙ ap (λ g. missed g 0 (numbers_from (cipher_of s.context) first (unseals plan.pool items)))
      (sym o.guess_is)
      ∙ sym o.commits.missed_is

  opens : (messages : List SealedMessage) → a ≡ ToOpenAll n messages
      → OpeningShows c ((old.seen ++ os)
      ++ entries_from lane k 0 committed.first (steps_from c first (items_in a))) lane k
      (map unseal messages) guess misses
  opens messages is =
      let ms = map unseal messages in
      let keeps = keeps_several plan call ∙ ap is_several (sym ask_is ∙ is) in
      let fs = committed.first in
      let peeked = seen_then.seen in
      let base = opening_shows c peeked committed.others.0 lane k fs ms last_none in
      let one = subst (λ es. OpeningShows c
      (es ++ entries_from lane k 0 fs (steps_from c (seq_of es) ms)) lane k ms (seq_of peeked)
      (missed (seq_of peeked) 0 (numbers_from c (seq_of es) ms))) both_seen base in
      let two = subst (λ d. OpeningShows c
      ((old.seen ++ os) ++ entries_from lane k 0 fs (steps_from c d ms)) lane k ms (seq_of peeked)
      (missed (seq_of peeked) 0 (numbers_from c d ms))) (sym due_is) one in
      let three = subst (λ g. OpeningShows c
      ((old.seen ++ os) ++ entries_from lane k 0 fs (steps_from c first ms)) lane k ms g
      (missed g 0 (numbers_from c first ms))) (sym (o.guesses.has_guessed.due keeps)) two in
      let four = subst (λ xs. OpeningShows c
      ((old.seen ++ os) ++ entries_from lane k 0 fs (steps_from c first xs)) lane k ms guess
      (missed guess 0 (numbers_from c first xs))) (sym (ap items_in is)) three in
      subst (OpeningShows c
      ((old.seen ++ os) ++ entries_from lane k 0 fs (steps_from c first (items_in a))) lane k ms guess)
      misses_is four

  -- ---- the lane

  opened_on : (p : Progress)
      → ((told : Told) → TellsOn plan contexts counter lane k call may.at w t
      (run c first (items_in a)) guess misses told
      → HasAnswered (take k calls_here) (told_done plan stand told lane k) w.progress
      → HasAnswered (take k calls_here ++ call ∷ [])
      (told_done plan stand told lane k ++ told_lines plan stand told lane k call) p)
      → HasRoomFor plan (export_limits stand) (drop (k + 1) calls_here) p
      → LaneIsAt plan contexts counter lane (k + 1) (with_progress o.committed p)
  opened_on p answered room =
      let cm = committed in
      let seat_had : w.seat ≡ Some o.commits.seat = sym o.guesses.seat ∙ o.commits.had in
      let lock_then : seen_then.lock ≡ s.lock = o.guesses.has_guessed.after.lock ∙ of.of in
      let size : length (opening_steps s.context first plan.pool items)
      ≡ length (steps_from c first (items_in a)) = ap length steps_is in
      turned plan contexts counter lane k call may.at w t (with_progress o.committed p) old
      o.commits.after s os cm.first first guess misses (record {
        stands = stands;
        was = was;
        passes = o.commits.passes
            ∙ ap (λ ps. slice_set ps (context_of call) (Some o.commits.after)) o.guesses.passes
            ∙ set-set w.passes.items (context_of call) (Some seen_then) (Some o.commits.after)
            ∙ ap (λ j. slice_set w.passes.items j (Some o.commits.after)) (sym n_is);
        of_others = own-append lane o.guesses.has_guessed.others.0 cm.others.0
            ∙ (λ i. first_none i ++ last_none i);
        due_is = due_is;
        enough = (let known = answering.low_known plan contexts counter k call w may free s stands
            o.commits.seat seat_had in let least = cm.stamps.least in omega arith);
        seen_is = cm.added
            ∙ (λ i. (cm.others.1 ∙ both_seen) i ++ entries_from (number_then i) k 0 cm.first
            (steps_is i));
        pass_is = record {
          of = cm.after.lock ∙ lock_then;
          number = cm.after.number ∙ number_then;
          turns = (let x = cm.after.turns in let y = o.guesses.has_guessed.after.turns in
              let z = of.turns in omega arith);
          next = (let before = o.guesses.has_guessed.next_call in let late = of.next in
              let x = cm.next_call in
              let most = next_within seen_then.number k 0 cm.first seen_then.next_call
              (opening_steps s.context first plan.pool items) (omega arith) in omega arith);
        };
        opens = opens;
        answered = answered;
        room = room;
        lane_same = o.commits.same.lane ∙ o.guesses.same.lane;
        seat = subst (HasSeat counter (cm.first + length (steps_from c first (items_in a))))
            (sym o.commits.seat_is)
            (subst (λ i. HasSeat counter (cm.first + i) (Some o.commits.back)) size
            (answering.seat_after plan contexts counter k call w may free s stands seen_then.lock
            o.commits.seat o.commits.back cm.before cm.first
            (length (opening_steps s.context first plan.pool items)) lock_then cm.stamps));
        rows = ap (λ (x : TableView). x.room) o.commits.same.table ∙ o.rows;
        steps = o.commits.room ∙ ap length o.guesses.steps;
        checks = (let x = o.commits.checks in let y = o.guesses.checks in
            let most = few_missed s.context first plan.pool items o.table.guess in
            let is = o.commits.missed_is in let i = few in omega arith);
      })

  puts_here : PutsReplies w.progress o.progress (served_room plan.items call)
      (map answer_line (run (cipher_of s.context) first (unseals plan.pool items)))
  puts_here = subst (λ i. PutsReplies w.progress o.progress i
      (map answer_line (run (cipher_of s.context) first (unseals plan.pool items))))
      (opening_room plan call opening) o.puts

  run_is : run c first (items_in a) ≡ run (cipher_of s.context) first (unseals plan.pool items)
  run_is = (λ i. run (cipher_is i) first (items_is i))

  -- ---- an opening of one message

  pub unsealed_on : (number : ℕ) (item : Spans) → call ≡ calls.Unseal number item
      → LaneIsAt plan contexts counter lane (k + 1) new
  unsealed_on number item is =
      let ct = span_bytes plan.pool item.text in
      let aad = span_bytes plan.pool item.aad in
      let reply = answer (cipher_of s.context) first (Unseal aad ct) in
      let line = answer_line reply in
      let one : run (cipher_of s.context) first (unseals plan.pool items) ≡ reply ∷ [] =
      ap (λ x. run (cipher_of s.context) first (unseals plan.pool (opening_items plan x))) is in
      let put = subst (λ xs. PutsReplies w.progress o.progress (served_room plan.items call)
      (map answer_line xs)) one puts_here in
      subst (LaneIsAt plan contexts counter lane (k + 1)) (sym o.new_is)
      (opened_on o.progress
      (λ told tells before. answering.one_more plan contexts counter k call w may free told o.progress
      line (ap served_batches is) put
      (ap (told_served plan stand told lane k) is
      ∙ ap (λ x. answer_line x ∷ [])
      (subst (λ xs. AllReplied told.replies (block lane k 0 (length xs)) xs) (run_is ∙ one)
      (replied plan contexts counter lane k call may.at w t (run c first (items_in a)) guess misses
      told tells)).0) before)
      (answering.room_one plan contexts counter k call w may free o.progress line
      (ap served_batches is) (ap items_of is) put))

  -- ---- an opening of several

  pub opened_all_on : (number f count : ℕ) (p : Progress)
      → call ≡ calls.UnsealAll number f count
      → p ≡ with_batch o.progress (record { guess = guess; missed = misses })
      → LaneIsAt plan contexts counter lane (k + 1) (with_progress o.committed p)
  opened_all_on number f many p is kept =
      let lines = map answer_line (run (cipher_of s.context) first (unseals plan.pool items)) in
      let batch : Batch = record { guess = guess; missed = misses } in
      let fit = subst (IsCallWithin (length plan.items) (length plan.pool)) is
      (answering.fits plan contexts counter k call w may) in
      let each : length lines ≡ many =
      one_line_each (cipher_of s.context) first plan.pool items ∙ count ∙ ap items_of is in
      let size : length (run c first (items_in a)) ≡ many =
      ap length run_is ∙ sym (length-map (run (cipher_of s.context) first (unseals plan.pool items))
      answer_line) ∙ each in
      let all_is : a ≡ ToOpenAll n (Rattle.call_places.specs.Messages.sealed_messages plan.pool
      (items_from plan.items f many)) =
      ask_is ∙ ap (asked_by plan) is ∙ ap (λ j. ToOpenAll j
      (Rattle.call_places.specs.Messages.sealed_messages plan.pool (items_from plan.items f many)))
      (sym (n_is ∙ ap context_of is)) in
      let some : 0 < many = (let x = fit.1 in omega arith) in
      let same = answering.same_refusals plan contexts counter k call w may in
      opened_on p
      (λ told tells before.
      let guessed = guess_told plan contexts counter lane k call may.at w t
      (run c first (items_in a)) guess misses told tells _ all_is in
      let replies : map (λ q. answer_line (told.replies q)) (block lane k 0 many) ≡ lines =
      replied_lines told.replies (block lane k 0 many)
      (run (cipher_of s.context) first (unseals plan.pool items))
      (subst (λ xs. AllReplied told.replies (block lane k 0 many) xs) run_is
      (subst (λ i. AllReplied told.replies (block lane k 0 i) (run c first (items_in a))) size
      (replied plan contexts counter lane k call may.at w t (run c first (items_in a)) guess misses
      told tells))) in
      let here : told_lines plan stand told lane k call ≡ lines ++ guess_line batch ∷ [] =
      answering.lines_are plan contexts counter k call w may free told
      ∙ ap (told_served plan stand told lane k) is
      ∙ (λ i. replies i ++ batch_line (guessed.0 i) (guessed.1 i) ∷ []) in
      subst (λ ls. HasAnswered (take k calls_here ++ call ∷ [])
      (told_done plan stand told lane k ++ ls) p) (sym here)
      (subst (λ x. HasAnswered (take k calls_here ++ x ∷ [])
      (told_done plan stand told lane k ++ (lines ++ guess_line batch ∷ [])) p) (sym is)
      (answered_all (take k calls_here) (told_done plan stand told lane k) w.progress o.progress p
      number f many (served_room plan.items call) lines batch before some each puts_here kept)))
      (room_after_all plan (export_limits stand) call (drop (k + 1) calls_here) w.progress o.progress p
      lines batch (answering.to_come plan contexts counter k call w may) (same ∙ free)
      (ap served_batches is) puts_here (each ∙ sym (ap items_of is)) kept)
