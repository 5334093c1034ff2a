-- A call of each kind, from what its functions say.
use Rattle.std.proofs.Common.{◌≡◌, ◌↔◌, ℕ, zero, suc, ◌+◌, ◌<◌, ◌≤◌, List, [], ◌∷◌, ◌++◌, length, take, drop, Option, Some, None, sym, refl, ap, ◌∙◌, subst, arith, length-append, Bor}
use Rattle.std.specs.Prelude.{slice_index, slice_set, MatchOption}
use Rattle.std.proofs.lemmas.List.{length-map}
use Rattle.call_places.specs.declared.entries.Entry.{Entry}
use Rattle.call_places.specs.declared.entries.Step.{Step}
use Rattle.call_places.specs.declared.spans.Item.{Item as Spans}
use Rattle.call_places.specs.declared.spans.Span.{Span}
use Rattle.call_places.specs.Messages.{SealedMessage}
use Rattle.call_places.specs.Spans.{span_bytes}
use Rattle.call_places.specs.Entries.{own, seq_of}
use Rattle.turn_lock.specs.Passes.{LockId, PassView, next_after}
use Rattle.stamp_counter.specs.Seats.{SeatView, CounterView}
use Rattle.hpke_context.specs.Answers.{Seal, Cipher, answer, run}
use Rattle.hpke_context.specs.Contexts.{ContextView, cipher_of, exported_by}
use Rattle.context_books.specs.Batches.{Ask, ToSeal, ToOpenAll, block, place, asked, on, items_in, context_in}
use Rattle.context_books.specs.Merging.{all_asked, lane_places}
use Rattle.speculative_open.specs.Tables.{TableView}
use Rattle.context_books.specs.Entries.{entry, entries_from, steps_from}
use Rattle.context_books.specs.Histories.{entry_places}
use Rattle.context_books.proofs.Lists.{on-append, on-spots_same, all_asked-append}
use Rattle.context_books.proofs.OneLane.{parted, few_taken}
use Rattle.lane_workers.specs.OnTheWay.{AllReplied}
use Rattle.context_books.specs.declared.book.Draw.{Draw}
use Rattle.context_books.specs.declared.book.Draw.TheVariants.{Number, Limit}
use Rattle.context_books.specs.Books.{drawn_step}
use Rattle.context_books.proofs.Blocks.{length-block}
use Rattle.shared_context.specs.Stamped.{IsNote, ComesAfter}
use Rattle.shared_context.specs.Calls.{SharedView}
use Rattle.batch_plans.specs.declared.plan.Plan.{Plan}
use Rattle.batch_plans.specs.declared.plan.CallLine.{CallLine}
use Rattle.batch_plans.specs.declared.plan.CallLine.TheVariants as calls
use Rattle.batch_plans.specs.declared.replies.CallRefusal.{CallRefusal}
use Rattle.batch_plans.specs.declared.replies.Reply.TheVariants.{Refused}
use Rattle.batch_plans.specs.Limits.{items_of}
use Rattle.batch_plans.specs.Within.{IsCallWithin}
use Rattle.batch_plans.specs.Calls.{context_of, refusal}
use Rattle.batch_plans.specs.Room.{served_room, served_batches}
use Rattle.batch_plans.specs.Progress.{Progress, with_reply}
use Rattle.batch_plans.specs.Lines.{exported_line}
use Rattle.context_books.specs.Standing.{standing_at, refusal_on, call_refusal}
use Rattle.context_books.specs.ContextLines.{export_limits}
use Rattle.context_books.specs.Asks.{ask_of, ask_unless, asked_by, cipher_at, cipher_in}
use Rattle.context_books.specs.Runs.{answer_line, export_line, lines_unless}
use Rattle.context_books.proofs.Refusals.{refusal_agrees}
use Rattle.context_books.specs.Writing.{due_at, PutsReplies}
use Rattle.context_books.specs.Answered.{HasAnswered, HasRoomFor}
use Rattle.context_books.proofs.Answering.{answered_one, answered_refused}
use Rattle.context_books.proofs.Rooms.{FindsRoom, room_drop, room_served, room_refused, room_after, room_after_refused}
use Rattle.context_books.proofs.Draws.{due_at-drawn, drawn_steps}
use Rattle.lane_workers.specs.declared.works.LaneWork.{LaneWork}
use Rattle.lane_workers.specs.Served.{Told, told_lines, told_served, seen_by}
use Rattle.lane_workers.specs.Turns.{shared_at, pass_at, view_in, view_of, views, with_progress, CanTurn, Draws}
use Rattle.context_books.specs.LaneCalls as lanes
use Rattle.lane_workers.specs.Lanes.{asks_of, told_done, IsPassAt, HasSeat, LaneIsAt, IsShared, MayAnswer}
use Rattle.lane_workers.proofs.Going.{ask_here}
use Rattle.lane_workers.proofs.Onward.{pass_within, replied, still, turned}
use Rattle.lane_workers.proofs.Told.{told_now, tells_now}
use Rattle.context_books.proofs.Within.{call_low, line_within, span_size}
use Rattle.lane_workers.proofs.Found.{one_of}

-- ---- contexts that stand

pub standing_is : (contexts : List (Option SharedView)) (d : ℕ) (s : SharedView)
    → shared_at contexts d ≡ Some s → standing_at (views contexts) d ≡ Some s.context
standing_is [] d s e = absurd (let f : None ≡ Some s = e in cc)
standing_is (o ∷ os) zero s e = ap view_in e
standing_is (o ∷ os) (suc d) s e = standing_is os d s e

pub standing_view : (contexts : List (Option SharedView)) (d : ℕ)
    → standing_at (views contexts) d ≡ view_in (shared_at contexts d)
standing_view [] d = refl
standing_view (o ∷ os) zero = refl
standing_view (o ∷ os) (suc d) = standing_view os d

-- why a call is refused, by the context that was found for it
pub refusal_here : (contexts : List (Option SharedView)) (call : CallLine) (number : ℕ)
    (o : Option (Bor SharedView)) → number ≡ context_of call
    → MatchOption o (shared_at contexts number ≡ None) (λ s. shared_at contexts number ≡ Some s.now)
    → refusal_on (view_of o) call ≡ call_refusal (views contexts) call
refusal_here contexts call number o is found =
    ap (λ x. refusal_on x call) (step o found ∙ sym (standing_view contexts number)
    ∙ ap (standing_at (views contexts)) is)
  where
    step : (o : Option (Bor SharedView))
        → MatchOption o (shared_at contexts number ≡ None) (λ s. shared_at contexts number ≡ Some s.now)
        → view_of o ≡ view_in (shared_at contexts number)
    step None found = ap view_in (sym found)
    step (Some s) found = ap view_in (sym found)

-- ---- passes

-- one above the last call, where it is this one
pub next_within : (l k i stamp next : ℕ) (steps : List Step) → next ≤ k
    → next_after next (entries_from l k i stamp steps) ≤ k + 1
next_within l k i stamp next [] low = omega arith
next_within l k i stamp next (x ∷ []) low = omega arith
next_within l k i stamp next (x ∷ y ∷ steps) low =
    next_within l k (i + 1) (stamp + 1) next (y ∷ steps) low

module _ (plan : Plan) (contexts : List (Option SharedView)) (counter : Option (Bor CounterView))
    (k : ℕ) (call : CallLine) (w : LaneWork) (may : MayAnswer plan contexts counter k call w) where
  abbrev lane : ℕ
  lane = w.lane

  abbrev stand : List (Option ContextView)
  stand = views contexts

  abbrev calls_here : List CallLine
  calls_here = lanes.lane_calls plan lane

  abbrev asks : List Ask
  asks = asks_of plan stand lane

  abbrev a : Ask
  a = ask_of plan stand call

  abbrev n : ℕ
  n = context_in a

  abbrev c : Cipher
  c = cipher_at stand n

  abbrev limits : List ℕ
  limits = export_limits stand

  abbrev t : LaneIsAt plan contexts counter lane k w
  t = may.is_at

  pub low_call : k < 65536
  low_call = call_low plan lane k call may.shared.within may.there may.at

  pub fits : IsCallWithin (length plan.items) (length plan.pool) call
  fits = line_within plan lane k call may.shared.within may.there may.at

  pub same_refusals : refusal plan.contexts limits call ≡ call_refusal stand call
  same_refusals = refusal_agrees plan.contexts stand call may.shared.of_lines

  pub to_come : HasRoomFor plan limits (call ∷ drop (k + 1) calls_here) w.progress
  to_come = room_drop plan limits calls_here k call w.progress may.at t.room

  -- ---- a call that is refused

  module _ (why : CallRefusal) (refused : call_refusal stand call ≡ Some why) where
    pub refused_left : 0 < w.progress.left
    refused_left = room_refused plan limits call (drop (k + 1) calls_here) w.progress why to_come
        (same_refusals ∙ refused)

    pub refused_on : (p : Progress) → p ≡ with_reply w.progress (Refused why)
        → LaneIsAt plan contexts counter lane (k + 1) (with_progress w p)
    refused_on p put =
        still plan contexts counter lane k call may.at w t (with_progress w p)
        (ap (λ r. ask_unless r (asked_by plan call)) refused)
        (λ told before. subst (λ ls. HasAnswered (take k calls_here ++ call ∷ [])
        (told_done plan stand told lane k ++ ls) p)
        (sym (ap (λ r. lines_unless r (told_served plan stand told lane k call)) refused))
        (answered_refused (take k calls_here) (told_done plan stand told lane k) w.progress p call why
        before put))
        (room_after_refused plan limits call (drop (k + 1) calls_here) w.progress p why to_come
        (same_refusals ∙ refused) put) refl refl refl refl refl refl

  -- ---- a call that is served

  module _ (free : call_refusal stand call ≡ None) where
    pub finds_room : FindsRoom plan call w.progress
    finds_room = room_served plan limits call (drop (k + 1) calls_here) w.progress to_come
        (same_refusals ∙ free)

    pub ask_is : a ≡ asked_by plan call
    ask_is = ap (λ r. ask_unless r (asked_by plan call)) free

    pub lines_are : (told : Told) → told_lines plan stand told lane k call
        ≡ told_served plan stand told lane k call
    lines_are told = ap (λ r. lines_unless r (told_served plan stand told lane k call)) free

    pub one_more : (told : Told) (p : Progress) (line : List ℕ) → served_batches call ≡ 0
        → PutsReplies w.progress p (served_room plan.items call) (line ∷ [])
        → told_served plan stand told lane k call ≡ line ∷ []
        → HasAnswered (take k calls_here) (told_done plan stand told lane k) w.progress
        → HasAnswered (take k calls_here ++ call ∷ [])
        (told_done plan stand told lane k ++ told_lines plan stand told lane k call) p
    one_more told p line single puts lines before =
        subst (λ ls. HasAnswered (take k calls_here ++ call ∷ [])
        (told_done plan stand told lane k ++ ls) p) (sym (lines_are told ∙ lines))
        (answered_one (take k calls_here) (told_done plan stand told lane k) w.progress p call
        (served_room plan.items call) line before single puts)

    pub room_one : (p : Progress) (line : List ℕ) → served_batches call ≡ 0 → items_of call ≡ 1
        → PutsReplies w.progress p (served_room plan.items call) (line ∷ [])
        → HasRoomFor plan limits (drop (k + 1) calls_here) p
    room_one p line single one puts =
        room_after plan limits call (drop (k + 1) calls_here) w.progress p (line ∷ []) to_come
        (same_refusals ∙ free) single puts (let e : 1 ≡ items_of call = sym one in e)

    -- an export
    pub exported_on : (context : ℕ) (exporter : Span) (size : ℕ) (view : ContextView) (p : Progress)
        → call ≡ calls.Export context exporter size → standing_at stand context ≡ Some view
        → PutsReplies w.progress p size
        (exported_line (exported_by view (span_bytes plan.pool exporter) size) ∷ [])
        → LaneIsAt plan contexts counter lane (k + 1) (with_progress w p)
    exported_on context exporter size view p is stands puts =
        let line = exported_line (exported_by view (span_bytes plan.pool exporter) size) in
        let put = subst (λ i. PutsReplies w.progress p i (line ∷ []))
        (sym (ap (served_room plan.items) is)) puts in
        still plan contexts counter lane k call may.at w t (with_progress w p)
        (ask_is ∙ ap (asked_by plan) is)
        (λ told before. one_more told p line (ap served_batches is) put
        (ap (told_served plan stand told lane k) is
        ∙ ap (λ o. export_line o (span_bytes plan.pool exporter) size ∷ []) stands) before)
        (room_one p line (ap served_batches is) (ap items_of is) put) refl refl refl refl refl refl

    -- ---- turns at its context

    module _ (s : SharedView) (stands : shared_at contexts n ≡ Some s) where
      pub cipher_is : c ≡ cipher_of s.context
      cipher_is = ap cipher_in (standing_is contexts n s stands)

      abbrev here : IsShared plan stand counter n s
      here = may.shared.each n s stands

      -- the lane has room for the call's entries
      quota_left : (p : PassView) → pass_at w.passes.items n ≡ Some p
          → length (own lane p.seen) + length (items_in a)
          ≤ slice_index s.lock.terms.quotas lane
      quota_left p is =
          let told = told_now t.given t.guesses t.misses in
          let tells = tells_now lane t.given t.guesses t.misses in
          let shown = (t.says told tells).shows n in
          let before : length (own lane p.seen) ≡ length (lane_places n lane (take k asks)) =
          sym (length-map (own lane p.seen) (λ (e : Entry). e.place))
          ∙ ap (λ o. length (entry_places (own lane (seen_by o)))) (sym is) ∙ ap length shown.places in
          let at = ask_here plan stand lane k call may.at in
          let rest = all_asked lane (k + 1) (drop (k + 1) asks) in
          let count : 0 + length (take k asks) ≡ k =
          (let f = few_taken asks k a at in omega arith) in
          let whole : all_asked lane 0 asks
          ≡ all_asked lane 0 (take k asks) ++ (asked lane k a ++ rest) =
          ap (all_asked lane 0) (parted asks k a at)
          ∙ all_asked-append lane 0 (take k asks) (a ∷ drop (k + 1) asks)
          ∙ ap (λ i. all_asked lane 0 (take k asks) ++ all_asked lane i (a ∷ drop (k + 1) asks)) count in
          let mine : length (on n (asked lane k a)) ≡ length (items_in a) =
          ap length (on-spots_same n (block lane k 0 (length (items_in a))))
          ∙ length-block lane k 0 (length (items_in a)) in
          let all : length (lane_places n lane asks)
          ≡ length (on n (all_asked lane 0 (take k asks))) + (length (items_in a) + length (on n rest)) =
          ap (λ ss. length (on n ss)) whole
          ∙ ap length (on-append n (all_asked lane 0 (take k asks)) (asked lane k a ++ rest)
          ∙ ap (λ ps. on n (all_asked lane 0 (take k asks)) ++ ps) (on-append n (asked lane k a) rest))
          ∙ length-append (on n (all_asked lane 0 (take k asks))) (on n (asked lane k a) ++ on n rest)
          ∙ ap (λ i. length (on n (all_asked lane 0 (take k asks))) + i)
          (length-append (on n (asked lane k a)) (on n rest) ∙ ap (λ i. i + length (on n rest)) mine) in
          let quota : length (lane_places n lane asks) ≤ slice_index s.lock.terms.quotas lane =
          here.quotas lane may.there in
          omega arith

      pub may_turn : (count : ℕ) → count ≤ length (items_in a) → CanTurn w s counter n k count
      may_turn count few =
          let p = t.passes n s stands in
          let q : PassView = p.0 in
          let of : IsPassAt s lane k q = p.2 in
          let counted = here.counted in
          let seat = t.seat counted.0 counted.1 in
          let left = quota_left q p.1 in
          let turns = of.turns in
          let low = low_call in
          let size = here.lanes in
          let there = may.there in
          record {
            pass = q;
            holds = p.1;
            low = pass_within w.passes.items n q p.1;
            may = record {
              of = of.of;
              turns = omega arith;
              late = of.next;
              call_fits = omega arith;
              lane = subst (λ i. i < length s.lock.terms.quotas) (sym of.number) (omega arith);
              room = subst (λ i. length (own i q.seen) + count ≤ slice_index s.lock.terms.quotas i)
                  (sym of.number) (omega arith);
            };
            turns = omega arith;
            seat = seat.0;
            has = seat.1;
            stamps = counted.0;
            counter_is = counted.1;
            same = counted.2;
            note = seat.2;
          }

      pub pass_known : (p : PassView) → pass_at w.passes.items n ≡ Some p → IsPassAt s lane k p
      pass_known p was =
          let o = t.passes n s stands in
          subst (IsPassAt s lane k) (one_of o.0 p (sym o.1 ∙ was)) o.2

      pub low_known : (old : SeatView) → w.seat ≡ Some old → t.low ≤ old.low
      low_known old had =
          let o = t.seat here.counted.0 here.counted.1 in
          subst (λ (x : SeatView). t.low ≤ x.low) (one_of o.0 old (sym o.1 ∙ had)) o.3

      -- the seat that a turn gives back knows of its stamps
      pub seat_after : (lock : LockId) (old back : SeatView) (before : List Entry) (first count : ℕ)
          → lock ≡ s.lock → ComesAfter lock.terms.counter old back before first count
          → HasSeat counter (first + count) (Some back)
      seat_after lock old back before first count of after = λ stamps is.
          let counted = here.counted in
          let id = ap (λ (l : LockId). l.terms.counter) of ∙ counted.2
          ∙ ap (λ (x : Bor CounterView). x.now.id)
          (one_of counted.0 stamps (sym counted.1 ∙ is)) in
          (back, refl, subst (λ i. IsNote i back) id after.note, after.above)

      -- ---- a seal

      pub sealed_on : (number : ℕ) (item : Spans) (mid : LaneWork) (drawn : Draw) (p : Progress)
          → call ≡ calls.Seal number item → Draws w mid number k drawn
          → PutsReplies w.progress p (length (span_bytes plan.pool item.text) + 16)
          (answer_line (answer (cipher_of s.context) (due_at s.context.limit drawn)
          (Seal (span_bytes plan.pool item.aad) (span_bytes plan.pool item.text))) ∷ [])
          → LaneIsAt plan contexts counter lane (k + 1) (with_progress mid p)
      sealed_on number item mid drawn p is d puts =
          let aad = span_bytes plan.pool item.aad in
          let text = span_bytes plan.pool item.text in
          let ask_seal : a ≡ ToSeal number aad text = ask_is ∙ ap (asked_by plan) is in
          let n_is : n ≡ number = ap context_in ask_seal in
          let was = ap (pass_at w.passes.items) n_is ∙ d.was in
          let of : IsPassAt s lane k d.pass = pass_known d.pass was in
          let h = d.has_drawn in
          let os : List Entry = h.others.0 in
          let seen = d.pass.seen ++ os in
          let before_is : h.before ≡ seen = h.others.1 in
          let due : ℕ = seq_of seen in
          let limit_is : d.pass.lock.terms.limit ≡ s.context.limit =
          ap (λ (l : LockId). l.terms.limit) of.of ∙ here.limit in
          let full = subst (λ es. (drawn ≡ Limit) ↔ (seq_of es ≡ s.context.limit)) before_is
          (subst (λ m. (drawn ≡ Limit) ↔ (seq_of h.before ≡ m)) limit_is h.limit) in
          let number_is = subst (λ es. (i : ℕ) → drawn ≡ Number i
          → (i ≡ seq_of es) × (i < s.context.limit)) before_is
          (subst (λ m. (i : ℕ) → drawn ≡ Number i → (i ≡ seq_of h.before) × (i < m)) limit_is
          h.number) in
          let items_is : items_in a ≡ Seal aad text ∷ [] = ap items_in ask_seal in
          let step_is : drawn_step drawn ∷ [] ≡ steps_from c due (items_in a) =
          ap (λ x. x ∷ []) (drawn_steps (cipher_of s.context) due aad text drawn full number_is)
          ∙ (λ i. steps_from (sym cipher_is i) due (sym items_is i)) in
          let due_here : due ≡ due_at s.context.limit drawn =
          sym (due_at-drawn s.context.limit due drawn full number_is) in
          let reply = answer (cipher_of s.context) (due_at s.context.limit drawn) (Seal aad text) in
          let line = answer_line reply in
          let run_is : run c due (items_in a) ≡ reply ∷ [] =
          (λ i. run (cipher_is i) (due_here i) (items_is i)) in
          let fit = subst (IsCallWithin (length plan.items) (length plan.pool)) is fits in
          let size : length text + 16 ≡ served_room plan.items call =
          ap (λ i. i + 16) (span_size plan.pool item.text fit.1.text.in_pool)
          ∙ sym (ap (served_room plan.items) is) in
          let put = subst (λ i. PutsReplies w.progress p i (line ∷ [])) size puts in
          turned plan contexts counter lane k call may.at w t (with_progress mid p) d.pass d.after s os
          h.stamp due 0 0 (record {
            stands = stands;
            was = was;
            passes = d.passes ∙ ap (λ j. slice_set w.passes.items j (Some d.after)) (sym n_is);
            of_others = subst (λ i. own i os ≡ []) of.number h.others.2;
            due_is = refl;
            enough = (let low = low_known d.seat d.had in let least = h.stamps.least in omega arith);
            seen_is = h.added
                ∙ (λ i. before_is i ++ entry (place (of.number i) k 0) h.stamp (drawn_step drawn) ∷ [])
                ∙ ap (λ ss. seen ++ entries_from lane k 0 h.stamp ss) step_is;
            pass_is = record {
              of = h.after.lock ∙ of.of;
              number = h.after.number ∙ of.number;
              turns = (let x = h.after.turns in let y = of.turns in omega arith);
              next = (let x = h.next_call in omega arith);
            };
            opens = λ messages e. absurd (no_messages number n aad text messages (sym ask_seal ∙ e));
            answered = λ told tells before. one_more told p line (ap served_batches is) put
                (ap (told_served plan stand told lane k) is
                ∙ ap (λ x. answer_line x ∷ [])
                (subst (λ xs. AllReplied told.replies (block lane k 0 (length xs)) xs) run_is
                (replied plan contexts counter lane k call may.at w t (run c due (items_in a)) 0 0 told
                tells)).0) before;
            room = room_one p line (ap served_batches is) (ap items_of is) put;
            lane_same = d.same.lane;
            seat = subst (HasSeat counter (h.stamp + length (steps_from c due (items_in a))))
                (sym d.seat_is)
                (subst (λ i. HasSeat counter (h.stamp + i) (Some d.back)) (ap length step_is)
                (seat_after d.pass.lock d.seat d.back h.before h.stamp 1 of.of h.stamps));
            rows = ap (λ (x : TableView). x.room) d.same.table;
            steps = ap length d.steps;
            checks = (let x = d.checks in omega arith);
          })
        where
          no_messages : (i j : ℕ) (aad text : List ℕ) (messages : List SealedMessage)
              → ToSeal i aad text ≡ ToOpenAll j messages → ⊥
          no_messages i j aad text messages e = cc
