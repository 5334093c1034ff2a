-- Lanes and books after the last step have the answers of the rehearsed run.
use Rattle.std.proofs.Common.{◌≡◌, ◌<◌, ◌≤◌, ℕ, zero, suc, ◌+◌, List, [], ◌∷◌, ◌++◌, length, map, take, drop, get_or, sym, refl, ap, ◌∙◌, subst, arith, Option, Some, None}
use Rattle.std.specs.Prelude.{slice_get, slice_index_or, replicate}
use Rattle.std.specs.List.{All, range_with_len, refill}
use Rattle.std.proofs.lemmas.List.{length-map, length-replicate, take_all, take-append-le, nil_from_length}
use Rattle.std.proofs.lemmas.List.FromFn.{fill_by_all, get_or-map-range_with_len, length-map-range_with_len}
use Rattle.std.proofs.lemmas.Option.{slice_get_within, slice_get-get_or, get_or_from_slice_get}
use Rattle.std.proofs.Math.Seq.{take-length}
use Rattle.call_places.specs.declared.entries.Mark.{Mark}
use Rattle.call_places.specs.declared.entries.Entry.{Entry}
use Rattle.hpke_context.specs.Answers.{Cipher}
use Rattle.hpke_context.specs.Contexts.{ContextView}
use Rattle.context_books.specs.Batches.{Batch, Ask, Nothing, ToSeal, ToOpen, ToOpenAll, lane_of, on}
use Rattle.context_books.specs.Histories.{stamped_on, journals_of}
use Rattle.context_books.proofs.Lists.{own_places-on}
use Rattle.context_books.proofs.Members.{got}
use Rattle.context_books.proofs.Legals.{lane_is}
use Rattle.context_books.proofs.HistoryJournals.{places-stamped_on}
use Rattle.context_core.specs.Core as core
use Rattle.context_core.specs.Core.{Core, start, all_happen}
use Rattle.context_core.proofs.ScheduleEnds.{all_happen-append}
use Rattle.context_core.specs.CoreStages.{Stage, Fresh, HasGuess, HasTests, HasPlaces, tasks_at}
use Rattle.context_core.proofs.Schedules.{journals_legal, all_ended}
use Rattle.context_books.specs.Books.{BookView}
use Rattle.batch_plans.specs.declared.plan.Plan.{Plan}
use Rattle.batch_plans.specs.declared.replies.LaneAnswers.{LaneAnswers}
use Rattle.batch_plans.specs.Within.{IsWithinLimits}
use Rattle.batch_plans.specs.Room.{all_items_on, lane_room, journal_room, blank_mark}
use Rattle.batch_plans.specs.ReplyText.{numbered}
use Rattle.batch_plans.specs.AnswersText.{answered_lines, lanes_lines, UsesUp}
use Rattle.batch_plans.proofs.Lanes.{lanes_lines-numbered}
use Rattle.context_books.specs.Standing.{standing_at}
use Rattle.context_books.specs.ContextLines.{export_limits, AreOfLines}
use Rattle.context_books.specs.Asks.{batch_of, cipher_at, ask_of}
use Rattle.context_books.specs.Runs.{lane_call_lines}
use Rattle.context_books.proofs.Done.{lane_asks}
use Rattle.context_books.proofs.KeepingUp.{keeps_up_ended}
use Rattle.context_core.specs.declared.books.Books.{Books}
use Rattle.context_core.specs.declared.lanes.Lane.{Lane}
use Rattle.context_core.specs.declared.lanes.Stage.TheVariants as stages
use Rattle.context_core.specs.Rehearsals.{rehearsed}
use Rattle.context_core.specs.Books.{book_at}
use Rattle.context_books.specs.LaneCalls.{lane_calls}
use Rattle.context_core.specs.Following.{run_of, long_ends, core_stage, IsBookOf, IsDone, AreDone, AreAnswered, IsRehearsal}
use Rattle.context_books.specs.Journals.{written, HasRoom}
use Rattle.context_core.specs.Preparing.{answers_of, IsEnded}
use Rattle.context_core.proofs.Histories.{places_are}
use Rattle.context_core.proofs.Runs.{guesses_are}
use Rattle.context_books.proofs.ItemPlaces.{journal_count}
use Rattle.context_core.proofs.Events.{ends_are}

-- a list of the same length put over another
pub refill_is : {X : Type 0} (n : ℕ) (xs ws : List X) → length ws ≡ n → refill n xs ws ≡ ws
refill_is n xs ws size =
    take-append-le n ws (drop (length ws) xs) (omega arith) ∙ take_all n ws (omega arith)

-- the lanes of a list of this length, when all of them are written over
pub answered_are : (size : ℕ) (old new now : List Lane) → size ≡ length old
    → length new ≡ length old → now ≡ take size (new ++ drop (length new) old) → now ≡ new
answered_are size old new now size_is same is =
    is ∙ refill_is size old new (same ∙ sym size_is)

-- ---- how many answers there are

pub lane_count : (plan : Plan) (limits : List ℕ) (answers : List LaneAnswers)
    → answers ≡ map (lane_room plan limits) plan.lanes → length answers ≡ length plan.lanes
lane_count plan limits answers room = ap length room ∙ length-map plan.lanes (lane_room plan limits)

pub journals_count : (plan : Plan) (limits : List ℕ) (journals : List (List Mark))
    → journals ≡ map (journal_room plan.contexts limits plan.lanes)
    (range_with_len 0 (length plan.contexts)) → length journals ≡ length plan.contexts
journals_count plan limits journals room =
    ap length room
    ∙ length-map-range_with_len (journal_room plan.contexts limits plan.lanes) 0
    (length plan.contexts)

-- ---- each lane at its end

nothing_left : (stage : Stage) (k : ℕ) (asks : List Ask) → tasks_at stage k asks ≡ [] → asks ≡ []
nothing_left stage k [] e = refl
nothing_left Fresh k (Nothing ∷ asks) e = absurd (let f = ap length e in omega arith)
nothing_left Fresh k (ToSeal c aad text ∷ asks) e = absurd (let f = ap length e in omega arith)
nothing_left Fresh k (ToOpen c aad ct ∷ asks) e = absurd (let f = ap length e in omega arith)
nothing_left Fresh k (ToOpenAll c ms ∷ asks) e = absurd (let f = ap length e in omega arith)
nothing_left HasGuess k (a ∷ asks) e = absurd (let f = ap length e in omega arith)
nothing_left HasTests k (a ∷ asks) e = absurd (let f = ap length e in omega arith)
nothing_left HasPlaces k (a ∷ asks) e = absurd (let f = ap length e in omega arith)

past_end : {X : Type 0} (k : ℕ) (xs : List X) → drop k xs ≡ [] → length xs ≤ k
past_end k [] e = omega arith
past_end zero (x ∷ xs) e = absurd (let f : x ∷ xs ≡ [] = e in cc)
past_end (suc k) (x ∷ xs) e = let later = past_end k xs e in omega arith

module _ (plan : Plan) (contexts : List (Option ContextView)) (schedule : List ℕ)
    (within : IsWithinLimits plan) (standing : AreOfLines plan.contexts contexts)
    (lanes : List Lane) (books : Books) where
  abbrev batch : Batch
  batch = batch_of plan contexts

  abbrev ciphers : ℕ → Cipher
  ciphers = cipher_at contexts

  abbrev last : Core
  last = core.core batch ciphers schedule

  module _ (t : IsRehearsal plan contexts last lanes books) where
    -- ---- each lane is at its end

    at_end : (l : ℕ) (lane : Lane) → slice_get lanes l ≡ Some lane
        → lane.call ≡ length (lane_calls plan l)
    at_end l lane at =
        let of = t.each l lane at in
        let asks = lane_of batch l in
        let none = nothing_left (core_stage lane.stage) lane.call (drop lane.call asks)
        (all_ended batch ciphers schedule l _ of.at) in
        let past = past_end lane.call asks none in
        let count = ap length (lane_asks (run_of plan contexts last) l)
        ∙ length-map (lane_calls plan l) (ask_of plan contexts) in
        let most = of.within in
        omega arith

    -- all its calls are done
    pub all_done : AreDone plan contexts last lanes
    all_done l lane at =
        let of = t.each l lane at in
        let call = at_end l lane at in
        record {
          notes = of.notes;
          settled = (let room = of.tools.steps_room in omega arith);
          progress = of.progress;
          each = λ k here is.
              let low = slice_get_within (lane_calls plan l) k here is in
              subst (λ gs. IsDone plan contexts last l gs k here lane.steps.items lane.settled
              (slice_index_or lane.done.items k stages.Fresh))
              (sym (guesses_are plan contexts last l _ of.at))
              (of.done k here (omega arith) is);
        }

    -- ---- the lines of the lanes, when they are answered

    module _ (after : List Lane) (same : length after ≡ length lanes)
        (answered : AreAnswered plan contexts last after) where
      at_last : (l : ℕ) (lane : Lane) → slice_get after l ≡ Some lane
          → (lane.progress.left ≡ 0) × (lane.progress.batches_left ≡ 0)
          × (answered_lines (lane_calls plan l) (answers_of lane.progress)
          ≡ lane_call_lines (rehearsed plan contexts schedule) l (lane_calls plan l))
      at_last l lane at =
          keeps_up_ended (run_of plan contexts last) l lane.progress (answered l lane at)

      pub ended : All IsEnded after
      ended k d low =
          let e = at_last k (get_or after k d) (slice_get-get_or after k d low) in
          record { replies = e.0; guesses = e.1 }

      pub lines_are : (answers : List LaneAnswers) → length answers ≡ length after
          → ((l : ℕ) (lane : Lane) (given : LaneAnswers) → l < length after
          → get_or answers l given ≡ answers_of (get_or after l lane).progress)
          → lanes_lines plan.lanes answers
          ≡ numbered (lane_call_lines (rehearsed plan contexts schedule)) 0 plan.lanes
      lines_are answers count given =
          lanes_lines-numbered (lane_call_lines (rehearsed plan contexts schedule)) 0 plan.lanes
          answers (count ∙ same ∙ t.count)
          (λ i calls one h.
          let low : i < length after = (let a = t.count in let b = h.one_of_lanes in omega arith) in
          let x = got after i low in
          let lane_is : get_or after i x.0 ≡ x.0 = get_or_from_slice_get after i x.0 x.0 x.1 in
          let answers_are : one ≡ answers_of x.0.progress = h.lane_is ∙ given i x.0 one low
          ∙ ap (λ (y : Lane). answers_of y.progress) lane_is in
          let calls_are : calls ≡ lane_calls plan i = sym (get_or_from_slice_get plan.lanes i calls []
          (slice_get-get_or plan.lanes i calls h.one_of_lanes ∙ ap Some (sym h.calls_are))) in
          let start : i ≡ 0 + i = omega arith in
          ap (λ cs. answered_lines cs one) calls_are
          ∙ ap (answered_lines (lane_calls plan i)) answers_are
          ∙ (at_last i x.0 x.1).2
          ∙ ap (lane_call_lines (rehearsed plan contexts schedule) i) (sym calls_are)
          ∙ ap (λ n. lane_call_lines (rehearsed plan contexts schedule) n calls) start)

      -- each reply and each guess is a call's
      pub used : (answers : List LaneAnswers) → length answers ≡ length after
          → ((l : ℕ) (lane : Lane) (given : LaneAnswers) → l < length after
          → get_or answers l given ≡ answers_of (get_or after l lane).progress)
          → (l : ℕ) (one : LaneAnswers) → slice_get answers l ≡ Some one
          → UsesUp (lane_calls plan l) one.replies one.batches
      used answers count given l one at =
          let low : l < length after =
          (let within = slice_get_within answers l one at in omega arith) in
          let x = got after l low in
          let lane_is : get_or after l x.0 ≡ x.0 = get_or_from_slice_get after l x.0 x.0 x.1 in
          let is : one ≡ answers_of x.0.progress =
          sym (get_or_from_slice_get answers l one one at) ∙ given l x.0 one low
          ∙ ap (λ (y : Lane). answers_of y.progress) lane_is in
          let t = answered l x.0 x.1 in
          subst (λ (y : LaneAnswers). UsesUp (lane_calls plan l) y.replies y.batches) (sym is)
          (subst (λ cs. UsesUp cs x.0.progress.replies x.0.progress.batches)
          (take-length (lane_calls plan l)) t.answered.uses)

    -- ---- journals

    -- a context has as many places as its lanes ask for
    places_count : (n : ℕ) → length (on n last.history)
        ≡ all_items_on plan.contexts (export_limits contexts) n plan.lanes
    places_count n =
        let ps = on n last.history in
        journal_count plan contexts standing n within ps
        (λ l low. lane_is batch n ps (journals_legal batch ciphers schedule n) l)
        (λ l high. own_places-on l n last.history ∙ ap (on n) (t.others l high))

    module _ (room : List (List Mark))
        (room_is : room ≡ map (journal_room plan.contexts (export_limits contexts) plan.lanes)
        (range_with_len 0 (length plan.contexts))) where
      room_at : (n : ℕ) → n < length plan.contexts
          → get_or room n [] ≡ replicate (length (on n last.history)) blank_mark
      room_at n low =
          ap (λ (js : List (List Mark)). get_or js n []) room_is
          ∙ get_or-map-range_with_len
          (journal_room plan.contexts (export_limits contexts) plan.lanes) 0
          (length plan.contexts) n n [] low (omega arith)
          ∙ ap (λ k. replicate k blank_mark) (sym (places_count n))

      room_size : (n : ℕ) → n < length plan.contexts
          → length (get_or room n []) ≡ length (on n last.history)
      room_size n low = ap length (room_at n low)
          ∙ length-replicate (length (on n last.history)) blank_mark

      of_book : (n : ℕ) (o : Option BookView) → n < length plan.contexts → book_at books n ≡ o
          → (s : Option ContextView) → standing_at contexts n ≡ s
          → HasRoom o (get_or room n []) × (written o (get_or room n []) ≡ stamped_on n 0 last.history)
      of_book n o low is None at =
          let none : o ≡ None = sym is ∙ t.books_follow.none n at in
          let empty : on n last.history ≡ [] = t.books_follow.absent n at in
          let marks : stamped_on n 0 last.history ≡ [] =
          nil_from_length (stamped_on n 0 last.history)
          (sym (length-map (stamped_on n 0 last.history) (λ (m : Mark). m.place))
          ∙ ap length (places-stamped_on n 0 last.history ∙ empty)) in
          let journal : get_or room n [] ≡ [] =
          room_at n low ∙ ap (λ ps. replicate (length ps) blank_mark) empty in
          subst (λ (b : Option BookView). HasRoom b (get_or room n [])
          × (written b (get_or room n []) ≡ stamped_on n 0 last.history)) (sym none)
          (refl, journal ∙ sym marks)
      of_book n o low is (Some view) at =
          let b = t.books_follow.each n view at in
          let of : IsBookOf plan contexts last.history n view b.0 = b.2 in
          let same : o ≡ Some b.0 = sym is ∙ b.1 in
          let size : length b.0.entries ≡ length (on n last.history) =
          sym (length-map b.0.entries (λ (e : Entry). e.place))
          ∙ ap length (places_are n last.history b.0.entries of.marks) in
          subst (λ (x : Option BookView). HasRoom x (get_or room n [])
          × (written x (get_or room n []) ≡ stamped_on n 0 last.history)) (sym same)
          (room_size n low ∙ sym size, of.marks)

      pub has_room : (n : ℕ) → n < length plan.contexts
          → HasRoom (book_at books n) (get_or room n [])
      has_room n low =
          (of_book n (book_at books n) low refl (standing_at contexts n) refl).0

      pub journals_are : (journals : List (List Mark)) → length journals ≡ length plan.contexts
          → ((n : ℕ) → n < length plan.contexts
          → get_or journals n [] ≡ written (book_at books n) (get_or room n []))
          → journals ≡ journals_of (length plan.contexts) last.history
      journals_are journals count given =
          fill_by_all (λ n. stamped_on n 0 last.history) journals (length plan.contexts) [] count
          (λ n low. given n low
          ∙ (of_book n (book_at books n) low refl (standing_at contexts n) refl).1)

-- ---- the events of a rehearsal

pub last_follows : (plan : Plan) (contexts : List (Option ContextView)) (schedule : List ℕ)
    (lanes : List Lane) (books : Books)
    → IsRehearsal plan contexts (all_happen (batch_of plan contexts) (cipher_at contexts)
    (all_happen (batch_of plan contexts) (cipher_at contexts) (start (batch_of plan contexts))
    schedule) (long_ends 0 plan.lanes)) lanes books
    → IsRehearsal plan contexts (core.core (batch_of plan contexts) (cipher_at contexts) schedule)
    lanes books
last_follows plan contexts schedule lanes books t =
    subst (λ (v : Core). IsRehearsal plan contexts v lanes books)
    (sym (all_happen-append (batch_of plan contexts) (cipher_at contexts)
    (start (batch_of plan contexts)) schedule (long_ends 0 plan.lanes))
    ∙ ends_are plan contexts schedule) t
