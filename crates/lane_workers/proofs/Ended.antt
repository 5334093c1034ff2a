-- A lane before its first call, and after its last.
use Rattle.std.proofs.Common.{◌≡◌, ℕ, ◌≤◌, List, [], length, take, Option, sym, refl, ap, ◌∙◌, subst, arith, Bor}
use Rattle.std.specs.List.{All}
use Rattle.std.proofs.Math.Seq.{take-length}
use Rattle.std.proofs.lemmas.List.{length-map}
use Rattle.std.proofs.lemmas.Option.{slice_get_within}
use Rattle.call_places.specs.declared.entries.Entry.{Entry}
use Rattle.turn_lock.specs.Passes.{fresh_pass}
use Rattle.stamp_counter.specs.Seats.{CounterView}
use Rattle.hpke_context.specs.Contexts.{ContextView}
use Rattle.context_books.specs.Batches.{Ask, ToOpenAll}
use Rattle.lane_workers.proofs.ShowingCalls.{lane_fresh, lane_shows}
use Rattle.lane_workers.specs.OnTheWay.{LaneIs, StampsAre}
use Rattle.lane_workers.proofs.Stamping.{stamps_fresh, stamps_show}
use Rattle.shared_context.specs.Calls.{SharedView}
use Rattle.batch_plans.specs.declared.plan.Plan.{Plan}
use Rattle.batch_plans.specs.declared.plan.CallLine.{CallLine}
use Rattle.batch_plans.specs.declared.replies.LaneAnswers.{LaneAnswers}
use Rattle.batch_plans.specs.Replies.{IsPrintable}
use Rattle.batch_plans.specs.Limits.{items_of}
use Rattle.batch_plans.specs.Room.{lane_room}
use Rattle.batch_plans.specs.Progress.{begun}
use Rattle.batch_plans.proofs.Rooms.{lane_within}
use Rattle.batch_plans.specs.AnswersText.{calls_lines}
use Rattle.context_books.specs.ContextLines.{export_limits}
use Rattle.context_books.specs.Asks.{ask_of, batch_of, cipher_at}
use Rattle.context_books.proofs.Done.{lane_asks}
use Rattle.context_books.specs.Answered.{HasAnswered, HasRoomFor}
use Rattle.context_books.proofs.Answering.{answered_begun}
use Rattle.context_books.proofs.Rooms.{room_begun, room_ended}
use Rattle.context_books.proofs.Writing.{all_in_more}
use Rattle.lane_workers.specs.declared.works.LaneWork.{LaneWork}
use Rattle.lane_workers.specs.Served.{Told, seen_of, LaneIsServed}
use Rattle.lane_workers.specs.Turns.{views}
use Rattle.context_books.specs.LaneCalls as lanes
use Rattle.lane_workers.specs.Groups.{answers_in}
use Rattle.lane_workers.specs.Lanes.{asks_of, Says, LaneIsAt}
use Rattle.lane_workers.specs.Returned.{IsGiven, IsReturned}
use Rattle.lane_workers.specs.LiveReturned.{HasAllAnswers}
use Rattle.lane_workers.proofs.Told.{told_now, tells_now}

module _ (plan : Plan) (contexts : List (Option SharedView)) (counter : Option (Bor CounterView)) where
  abbrev stand : List (Option ContextView)
  stand = views contexts

  -- ---- before its first call

  -- with room for its calls, whatever room that is
  pub begins_in : (w : LaneWork) (answers : LaneAnswers)
      → IsGiven plan contexts counter w.lane w.passes.items w.seat answers
      → HasAnswered [] [] w.progress
      → HasRoomFor plan (export_limits stand) (lanes.lane_calls plan w.lane) w.progress
      → All (λ call. items_of call ≤ w.table.room) (lanes.lane_calls plan w.lane)
      → All (λ call. items_of call ≤ length w.steps.items) (lanes.lane_calls plan w.lane)
      → w.checks ≡ 0 → LaneIsAt plan contexts counter w.lane 0 w
  begins_in w answers t answered room rows steps checks =
      let unseen : seen_of w.passes.items ≡ λ c. [] = (λ i c. t.unseen c i) in
      record {
        lane_is = refl;
        given = [];
        guesses = [];
        misses = [];
        low = 0;
        calls_given = refl;
        guesses_given = refl;
        misses_given = refl;
        count = t.count;
        passes = λ c s is. (
          fresh_pass s.lock w.lane,
          t.fresh c s is,
          record {
            of = refl;
            number = refl;
            turns = omega arith;
            next = omega arith;
          },
        );
        absent = λ c none. t.unseen c;
        seat = λ stamps is. let s = t.seat_is stamps is in (s.0, s.1, s.2, omega arith);
        stamps = subst (λ (f : ℕ → List Entry). StampsAre w.lane 0 f 0) (sym unseen)
            (stamps_fresh w.lane);
        says = λ told tells. record {
          shows = λ c. subst (LaneIs (batch_of plan stand) c (cipher_at stand c) w.lane told.replies [])
              (sym (t.unseen c))
              (lane_fresh (batch_of plan stand) c (cipher_at stand c) w.lane told.replies);
          openings = λ c call messages low. absurd (omega arith);
          answered = answered;
        };
        room = room;
        rows = rows;
        steps = steps;
        checks = (let c = checks in omega arith);
      }

  pub begins : (w : LaneWork) (answers : LaneAnswers)
      → IsGiven plan contexts counter w.lane w.passes.items w.seat answers
      → w.progress ≡ begun answers
      → All (λ call. items_of call ≤ w.table.room) (lanes.lane_calls plan w.lane)
      → All (λ call. items_of call ≤ length w.steps.items) (lanes.lane_calls plan w.lane)
      → w.checks ≡ 0 → LaneIsAt plan contexts counter w.lane 0 w
  begins w answers t progress =
      let calls = lanes.lane_calls plan w.lane in
      let room = lane_room plan (export_limits stand) calls in
      let start : w.progress ≡ begun room = progress ∙ ap begun t.room in
      begins_in w answers t (subst (HasAnswered [] []) (sym start) (answered_begun room))
      (subst (HasRoomFor plan (export_limits stand) calls) (sym start)
      (room_begun plan (export_limits stand) calls (lane_within plan t.within w.lane [] t.there)))

  -- ---- after its last

  module _ (lane : ℕ) (w : LaneWork)
      (t : LaneIsAt plan contexts counter lane (length (lanes.lane_calls plan lane)) w) where
    abbrev calls : List CallLine
    calls = lanes.lane_calls plan lane

    abbrev asks : List Ask
    asks = asks_of plan stand lane

    abbrev told : Told
    told = told_now t.given t.guesses t.misses

    says : Says plan stand lane (length calls) (seen_of w.passes.items) w.progress told
    says = t.says told (tells_now lane t.given t.guesses t.misses)

    pub none_left : (w.progress.left ≡ 0) × (w.progress.batches_left ≡ 0)
    none_left = room_ended plan (export_limits stand) w.progress
        (subst (λ cs. HasRoomFor plan (export_limits stand) cs w.progress)
        (Rattle.std.proofs.Math.Seq.drop-length calls) t.room)

    pub all_answers : HasAllAnswers w
    all_answers = record { replies = none_left.0; batches = none_left.1 }

    same_count : length asks ≡ length calls
    same_count =
        ap length (lane_asks (record { plan = plan; contexts = stand; journals = []; guesses = [] })
        lane) ∙ length-map calls (ask_of plan stand)

    all_asks : take (length calls) asks ≡ asks
    all_asks = ap (λ i. take i asks) (sym same_count) ∙ take-length asks

    printable : IsPrintable (answers_in w)
    printable =
        let room = t.room.room in
        all_in_more w.progress.taken (length w.progress.pool) w.progress.replies (omega arith)
        says.answered.range

    -- what the lane shows
    pub is_served : LaneIsServed plan stand lane w.passes.items (answers_in w)
    is_served = record {
      told = told;
      shows = λ c. lane_shows (batch_of plan stand) c (cipher_at stand c) lane told.replies
          (seen_of w.passes.items c)
          (subst (λ done. LaneIs (batch_of plan stand) c (cipher_at stand c) lane told.replies done
          (seen_of w.passes.items c)) all_asks (says.shows c));
      openings = record {
        count = t.guesses_given
            ∙ ap Rattle.context_books.specs.Guesses.guess_count all_asks;
        each = λ c call messages is. says.openings c call messages
            (let low = slice_get_within asks call (ToOpenAll c messages) is in
            let same = same_count in omega arith) is;
      };
      in_order = stamps_show lane (length calls) (seen_of w.passes.items) t.low t.stamps;
      lines = ap (λ cs. calls_lines w.progress.pool cs w.progress.replies w.progress.batches)
          (sym (take-length calls))
          ∙ says.answered.lines_are
          ∙ ap (λ cs. Rattle.std.specs.List.flat_map (λ (lines : List (List ℕ)). lines)
          (Rattle.batch_plans.specs.ReplyText.numbered
          (Rattle.lane_workers.specs.Served.told_lines plan stand told lane) 0 cs))
          (take-length calls);
      printable = printable;
    }

    pub ends : (answers : LaneAnswers) → answers ≡ answers_in w
        → IsReturned plan contexts counter lane w.passes.items w.seat answers
    ends answers same = record {
      served = subst (LaneIsServed plan stand lane w.passes.items) (sym same) is_served;
      count = t.count;
      passes_are = λ c s is. let p = t.passes c s is in (p.0, p.1, p.2.of, p.2.number);
      absent = t.absent;
      seat_is = λ stamps is. let s = t.seat stamps is in (s.0, s.1, s.2);
    }
