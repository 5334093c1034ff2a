-- A lane of a plan whose lanes add and retire contexts, before its first call: it is before the first
-- call of each plan that the table may make.
use Rattle.std.proofs.Common.{◌≡◌, ℕ, ◌-◌, ◌<◌, ◌≤◌, List, [], ◌∷◌, length, map, Option, Some, None, sym, refl, ap, ◌∙◌, subst, arith, inl, inr}
use Rattle.std.specs.Prelude.{Contains, sum_by}
use Rattle.std.specs.List.{All}
use Rattle.std.proofs.lemmas.List.{length-map}
use Rattle.std.proofs.lemmas.List.Elements.{All-nil}
use Rattle.std.proofs.lemmas.List.Sums.{sum_by-cons}
use Rattle.call_places.specs.declared.entries.Entry.{Entry}
use Rattle.call_places.specs.Entries.{own}
use Rattle.turn_lock.specs.Passes.{PassView, fresh_pass}
use Rattle.context_books.proofs.Members.{in_contains}
use Rattle.batch_plans.specs.declared.plan.Plan.{Plan}
use Rattle.batch_plans.specs.declared.plan.CallLine.{CallLine}
use Rattle.batch_plans.specs.declared.replies.CallRefusal.{CallRefusal}
use Rattle.batch_plans.specs.declared.replies.CallRefusal.TheVariants.{NoContext}
use Rattle.batch_plans.specs.declared.replies.LaneAnswers.{LaneAnswers}
use Rattle.batch_plans.specs.Calls.{refusal}
use Rattle.batch_plans.specs.Limits.{items_of}
use Rattle.batch_plans.specs.Within.{IsCallWithin}
use Rattle.batch_plans.specs.Names.{at_position, all_live}
use Rattle.batch_plans.specs.Progress.{Progress, begun}
use Rattle.batch_plans.specs.Room.{served_room, served_batches, served_or, call_room, call_replies, call_batches, lane_room, IsLaneWithin}
use Rattle.batch_plans.proofs.Rooms.{has_item, lane_within}
use Rattle.batch_plans.specs.ReplyText.{numbered}
use Rattle.batch_plans.proofs.Numbering.{length-numbered}
use Rattle.context_books.specs.Live.{looked_up, looked_up_plan}
use Rattle.context_books.specs.ContextLines.{export_limits}
use Rattle.context_books.proofs.LookedUp.{calls_looked}
use Rattle.context_books.proofs.Refusals.{refusal_agrees}
use Rattle.context_books.specs.Answered.{HasAnswered, HasRoomFor}
use Rattle.context_books.specs.LaneCalls.{lane_calls}
use Rattle.context_books.proofs.Answering.{answered_begun}
use Rattle.context_books.proofs.Rooms.{room_begun}
use Rattle.lane_workers.specs.declared.works.LaneWork.{LaneWork}
use Rattle.lane_workers.specs.Lanes.{HasSeat}
use Rattle.lane_workers.specs.LiveLanes.{LiveView, standing, AreSharedLive, ReadsAs, LiveLaneIsAt}
use Rattle.lane_workers.specs.LiveReturned.{IsGivenLive, IsFreshLive}
use Rattle.lane_workers.specs.LiveServed.{NotesItsCall}
use Rattle.lane_workers.specs.Readings.{Reading, heard, hears}
use Rattle.lane_workers.specs.Returned.{IsGiven}
use Rattle.lane_workers.specs.Served.{seen_of}
use Rattle.lane_workers.proofs.Ended.{begins_in}
use Rattle.lane_workers.proofs.LiveShared.{unmapped, All-numbered, sum_by-numbered, looked_either, looked_items_of, looked_shared, far_refused, calls_placed}

sum_by-map : {X Y : Type 0} (f : Y → ℕ) (g : X → Y) (xs : List X)
    → sum_by f (map g xs) ≡ sum_by (λ x. f (g x)) xs
sum_by-map f g [] = refl
sum_by-map f g (x ∷ xs) =
    omega (
      arith,
      sum_by-cons f (g x) (map g xs),
      sum_by-cons (λ x. f (g x)) x xs,
      sum_by-map f g xs,
    )

-- ---- the room of a call that is looked up

-- a call needs no more room than another
record NeedsNoMore (plan : Plan) (limits : List ℕ) (call other : CallLine) : Type 0 where
  pub room : call_room plan limits call ≤ call_room plan limits other
  pub replies : call_replies plan limits call ≤ call_replies plan limits other
  pub batches : call_batches plan limits call ≤ call_batches plan limits other

-- a call that is refused has one reply, and any other call has one at least
refused_needs : (plan : Plan) (limits : List ℕ) (call other : CallLine)
    → refusal plan.contexts limits call ≡ Some NoContext → 1 ≤ items_of other
    → NeedsNoMore plan limits call other
refused_needs plan limits call other refused some =
    let here : (a b : ℕ) → served_or (refusal plan.contexts limits call) a b ≡ b =
    λ a b. ap (λ r. served_or r a b) refused in
    let none = here (served_room plan.items call) 0 in
    let one = here (items_of call) 1 in
    let no_guess = here (served_batches call) 0 in
    let has = one_or (refusal plan.contexts limits other) in
    record { room = omega arith; replies = omega arith; batches = omega arith }
  where
    one_or : (r : Option CallRefusal) → 1 ≤ served_or r (items_of other) 1
    one_or None = some
    one_or (Some why) = omega arith

abbrev limits : LiveView → List ℕ
limits v = export_limits (standing v)

-- the calls of a lane on their places, and those as the table makes them
abbrev live_calls : LiveView → ℕ → List CallLine
live_calls v lane = lane_calls (all_live v.plan) lane

abbrev served_calls : LiveView → List Entry → ℕ → List CallLine
served_calls v notes lane = lane_calls (looked_up_plan v.plan notes) lane

-- of the room for all calls on their places so many replies and guesses are none of the plan's
abbrev reading : LiveView → List Entry → ℕ → Progress → Reading
reading v notes lane p =
    record {
      plan = looked_up_plan v.plan notes;
      replies = [];
      blanks = p.left - sum_by (call_replies v.plan (limits v)) (served_calls v notes lane);
      spare = p.batches_left - sum_by (call_batches v.plan (limits v)) (served_calls v notes lane);
    }

answered_none : (v : LiveView) (notes : List Entry) (lane : ℕ) (answers : LaneAnswers) (p : Progress)
    → p ≡ begun answers → HasAnswered [] [] (heard (reading v notes lane p) p)
answered_none v notes lane answers p start =
    let none = answered_begun answers in
    subst (λ q. HasAnswered [] [] (heard (reading v notes lane q) q)) (sym start) (record {
      lines_are = none.lines_are;
      uses = none.uses;
      range = none.range;
    })

module _ (v : LiveView) (shared : AreSharedLive v) where
  abbrev IsWithin : CallLine → Type 0
  IsWithin = IsCallWithin (length v.plan.items) (length v.plan.pool)

  -- a call is within the limits on its place
  abbrev IsPlaced : CallLine → Type 0
  IsPlaced call = IsWithin (at_position v.plan call)

  within : (lane : ℕ) → lane < length v.plan.lanes
      → IsLaneWithin (all_live v.plan) (live_calls v lane)
  within lane low =
      let count = length-map v.plan.lanes (map (at_position v.plan)) in
      lane_within (all_live v.plan) shared.shared.within lane [] (omega arith)

  module _ (notes : List Entry) (lane : ℕ) where
    needs_no_more : (number : ℕ) (call : CallLine) → IsPlaced call
        → NeedsNoMore v.plan (limits v) (looked_up v.plan notes lane number call)
        (at_position v.plan call)
    needs_no_more number call is = elim (looked_either v.plan notes lane number call) [
      | inl same ↦ subst (λ c. NeedsNoMore v.plan (limits v) c (at_position v.plan call)) (sym same)
          (record { room = omega arith; replies = omega arith; batches = omega arith })
      | inr far ↦ refused_needs v.plan (limits v) (looked_up v.plan notes lane number call)
          (at_position v.plan call) (ap (refusal v.plan.contexts (limits v)) far.0
          ∙ refusal_agrees v.plan.contexts (standing v) call shared.shared.of_lines
          ∙ far_refused v shared call far.1)
          (has_item (length v.plan.items) (length v.plan.pool) (at_position v.plan call) is)
    ]

    -- ---- that of a lane

    module _ (low : lane < length v.plan.lanes) where
      sums_no_more : (f : CallLine → ℕ)
          → ((number : ℕ) (call : CallLine) → IsPlaced call
          → f (looked_up v.plan notes lane number call) ≤ f (at_position v.plan call))
          → sum_by f (served_calls v notes lane) ≤ sum_by f (live_calls v lane)
      sums_no_more f each =
          let calls = lane_calls v.plan lane in
          let placed = calls_placed v.plan lane low in
          let is = unmapped (at_position v.plan) IsWithin calls
          (subst (All IsWithin) placed (within lane low).lines) in
          let less = sum_by-numbered IsPlaced (looked_up v.plan notes lane) f
          (λ call. f (at_position v.plan call)) each 0 calls is in
          let here = ap (sum_by f) (calls_looked v.plan notes lane) in
          let there = ap (sum_by f) placed ∙ sum_by-map f (at_position v.plan) calls in
          omega arith

      room_looked : (p : Progress) → HasRoomFor (all_live v.plan) (limits v) (live_calls v lane) p
          → HasRoomFor (looked_up_plan v.plan notes) (limits v) (served_calls v notes lane)
          (heard (reading v notes lane p) p)
      room_looked p t =
          let room = sums_no_more (call_room v.plan (limits v))
          (λ number call is. (needs_no_more number call is).room) in
          let replies = sums_no_more (call_replies v.plan (limits v))
          (λ number call is. (needs_no_more number call is).replies) in
          let batches = sums_no_more (call_batches v.plan (limits v))
          (λ number call is. (needs_no_more number call is).batches) in
          let has = t.room in
          let left = t.left in
          let guesses = t.batches in
          record {
            room = omega arith;
            left = omega arith;
            batches = omega arith;
            few = t.few;
          }

-- ---- the lane

module _ (v : LiveView) (w : LaneWork) (pass : PassView) (t : IsGivenLive v w pass) where
  low : w.lane < length v.plan.lanes
  low =
      let count = length-map v.plan.lanes (map (at_position v.plan)) in
      let there = t.given.there in
      omega arith

  unseen : (c : ℕ) → seen_of w.passes.items c ≡ []
  unseen c = ap (λ ps. seen_of ps c) t.prepared.passes_are ∙ t.given.unseen c

  none_seen : (c : ℕ) (e : Entry) → Contains (own w.lane (seen_of w.passes.items c)) e → ⊥
  none_seen c e has =
      in_contains [] e (subst (λ es. Contains (own w.lane es) e) (unseen c) has)

  seat : HasSeat v.counter 0 w.seat
  seat stamps is =
      let s = t.given.seat_is stamps is in
      (s.0, t.prepared.seat_is ∙ s.1, s.2, omega arith)

  start : w.progress ≡ begun t.answers
  start = t.prepared.progress

  -- ---- as one of the plan that this table makes

  module _ (notes : List Entry) where
    abbrev plan : Plan
    plan = looked_up_plan v.plan notes

    abbrev room : LaneAnswers
    room = lane_room plan (limits v) (lane_calls plan w.lane)

    given_looked : IsGiven plan v.contexts v.counter w.lane w.passes.items w.seat room
    given_looked =
        let g = t.given in
        let same = length-numbered (λ lane calls. numbered (looked_up v.plan notes lane) 0 calls) 0
        v.plan.lanes in
        let given : IsGiven plan v.contexts v.counter w.lane t.passes t.seat room = record {
          within = (looked_shared v t.shared notes).within;
          there = (let there = low in omega arith);
          count = g.count;
          fresh = g.fresh;
          unseen = g.unseen;
          seat_is = g.seat_is;
          room = refl;
        } in
        subst (λ ps. IsGiven plan v.contexts v.counter w.lane ps w.seat room)
        (sym t.prepared.passes_are)
        (subst (λ s. IsGiven plan v.contexts v.counter w.lane t.passes s room)
        (sym t.prepared.seat_is) given)

    has_room : HasRoomFor (all_live v.plan) (limits v) (live_calls v w.lane) w.progress
    has_room =
        let calls = live_calls v w.lane in
        subst (HasRoomFor (all_live v.plan) (limits v) calls) (sym (start ∙ ap begun t.given.room))
        (room_begun (all_live v.plan) (limits v) calls (within v t.shared w.lane low))

    no_larger : (most : ℕ) → All (λ call. items_of call ≤ most) (lane_calls v.plan w.lane)
        → All (λ call. items_of call ≤ most) (lane_calls plan w.lane)
    no_larger most all =
        subst (All (λ call. items_of call ≤ most)) (sym (calls_looked v.plan notes w.lane))
        (All-numbered (λ call. items_of call ≤ most) (looked_up v.plan notes w.lane)
        (λ call. items_of call ≤ most) (λ number call few.
        let same = looked_items_of v.plan notes w.lane number call in omega arith) 0
        (lane_calls v.plan w.lane) all)

    reads_begun : ReadsAs v w.lane 0 [] w notes
    reads_begun =
        let r = reading v notes w.lane w.progress in
        record {
          blanks = r.blanks;
          spare = r.spare;
          enough = omega arith;
          is_at = begins_in plan v.contexts v.counter (hears r w) room given_looked
              (answered_none v notes w.lane t.answers w.progress start)
              (room_looked v t.shared notes w.lane low w.progress has_room)
              (no_larger w.table.room t.prepared.rows)
              (no_larger (length w.steps.items) t.prepared.steps)
              t.prepared.checks;
          are_heard = tt;
        }

  begins_fresh : LiveLaneIsAt v w.lane 0 0
      (record { work = w; pass = Some (fresh_pass v.table.lock w.lane) })
  begins_fresh = record {
    lane_is = refl;
    pass = fresh_pass v.table.lock w.lane;
    holds = refl;
    of = refl;
    number = refl;
    turns = omega arith;
    next = omega arith;
    places = refl;
    acts = All-nil (NotesItsCall v.plan (standing v));
    low = 0;
    seat = seat;
    noted = record {
      rise = λ e f has. absurd (in_contains [] e has);
      after = λ c e f has. absurd (none_seen c e has);
      before = λ c e f has. absurd (in_contains [] e has);
    };
    notes_below = λ e has. absurd (in_contains [] e has);
    below = λ c e has. absurd (none_seen c e has);
    chunks = [];
    given = ap (λ (p : Progress). p.replies) start;
    guesses = ap (λ (p : Progress). p.batches) start;
    reads = λ notes tells. reads_begun notes;
  }

pub begins_live : (v : LiveView) (w : LaneWork) (pass : PassView) → IsGivenLive v w pass
    → IsFreshLive v (record { work = w; pass = Some pass })
begins_live v w pass t =
    subst (λ p. IsFreshLive v (record { work = w; pass = Some p })) (sym t.pass_is) (record {
      there = low v w pass t;
      is_at = begins_fresh v w pass t;
    })
