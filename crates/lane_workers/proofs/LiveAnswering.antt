-- A lane whose next call is noted, once the call is answered: by no context, or by its own.
use Rattle.std.proofs.Common.{◌≡◌, ◌||◌, ℕ, ◌+◌, ◌-◌, ◌<◌, ◌≤◌, inl, inr, Bool, true, false, if◌then◌else◌, List, [], ◌∷◌, ◌++◌, length, take, max, Option, Some, None, sym, refl, ap, ◌∙◌, subst, arith}
use Rattle.std.specs.Prelude.{slice_get, flat_map, nat_lt, ◌⊎◌, Contains}
use Rattle.std.proofs.lemmas.Bool.{ltb-false}
use Rattle.std.proofs.lemmas.List.{append_cancel_left, length-take}
use Rattle.std.proofs.lemmas.List.Concat.{flat_map-append}
use Rattle.call_places.specs.declared.entries.Entry.{Entry}
use Rattle.call_places.specs.Entries.{own}
use Rattle.stamp_counter.specs.Seats.{SeatView}
use Rattle.context_books.specs.Batches.{place}
use Rattle.context_books.proofs.Lists.{append-nil}
use Rattle.context_books.proofs.Members.{in_contains, in_map}
use Rattle.context_books.specs.Lists.{In}
use Rattle.batch_plans.specs.declared.plan.Plan.{Plan}
use Rattle.batch_plans.specs.declared.plan.CallLine.{CallLine}
use Rattle.batch_plans.specs.declared.plan.CallLine.TheVariants as calls
use Rattle.batch_plans.specs.declared.replies.CallRefusal.{CallRefusal}
use Rattle.batch_plans.specs.declared.replies.CallRefusal.TheVariants.{NoContext}
use Rattle.batch_plans.specs.declared.replies.Reply.{Reply}
use Rattle.batch_plans.specs.declared.replies.Reply.TheVariants.{Refused}
use Rattle.batch_plans.specs.Calls.{context_of}
use Rattle.batch_plans.specs.Limits.{first_name, items_of}
use Rattle.batch_plans.specs.Names.{at_position}
use Rattle.batch_plans.specs.Progress.{Progress, with_reply}
use Rattle.batch_plans.specs.Room.{served_batches, served_or}
use Rattle.batch_plans.proofs.Rooms.{has_item}
use Rattle.batch_plans.specs.ReplyText.{numbered}
use Rattle.batch_plans.proofs.Numbering.{length-numbered}
use Rattle.context_books.specs.Live.{was_live, looked_up, looked_up_plan}
use Rattle.context_books.specs.Standing.{call_refusal}
use Rattle.context_books.specs.LaneCalls.{lane_calls}
use Rattle.lane_workers.specs.declared.works.LaneWork.{LaneWork}
use Rattle.lane_workers.specs.declared.live_lane.LiveLane.{LiveLane}
use Rattle.lane_workers.specs.Lanes.{HasSeat, LaneIsAt, MayAnswer}
use Rattle.lane_workers.specs.LiveLanes.{LiveView, standing, AreSharedLive, Chunk, finds, retire_reply, own_reply, IsHeardAs, all_heard, all_guesses, IsOnContext, IsKept, TellsAs, ReadsAs, LiveLaneIsAt}
use Rattle.lane_workers.specs.LiveServed.{NotesInOrder}
use Rattle.lane_workers.specs.Readings.{Reading, heard, hears, with_more, MayAnswerAs, AddsLater, IsOneOn}
use Rattle.lane_workers.specs.Served.{seen_of}
use Rattle.lane_workers.specs.Turns.{with_progress}
use Rattle.lane_workers.proofs.Answering.{fits, finds_room, refused_left, refused_on}
use Rattle.lane_workers.proofs.AreHeard.{heard_more}
use Rattle.lane_workers.proofs.LiveNoting.{noted_before}
use Rattle.lane_workers.proofs.LiveShared.{looked_shared, far_refused, added_refused, retired_refused}
use Rattle.lane_workers.proofs.LookedUp.{line_looked}
use Rattle.lane_workers.proofs.Found.{one_of}

-- ---- the replies of one call more

chunk_more : {X : Type 0} (part : Chunk → List X) (chunks : List Chunk) (c : Chunk)
    → flat_map part (chunks ++ c ∷ []) ≡ flat_map part chunks ++ part c
chunk_more part chunks c =
    flat_map-append part chunks (c ∷ [])
    ∙ ap (λ xs. flat_map part chunks ++ xs) (append-nil (part c))

-- ---- who answers a call

-- the reply to a call on a context, by whether it finds that
abbrev own_where : Bool → Option Reply
own_where found = if found then None else Some (Refused NoContext)

-- what a table tells of the call decides
own_same : (plan : Plan) (n m : List Entry) (lane k : ℕ) (call : CallLine)
    → was_live n (place lane k 0) ≡ was_live m (place lane k 0)
    → own_reply plan n lane k call ≡ own_reply plan m lane k call
own_same plan n m lane k (calls.Add name) same = refl
own_same plan n m lane k (calls.Retire name) same = ap (λ live. Some (retire_reply live)) same
own_same plan n m lane k call same =
    ap (λ live. own_where (nat_lt (context_of call) first_name || live)) same

-- a call that finds its context has no reply of the lane's own
pub found_placed : (plan : Plan) (notes : List Entry) (lane k : ℕ) (call : CallLine)
    → IsOnContext call → finds notes lane k call ≡ true → own_reply plan notes lane k call ≡ None
found_placed plan notes lane k (calls.Add name) on is = absurd on
found_placed plan notes lane k (calls.Retire name) on is = absurd on
found_placed plan notes lane k call on is = ap own_where is

-- and one that doesn't is refused as a call on a context that isn't there
pub lost_own : (plan : Plan) (notes : List Entry) (lane k : ℕ) (call : CallLine)
    → IsOnContext call → finds notes lane k call ≡ false
    → own_reply plan notes lane k call ≡ Some (Refused NoContext)
lost_own plan notes lane k (calls.Add name) on is = absurd on
lost_own plan notes lane k (calls.Retire name) on is = absurd on
lost_own plan notes lane k call on is = ap own_where is

-- a call that no reply of the lane's own answers is made at its place
placed_looked : (plan : Plan) (notes : List Entry) (lane k : ℕ) (call : CallLine)
    → own_reply plan notes lane k call ≡ None
    → looked_up plan notes lane k call ≡ at_position plan call
placed_looked plan notes lane k call is =
    step (nat_lt (context_of call) first_name || was_live notes (place lane k 0)) refl
  where
    found : (call : CallLine) → own_reply plan notes lane k call ≡ None
        → own_where (finds notes lane k call) ≡ None
    found (calls.Add name) is = absurd (cc)
    found (calls.Retire name) is = absurd (cc)
    found call is = is

    step : (b : Bool) → finds notes lane k call ≡ b
        → (if b then at_position plan call else call) ≡ at_position plan call
    step true e = refl
    step false e =
        absurd (let f : None ≡ Some (Refused NoContext) = sym (found call is) ∙ ap own_where e in cc)

-- and one that such a reply answers is made on a context that isn't there
own_refused : (v : LiveView) → AreSharedLive v → (notes : List Entry) (lane k : ℕ)
    (call : CallLine) (reply : Reply) → own_reply v.plan notes lane k call ≡ Some reply
    → call_refusal (standing v) (looked_up v.plan notes lane k call) ≡ Some NoContext
own_refused v shared notes lane k call reply is = of_kind call is
  where
    live : Bool
    live = was_live notes (place lane k 0)

    either : (call : CallLine) → at_position v.plan call ≡ call
        → call_refusal (standing v) call ≡ Some NoContext
        → (b : Bool) → call_refusal (standing v) (if b then at_position v.plan call else call)
        ≡ Some NoContext
    either call same refused true = ap (call_refusal (standing v)) same ∙ refused
    either call same refused false = refused

    lost : (call : CallLine) (low : Bool) → nat_lt (context_of call) first_name ≡ low → (b : Bool)
        → own_where (low || b) ≡ Some reply
        → call_refusal (standing v) (if low || b then at_position v.plan call else call)
        ≡ Some NoContext
    lost call true low b is = absurd (let f : None ≡ Some reply = is in cc)
    lost call false low true is = absurd (let f : None ≡ Some reply = is in cc)
    lost call false low false is =
        far_refused v shared call (ltb-false (context_of call) first_name low)

    of_kind : (call : CallLine) → own_reply v.plan notes lane k call ≡ Some reply
        → call_refusal (standing v) (looked_up v.plan notes lane k call) ≡ Some NoContext
    of_kind (calls.Add name) is =
        either (calls.Add name) refl (added_refused v name)
        (nat_lt (context_of (calls.Add name)) first_name || live)
    of_kind (calls.Retire name) is =
        either (calls.Retire name) refl (retired_refused v name)
        (nat_lt (context_of (calls.Retire name)) first_name || live)
    of_kind call is =
        lost call (nat_lt (context_of call) first_name) refl live is

-- ---- a call that is noted

module _ (v : LiveView) (shared : AreSharedLive v) (lane k : ℕ) (call : CallLine)
    (there : lane < length v.plan.lanes) (at : slice_get (lane_calls v.plan lane) k ≡ Some call)
    (l : LiveLane) (t : LiveLaneIsAt v lane (k + 1) k l) where
  abbrev seen : List Entry
  seen = t.pass.seen

  -- the lane as one of the plan that this table makes
  abbrev reading : (notes : List Entry) → ReadsAs v lane k t.chunks l.work notes → Reading
  reading notes r = record {
    plan = looked_up_plan v.plan notes;
    replies = all_heard t.chunks;
    blanks = r.blanks;
    spare = r.spare;
  }

  -- there its call may be answered
  may_looked : (notes : List Entry) (r : ReadsAs v lane k t.chunks l.work notes)
      → MayAnswer (looked_up_plan v.plan notes) v.contexts v.counter k
      (looked_up v.plan notes lane k call) (hears (reading notes r) l.work)
  may_looked notes r =
      let looked = looked_up_plan v.plan notes in
      let is : l.work.lane ≡ lane = t.lane_is in
      let lanes : length looked.lanes ≡ length v.plan.lanes =
      length-numbered (λ lane calls. numbered (looked_up v.plan notes lane) 0 calls) 0 v.plan.lanes in
      record {
        shared = looked_shared v shared notes;
        there = omega arith;
        at = ap (λ i. slice_get (lane_calls looked i) k) is ∙ line_looked v.plan notes lane k call at;
        is_at = subst (λ i. LaneIsAt looked v.contexts v.counter i k (hears (reading notes r) l.work))
            (sym is) r.is_at;
      }

  abbrev as_seen : ReadsAs v lane k t.chunks l.work seen
  as_seen = t.reads seen (λ call low. refl)

  -- there is room for a reply
  pub has_left : 0 < l.work.progress.left
  has_left =
      let line = looked_up v.plan seen lane k call in
      let r = reading seen as_seen in
      let may = may_looked seen as_seen in
      step r line may (call_refusal (standing v) line) refl
    where
      step : (r : Reading) (line : CallLine)
          → (may : MayAnswer r.plan v.contexts v.counter k line (hears r l.work))
          → (why : Option CallRefusal) → call_refusal (standing v) line ≡ why
          → 0 < l.work.progress.left
      step r line may None free =
          let room = finds_room r.plan v.contexts v.counter k line (hears r l.work) may free in
          let one = has_item (length r.plan.items) (length r.plan.pool) line
          (fits r.plan v.contexts v.counter k line (hears r l.work) may) in
          let left = room.left in
          omega arith
      step r line may (Some why) refused =
          let left = refused_left r.plan v.contexts v.counter k line (hears r l.work) may why refused in
          omega arith

  -- ---- the lane answers it itself

  module _ (reply : Reply) (own : own_reply v.plan seen lane k call ≡ Some reply) where
    abbrev itself : LaneWork
    itself = with_progress l.work (with_reply l.work.progress reply)

    abbrev own_chunk : Chunk
    own_chunk = record { given = reply ∷ []; heard = Refused NoContext ∷ []; guesses = [] }

    reads_itself : (notes : List Entry) → TellsAs lane (k + 1) seen notes
        → ReadsAs v lane (k + 1) (t.chunks ++ own_chunk ∷ []) itself notes
    reads_itself notes tells =
        let looked = looked_up_plan v.plan notes in
        let r = t.reads notes tells in
        let old = reading notes r in
        let line = looked_up v.plan notes lane k call in
        let mine : own_reply v.plan notes lane k call ≡ Some reply =
        own_same v.plan notes seen lane k call (tells k (omega arith)) ∙ own in
        let refused = own_refused v shared notes lane k call reply mine in
        let left = refused_left looked v.contexts v.counter k line (hears old l.work)
        (may_looked notes r) NoContext refused in
        let p : Progress = heard (record {
          plan = looked;
          replies = all_heard (t.chunks ++ own_chunk ∷ []);
          blanks = r.blanks;
          spare = r.spare;
        }) itself.progress in
        let put : p ≡ with_reply (heard old l.work.progress) (Refused NoContext) =
        (λ i. record (heard old l.work.progress) {
          replies = chunk_more (λ (c : Chunk). c.heard) t.chunks own_chunk i;
          left = swapped l.work.progress.left r.blanks i;
        }) in
        record {
          blanks = r.blanks;
          spare = r.spare;
          enough = (let some : 0 < l.work.progress.left - r.blanks = left in omega arith);
          is_at = subst (λ i. LaneIsAt looked v.contexts v.counter i (k + 1) (with_progress itself p))
              t.lane_is
              (refused_on looked v.contexts v.counter k line (hears old l.work)
              (may_looked notes r) NoContext refused p put);
          are_heard = heard_more v notes lane k call at t.chunks own_chunk r.are_heard
              (subst (λ o. IsHeardAs v call o own_chunk) (sym mine) refl);
        }
      where
        swapped : (n blanks : ℕ) → n - 1 - blanks ≡ n - blanks - 1
        swapped n blanks = omega arith

    pub answers_itself : (new : LiveLane) → new ≡ record l { work = itself }
        → LiveLaneIsAt v lane (k + 1) (k + 1) new
    answers_itself new is = subst (LiveLaneIsAt v lane (k + 1) (k + 1)) (sym is) (record {
      lane_is = t.lane_is;
      pass = t.pass;
      holds = t.holds;
      of = t.of;
      number = t.number;
      turns = t.turns;
      next = t.next;
      places = t.places;
      acts = t.acts;
      low = t.low;
      seat = t.seat;
      noted = t.noted;
      notes_below = t.notes_below;
      below = t.below;
      chunks = t.chunks ++ own_chunk ∷ [];
      given = ap (λ rs. rs ++ reply ∷ []) t.given
          ∙ sym (chunk_more (λ (c : Chunk). c.given) t.chunks own_chunk);
      guesses = t.guesses ∙ sym (append-nil (all_guesses t.chunks))
          ∙ sym (chunk_more (λ (c : Chunk). c.guesses) t.chunks own_chunk);
      reads = reads_itself;
    })

  -- ---- its context answers it, at its place

  module _ (none : own_reply v.plan seen lane k call ≡ None) where
    abbrev placed : CallLine
    placed = at_position v.plan call

    may_as : (notes : List Entry) → TellsAs lane (k + 1) seen notes
        → (r : ReadsAs v lane k t.chunks l.work notes)
        → MayAnswerAs (reading notes r) v.plan v.contexts v.counter k placed l.work
    may_as notes tells r =
        let mine = own_same v.plan notes seen lane k call (tells k (omega arith)) ∙ none in
        record {
          may = subst (λ line. MayAnswer (looked_up_plan v.plan notes) v.contexts v.counter k line
              (hears (reading notes r) l.work))
              (placed_looked v.plan notes lane k call mine) (may_looked notes r);
          bytes = record { pool = refl; items = refl };
          enough = r.enough;
        }

    pub may_placed : (r : Reading) × MayAnswerAs r v.plan v.contexts v.counter k placed l.work
    may_placed = (reading seen as_seen, may_as seen (λ call low. refl) as_seen)

    module _ (work : LaneWork)
        (ones : (r : Reading) → MayAnswerAs r v.plan v.contexts v.counter k placed l.work
        → IsOneOn r v.contexts v.counter k placed l.work work) where
      abbrev one : IsOneOn (reading seen as_seen) v.contexts v.counter k placed l.work work
      one = ones (reading seen as_seen) (may_as seen (λ call low. refl) as_seen)

      abbrev placed_chunk : Chunk
      placed_chunk =
          record { given = one.adds.more; heard = one.adds.more; guesses = one.adds.guesses }

      -- the call's replies are those that its context gave
      kept : IsKept v call placed_chunk
      kept = record {
        has = one.adds.has;
        each = one.adds.each
            ∙ ap (λ n. served_or (call_refusal (standing v) placed) n 1) (same_count v.plan call);
        given = one.adds.given;
        heard = refl;
      }
        where
          same_count : (plan : Plan) (call : CallLine)
              → items_of (at_position plan call) + served_batches (at_position plan call)
              ≡ items_of call + served_batches call
          same_count plan (calls.Add name) = refl
          same_count plan call = refl

      reads_placed : (notes : List Entry) → TellsAs lane (k + 1) seen notes
          → ReadsAs v lane (k + 1) (t.chunks ++ placed_chunk ∷ []) work notes
      reads_placed notes tells =
          let looked = looked_up_plan v.plan notes in
          let r = t.reads notes tells in
          let now = ones (reading notes r) (may_as notes tells r) in
          let mine : own_reply v.plan notes lane k call ≡ None =
          own_same v.plan notes seen lane k call (tells k (omega arith)) ∙ none in
          let more : now.adds.more ≡ one.adds.more =
          append_cancel_left l.work.progress.replies now.adds.more one.adds.more
          (sym now.adds.replies ∙ one.adds.replies) in
          let replies : all_heard t.chunks ++ now.adds.more
          ≡ all_heard (t.chunks ++ placed_chunk ∷ []) =
          ap (λ rs. all_heard t.chunks ++ rs) more
          ∙ sym (chunk_more (λ (c : Chunk). c.heard) t.chunks placed_chunk) in
          record {
            blanks = r.blanks;
            spare = r.spare;
            enough = now.enough;
            is_at = subst (λ rs. LaneIsAt looked v.contexts v.counter lane (k + 1)
                (hears (record { plan = looked; replies = rs; blanks = r.blanks; spare = r.spare })
                work)) replies
                (subst (λ i. LaneIsAt looked v.contexts v.counter i (k + 1)
                (hears (with_more (reading notes r) now.adds.more) work)) t.lane_is now.is_at);
            are_heard = heard_more v notes lane k call at t.chunks placed_chunk r.are_heard
                (subst (λ o. IsHeardAs v call o placed_chunk) (sym mine) kept);
          }

      -- its stamps are below one that its seat knows of
      abbrev bound : ℕ
      bound = max t.low one.is_at.low

      abbrev adds_later : AddsLater v.counter t.low k l.work work
      adds_later = one.later t.low t.seat

      seat_knows : HasSeat v.counter bound work.seat
      seat_knows stamps is =
          let first = adds_later.seat stamps is in
          let second = one.is_at.seat stamps is in
          let same : second.0 ≡ first.0 = one_of second.0 first.0 (sym second.1 ∙ first.1) in
          let high = subst (λ (s : SeatView). one.is_at.low ≤ s.low) same second.3 in
          let low = first.3 in
          (first.0, first.1, first.2, omega arith)

      entry_below : (c : ℕ) (e : Entry) → Contains (own lane (seen_of work.passes.items c)) e
          → e.stamp < bound
      entry_below c e has =
          let low = one.is_at.stamps.below c e
          (subst (λ i. In e (own i (seen_of work.passes.items c))) (sym t.lane_is)
          (in_contains (own lane (seen_of work.passes.items c)) e has)) in
          omega arith

      -- its entries are those that it had, and those of this call
      which : (c : ℕ) (e : Entry) → Contains (own lane (seen_of work.passes.items c)) e
          → Contains (own lane (seen_of l.work.passes.items c)) e
          ⊎ ((e.place.call ≡ k) × (t.low ≤ e.stamp))
      which c e has =
          subst (λ i. Contains (own i (seen_of work.passes.items c)) e
          → Contains (own i (seen_of l.work.passes.items c)) e
          ⊎ ((e.place.call ≡ k) × (t.low ≤ e.stamp))) t.lane_is (adds_later.later c e) has

      note_within : (e : Entry) → Contains (own lane seen) e → e.place.call ≤ k
      note_within e has =
          let calls = lane_calls v.plan lane in
          let low = noted_before v.plan (standing v) lane 0 (take (k + 1) calls) e.place
          (subst (In e.place) t.places
          (in_map (λ (x : Entry). x.place) e (own lane seen) (in_contains (own lane seen) e has))) in
          let few = length-take (k + 1) calls in
          omega arith

      noted_on : NotesInOrder lane seen (seen_of work.passes.items)
      noted_on = record {
        rise = t.noted.rise;
        after = λ c e f of_call note before. elim (which c e of_call) [
          | inl old ↦ t.noted.after c e f old note before
          | inr new ↦ absurd (let within = note_within f note in let is = new.0 in omega arith)
        ];
        before = λ c e f note of_call before. elim (which c f of_call) [
          | inl old ↦ t.noted.before c e f note old before
          | inr new ↦ (let low = t.notes_below e note in let high = new.1 in omega arith)
        ];
      }

      pub answers_placed : LiveLaneIsAt v lane (k + 1) (k + 1) (record l { work = work })
      answers_placed = record {
        lane_is = one.is_at.lane_is ∙ t.lane_is;
        pass = t.pass;
        holds = t.holds;
        of = t.of;
        number = t.number;
        turns = t.turns;
        next = t.next;
        places = t.places;
        acts = t.acts;
        low = bound;
        seat = seat_knows;
        noted = noted_on;
        notes_below = λ e has. (let low = t.notes_below e has in omega arith);
        below = entry_below;
        chunks = t.chunks ++ placed_chunk ∷ [];
        given = one.adds.replies ∙ ap (λ rs. rs ++ one.adds.more) t.given
            ∙ sym (chunk_more (λ (c : Chunk). c.given) t.chunks placed_chunk);
        guesses = one.adds.batches ∙ ap (λ gs. gs ++ one.adds.guesses) t.guesses
            ∙ sym (chunk_more (λ (c : Chunk). c.guesses) t.chunks placed_chunk);
        reads = reads_placed;
      }
