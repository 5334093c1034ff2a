-- A lane whose next call is noted, or has no note.
use Rattle.std.proofs.Common.{◌≡◌, ◌≢◌, ◌==◌, ◌&&◌, ◌||◌, ℕ, ◌+◌, ◌-◌, ◌<◌, ◌≤◌, Bool, true, false, cond, if◌then◌else◌, List, [], ◌∷◌, ◌++◌, length, take, drop, Option, Some, None, sym, refl, ap, ◌∙◌, subst, arith, append_assoc, eq-eqb, ne_eqb, length-append, ◌⊎◌, inl, inr, Bor}
use Rattle.std.specs.Prelude.{slice_get, slice_index, Contains, IsSome}
use Rattle.std.specs.List.{All}
use Rattle.std.proofs.Math.Bool.{or-false}
use Rattle.std.proofs.lemmas.Bool.{lt-ltb, le-ltb}
use Rattle.std.proofs.lemmas.List.{length-map, map-append}
use Rattle.std.proofs.lemmas.List.Elements.{All-append, All-cons, All-nil}
use Rattle.std.proofs.lemmas.List.Folds.{list_any-append}
use Rattle.call_places.specs.declared.entries.Act.{Act}
use Rattle.call_places.specs.declared.entries.Act.TheVariants as acts
use Rattle.call_places.specs.declared.entries.Entry.{Entry}
use Rattle.call_places.specs.declared.entries.Place.{Place}
use Rattle.call_places.specs.Entries.{own}
use Rattle.call_places.specs.Notes.{note_entry}
use Rattle.turn_lock.specs.Passes.{LockId, PassView}
use Rattle.stamp_counter.specs.Seats.{SeatView, CounterView}
use Rattle.hpke_context.specs.Contexts.{ContextView}
use Rattle.context_books.specs.Batches.{place}
use Rattle.context_books.specs.Histories.{entry_places}
use Rattle.context_books.specs.Legal.{is_same_place}
use Rattle.context_books.proofs.Lists.{append-nil}
use Rattle.context_books.proofs.Members.{In-append, contains_in, in_contains, in_map}
use Rattle.context_books.specs.Lists.{In}
use Rattle.context_books.proofs.OneLane.{parted, few_taken, taken_more}
use Rattle.lane_workers.proofs.ShowingEntries.{own-append}
use Rattle.shared_context.specs.Stamped.{IsNote}
use Rattle.shared_context.specs.Calls.{MayCall, SharedView}
use Rattle.live_table.specs.Calls.{HasNoted}
use Rattle.batch_plans.specs.declared.plan.Plan.{Plan}
use Rattle.batch_plans.specs.declared.plan.CallLine.{CallLine}
use Rattle.batch_plans.specs.declared.plan.CallLine.TheVariants as calls
use Rattle.batch_plans.specs.declared.replies.CallRefusal.{CallRefusal}
use Rattle.batch_plans.specs.Calls.{context_of}
use Rattle.batch_plans.specs.Limits.{first_name}
use Rattle.batch_plans.specs.Names.{line_count}
use Rattle.batch_plans.specs.LiveText.{tells_live}
use Rattle.context_books.specs.Live.{Noting, noting_of, looking, adding, noting, noting_in, was_live, looked_up_plan}
use Rattle.context_books.specs.Standing.{standing_at}
use Rattle.context_books.specs.LaneCalls.{lane_calls}
use Rattle.context_books.proofs.Within.{call_low}
use Rattle.lane_workers.specs.declared.works.LaneWork.{LaneWork}
use Rattle.lane_workers.specs.declared.live_lane.LiveLane.{LiveLane}
use Rattle.lane_workers.specs.Lanes.{HasSeat, LaneIsAt}
use Rattle.lane_workers.specs.LiveLanes.{LiveView, standing, add_refusal, AreSharedLive, IsOnContext, TellsAs, ReadsAs, LiveLaneIsAt}
use Rattle.lane_workers.specs.LiveServed.{note_place, noted_from, NotesItsCall, NotesInOrder}
use Rattle.lane_workers.specs.Served.{seen_of}
use Rattle.lane_workers.proofs.Found.{one_of}

-- ---- which calls are noted

module _ (plan : Plan) (stand : List (Option ContextView)) where
  looks_up : (call : CallLine) → IsOnContext call
      → noting plan stand call ≡ looking plan (context_of call)
  looks_up (calls.Add name) on = absurd on
  looks_up (calls.Retire name) on = absurd on
  looks_up call on = refl

  -- a call on a context line's context isn't
  pub line_unnoted : (call : CallLine) → IsOnContext call → context_of call < first_name
      → noting plan stand call ≡ None
  line_unnoted call on low =
      looks_up call on
      ∙ ap (λ b. if b then None else noting_of plan acts.Look (context_of call - first_name))
      (lt-ltb (context_of call) first_name low)

  -- another call on a context is, if its name is one of the plan's
  pub name_noting : (call : CallLine) → IsOnContext call → first_name ≤ context_of call
      → noting plan stand call ≡ noting_of plan acts.Look (context_of call - first_name)
  name_noting call on high =
      looks_up call on
      ∙ ap (λ b. if b then None else noting_of plan acts.Look (context_of call - first_name))
      (le-ltb (context_of call) first_name high)

  pub name_noted : (act : Act) (name : ℕ) → name < plan.added
      → noting_of plan act name ≡ Some (record { act = act; name = name })
  name_noted act name low =
      ap (λ b. if b then Some (record { act = act; name = name }) else None)
      (lt-ltb name plan.added low)

  pub name_unnoted : (act : Act) (name : ℕ) → plan.added ≤ name → noting_of plan act name ≡ None
  name_unnoted act name high =
      ap (λ b. if b then Some (record { act = act; name = name }) else None)
      (le-ltb name plan.added high)

-- a line that adds a context is noted where its psk inputs are in order
module _ (v : LiveView) (shared : AreSharedLive v) (name : ℕ) (low : name < v.plan.added) where
  abbrev added : Option ContextView
  added = standing_at (standing v) (line_count v.plan + name)

  pub add_noted : add_refusal v.plan name ≡ None
      → noting v.plan (standing v) (calls.Add name) ≡ Some (record { act = acts.Add; name = name })
  add_noted free = step added ((shared.stands name low).0 free)
    where
      step : (o : Option ContextView) → IsSome o
          → adding o name ≡ Some (record { act = acts.Add; name = name })
      step None some = absurd (let f : false ≡ true = some in cc)
      step (Some context) some = refl

  pub add_unnoted : (refusal : CallRefusal) → add_refusal v.plan name ≡ Some refusal
      → noting v.plan (standing v) (calls.Add name) ≡ None
  add_unnoted refusal refused = step added (λ some. absurd
      (let f : Some refusal ≡ None = sym refused ∙ (shared.stands name low).1 some in cc))
    where
      step : (o : Option ContextView) → (IsSome o → ⊥) → adding o name ≡ None
      step None none = refl
      step (Some context) none = absurd (none refl)

-- ---- the places that some calls of a lane note

module _ (plan : Plan) (stand : List (Option ContextView)) (lane : ℕ) where
  noted-append : (number : ℕ) (xs ys : List CallLine)
      → noted_from plan stand lane number (xs ++ ys)
      ≡ noted_from plan stand lane number xs ++ noted_from plan stand lane (number + length xs) ys
  noted-append number [] ys =
      ap (λ i. noted_from plan stand lane i ys) (let e : number ≡ number + 0 = omega arith in e)
  noted-append number (x ∷ xs) ys =
      ap (λ ps. note_place lane number (noting plan stand x) ++ ps)
      (noted-append (number + 1) xs ys
      ∙ ap (λ i. noted_from plan stand lane (number + 1) xs ++ noted_from plan stand lane i ys)
      (let e : number + 1 + length xs ≡ number + length (x ∷ xs) = omega arith in e))
      ∙ sym (append_assoc (note_place lane number (noting plan stand x))
      (noted_from plan stand lane (number + 1) xs)
      (noted_from plan stand lane (number + length (x ∷ xs)) ys))

  pub noted_before : (number : ℕ) (calls : List CallLine) (p : Place)
      → In p (noted_from plan stand lane number calls) → p.call < number + length calls
  noted_before number [] p has = absurd has
  noted_before number (x ∷ xs) p has =
      elim (In-append p (note_place lane number (noting plan stand x))
      (noted_from plan stand lane (number + 1) xs) has) [
        | inl first ↦ (let is = here (noting plan stand x) first in omega arith)
        | inr later ↦ (let low = noted_before (number + 1) xs p later in omega arith)
      ]
    where
      here : (o : Option Noting) → In p (note_place lane number o) → p.call ≡ number
      here None i = absurd i
      here (Some n) i = elim i [
        | inl is ↦ sym (ap (λ (q : Place). q.call) is)
        | inr none ↦ absurd none
      ]

  module _ (calls : List CallLine) (k : ℕ) (call : CallLine)
      (at : slice_get calls k ≡ Some call) where
    -- those of one call more
    noted_more : noted_from plan stand lane 0 (take (k + 1) calls)
        ≡ noted_from plan stand lane 0 (take k calls) ++ note_place lane k (noting plan stand call)
    noted_more =
        let number : 0 + length (take k calls) ≡ k =
        (let e = few_taken calls k call at in omega arith) in
        ap (noted_from plan stand lane 0) (taken_more calls k call at)
        ∙ noted-append 0 (take k calls) (call ∷ [])
        ∙ ap (λ i. noted_from plan stand lane 0 (take k calls)
        ++ noted_from plan stand lane i (call ∷ [])) number
        ∙ ap (λ ps. noted_from plan stand lane 0 (take k calls) ++ ps)
        (append-nil (note_place lane k (noting plan stand call)))

    -- of a call that is noted there is one more
    noted_room : (n : Noting) → noting plan stand call ≡ Some n
        → length (noted_from plan stand lane 0 (take k calls)) + 1
        ≤ length (noted_from plan stand lane 0 calls)
    noted_room n is =
        let first = noted_from plan stand lane 0 (take k calls) in
        let mine = note_place lane k (noting plan stand call) in
        let rest = noted_from plan stand lane (k + 1) (drop (k + 1) calls) in
        let number : 0 + length (take k calls) ≡ k =
        (let e = few_taken calls k call at in omega arith) in
        let whole : noted_from plan stand lane 0 calls ≡ first ++ (mine ++ rest) =
        ap (noted_from plan stand lane 0) (parted calls k call at)
        ∙ noted-append 0 (take k calls) (call ∷ drop (k + 1) calls)
        ∙ ap (λ i. first ++ noted_from plan stand lane i (call ∷ drop (k + 1) calls)) number in
        let size : length (noted_from plan stand lane 0 calls)
        ≡ length first + (length mine + length rest) =
        ap length whole ∙ length-append first (mine ++ rest)
        ∙ ap (λ i. length first + i) (length-append mine rest) in
        let one : length mine ≡ 1 = ap (λ o. length (note_place lane k o)) is in
        omega arith

-- ---- what a table tells of a call

-- of a call that none of its lane's notes has it tells nothing
none_live : (es : List Entry) (lane call : ℕ)
    → ((e : Entry) → In e (own lane es) → e.place.call ≢ call)
    → was_live es (place lane call 0) ≡ false
none_live [] lane call apart = refl
none_live (e ∷ es) lane call apart = step (e.place.lane == lane) refl apart (none_live es lane call)
  where
    step : (b : Bool) → (e.place.lane == lane) ≡ b
        → ((f : Entry) → In f (cond b (e ∷ own lane es) (own lane es)) → f.place.call ≢ call)
        → (((f : Entry) → In f (own lane es) → f.place.call ≢ call)
        → was_live es (place lane call 0) ≡ false) → was_live (e ∷ es) (place lane call 0) ≡ false
    step true is differ rest =
        let here : (is_same_place e.place (place lane call 0) && tells_live e.step) ≡ false =
        (λ i. (is i && ne_eqb e.place.call call (differ e (inl refl)) i && (e.place.item == 0))
        && tells_live e.step) in
        (λ i. here i || rest (λ f has. differ f (inr has)) i)
    step false is differ rest =
        let here : (is_same_place e.place (place lane call 0) && tells_live e.step) ≡ false =
        (λ i. (is i && (e.place.call == call) && (e.place.item == 0)) && tells_live e.step) in
        (λ i. here i || rest differ i)

-- its own note tells it of the call
note_tells : (lane call stamp name : ℕ) (act : Act) (live : Bool)
    → was_live (note_entry (place lane call 0) stamp name act live ∷ []) (place lane call 0) ≡ live
note_tells lane call stamp name act live =
    (λ i. ((eq-eqb lane lane refl i && eq-eqb call call refl i && true) && live) || false)
    ∙ or-false live

-- ---- the lane

-- a lane is where it was with another seat that knows of its stamps
reseated : (plan : Plan) (contexts : List (Option SharedView)) (counter : Option (Bor CounterView))
    (lane k : ℕ) (w : LaneWork) (seat : Option SeatView) (t : LaneIsAt plan contexts counter lane k w)
    → HasSeat counter t.low seat → LaneIsAt plan contexts counter lane k (record w { seat = seat })
reseated plan contexts counter lane k w seat t has = record {
  lane_is = t.lane_is;
  given = t.given;
  guesses = t.guesses;
  misses = t.misses;
  low = t.low;
  calls_given = t.calls_given;
  guesses_given = t.guesses_given;
  misses_given = t.misses_given;
  count = t.count;
  passes = t.passes;
  absent = t.absent;
  seat = has;
  stamps = t.stamps;
  says = t.says;
  room = t.room;
  rows = t.rows;
  steps = t.steps;
  checks = t.checks;
}

module _ (v : LiveView) (lane k : ℕ) (call : CallLine)
    (at : slice_get (lane_calls v.plan lane) k ≡ Some call)
    (l : LiveLane) (t : LiveLaneIsAt v lane k k l) where
  abbrev stand : List (Option ContextView)
  stand = standing v

  abbrev lines : List CallLine
  lines = lane_calls v.plan lane

  -- the lane's notes so far are of earlier calls
  note_calls : (e : Entry) → In e (own lane t.pass.seen) → e.place.call < k
  note_calls e has =
      let there : In e.place (noted_from v.plan stand lane 0 (take k lines)) =
      subst (In e.place) t.places (in_map (λ (x : Entry). x.place) e (own lane t.pass.seen) has) in
      let low = noted_before v.plan stand lane 0 (take k lines) e.place there in
      let few = few_taken lines k call at in
      omega arith

  not_yet : was_live t.pass.seen (place lane k 0) ≡ false
  not_yet = none_live t.pass.seen lane k
      (λ e has is. let low = note_calls e has in absurd (omega arith))

  -- ---- a call that has no note

  module _ (none : noting v.plan stand call ≡ None) where
    pub unnoted : (u : LiveLaneIsAt v lane (k + 1) k l)
        × (was_live u.pass.seen (place lane k 0) ≡ false)
    unnoted = (
      record {
        lane_is = t.lane_is;
        pass = t.pass;
        holds = t.holds;
        of = t.of;
        number = t.number;
        turns = (let x = t.turns in omega arith);
        next = (let x = t.next in omega arith);
        places = t.places ∙ sym (noted_more v.plan stand lane lines k call at
            ∙ ap (λ o. noted_from v.plan stand lane 0 (take k lines) ++ note_place lane k o) none
            ∙ append-nil (noted_from v.plan stand lane 0 (take k lines)));
        acts = t.acts;
        low = t.low;
        seat = t.seat;
        noted = t.noted;
        notes_below = t.notes_below;
        below = t.below;
        chunks = t.chunks;
        given = t.given;
        guesses = t.guesses;
        reads = λ notes tells. t.reads notes (λ c low. tells c (omega arith));
      },
      not_yet,
    )

  -- ---- a call that is noted

  module _ (shared : AreSharedLive v) (there : lane < length v.plan.lanes)
      (n : Noting) (is : noting v.plan stand call ≡ Some n)
      (p : PassView) (s : SeatView) (holds : l.pass ≡ Some p) (sits : l.work.seat ≡ Some s) where
    pass_is : t.pass ≡ p
    pass_is = one_of t.pass p (sym t.holds ∙ holds)

    of_pass : p.lock ≡ v.table.lock
    of_pass = subst (λ (x : PassView). x.lock ≡ v.table.lock) pass_is t.of

    number_is : p.number ≡ lane
    number_is = subst (λ (x : PassView). x.number ≡ lane) pass_is t.number

    -- the lane has room for one note more
    quota_left : length (own lane t.pass.seen) + 1 ≤ slice_index v.table.lock.terms.quotas lane
    quota_left =
        let so_far : length (own lane t.pass.seen)
        ≡ length (noted_from v.plan stand lane 0 (take k lines)) =
        sym (length-map (own lane t.pass.seen) (λ (e : Entry). e.place)) ∙ ap length t.places in
        let more = noted_room v.plan stand lane lines k call at n is in
        let quota = shared.quotas lane there in
        omega arith

    -- the table may be asked
    pub may_note : MayCall v.table.lock p k 1
    may_note =
        let low = call_low v.plan lane k call shared.within there at in
        let turns = t.turns in
        subst (λ (x : PassView). MayCall v.table.lock x k 1) pass_is (record {
          of = t.of;
          turns = omega arith;
          late = t.next;
          call_fits = omega arith;
          lane = subst (λ i. i < length v.table.lock.terms.quotas) (sym t.number)
              (let size = shared.lanes in omega arith);
          room = subst (λ i. length (own i t.pass.seen) + 1
              ≤ slice_index v.table.lock.terms.quotas i) (sym t.number) quota_left;
        })

    -- the lane's seat is a note of the counter, and knows of its stamps
    pub seat_known : (stamps : Bor CounterView) → v.counter ≡ Some stamps
        → IsNote stamps.now.id s × (t.low ≤ s.low)
    seat_known stamps is =
        let o = t.seat stamps is in
        subst (λ (x : SeatView). IsNote stamps.now.id x × (t.low ≤ x.low))
        (one_of o.0 s (sym o.1 ∙ sits)) (o.2, o.3)

    module _ (q : PassView) (back : SeatView) (live : Bool)
        (h : HasNoted p q s back k n.name n.act live) where
      abbrev note : Entry
      note = note_entry (place lane k 0) h.stamp n.name n.act live

      abbrev others : List Entry
      others = h.others.0

      of_others : own lane others ≡ []
      of_others = subst (λ i. own i others ≡ []) number_is h.others.2

      seen_is : q.seen ≡ (t.pass.seen ++ others) ++ note ∷ []
      seen_is =
          h.added ∙ (λ i. h.others.1 i ++ note_entry (place (number_is i) k 0) h.stamp n.name n.act live
          ∷ [])
          ∙ ap (λ (x : PassView). (x.seen ++ others) ++ note ∷ []) (sym pass_is)

      own_note : own lane (note ∷ []) ≡ note ∷ []
      own_note = ap (λ b. cond b (note ∷ []) []) (eq-eqb lane lane refl)

      own_is : own lane q.seen ≡ own lane t.pass.seen ++ note ∷ []
      own_is =
          ap (own lane) seen_is ∙ own-append lane (t.pass.seen ++ others) (note ∷ [])
          ∙ (λ i. (own-append lane t.pass.seen others ∙ ap (λ es. own lane t.pass.seen ++ es) of_others
          ∙ append-nil (own lane t.pass.seen)) i ++ own_note i)

      tells_of : (c : ℕ) → was_live q.seen (place lane c 0)
          ≡ (was_live t.pass.seen (place lane c 0) || was_live (note ∷ []) (place lane c 0))
      tells_of c =
          let told = λ (e : Entry). is_same_place e.place (place lane c 0) && tells_live e.step in
          let elsewhere : was_live others (place lane c 0) ≡ false =
          none_live others lane c (λ e has is. subst (In e) of_others has) in
          ap (λ es. was_live es (place lane c 0)) seen_is
          ∙ list_any-append told (t.pass.seen ++ others) (note ∷ [])
          ∙ ap (λ b. b || was_live (note ∷ []) (place lane c 0))
          (list_any-append told t.pass.seen others
          ∙ ap (λ b. was_live t.pass.seen (place lane c 0) || b) elsewhere
          ∙ or-false (was_live t.pass.seen (place lane c 0)))

      -- the table tells the same of the calls before, and of this one what it told
      tells_before : (c : ℕ) → c < k
          → was_live q.seen (place lane c 0) ≡ was_live t.pass.seen (place lane c 0)
      tells_before c low =
          let elsewhere : was_live (note ∷ []) (place lane c 0) ≡ false =
          none_live (note ∷ []) lane c (λ e has same. elim (subst (In e) own_note has) [
            | inl is ↦ (let at_k : k ≡ e.place.call = ap (λ (x : Entry). x.place.call) is in
                absurd (omega arith))
            | inr none ↦ absurd none
          ]) in
          tells_of c ∙ ap (λ b. was_live t.pass.seen (place lane c 0) || b) elsewhere
          ∙ or-false (was_live t.pass.seen (place lane c 0))

      tells_now : was_live q.seen (place lane k 0) ≡ live
      tells_now =
          tells_of k ∙ (λ i. not_yet i || note_tells lane k h.stamp n.name n.act live i)

      -- ---- its stamps

      -- a seat that knew of some stamps knows of them and of the note's
      knows : (low : ℕ) → low ≤ back.low → HasSeat v.counter low (Some back)
      knows low enough = λ stamps is_counter.
          let counter : p.lock.terms.counter ≡ stamps.now.id =
          ap (λ (x : LockId). x.terms.counter) of_pass ∙ shared.counted.2
          ∙ ap (λ (x : Bor CounterView). x.now.id)
          (one_of shared.counted.0 stamps (sym shared.counted.1 ∙ is_counter)) in
          (back, refl, subst (λ i. IsNote i back) counter h.stamps.note, enough)

      stamp_low : t.low ≤ h.stamp
      stamp_low =
          let s_low = (seat_known shared.counted.0 shared.counted.1).1 in
          let least = h.stamps.least in
          omega arith

      stamp_high : h.stamp < back.low
      stamp_high = let above = h.stamps.above in omega arith

      -- a note of the lane is one of those before, or this one
      which : (e : Entry) → Contains (own lane q.seen) e
          → Contains (own lane t.pass.seen) e ⊎ (note ≡ e)
      which e has = elim (In-append e (own lane t.pass.seen) (note ∷ [])
          (subst (In e) own_is (in_contains (own lane q.seen) e has))) [
            | inl old ↦ inl (contains_in (own lane t.pass.seen) e old)
            | inr new ↦ elim new [ inl is ↦ inr is | inr none ↦ absurd none ]
          ]

      at_k : (e : Entry) → note ≡ e → (k ≡ e.place.call) × (h.stamp ≡ e.stamp)
      at_k e is = (ap (λ (x : Entry). x.place.call) is, ap (λ (x : Entry). x.stamp) is)

      earlier : (e : Entry) → Contains (own lane t.pass.seen) e → e.place.call < k
      earlier e has = note_calls e (in_contains (own lane t.pass.seen) e has)

      in_order : NotesInOrder lane q.seen (seen_of l.work.passes.items)
      in_order = record {
        rise = λ e f i j before. elim (which e i) [
          | inl old_e ↦ elim (which f j) [
            | inl old_f ↦ t.noted.rise e f old_e old_f before
            | inr new_f ↦ (let b = t.notes_below e old_e in let x = at_k f new_f in
                let y = stamp_low in omega arith)
          ]
          | inr new_e ↦ (let x = at_k e new_e in elim (which f j) [
            | inl old_f ↦ (let y = earlier f old_f in absurd (omega arith))
            | inr new_f ↦ (let y = at_k f new_f in absurd (omega arith))
          ])
        ];
        after = λ c e f i j before. elim (which f j) [
          | inl old_f ↦ t.noted.after c e f i old_f before
          | inr new_f ↦ (let b = t.below c e i in let x = at_k f new_f in let y = stamp_low in
              omega arith)
        ];
        before = λ c e f i j before. elim (which e i) [
          | inl old_e ↦ t.noted.before c e f old_e j before
          | inr new_e ↦ (let x = at_k e new_e in
              let stamps = (t.reads t.pass.seen (λ c low. refl)).is_at.stamps in
              let y = stamps.calls_below c f
              (in_contains (own lane (seen_of l.work.passes.items c)) f j) in
              absurd (omega arith))
        ];
      }

      notes_low : (e : Entry) → Contains (own lane q.seen) e → e.stamp < back.low
      notes_low e has = elim (which e has) [
        | inl old ↦ (let b = t.notes_below e old in let x = stamp_low in let y = stamp_high in
            omega arith)
        | inr new ↦ (let x = at_k e new in let y = stamp_high in omega arith)
      ]

      -- ---- as one of each plan that the table may make

      still_reads : (notes : List Entry) → TellsAs lane (k + 1) q.seen notes
          → ReadsAs v lane k t.chunks (record l.work { seat = Some back }) notes
      still_reads notes tells =
          let r = t.reads notes (λ c low. tells c (omega arith) ∙ tells_before c low) in
          let o = r.is_at.seat shared.counted.0 shared.counted.1 in
          let same : o.0 ≡ s = one_of o.0 s (sym o.1 ∙ sits) in
          let known : r.is_at.low ≤ s.low =
          subst (λ (x : SeatView). r.is_at.low ≤ x.low) same o.3 in
          record {
            blanks = r.blanks;
            spare = r.spare;
            enough = r.enough;
            is_at = reseated (looked_up_plan v.plan notes) v.contexts v.counter lane k _ (Some back)
                r.is_at (knows r.is_at.low
                (let least = h.stamps.least in let high = stamp_high in omega arith));
            are_heard = r.are_heard;
          }

      pub noted : (u : LiveLaneIsAt v lane (k + 1) k
          (record { work = record l.work { seat = Some back }; pass = Some q }))
          × (was_live u.pass.seen (place lane k 0) ≡ live)
      noted = (
        record {
          lane_is = t.lane_is;
          pass = q;
          holds = refl;
          of = h.after.lock ∙ of_pass;
          number = h.after.number ∙ number_is;
          turns = (let x = h.after.turns in let y = t.turns in
              let z = ap (λ (x : PassView). x.turns) pass_is in omega arith);
          next = (let x = h.next_call in omega arith);
          places = ap entry_places own_is
              ∙ map-append (λ (e : Entry). e.place) (own lane t.pass.seen) (note ∷ [])
              ∙ ap (λ ps. ps ++ place lane k 0 ∷ []) t.places
              ∙ ap (λ o. noted_from v.plan stand lane 0 (take k lines) ++ note_place lane k o) (sym is)
              ∙ sym (noted_more v.plan stand lane lines k call at);
          acts = subst (All (NotesItsCall v.plan stand)) (sym own_is)
              (All-append (NotesItsCall v.plan stand) (own lane t.pass.seen) (note ∷ []) t.acts
              (All-cons (NotesItsCall v.plan stand) note [] (record {
                noting = n;
                noted = record {
                  first = refl;
                  noting_is = ap (noting_in v.plan stand) at ∙ is;
                };
                live = live;
                step = refl;
              }) (All-nil (NotesItsCall v.plan stand))));
          low = back.low;
          seat = knows back.low (omega arith);
          noted = in_order;
          notes_below = notes_low;
          below = λ c e has. let b = t.below c e has in let x = stamp_low in let y = stamp_high in
              omega arith;
          chunks = t.chunks;
          given = t.given;
          guesses = t.guesses;
          reads = still_reads;
        },
        tells_now,
      )
