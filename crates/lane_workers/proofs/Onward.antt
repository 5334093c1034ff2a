-- A lane between two of its calls, one call more.
use Rattle.std.proofs.Common.{◌≡◌, ◌≢◌, ℕ, ◌+◌, ◌<◌, ◌≤◌, ◌==◌, inl, inr, Bool, true, false, cond, List, [], ◌∷◌, ◌++◌, length, map, take, drop, Option, Some, None, sym, refl, ap, ◌∙◌, subst, arith, eq-eqb, ne_eqb, length-append, get_or-set_other, Bor}
use Rattle.std.specs.Prelude.{slice_get, slice_index, slice_set}
use Rattle.std.proofs.lemmas.Bool.{cases_lt}
use Rattle.std.proofs.lemmas.List.{length-set, get_or-set_same, get_or_past}
use Rattle.call_places.specs.declared.entries.Entry.{Entry}
use Rattle.call_places.specs.Messages.{SealedMessage}
use Rattle.call_places.specs.Entries.{own, seq_of}
use Rattle.turn_lock.specs.Passes.{PassView}
use Rattle.stamp_counter.specs.Seats.{CounterView}
use Rattle.hpke_context.specs.Answers.{Answer, Cipher, run}
use Rattle.hpke_context.specs.Contexts.{ContextView}
use Rattle.context_books.specs.Batches.{Ask, Nothing, ToOpenAll, block, unseal, items_in, context_in}
use Rattle.context_books.specs.Guesses.{guess_of, guess_at}
use Rattle.context_books.specs.Entries.{entries_from, steps_from}
use Rattle.context_books.proofs.Lists.{append-nil, is_cases}
use Rattle.lane_workers.specs.Showing.{OpeningShows}
use Rattle.lane_workers.specs.OnTheWay.{AllReplied, StampsAre}
use Rattle.lane_workers.proofs.Stamping.{added_to, stamps_wait, stamps_call}
use Rattle.shared_context.specs.Calls.{SharedView}
use Rattle.batch_plans.specs.declared.plan.Plan.{Plan}
use Rattle.batch_plans.specs.declared.plan.CallLine.{CallLine}
use Rattle.batch_plans.specs.Limits.{items_of}
use Rattle.context_books.specs.ContextLines.{export_limits}
use Rattle.context_books.specs.Asks.{ask_of, cipher_at}
use Rattle.context_books.specs.Answered.{HasAnswered, HasRoomFor}
use Rattle.context_books.proofs.Steps.{length-run}
use Rattle.lane_workers.specs.declared.works.LaneWork.{LaneWork}
use Rattle.lane_workers.specs.Served.{Told, told_lines, seen_of, seen_by}
use Rattle.lane_workers.specs.Turns.{shared_at, pass_at, views}
use Rattle.context_books.specs.LaneCalls as lanes
use Rattle.lane_workers.specs.Lanes.{asks_of, told_done, Tells, IsPassAt, HasSeat, LaneIsAt}
use Rattle.context_books.proofs.KeptGuesses.{guesses_more}
use Rattle.lane_workers.proofs.Going.{get_last, ask_here, tells_less, says_more, guess_now}
use Rattle.lane_workers.proofs.Found.{one_of}

-- ---- passes, one of which is another

pub pass_within : (passes : List (Option PassView)) (number : ℕ) (p : PassView)
    → pass_at passes number ≡ Some p → number < length passes
pass_within passes number p is = elim (cases_lt number (length passes)) [
  | inl low ↦ low
  | inr high ↦ absurd (let f : Some p ≡ None = sym is ∙ get_or_past passes number None high in cc)
]

pub pass_same : (passes : List (Option PassView)) (number : ℕ) (q : PassView)
    → number < length passes → pass_at (slice_set passes number (Some q)) number ≡ Some q
pass_same passes number q low = get_or-set_same passes number (Some q) None low

pub pass_other : (passes : List (Option PassView)) (number d : ℕ) (q : PassView) → number ≢ d
    → pass_at (slice_set passes number (Some q)) d ≡ pass_at passes d
pass_other passes number d q apart =
    get_or-set_other passes number d (Some q) None (λ e. apart (sym e))

-- a pass stays where its lane's calls go on elsewhere
pub pass_stays : (s : SharedView) (lane k : ℕ) (p : PassView) → IsPassAt s lane k p
    → IsPassAt s lane (k + 1) p
pass_stays s lane k p t = record {
  of = t.of;
  number = t.number;
  turns = (let a = t.turns in omega arith);
  next = (let a = t.next in omega arith);
}

module _ (plan : Plan) (contexts : List (Option SharedView)) (counter : Option (Bor CounterView))
    (lane k : ℕ) (call : CallLine) (at : slice_get (lanes.lane_calls plan lane) k ≡ Some call)
    (w : LaneWork) (t : LaneIsAt plan contexts counter lane k w) where
  abbrev stand : List (Option ContextView)
  stand = views contexts

  abbrev asks : List Ask
  asks = asks_of plan stand lane

  abbrev calls : List CallLine
  calls = lanes.lane_calls plan lane

  abbrev a : Ask
  a = ask_of plan stand call

  abbrev n : ℕ
  n = context_in a

  abbrev c : Cipher
  c = cipher_at stand n

  abbrev seen : ℕ → List Entry
  seen = seen_of w.passes.items

  -- what is told once the call is answered, with this guess and so many misses
  abbrev pub TellsOn : List Answer → ℕ → ℕ → Told → Type 0
  TellsOn answers g m told =
      Tells lane (t.given ++ answers ∷ []) (t.guesses ++ guess_of a g) (t.misses ++ guess_of a m) told

  pub replied : (answers : List Answer) (g m : ℕ) (told : Told) → TellsOn answers g m told
      → AllReplied told.replies (block lane k 0 (length answers)) answers
  replied answers g m told tells =
      tells.replies k answers
      (ap (slice_get (t.given ++ answers ∷ [])) (sym t.calls_given) ∙ get_last t.given answers)

  pub guess_told : (answers : List Answer) (g m : ℕ) (told : Told) → TellsOn answers g m told
      → (messages : List SealedMessage) → a ≡ ToOpenAll n messages
      → (guess_at asks told.guesses k ≡ g) × (guess_at asks told.misses k ≡ m)
  guess_told answers g m told tells messages is =
      let kept : (x : ℕ) → guess_of a x ≡ x ∷ [] = λ x. ap (λ b. guess_of b x) is in (
        guess_now plan stand lane k call at t.guesses told.guesses g t.guesses_given
            (subst (λ xs. (i x : ℕ) → slice_get (t.guesses ++ xs) i ≡ Some x
            → slice_index told.guesses i ≡ x) (kept g) tells.guesses),
        guess_now plan stand lane k call at t.misses told.misses m t.misses_given
            (subst (λ xs. (i x : ℕ) → slice_get (t.misses ++ xs) i ≡ Some x
            → slice_index told.misses i ≡ x) (kept m) tells.misses),
      )

  -- what the call changes
  pub record GoesOn (new : LaneWork) (others : ℕ → List Entry) (first due g m : ℕ) : Type 0 where
    pub of_others : (d : ℕ) → own lane (others d) ≡ []
    pub due_is : due ≡ seq_of (seen n ++ others n)
    pub enough : t.low ≤ first
    pub seen_is : (d : ℕ) → seen_of new.passes.items d
        ≡ (seen d ++ others d) ++ added_to lane a k first (steps_from c due (items_in a)) d
    pub opens : (told : Told) → TellsOn (run c due (items_in a)) g m told
        → (messages : List SealedMessage) → a ≡ ToOpenAll n messages
        → OpeningShows c ((seen n ++ others n)
        ++ added_to lane a k first (steps_from c due (items_in a)) n) lane k (map unseal messages)
        (guess_at asks told.guesses k) (guess_at asks told.misses k)
    pub answered : (told : Told) → TellsOn (run c due (items_in a)) g m told
        → HasAnswered (take k calls) (told_done plan stand told lane k) w.progress
        → HasAnswered (take k calls ++ call ∷ [])
        (told_done plan stand told lane k ++ told_lines plan stand told lane k call) new.progress
    pub room : HasRoomFor plan (export_limits stand) (drop (k + 1) calls) new.progress
    pub lane_same : new.lane ≡ w.lane
    pub count : length new.passes.items ≡ length w.passes.items
    pub passes : (d : ℕ) (s : SharedView) → shared_at contexts d ≡ Some s
        → (p : PassView) × (pass_at new.passes.items d ≡ Some p) × IsPassAt s lane (k + 1) p
    pub absent : (d : ℕ) → shared_at contexts d ≡ None → seen_of new.passes.items d ≡ []
    pub seat : HasSeat counter (first + length (steps_from c due (items_in a))) new.seat
    pub rows : new.table.room ≡ w.table.room
    pub steps : length new.steps.items ≡ length w.steps.items
    pub checks : new.checks ≤ w.checks + 65536

  pub goes_on : (new : LaneWork) (others : ℕ → List Entry) (first due g m : ℕ)
      → GoesOn new others first due g m → LaneIsAt plan contexts counter lane (k + 1) new
  goes_on new others first due g m e =
      let here = ask_here plan stand lane k call at in
      let answers = run c due (items_in a) in
      let steps = steps_from c due (items_in a) in
      let stamped : StampsAre lane (k + 1)
      (λ d. (seen d ++ others d) ++ added_to lane a k first steps d) (first + length steps) =
      Rattle.lane_workers.proofs.Stamping.stamps_call lane k (λ d. seen d ++ others d) t.low a first
      steps e.enough (stamps_wait lane k seen others t.low e.of_others t.stamps) in
      record {
        lane_is = e.lane_same ∙ t.lane_is;
        given = t.given ++ answers ∷ [];
        guesses = t.guesses ++ guess_of a g;
        misses = t.misses ++ guess_of a m;
        low = first + length steps;
        calls_given = length-append t.given (answers ∷ []) ∙ ap (λ i. i + 1) t.calls_given;
        guesses_given = guesses_more asks k a t.guesses g here t.guesses_given;
        misses_given = guesses_more asks k a t.misses m here t.misses_given;
        count = e.count ∙ t.count;
        passes = e.passes;
        absent = e.absent;
        seat = e.seat;
        stamps = subst (λ (f : ℕ → List Entry). StampsAre lane (k + 1) f (first + length steps))
            (λ i d. sym (e.seen_is d) i) stamped;
        says = λ told tells.
            let before = t.says told
            (tells_less lane t.given t.guesses t.misses (guess_of a g) (guess_of a m) answers told
            tells) in
            says_more plan stand lane k call at told seen others first due e.of_others e.due_is
            (subst (λ i. AllReplied told.replies (block lane k 0 i) answers)
            (length-run c due (items_in a)) (replied answers g m told tells))
            w.progress new.progress (seen_of new.passes.items) e.seen_is before
            (e.opens told tells) (e.answered told tells before.answered);
        room = e.room;
        rows = subst (λ i. Rattle.std.specs.List.All (λ x. items_of x ≤ i) calls) (sym e.rows) t.rows;
        steps = subst (λ i. Rattle.std.specs.List.All (λ x. items_of x ≤ i) calls) (sym e.steps)
            t.steps;
        checks = (let b = t.checks in let d = e.checks in omega arith);
      }

  -- ---- a call that takes no turn

  nothing_added : a ≡ Nothing → (first due d : ℕ)
      → added_to lane a k first (steps_from c due (items_in a)) d ≡ []
  nothing_added none first due d =
      ap (λ x. cond (n == d) (entries_from lane k 0 first (steps_from c due (items_in x))) []) none
      ∙ step (n == d)
    where
      step : (b : Bool) → cond {A = List Entry} b [] [] ≡ []
      step true = refl
      step false = refl

  pub still : (new : LaneWork) → a ≡ Nothing
      → ((told : Told) → HasAnswered (take k calls) (told_done plan stand told lane k) w.progress
      → HasAnswered (take k calls ++ call ∷ [])
      (told_done plan stand told lane k ++ told_lines plan stand told lane k call) new.progress)
      → HasRoomFor plan (export_limits stand) (drop (k + 1) calls) new.progress
      → new.lane ≡ w.lane → new.passes.items ≡ w.passes.items → new.seat ≡ w.seat
      → new.table.room ≡ w.table.room → length new.steps.items ≡ length w.steps.items
      → new.checks ≡ w.checks → LaneIsAt plan contexts counter lane (k + 1) new
  still new none answered room lane_same passes seat rows steps checks =
      let due = seq_of (seen n ++ []) in
      let no_steps : steps_from c due (items_in a) ≡ [] =
      ap (λ x. steps_from c due (items_in x)) none in
      goes_on new (λ d. []) t.low due 0 0 (record {
        of_others = λ d. refl;
        due_is = refl;
        enough = omega arith;
        seen_is = λ d. ap (λ ps. seen_of ps d) passes
            ∙ sym (append-nil (seen d)) ∙ sym (append-nil (seen d ++ []))
            ∙ ap (λ es. (seen d ++ []) ++ es) (sym (nothing_added none t.low due d));
        opens = λ told tells messages is.
            absurd (no_messages n messages (sym none ∙ is));
        answered = λ told tells. answered told;
        room = room;
        lane_same = lane_same;
        count = ap length passes;
        passes = λ d s standing. let p = t.passes d s standing in
            (p.0, ap (λ ps. pass_at ps d) passes ∙ p.1, pass_stays s lane k p.0 p.2);
        absent = λ d none. ap (λ ps. seen_of ps d) passes ∙ t.absent d none;
        seat = λ stamps is. let s = t.seat stamps is in (
          s.0,
          seat ∙ s.1,
          s.2,
          (let low = s.3 in let size = ap length no_steps in omega arith),
        );
        rows = rows;
        steps = steps;
        checks = (let b = checks in omega arith);
      })
    where
      no_messages : (d : ℕ) (messages : List SealedMessage) → Nothing ≡ ToOpenAll d messages → ⊥
      no_messages d messages e = cc

  -- ---- a call with a turn that adds its entries

  pub record Turns (new : LaneWork) (p q : PassView) (s : SharedView) (os : List Entry)
      (first due g m : ℕ) : Type 0 where
    pub stands : shared_at contexts n ≡ Some s
    pub was : pass_at w.passes.items n ≡ Some p
    pub passes : new.passes.items ≡ slice_set w.passes.items n (Some q)
    pub of_others : own lane os ≡ []
    pub due_is : due ≡ seq_of (p.seen ++ os)
    pub enough : t.low ≤ first
    pub seen_is : q.seen ≡ (p.seen ++ os) ++ entries_from lane k 0 first (steps_from c due (items_in a))
    pub pass_is : IsPassAt s lane (k + 1) q
    pub opens : (messages : List SealedMessage) → a ≡ ToOpenAll n messages
        → OpeningShows c ((p.seen ++ os) ++ entries_from lane k 0 first (steps_from c due (items_in a)))
        lane k (map unseal messages) g m
    pub answered : (told : Told) → TellsOn (run c due (items_in a)) g m told
        → HasAnswered (take k calls) (told_done plan stand told lane k) w.progress
        → HasAnswered (take k calls ++ call ∷ [])
        (told_done plan stand told lane k ++ told_lines plan stand told lane k call) new.progress
    pub room : HasRoomFor plan (export_limits stand) (drop (k + 1) calls) new.progress
    pub lane_same : new.lane ≡ w.lane
    pub seat : HasSeat counter (first + length (steps_from c due (items_in a))) new.seat
    pub rows : new.table.room ≡ w.table.room
    pub steps : length new.steps.items ≡ length w.steps.items
    pub checks : new.checks ≤ w.checks + 65536

  pub turned : (new : LaneWork) (p q : PassView) (s : SharedView) (os : List Entry)
      (first due g m : ℕ) → Turns new p q s os first due g m
      → LaneIsAt plan contexts counter lane (k + 1) new
  turned new p q s os first due g m e =
      let low = pass_within w.passes.items n p e.was in
      let others : ℕ → List Entry = λ d. cond (n == d) os [] in
      let whole = entries_from lane k 0 first (steps_from c due (items_in a)) in
      let mine : (n == n) ≡ true = eq-eqb n n refl in
      let seen_here : seen n ≡ p.seen = ap seen_by e.was in
      let os_here : others n ≡ os = ap (λ b. cond b os []) mine in
      let added_here : added_to lane a k first (steps_from c due (items_in a)) n ≡ whole =
      ap (λ b. cond b whole []) mine in
      let now : (seen n ++ others n) ++ added_to lane a k first (steps_from c due (items_in a)) n
      ≡ (p.seen ++ os) ++ whole = (λ i. (seen_here i ++ os_here i) ++ added_here i) in
      goes_on new others first due g m (record {
        of_others = λ d. none_of (n == d);
        due_is = e.due_is ∙ ap seq_of (sym (λ i. seen_here i ++ os_here i));
        enough = e.enough;
        seen_is = λ d. ap (λ ps. seen_of ps d) e.passes ∙ elim (is_cases n d) [
          | inl same ↦ subst (λ j. seen_of (slice_set w.passes.items n (Some q)) j
              ≡ (seen j ++ others j) ++ added_to lane a k first (steps_from c due (items_in a)) j) same
              (ap seen_by (pass_same w.passes.items n q low) ∙ e.seen_is ∙ sym now)
          | inr apart ↦ (let other : (n == d) ≡ false = ne_eqb n d apart in
              ap seen_by (pass_other w.passes.items n d q apart)
              ∙ sym (append-nil (seen d)) ∙ sym (append-nil (seen d ++ []))
              ∙ (λ i. (seen d ++ cond (sym other i) os []) ++ cond (sym other i) whole []))
        ];
        opens = λ told tells messages is.
            let both = guess_told (run c due (items_in a)) g m told tells messages is in
            subst (λ es. OpeningShows c es lane k (map unseal messages)
            (guess_at asks told.guesses k) (guess_at asks told.misses k)) (sym now)
            (subst (λ x. OpeningShows c ((p.seen ++ os) ++ whole) lane k (map unseal messages) x
            (guess_at asks told.misses k)) (sym both.0)
            (subst (λ x. OpeningShows c ((p.seen ++ os) ++ whole) lane k (map unseal messages) g x)
            (sym both.1) (e.opens messages is)));
        answered = e.answered;
        room = e.room;
        lane_same = e.lane_same;
        count = ap length e.passes ∙ length-set w.passes.items n (Some q);
        passes = λ d s' standing. elim (is_cases n d) [
          | inl same ↦ (let s_is : s ≡ s' = one_of s s'
              (sym e.stands ∙ ap (shared_at contexts) same ∙ standing) in (
                q,
                ap (pass_at new.passes.items) (sym same) ∙ ap (λ ps. pass_at ps n) e.passes
                    ∙ pass_same w.passes.items n q low,
                subst (λ (x : SharedView). IsPassAt x lane (k + 1) q) s_is e.pass_is,
              ))
          | inr apart ↦ (let o = t.passes d s' standing in (
            o.0,
            ap (λ ps. pass_at ps d) e.passes ∙ pass_other w.passes.items n d q apart ∙ o.1,
            pass_stays s' lane k o.0 o.2,
          ))
        ];
        absent = λ d none. elim (is_cases n d) [
          | inl same ↦ absurd (not_there s
              (sym e.stands ∙ ap (shared_at contexts) same ∙ none))
          | inr apart ↦ ap (λ ps. seen_of ps d) e.passes
              ∙ ap seen_by (pass_other w.passes.items n d q apart) ∙ t.absent d none
        ];
        seat = e.seat;
        rows = e.rows;
        steps = e.steps;
        checks = e.checks;
      })
    where
      none_of : (b : Bool) → own lane (cond b os []) ≡ []
      none_of true = e.of_others
      none_of false = refl

      not_there : (x : SharedView) → Some x ≡ None → ⊥
      not_there x is = cc
