-- All lanes, event by event.
use Rattle.std.proofs.Common.{◌≡◌, ◌<◌, ◌≤◌, ℕ, zero, suc, ◌+◌, ◌*◌, ◌-◌, List, [], ◌∷◌, ◌++◌, length, map, take, drop, get_or, sym, refl, ap, ◌∙◌, subst, arith, append_assoc, Option, Some, None, inl, inr}
use Rattle.std.specs.Prelude.{slice_get, slice_set, replicate, sum_by}
use Rattle.std.proofs.lemmas.Bool.{cases_eq, cases_lt}
use Rattle.std.proofs.lemmas.List.{length-set, length-map}
use Rattle.std.proofs.lemmas.List.Sums.{sum_by-cons}
use Rattle.std.proofs.lemmas.Option.{slice_get_within, slice_get-get_or}
use Rattle.hpke_context.specs.Answers.{Cipher}
use Rattle.hpke_context.specs.Contexts.{ContextView}
use Rattle.context_books.specs.Batches.{Batch, Ask, Nothing, ToSeal, ToOpen, ToOpenAll, Spot, lane_of}
use Rattle.context_books.specs.Merging.{own_spots}
use Rattle.context_books.proofs.Members.{got}
use Rattle.context_books.specs.Lists.{In}
use Rattle.context_books.proofs.Lists.{own_spots-append, append-nil}
use Rattle.context_books.proofs.Spots.{spot_own}
use Rattle.context_books.proofs.OneLane.{taken_more, few_taken}
use Rattle.context_core.specs.Core as core
use Rattle.context_core.specs.Core.{Core, Moved, Phase, phases, all_tasks, tasks, step, due_in, with_moved, happens_at, happens, all_happen, at_first, start, to_the_ends}
use Rattle.context_core.proofs.ScheduleLists.{one_value, slice_get-set_same, slice_get-set_other}
use Rattle.context_core.proofs.ScheduleSteps.{gives_own}
use Rattle.context_core.specs.CoreStages.{tasks_at}
use Rattle.context_core.proofs.ScheduleEnds.{left_of, left_at, one_less, no_more_after, start_left, all_happen-append}
use Rattle.context_core.proofs.Idle.{at_end, not_there}
use Rattle.batch_plans.specs.declared.plan.Plan.{Plan}
use Rattle.batch_plans.specs.declared.plan.CallLine.{CallLine}
use Rattle.batch_plans.specs.Limits.{items_of}
use Rattle.batch_plans.specs.Within.{IsWithinLimits}
use Rattle.context_books.specs.Asks.{batch_of, cipher_at, ask_of}
use Rattle.context_books.proofs.Done.{lane_asks}
use Rattle.context_core.specs.declared.books.Books.{Books}
use Rattle.context_core.specs.declared.lanes.Lane.{Lane}
use Rattle.context_books.specs.LaneCalls.{lane_calls}
use Rattle.context_core.specs.Following.{run_of, long_ends, core_stage, IsLane, Follows, IsRehearsal}
use Rattle.context_core.proofs.Going.{lane_stays}
use Rattle.context_books.proofs.Sums.{count_parts, sum_numbers-le}
use Rattle.context_core.proofs.Counting.{own-le, asks_size}

module _ (plan : Plan) (contexts : List (Option ContextView)) where
  abbrev batch : Batch
  batch = batch_of plan contexts

  abbrev ciphers : ℕ → Cipher
  ciphers = cipher_at contexts

  -- ---- one event

  -- one lane and the books go on with the core; the other lanes stay as they are
  pub lane_steps : (w : Core) (lanes : List Lane) (books new_books : Books) (l : ℕ)
      (lane new : Lane) → IsRehearsal plan contexts w lanes books
      → slice_get lanes l ≡ Some lane
      → Follows plan contexts (happens batch ciphers w l) l new new_books
      → IsRehearsal plan contexts (happens batch ciphers w l) (slice_set lanes l new) new_books
  lane_steps w lanes books new_books l lane new t at follows =
      let of = t.each l lane at in
      let s : core.Lane = _ in
      let m : Moved = step (due_in batch ciphers w.history) l s s.to_come in
      let is : happens batch ciphers w l ≡ with_moved w l m = ap (happens_at batch ciphers w l) of.at in
      let history : (happens batch ciphers w l).history ≡ w.history ++ m.given =
      ap (λ (v : Core). v.history) is in
      let low : l < length plan.lanes = (let a = slice_get_within lanes l lane at in
      let b = t.count in omega arith) in
      record {
        books_follow = follows.books_follow;
        count = length-set lanes l new ∙ t.count;
        core_count = ap (λ (v : Core). length v.lanes) is ∙ length-set w.lanes l m.lane
            ∙ t.core_count;
        each = λ k x here. elim (cases_eq k l) [
          | inl same ↦
              (let x_is : new ≡ x = one_value new x
              (sym (slice_get-set_same lanes l new lane at)
              ∙ ap (slice_get (slice_set lanes l new)) (sym same) ∙ here) in
              subst (λ n. IsLane plan contexts (happens batch ciphers w l) n x) (sym same)
              (subst (IsLane plan contexts (happens batch ciphers w l) l) x_is
              follows.lane_follows))
          | inr ne ↦ lane_stays plan contexts w (happens batch ciphers w l) m.given k x history
              (gives_own (due_in batch ciphers w.history) k l s s.to_come (λ e. ne (sym e)))
              (ap (λ (v : Core). slice_get v.lanes k) is ∙ slice_get-set_other w.lanes l k m.lane ne)
              (t.each k x (sym (slice_get-set_other lanes l k new ne) ∙ here))
        ];
        others = λ k high. ap (own_spots k) history ∙ own_spots-append k w.history m.given
            ∙ (λ i. t.others k high i ++ gives_own (due_in batch ciphers w.history) k l s s.to_come
            (λ e. let f : l ≡ k = e in omega arith) i);
      }

  -- ---- how many places there are

  lane_places_few : (w : Core) (lanes : List Lane) (books : Books)
      → IsRehearsal plan contexts w lanes books → (l : ℕ) → l < length plan.lanes
      → length (own_spots l w.history) ≤ sum_by items_of (lane_calls plan l)
  lane_places_few w lanes books t l low =
      let x = got lanes l (let a = t.count in omega arith) in
      let of = t.each l x.0 x.1 in
      let asks = lane_of batch l in
      let all = lane_asks (run_of plan contexts w) l in
      let size = ap (sum_by (λ (a : Ask). length
      (Rattle.context_books.specs.Batches.items_in a))) all in
      omega (
        arith,
        ap length of.own,
        own-le (core_stage x.0.stage) l x.0.call asks,
        size,
        asks_size plan contexts (lane_calls plan l),
      )

  -- no more than there are items
  pub few_places : (w : Core) (lanes : List Lane) (books : Books) → IsWithinLimits plan
      → IsRehearsal plan contexts w lanes books → books.places ≤ 65536
  few_places w lanes books within t =
      let n = length plan.lanes in
      let lane = λ (s : Spot). s.place.lane in
      let known : (s : Spot) → In s w.history → s.place.lane < n = λ s has.
      elim (cases_lt s.place.lane n) [
        | inl low ↦ low
        | inr high ↦ absurd (subst (In s) (t.others s.place.lane high)
            (spot_own s.place.lane s w.history has refl))
      ] in
      let parts = count_parts lane n w.history known in
      let each = sum_numbers-le (λ l. length (own_spots l w.history))
      (λ (calls : List CallLine). sum_by items_of calls) [] 0 plan.lanes
      (λ i low. let start : i ≡ 0 + i = omega arith in
      subst (λ l. length (own_spots l w.history) ≤ sum_by items_of (get_or plan.lanes i [])) start
      (lane_places_few w lanes books t i low)) in
      omega (arith, parts, each, within.items, t.books_follow.places)

  -- ---- several events

  pub one_more : (w : Core) (schedule : List ℕ) (i number : ℕ) → slice_get schedule i ≡ Some number
      → all_happen batch ciphers w (take (i + 1) schedule)
      ≡ happens batch ciphers (all_happen batch ciphers w (take i schedule)) number
  one_more w schedule i number at =
      ap (all_happen batch ciphers w) (taken_more schedule i number at)
      ∙ all_happen-append batch ciphers w (take i schedule) (number ∷ [])

  pub once_more : (w : Core) (n l : ℕ)
      → all_happen batch ciphers w (replicate (suc n) l)
      ≡ happens batch ciphers (all_happen batch ciphers w (replicate n l)) l
  once_more w zero l = refl
  once_more w (suc n) l = once_more (happens batch ciphers w l) n l

  pub four_more : (w : Core) (n l : ℕ)
      → all_happen batch ciphers w (replicate (4 * (n + 1)) l)
      ≡ happens batch ciphers (happens batch ciphers (happens batch ciphers
      (happens batch ciphers (all_happen batch ciphers w (replicate (4 * n) l)) l) l) l) l
  four_more w n l =
      let m : ℕ = 4 * n in
      let more = λ (v : Core). happens batch ciphers v l in
      ap (λ k. all_happen batch ciphers w (replicate k l))
      (let e : 4 * (n + 1) ≡ suc (suc (suc (suc (4 * n)))) = omega arith in e)
      ∙ once_more w (suc (suc (suc m))) l
      ∙ ap more (once_more w (suc (suc m)) l)
      ∙ ap (λ v. more (more v)) (once_more w (suc m) l)
      ∙ ap (λ v. more (more (more v))) (once_more w m l)

-- ---- how many steps a lane has

abbrev steps_of : Ask → ℕ
steps_of a = length (phases a)

all_steps : (k : ℕ) (asks : List Ask) → length (all_tasks k asks) ≡ sum_by steps_of asks
all_steps k [] = refl
all_steps k (a ∷ asks) =
    Rattle.std.proofs.Common.length-append (tasks k a (phases a)) (all_tasks (k + 1) asks)
    ∙ (λ i. length-map (phases a) (λ (phase : Phase). let t : core.Task =
    record { call = k; ask = a; phase = phase } in t) i
    + all_steps (k + 1) asks i)
    ∙ sym (sum_by-cons steps_of a asks)

at_most_four : (a : Ask) → steps_of a ≤ 4
at_most_four Nothing = omega arith
at_most_four (ToSeal c aad text) = omega arith
at_most_four (ToOpen c aad ct) = omega arith
at_most_four (ToOpenAll c ms) = omega arith

four_each : (asks : List Ask) → sum_by steps_of asks ≤ 4 * length asks
four_each [] = omega arith
four_each (a ∷ asks) =
    omega (arith, sum_by-cons steps_of a asks, at_most_four a, four_each asks)

-- ---- a lane at its end

module _ (batch : Batch) (ciphers : ℕ → Cipher) where
  idle : (w : Core) (n l : ℕ) (s : core.Lane) → slice_get w.lanes l ≡ Some s → s.to_come ≡ []
      → all_happen batch ciphers w (replicate n l) ≡ w
  idle w zero l s at none = refl
  idle w (suc n) l s at none =
      ap (λ (v : Core). all_happen batch ciphers v (replicate n l)) (at_end batch ciphers w l s at none)
      ∙ idle w n l s at none

  none_left : (o : Option core.Lane) → left_of o ≡ 0 → (s : core.Lane) → o ≡ Some s → s.to_come ≡ []
  none_left o zero_left s is = empty s.to_come (sym (ap left_of is) ∙ zero_left)
    where
      empty : (ts : List core.Task) → length ts ≡ 0 → ts ≡ []
      empty [] e = refl
      empty (t ∷ ts) e = absurd (omega arith)

  -- all its steps and more are the same as just enough
  enough_of : (n m : ℕ) (w : Core) (l : ℕ) → l < length w.lanes → left_at w l ≤ n
      → left_at w l ≤ m
      → all_happen batch ciphers w (replicate n l) ≡ all_happen batch ciphers w (replicate m l)
  enough_of zero m w l low a b =
      let s = got w.lanes l low in
      sym (idle w m l s.0 s.1 (none_left (slice_get w.lanes l) (omega arith) s.0 s.1))
  enough_of (suc n) zero w l low a b =
      let s = got w.lanes l low in
      idle w (suc n) l s.0 s.1 (none_left (slice_get w.lanes l) (omega arith) s.0 s.1)
  enough_of (suc n) (suc m) w l low a b =
      let less = one_less batch ciphers w l in
      enough_of n m (happens batch ciphers w l) l (still (slice_get w.lanes l)) (omega arith)
      (omega arith)
    where
      still : (o : Option core.Lane) → l < length (happens_at batch ciphers w l o).lanes
      still None = low
      still (Some s) =
          let size = length-set w.lanes l
          (step (due_in batch ciphers w.history) l s s.to_come).lane in
          omega (arith, size)

-- ---- all lanes to their ends

module _ (batch : Batch) (ciphers : ℕ → Cipher) (ask : CallLine → Ask) where
  same_count : (w : Core) (events : List ℕ)
      → length (all_happen batch ciphers w events).lanes ≡ length w.lanes
  same_count w [] = refl
  same_count w (l ∷ events) =
      same_count (happens batch ciphers w l) events ∙ one (slice_get w.lanes l)
    where
      one : (o : Option core.Lane) → length (happens_at batch ciphers w l o).lanes ≡ length w.lanes
      one None = refl
      one (Some s) = length-set w.lanes l (step (due_in batch ciphers w.history) l s s.to_come).lane

  ends_same : (w : Core) (l : ℕ) (lanes : List (List CallLine)) → l + length lanes ≤ length w.lanes
      → ((i : ℕ) → left_at w (l + i) ≤ length (all_tasks 0 (lane_of (map (map ask) lanes) i)))
      → all_happen batch ciphers w (long_ends l lanes)
      ≡ all_happen batch ciphers w (to_the_ends l (map (map ask) lanes))
  ends_same w l [] there left = refl
  ends_same w l (calls ∷ lanes) there left =
      let long = replicate (4 * length calls) l in
      let asks = map ask calls in
      let short = replicate (length (all_tasks 0 asks)) l in
      let mid = all_happen batch ciphers w short in
      let first : left_at w l ≤ length (all_tasks 0 asks) =
      subst (λ n. left_at w n ≤ length (all_tasks 0 asks))
      (let e : l + 0 ≡ l = omega arith in e) (left 0) in
      let most = four_each asks in
      let size = length-map calls ask in
      let all = all_steps 0 asks in
      let same = enough_of batch ciphers (4 * length calls) (length (all_tasks 0 asks)) w l (omega arith)
      (omega arith) first in
      let count = same_count w short in
      all_happen-append batch ciphers w long (long_ends (l + 1) lanes)
      ∙ ap (λ (v : Core). all_happen batch ciphers v (long_ends (l + 1) lanes)) same
      ∙ ends_same mid (l + 1) lanes (omega arith)
      (λ i. let before : left_at w (l + suc i)
      ≤ length (all_tasks 0 (lane_of (map (map ask) lanes) i)) = left (suc i) in
      let next : l + suc i ≡ l + 1 + i = omega arith in
      let b : left_at w (l + 1 + i) ≤ length (all_tasks 0 (lane_of (map (map ask) lanes) i)) =
      subst (λ n. left_at w n ≤ length (all_tasks 0 (lane_of (map (map ask) lanes) i))) next before in
      let fewer = no_more_after batch ciphers w short (l + 1 + i) in omega arith)
      ∙ sym (all_happen-append batch ciphers w short (to_the_ends (l + 1) (map (map ask) lanes)))

-- after a schedule, four events for each call do what is left
pub ends_are : (plan : Plan) (contexts : List (Option ContextView)) (schedule : List ℕ)
    → all_happen (batch_of plan contexts) (cipher_at contexts) (start (batch_of plan contexts))
    (schedule ++ long_ends 0 plan.lanes)
    ≡ core.core (batch_of plan contexts) (cipher_at contexts) schedule
ends_are plan contexts schedule =
    let batch = batch_of plan contexts in
    let ciphers = cipher_at contexts in
    let w = all_happen batch ciphers (start batch) schedule in
    let count : length w.lanes ≡ length plan.lanes =
    same_count batch ciphers (ask_of plan contexts) (start batch) schedule
    ∙ length-map batch at_first ∙ length-map plan.lanes (map (ask_of plan contexts)) in
    all_happen-append batch ciphers (start batch) schedule (long_ends 0 plan.lanes)
    ∙ ends_same batch ciphers (ask_of plan contexts) w 0 plan.lanes (omega arith)
    (λ i. let begun = start_left batch i in
    let fewer = no_more_after batch ciphers (start batch) schedule i in
    subst (λ n. left_at w n ≤ length (all_tasks 0 (lane_of batch i)))
    (let e : i ≡ 0 + i = omega arith in e) (omega arith))
    ∙ sym (all_happen-append batch ciphers (start batch) schedule (to_the_ends 0 batch))

-- ---- a lane that has no call left

none_there : {X : Type 0} (xs : List X) (k : ℕ) → slice_get xs k ≡ None → length xs ≤ k
none_there [] k e = omega arith
none_there (x ∷ xs) zero e = absurd (let f : Some x ≡ None = e in cc)
none_there (x ∷ xs) (suc k) e = let later = none_there xs k e in omega arith

module _ (plan : Plan) (contexts : List (Option ContextView)) where
  asks_count : (w : Core) (l : ℕ)
      → length (lane_of (batch_of plan contexts) l) ≡ length (lane_calls plan l)
  asks_count w l = ap length (lane_asks (run_of plan contexts w) l)
      ∙ length-map (lane_calls plan l) (ask_of plan contexts)

  pub idle_event : (w : Core) (lanes : List Lane) (books : Books) (l : ℕ) (lane : Lane)
      → IsRehearsal plan contexts w lanes books → slice_get lanes l ≡ Some lane
      → slice_get (lane_calls plan l) lane.call ≡ None
      → happens (batch_of plan contexts) (cipher_at contexts) w l ≡ w
  idle_event w lanes books l lane t at none =
      let of = t.each l lane at in
      let asks = lane_of (batch_of plan contexts) l in
      let past = none_there (lane_calls plan l) lane.call none in
      let count = asks_count w l in
      let left : drop lane.call asks ≡ [] =
      Rattle.std.proofs.lemmas.List.drop_all lane.call asks (omega arith) in
      at_end (batch_of plan contexts) (cipher_at contexts) w l _ of.at
      (ap (tasks_at (core_stage lane.stage) lane.call) left)

  pub not_there_event : (w : Core) (lanes : List Lane) (books : Books) (l : ℕ)
      → IsRehearsal plan contexts w lanes books → length lanes ≤ l
      → happens (batch_of plan contexts) (cipher_at contexts) w l ≡ w
  not_there_event w lanes books l t high =
      not_there (batch_of plan contexts) (cipher_at contexts) w l
      (let a = t.count in let b = t.core_count in omega arith)

-- ---- the lane and the calls that are read

pub read_at : {X : Type 0} (xs : List X) (i : ℕ) (x : X) → i < length xs → x ≡ get_or xs i x
    → slice_get xs i ≡ Some x
read_at xs i x low is = slice_get-get_or xs i x low ∙ ap Some (sym is)

-- ---- lane after lane to its end

long_ends-append : (l : ℕ) (xs ys : List (List CallLine))
    → long_ends l (xs ++ ys) ≡ long_ends l xs ++ long_ends (l + length xs) ys
long_ends-append l [] ys = ap (λ n. long_ends n ys) (let e : l ≡ l + 0 = omega arith in e)
long_ends-append l (calls ∷ xs) ys =
    let events = replicate (4 * length calls) l in
    ap (λ more. events ++ more) (long_ends-append (l + 1) xs ys
    ∙ ap (λ n. long_ends (l + 1) xs ++ long_ends n ys)
    (let e : l + 1 + length xs ≡ l + suc (length xs) = omega arith in e))
    ∙ sym (append_assoc events (long_ends (l + 1) xs) (long_ends (l + suc (length xs)) ys))

pub one_lane_more : (plan : Plan) (contexts : List (Option ContextView)) (w : Core) (i : ℕ)
    → i < length plan.lanes
    → all_happen (batch_of plan contexts) (cipher_at contexts) w
    (long_ends 0 (take (i + 1) plan.lanes))
    ≡ all_happen (batch_of plan contexts) (cipher_at contexts)
    (all_happen (batch_of plan contexts) (cipher_at contexts) w (long_ends 0 (take i plan.lanes)))
    (replicate (4 * length (lane_calls plan i)) i)
one_lane_more plan contexts w i low =
    let calls = lane_calls plan i in
    let at = slice_get-get_or plan.lanes i [] low in
    let count : 0 + length (take i plan.lanes) ≡ i =
    (let e = few_taken plan.lanes i calls at in omega arith) in
    ap (λ lanes. all_happen (batch_of plan contexts) (cipher_at contexts) w (long_ends 0 lanes))
    (taken_more plan.lanes i calls at)
    ∙ ap (all_happen (batch_of plan contexts) (cipher_at contexts) w)
    (long_ends-append 0 (take i plan.lanes) (calls ∷ [])
    ∙ ap (λ n. long_ends 0 (take i plan.lanes) ++ long_ends n (calls ∷ [])) count
    ∙ ap (λ events. long_ends 0 (take i plan.lanes) ++ events)
    (append-nil (replicate (4 * length calls) i)))
    ∙ all_happen-append (batch_of plan contexts) (cipher_at contexts) w
    (long_ends 0 (take i plan.lanes)) (replicate (4 * length calls) i)
