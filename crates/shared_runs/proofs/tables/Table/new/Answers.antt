use Rattle.std.proofs.Common.{◌≡◌, ℕ, ◌+◌, ◌-◌, ◌<◌, ◌≤◌, List, [], Option, length, map, sym, refl, ap, ◌∙◌, subst, arith, get_or}
use Rattle.std.specs.Prelude.{sum}
use Rattle.std.proofs.lemmas.List.{get_or_default}
use Rattle.stamp_counter.specs.Seats.{SeatView, fresh_seats}
use Rattle.shared_context.specs.Calls.{SharedView}
use Rattle.turn_lock.specs.Passes.{PassListView}
use Rattle.hpke_context.specs.Contexts.{ContextView}
use Rattle.batch_plans.specs.declared.plan.Plan.{Plan}
use Rattle.context_books.proofs.Counts.{quotas_few, lanes_few, quotas_at, quotas_count}
use Rattle.context_books.specs.ContextLines.{AreOfLines}
use Rattle.lane_workers.specs.Turns.{shared_at, views}
use Rattle.shared_runs.specs.Sharing.{IsSharedBy, SharesEach}
use Rattle.context_books.specs.Quotas.{quotas_on, all_quotas}
use Rattle.shared_runs.specs.Tables.{AreLeft}
use Rattle.shared_runs.proofs.Begun.{lanes_count, all_few, views_are, is_shared, all_left}
use Rattle.shared_runs.proofs.tables.Table.new.Goals as goal

-- the contexts are shared by the quotas of all of them, which are lent twice
each_shared : (plan : Plan) (contexts : List (Option ContextView)) (id : List ℕ)
    (items counted given : List (List ℕ)) (seats : List SeatView)
    (shared : List (Option SharedView)) (lists : List (Option PassListView))
    → items ≡ all_quotas plan contexts → counted ≡ items → given ≡ items
    → seats ≡ fresh_seats id (map sum counted)
    → ((counter : List ℕ) → seats ≡ fresh_seats counter (map sum given)
    → SharesEach contexts given counter shared lists)
    → SharesEach contexts (all_quotas plan contexts) id shared lists
each_shared plan contexts id items counted given seats shared lists all once twice seats_are each =
    subst (λ (xs : List (List ℕ)). SharesEach contexts xs id shared lists) (twice ∙ all)
    (each id (seats_are ∙ ap (λ (xs : List (List ℕ)). fresh_seats id (map sum xs))
    (once ∙ sym twice)))

pub all_quotas-requires-clause-few : goal.all_quotas-requires-clause-few
all_quotas-requires-clause-few c =
    lanes_few (record c.args.plan.now { lanes = c.args.lanes.now }) c.requires.within

pub count_stamps-requires-clause-few : goal.count_stamps-requires-clause-few
count_stamps-requires-clause-few c =
    let plan : Plan = record c.args.plan.now { lanes = c.args.lanes.now } in
    let contexts = c.args.contexts.now in
    let all = ap length (◌∙◌ {A = List (List ℕ)} c.deref.ensures.value
    (c.in_ok-all.ensures plan c.requires.standing refl)) in
    let count = quotas_count plan contexts in
    let lines = c.requires.standing.count in
    let few = c.requires.within.contexts in
    omega arith

pub count_stamps-requires-clause-sum : goal.count_stamps-requires-clause-sum
count_stamps-requires-clause-sum c =
    let plan : Plan = record c.args.plan.now { lanes = c.args.lanes.now } in
    subst (λ (all : List (List ℕ)). sum (map sum all) ≤ 65536)
    (sym (◌∙◌ {A = List (List ℕ)} c.deref.ensures.value
    (c.in_ok-all.ensures plan c.requires.standing refl)))
    (all_few plan c.args.contexts.now c.requires.within)

pub share_all-requires-clause-count : goal.share_all-requires-clause-count
share_all-requires-clause-count c =
    let plan : Plan = record c.args.plan.now { lanes = c.args.lanes.now } in
    ap length (◌∙◌ {A = List (List ℕ)} c.deref-2.ensures.value
    (c.in_ok-all.ensures plan c.requires.standing refl))
    ∙ quotas_count plan c.args.contexts.now

pub share_all-requires-clause-lanes : goal.share_all-requires-clause-lanes
share_all-requires-clause-lanes c =
    let plan : Plan = record c.args.plan.now { lanes = c.args.lanes.now } in
    let contexts = c.args.contexts.now in
    subst (λ (all : List (List ℕ)). (k : ℕ) (d : List ℕ) → k < length all
    → (0 < length (get_or all k d)) × (length (get_or all k d) < 65536))
    (sym (◌∙◌ {A = List (List ℕ)} c.deref-2.ensures.value
    (c.in_ok-all.ensures plan c.requires.standing refl)))
    (λ k d low.
    let count = quotas_count plan contexts in
    let here : get_or (all_quotas plan contexts) k d ≡ quotas_on plan contexts k =
    get_or_default (all_quotas plan contexts) k d [] low
    ∙ quotas_at plan contexts k (omega arith) in
    let size = ap length here in
    let lanes = lanes_count plan contexts k in
    let some = c.requires.lanes in
    let few = c.requires.within.lanes in
    (omega arith, omega arith))

pub share_all-requires-clause-sums : goal.share_all-requires-clause-sums
share_all-requires-clause-sums c =
    let plan : Plan = record c.args.plan.now { lanes = c.args.lanes.now } in
    let contexts = c.args.contexts.now in
    subst (λ (all : List (List ℕ)). (k : ℕ) (d : List ℕ) → k < length all
    → sum (get_or all k d) ≤ 65536)
    (sym (◌∙◌ {A = List (List ℕ)} c.deref-2.ensures.value
    (c.in_ok-all.ensures plan c.requires.standing refl)))
    (λ k d low.
    let count = quotas_count plan contexts in
    let here : get_or (all_quotas plan contexts) k d ≡ quotas_on plan contexts k =
    get_or_default (all_quotas plan contexts) k d [] low
    ∙ quotas_at plan contexts k (omega arith) in
    omega (arith, ap sum here, quotas_few plan contexts k c.requires.within))

pub share_all-requires-clause-seats : goal.share_all-requires-clause-seats
share_all-requires-clause-seats c =
    let id = c.in_ok-counted.counted.counter.id in (
      id,
      c.in_ok-counted.ensures.seats_are ∙ ap (λ (xs : List (List ℕ)). fresh_seats id (map sum xs))
          (◌∙◌ {A = List (List ℕ)} c.deref.ensures.value (sym c.deref-2.ensures.value)),
    )

pub returns-clause-plan : goal.returns-clause-plan
returns-clause-plan c = refl

pub returns-clause-lanes : goal.returns-clause-lanes
returns-clause-lanes c = refl

pub returns-clause-contexts : goal.returns-clause-contexts
returns-clause-contexts c =
    let plan : Plan = record c.args.plan.now { lanes = c.args.lanes.now } in
    let contexts = c.args.contexts.now in
    let id = c.in_ok-counted.counted.counter.id in
    let shared = c.in_ok-shared.shared.items in
    let lists = c.in_ok-shared.passes.items in
    let each = each_shared plan contexts id c.in_ok-all.all.items c.deref.result.now
    c.deref-2.result.now c.in_ok-counted.counted.seats shared lists
    (c.in_ok-all.ensures plan c.requires.standing refl) c.deref.ensures.value
    c.deref-2.ensures.value c.in_ok-counted.ensures.seats_are c.in_ok-shared.ensures in
    ap views c.from_vec.ensures.items ∙ views_are plan contexts id shared lists each

pub returns-clause-table : goal.returns-clause-table
returns-clause-table c =
    let plan : Plan = record c.args.plan.now { lanes = c.args.lanes.now } in
    let contexts = c.args.contexts.now in
    let id = c.in_ok-counted.counted.counter.id in
    let shared = c.in_ok-shared.shared.items in
    let lists = c.in_ok-shared.passes.items in
    let each = each_shared plan contexts id c.in_ok-all.all.items c.deref.result.now
    c.deref-2.result.now c.in_ok-counted.counted.seats shared lists
    (c.in_ok-all.ensures plan c.requires.standing refl) c.deref.ensures.value
    c.deref-2.ensures.value c.in_ok-counted.ensures.seats_are c.in_ok-shared.ensures in
    let items = c.from_vec.ensures.items in
    let same : views c.from_vec.result ≡ contexts = ap views items
    ∙ views_are plan contexts id shared lists each in
    record {
      within = c.requires.within;
      of_lines = subst (AreOfLines plan.contexts) (sym same) c.requires.standing;
      shared = λ number s is.
          subst (λ (xs : List (Option ContextView)). IsSharedBy s.context (quotas_on plan xs number) id s)
          (sym same) (is_shared plan contexts id shared lists each number s
          (ap (λ (xs : List (Option SharedView)). shared_at xs number) (sym items) ∙ is));
    }

pub returns-clause-given : goal.returns-clause-given
returns-clause-given c =
    let plan : Plan = record c.args.plan.now { lanes = c.args.lanes.now } in
    let contexts = c.args.contexts.now in
    let id = c.in_ok-counted.counted.counter.id in
    let shared = c.in_ok-shared.shared.items in
    let lists = c.in_ok-shared.passes.items in
    let each = each_shared plan contexts id c.in_ok-all.all.items c.deref.result.now
    c.deref-2.result.now c.in_ok-counted.counted.seats shared lists
    (c.in_ok-all.ensures plan c.requires.standing refl) c.deref.ensures.value
    c.deref-2.ensures.value c.in_ok-counted.ensures.seats_are c.in_ok-shared.ensures in
    let seat = c.in_ok-counted.ensures.seat_is in
    record {
      passes = subst (λ (xs : List (Option SharedView)). AreLeft xs 0 (length plan.lanes - 0)
          (length plan.lanes) lists) (sym c.from_vec.ensures.items)
          (all_left plan contexts id shared lists each);
      seat = record {
        counter_is = ap (λ (s : SeatView). s.counter) seat;
        drawn = ap (λ (s : SeatView). s.drawn) seat;
        left = ap (λ (s : SeatView). s.left) seat;
      };
    }

pub returns-clause-seat : goal.returns-clause-seat
returns-clause-seat c = c.in_ok-counted.ensures.other_is

pub returns-clause-stamps : goal.returns-clause-stamps
returns-clause-stamps c =
    let plan : Plan = record c.args.plan.now { lanes = c.args.lanes.now } in
    let contexts = c.args.contexts.now in
    let id = c.in_ok-counted.counted.counter.id in
    let shared = c.in_ok-shared.shared.items in
    let lists = c.in_ok-shared.passes.items in
    let each = each_shared plan contexts id c.in_ok-all.all.items c.deref.result.now
    c.deref-2.result.now c.in_ok-counted.counted.seats shared lists
    (c.in_ok-all.ensures plan c.requires.standing refl) c.deref.ensures.value
    c.deref-2.ensures.value c.in_ok-counted.ensures.seats_are c.in_ok-shared.ensures in
    let same : views c.from_vec.result ≡ contexts = ap views c.from_vec.ensures.items
    ∙ views_are plan contexts id shared lists each in
    c.in_ok-counted.ensures.all_is
    ∙ ap (λ (xs : List (List ℕ)). sum (map sum xs) + c.args.others) (◌∙◌ {A = List (List ℕ)}
    c.deref.ensures.value (c.in_ok-all.ensures plan c.requires.standing refl))
    ∙ ap (λ (xs : List (Option ContextView)). sum (map sum (all_quotas plan xs)) + c.args.others)
    (sym same)
