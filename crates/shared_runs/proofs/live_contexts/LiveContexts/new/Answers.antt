use Rattle.std.proofs.Common.{◌≡◌, ◌≤◌, ◌-◌, ℕ, List, length, map, sym, ap, ◌∙◌, subst, arith}
use Rattle.std.specs.Prelude.{sum}
use Rattle.std.specs.List.{All}
use Rattle.std.proofs.lemmas.List.{length-map}
use Rattle.turn_lock.specs.Passes.{fresh_from}
use Rattle.stamp_counter.specs.Seats.{SeatView}
use Rattle.batch_plans.specs.declared.plan.Plan.{Plan}
use Rattle.batch_plans.specs.declared.plan.CallLine.{CallLine}
use Rattle.batch_plans.specs.Within.{IsWithinLimits}
use Rattle.batch_plans.specs.Names.{at_position, all_live}
use Rattle.batch_plans.proofs.Positions.{all_live_within}
use Rattle.lane_workers.specs.LiveLanes.{AddsOneOf}
use Rattle.lane_workers.specs.Turns.{views}
use Rattle.shared_runs.specs.Tables.{HasStamps}
use Rattle.shared_runs.specs.Noting.{note_quota, note_quotas}
use Rattle.shared_runs.specs.LiveContexts.{AddsStand}
use Rattle.shared_runs.proofs.Noted.{all_notes_few}
use Rattle.shared_runs.proofs.live_contexts.LiveContexts.new.Goals as goal

pub note_quotas-requires-clause-within : goal.note_quotas-requires-clause-within
note_quotas-requires-clause-within c = c.requires.within

pub note_quotas-requires-clause-named : goal.note_quotas-requires-clause-named
note_quotas-requires-clause-named c = c.requires.named

pub total-total-requires : goal.total-total-requires
total-total-requires c =
    subst (λ (quotas : List ℕ). sum quotas ≤ 65536)
    (sym (c.deref.ensures.value ∙ c.in_ok-quotas.ensures))
    (all_notes_few c.args.plan.now c.args.contexts.now c.requires.within)

pub new-requires-clause-within : goal.new-requires-clause-within
new-requires-clause-within c =
    let plan = c.args.plan.now in
    subst (λ (lanes : List (List CallLine)). IsWithinLimits (record plan { lanes = lanes }))
    (sym c.requires.placed) (all_live_within plan c.requires.within)

pub new-requires-clause-standing : goal.new-requires-clause-standing
new-requires-clause-standing c = c.requires.standing

pub new-requires-clause-others : goal.new-requires-clause-others
new-requires-clause-others c =
    let quotas = c.deref.ensures.value ∙ c.in_ok-quotas.ensures in
    omega (
      arith,
      c.total-total.ensures,
      ap sum quotas,
      all_notes_few c.args.plan.now c.args.contexts.now c.requires.within,
    )

pub new-requires-2-clause-sum : goal.new-requires-2-clause-sum
new-requires-2-clause-sum c =
    subst (λ (quotas : List ℕ). sum quotas ≤ 65536)
    (sym (c.deref-2.ensures.value ∙ c.in_ok-quotas.ensures))
    (all_notes_few c.args.plan.now c.args.contexts.now c.requires.within)

pub returns-clause-plan : goal.returns-clause-plan
returns-clause-plan c = c.in_ok-shared.ensures.plan

pub returns-clause-contexts : goal.returns-clause-contexts
returns-clause-contexts c = c.in_ok-shared.ensures.contexts

pub returns-clause-live : goal.returns-clause-live
returns-clause-live c =
    let plan = c.args.plan.now in
    let contexts = c.args.contexts.now in
    let shared = c.in_ok-shared.shared in
    let r = c.in_ok-shared.ensures in
    let n = c.in_ok-names.ensures in
    let same : note_quotas plan contexts ≡ note_quotas shared.plan.now (views shared.contexts) =
    (λ i. note_quotas (sym r.plan i) (sym r.contexts i)) in
    let quotas = c.deref-2.ensures.value ∙ c.in_ok-quotas.ensures ∙ same in
    record {
      within = subst IsWithinLimits (sym r.plan) c.requires.within;
      named = subst (λ (p : Plan). All (All (AddsOneOf p.added)) p.lanes) (sym r.plan)
          c.requires.named;
      stands = subst (λ (p : Plan). AddsStand p (views shared.contexts)) (sym r.plan)
          (subst (AddsStand plan) (sym r.contexts) c.requires.stands);
      lanes = r.lanes ∙ c.requires.placed ∙ ap (λ (p : Plan). (all_live p).lanes) (sym r.plan);
      shared = r.table;
      stamps = subst (λ k. HasStamps k shared)
          (c.total-total.ensures ∙ ap sum (c.deref.ensures.value ∙ c.in_ok-quotas.ensures ∙ same))
          r.stamps;
      names = n.names ∙ ap (λ (p : Plan). p.added) (sym r.plan);
      terms = n.terms ∙ (λ i. record {
        limit = 1;
        quotas = quotas i;
        counter = ap (λ (s : SeatView). s.counter) r.seat i;
      });
      passes = n.count.0 ∙ ap length quotas
          ∙ length-map shared.plan.now.lanes (note_quota shared.plan.now (views shared.contexts));
    }

pub new-requires-clause-lanes : goal.new-requires-clause-lanes
new-requires-clause-lanes c =
    let plan = c.args.plan.now in
    let placed = length-map plan.lanes (map (at_position plan)) in
    omega (arith, ap length c.requires.placed, placed, c.requires.some)

pub new-requires-2-clause-count : goal.new-requires-2-clause-count
new-requires-2-clause-count c =
    let plan = c.args.plan.now in
    let size : length c.deref-2.result.now ≡ length plan.lanes =
    ap length (c.deref-2.ensures.value ∙ c.in_ok-quotas.ensures)
    ∙ length-map plan.lanes (note_quota plan c.args.contexts.now) in
    (omega (arith, c.requires.some), omega (arith, c.requires.within.lanes))

pub new-requires-2-clause-seat : goal.new-requires-2-clause-seat
new-requires-2-clause-seat c =
    let seat = c.in_ok-shared.ensures.seat in (
      ap (λ (s : SeatView). s.drawn) seat,
      ap (λ (s : SeatView). s.left) seat ∙ c.total-total.ensures
          ∙ ap sum (c.deref.ensures.value ∙ sym c.deref-2.ensures.value),
    )

pub returns-clause-given : goal.returns-clause-given
returns-clause-given c =
    let r = c.in_ok-shared.ensures in
    let n = c.in_ok-names.ensures in
    let size = ap length (c.deref-2.ensures.value ∙ c.in_ok-quotas.ensures)
    ∙ length-map c.args.plan.now.lanes (note_quota c.args.plan.now c.args.contexts.now)
    ∙ ap (λ (p : Plan). length p.lanes) (sym r.plan) in
    let left : length c.deref-2.result.now ≡ length c.in_ok-shared.shared.plan.now.lanes - 0 =
    omega (arith, size) in
    let passes = n.passes ∙ ap (fresh_from c.in_ok-names.names.lock 0) left in
    let made = n.count.1 ∙ size in
    record { shared = r.given; names = (λ i. record { passes = passes i; made = made i }) }
