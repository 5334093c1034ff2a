use Rattle.std.proofs.Common.{◌<◌, ◌≤◌, ℕ, ◌+◌, ◌∷◌, [], List, length, length-append, get_or, sym, ap, ◌∙◌, subst, arith}
use Rattle.std.specs.Prelude.{sum_by}
use Rattle.batch_plans.specs.declared.plan.CallLine.{CallLine}
use Rattle.context_core.specs.declared.lanes.Lane.{Lane}
use Rattle.context_core.specs.Preparing.{IsFresh}
use Rattle.context_core.specs.Following.{opened_count}
use Rattle.context_core.proofs.Fresh.{fresh_more, opened_few}
use Rattle.context_core.proofs.preparing.lanes.Goals as goal

pub lane-requires : goal.lane-requires
lane-requires c =
    let i = c.lanes.calls-index in
    let items = c.as_slice-all.ensures.items in
    let low = c.lanes-test.true in
    let few = opened_few c.args.plan.now i c.calls-item.result c.requires
    (omega (arith, low, ap length items)) in
    let is = c.as_slice.ensures.items ∙ c.calls-item.is
    ∙ ap (λ lanes. get_or lanes i c.calls-item.result) items in
    subst (λ calls. sum_by opened_count calls ≤ 65536) (sym is) few

pub push_reserved-requires : goal.push_reserved-requires
push_reserved-requires c =
    let t = c.lanes.invariant in
    omega (arith, t.count, t.room, c.lanes.lanes.ok.0, c.lanes-test.true)

pub lanes-preserved : goal.lanes-preserved
lanes-preserved c =
    let i = c.lanes.calls-index in
    let all = c.as_slice-all.result.now in
    let t = c.lanes.invariant in
    let here = subst (λ cs. IsFresh cs c.in_ok-lane.field-0) c.as_slice.ensures.items c.in_ok-lane.ensures in
    record {
      count = omega (
        arith,
        ap length c.push_reserved.ensures.items,
        t.count,
        length-append c.lanes.lanes.items (c.in_ok-lane.field-0 ∷ []),
      );
      fresh = subst (λ (xs : List Lane). (k : ℕ) (calls : List CallLine) (lane : Lane) → k < i + 1
          → IsFresh (get_or all k calls) (get_or xs k lane)) (sym {A = List Lane} c.push_reserved.ensures.items)
          (fresh_more all c.lanes.lanes.items i c.in_ok-lane.field-0 c.calls-item.result t.count
          c.lanes-test.true here c.calls-item.is t.fresh);
      room = omega (arith, c.push_reserved.ensures.capacity, t.room);
    }

pub returns-clause-fresh : goal.returns-clause-fresh
returns-clause-fresh c = λ l calls lane low.
    let items = c.as_slice-all.ensures.items in
    subst (λ lanes. IsFresh (get_or lanes l calls) (get_or c.lanes.lanes.items l lane)) items
    (c.lanes.invariant.fresh l calls lane
    (omega (arith, c.lanes-test.false, ap length items)))
