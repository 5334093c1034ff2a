use Rattle.std.proofs.Common.{◌≡◌, ◌<◌, ◌^◌, ◌++◌, ◌∷◌, [], List, length, map, take, sym, ◌∙◌, ap, subst, arith, get_or}
use Rattle.std.specs.List.{All}
use Rattle.std.proofs.lemmas.List.{length-map, length-take, map_more, take_all}
use Rattle.batch_plans.specs.declared.plan.CallLine.{CallLine}
use Rattle.lane_workers.specs.LiveLanes.{AddsOneOf}
use Rattle.lane_workers.proofs.Handing.{found_here}
use Rattle.shared_runs.specs.Noting.{note_quota}
use Rattle.shared_runs.proofs.Noted.{lanes_short}
use Rattle.shared_runs.proofs.noting.note_quotas.Goals as goal

pub note_quota-requires-clause-contexts : goal.note_quota-requires-clause-contexts
note_quota-requires-clause-contexts c = c.requires.within.contexts

pub note_quota-requires-clause-added : goal.note_quota-requires-clause-added
note_quota-requires-clause-added c = c.requires.within.added

pub note_quota-requires-clause-calls : goal.note_quota-requires-clause-calls
note_quota-requires-clause-calls c =
    let plan = c.args.plan.now in
    let k = c.lanes.calls-index in
    let items = c.as_slice-lanes.result.now in
    let size = ap length c.as_slice-lanes.ensures.items in
    let low : k < length items = (let test = c.lanes-test.true in omega arith) in
    let here : c.as_slice.result.now ≡ get_or plan.lanes k [] =
    c.as_slice.ensures.items ∙ found_here items k c.calls-item.result [] low c.calls-item.is
    ∙ ap (λ ls. get_or ls k []) c.as_slice-lanes.ensures.items in
    subst (λ (calls : List CallLine). All (AddsOneOf plan.added) calls × (length calls < 2 ^ 32))
    (sym here)
    (c.requires.named k [] (omega arith), lanes_short plan c.requires.within k [] (omega arith))

pub push_reserved-requires : goal.push_reserved-requires
push_reserved-requires c =
    let t = c.lanes.invariant in
    let done = take c.lanes.calls-index c.as_slice-lanes.result.now in
    omega (
      arith,
      ap length t.done,
      length-map done (note_quota c.args.plan.now c.args.contexts.now),
      length-take c.lanes.calls-index c.as_slice-lanes.result.now,
      t.room,
      c.lanes.quotas.ok.0,
      c.lanes-test.true,
    )

pub lanes-preserved : goal.lanes-preserved
lanes-preserved c =
    let quota = note_quota c.args.plan.now c.args.contexts.now in
    let items = c.as_slice-lanes.result.now in
    let k = c.lanes.calls-index in
    let t = c.lanes.invariant in
    let pushed = c.push_reserved.ensures in
    let low : k < length items = (let test = c.lanes-test.true in omega arith) in
    let here : c.as_slice.result.now ≡ get_or items k [] =
    c.as_slice.ensures.items ∙ found_here items k c.calls-item.result [] low c.calls-item.is in
    record {
      done = pushed.items
          ∙ (λ i. t.done i ++ (c.note_quota.ensures ∙ ap quota here) i ∷ [])
          ∙ sym (map_more quota items k [] low);
      room = omega (arith, pushed.capacity, t.room);
    }

pub returns : goal.returns
returns c =
    c.lanes.invariant.done ∙ ap (map (note_quota c.args.plan.now c.args.contexts.now))
    (take_all c.lanes.calls-index c.as_slice-lanes.result.now (omega (arith, c.lanes-test.false))
    ∙ c.as_slice-lanes.ensures.items)
