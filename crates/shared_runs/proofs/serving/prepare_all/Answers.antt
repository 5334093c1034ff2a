use Rattle.std.proofs.Common.{◌≡◌, ◌+◌, ◌++◌, ◌∷◌, [], length, sym, ap, ◌∙◌, subst, arith, append_assoc, length-append, rules}
use Rattle.std.proofs.lemmas.Grind.{common_steps}
use Rattle.batch_plans.specs.Room.{lane_room}
use Rattle.context_books.specs.ContextLines.{export_limits}
use Rattle.context_books.specs.LaneCalls.{lane_calls}
use Rattle.shared_runs.specs.Serving.{InOrder}
use Rattle.shared_runs.proofs.Ends.{below_count, made_of, all_made, none_in_order, one_in_order}
use Rattle.shared_runs.proofs.serving.prepare_all.Goals as goal

pub lanes-init : goal.lanes-init
lanes-init g c = record {
  front = search rules;
  room = omega (arith, c.in_ok-lanes.ensures.capacity, c.len.ensures, c.args.answers.ok.0);
  given = c.requires.given;
  ready = subst (InOrder (g.K.RunsLanes.ready c.args.shared.now) 0)
      (sym c.in_ok-lanes.ensures.items) (none_in_order _);
}

pub overflow_cast-lane : goal.overflow_cast-lane
overflow_cast-lane g c =
    let i = c.lanes.invariant in
    let plan = g.K.RunsLanes.plan c.args.shared.now in
    let contexts = g.K.RunsLanes.contexts c.args.shared.now in
    let front = i.front ∙ ap (λ xs. c.lanes.yielded ++ xs) c.in-Some.ensures.steps.0 in
    let low = below_count (lane_room plan (export_limits contexts)) plan.lanes c.args.answers.items
    c.lanes.yielded c.next.new.self.rest.items c.in-Some.answers front c.requires.room in
    let number : c.len-lane.result ≡ length c.lanes.yielded =
    c.len-lane.ensures ∙ c.lanes.lanes.ok.0 ∙ i.ready.count_is in
    let few = c.requires.few in
    omega arith

pub prepare-requires-clause-lane : goal.prepare-requires-clause-lane
prepare-requires-clause-lane g c =
    let i = c.lanes.invariant in
    let plan = g.K.RunsLanes.plan c.args.shared.now in
    let contexts = g.K.RunsLanes.contexts c.args.shared.now in
    let front = i.front ∙ ap (λ xs. c.lanes.yielded ++ xs) c.in-Some.ensures.steps.0 in
    let low = below_count (lane_room plan (export_limits contexts)) plan.lanes c.args.answers.items
    c.lanes.yielded c.next.new.self.rest.items c.in-Some.answers front c.requires.room in
    let number : c.len-lane.result ≡ length c.lanes.yielded =
    c.len-lane.ensures ∙ c.lanes.lanes.ok.0 ∙ i.ready.count_is in
    omega arith

pub prepare-requires-clause-given : goal.prepare-requires-clause-given
prepare-requires-clause-given g c =
    let i = c.lanes.invariant in
    let number : c.len-lane.result ≡ length c.lanes.yielded =
    c.len-lane.ensures ∙ c.lanes.lanes.ok.0 ∙ i.ready.count_is in
    subst (λ k. g.K.RunsLanes.given c.args.shared.now k c.lanes.left) (sym number) i.given

pub prepare-requires-clause-room : goal.prepare-requires-clause-room
prepare-requires-clause-room g c =
    let i = c.lanes.invariant in
    let plan = g.K.RunsLanes.plan c.args.shared.now in
    let room = lane_room plan (export_limits (g.K.RunsLanes.contexts c.args.shared.now)) in
    let front = i.front ∙ ap (λ xs. c.lanes.yielded ++ xs) c.in-Some.ensures.steps.0 in
    let number : c.len-lane.result ≡ length c.lanes.yielded =
    c.len-lane.ensures ∙ c.lanes.lanes.ok.0 ∙ i.ready.count_is in
    made_of room plan.lanes c.args.answers.items c.lanes.yielded c.next.new.self.rest.items
    c.in-Some.answers front c.requires.room []
    ∙ ap (λ k. room (lane_calls plan k)) (sym number)

pub push_reserved-requires : goal.push_reserved-requires
push_reserved-requires g c = grind (arith, common_steps)

pub lanes-preserved : goal.lanes-preserved
lanes-preserved g c =
    let i = c.lanes.invariant in
    let number : c.len-lane.result ≡ length c.lanes.yielded =
    c.len-lane.ensures ∙ c.lanes.lanes.ok.0 ∙ i.ready.count_is in
    let size : length (c.lanes.yielded ++ c.in-Some.answers ∷ []) ≡ length c.lanes.yielded + 1 =
    length-append c.lanes.yielded (c.in-Some.answers ∷ []) in
    let pushed = c.push_reserved.ensures in
    let ready = g.K.RunsLanes.ready c.args.shared.now in
    let w = c.in_ok-prepare.field-0 in
    record {
      front = i.front ∙ ap (λ xs. c.lanes.yielded ++ xs) c.in-Some.ensures.steps.0
          ∙ sym (append_assoc c.lanes.yielded (c.in-Some.answers ∷ []) c.next.new.self.rest.items);
      room = omega (arith, pushed.capacity, i.room);
      given = subst (λ k. g.K.RunsLanes.given c.args.shared.now k c.prepare.new.left)
          (ap (λ k. k + 1) number ∙ sym size) c.in_ok-prepare.ensures.given;
      ready = subst (λ k. InOrder ready k c.push_reserved.new.self.items) (sym size)
          (subst (InOrder ready (length c.lanes.yielded + 1)) (sym pushed.items)
          (one_in_order ready (length c.lanes.yielded) c.lanes.lanes.items w i.ready
          (subst (λ k. ready k w) number c.in_ok-prepare.ensures.ready)));
    }

pub returns-clause-ready : goal.returns-clause-ready
returns-clause-ready g c =
    let i = c.lanes.invariant in
    let plan = g.K.RunsLanes.plan c.args.shared.now in
    let contexts = g.K.RunsLanes.contexts c.args.shared.now in
    let none : length c.lanes.answers-iterator.rest.items ≡ 0 = search rules in
    subst (λ k. InOrder (g.K.RunsLanes.ready c.args.shared.now) k c.lanes.lanes.items)
    (all_made (lane_room plan (export_limits contexts)) plan.lanes c.args.answers.items
    c.lanes.yielded c.lanes.answers-iterator.rest.items i.front c.requires.room none) i.ready

pub returns-clause-given : goal.returns-clause-given
returns-clause-given g c =
    let i = c.lanes.invariant in
    let plan = g.K.RunsLanes.plan c.args.shared.now in
    let contexts = g.K.RunsLanes.contexts c.args.shared.now in
    let none : length c.lanes.answers-iterator.rest.items ≡ 0 = search rules in
    subst (λ k. g.K.RunsLanes.given c.args.shared.now k c.lanes.left)
    (all_made (lane_room plan (export_limits contexts)) plan.lanes c.args.answers.items
    c.lanes.yielded c.lanes.answers-iterator.rest.items i.front c.requires.room none) i.given
