use Rattle.std.proofs.Common.{◌≡◌, ◌<◌, ◌+◌, ◌++◌, ◌∷◌, [], length, sym, ap, ◌∙◌, subst, arith, append_assoc, length-append, rules}
use Rattle.shared_runs.proofs.Ends.{in_order_here, in_order_below}
use Rattle.shared_runs.proofs.serving.take_all_back.Goals as goal

pub lanes-init : goal.lanes-init
lanes-init g c = record {
  front = search rules;
  count = ap length c.requires.empty;
  room = c.requires.room;
  back = subst (g.K.RunsLanes.back c.args.shared.now c.args.left.now) (sym c.requires.empty)
      c.requires.none;
}

pub take_back-requires-clause-back : goal.take_back-requires-clause-back
take_back-requires-clause-back g c =
    let i = c.lanes.invariant in
    let done = g.K.RunsLanes.done c.args.shared.now in
    let n = length (g.K.RunsLanes.plan c.args.shared.now).lanes in
    let front = i.front ∙ ap (λ ls. c.lanes.yielded ++ ls) c.in-Some.ensures.steps.0 in (
      c.lanes.answers.items,
      i.back,
      subst (λ k. k < n) (sym i.count) (in_order_below done n c.args.lanes.items c.lanes.yielded
          c.next.new.self.rest.items c.in-Some.lane c.requires.done front),
      subst (λ k. done k c.in-Some.lane) (sym i.count) (in_order_here done n c.args.lanes.items
          c.lanes.yielded c.next.new.self.rest.items c.in-Some.lane c.requires.done front),
    )

pub lanes-preserved : goal.lanes-preserved
lanes-preserved g c =
    let i = c.lanes.invariant in
    let pushed = c.push_reserved.ensures in
    let done = g.K.RunsLanes.done c.args.shared.now in
    let n = length (g.K.RunsLanes.plan c.args.shared.now).lanes in
    let front = i.front ∙ ap (λ ls. c.lanes.yielded ++ ls) c.in-Some.ensures.steps.0 in
    record {
      front = front
          ∙ sym (append_assoc c.lanes.yielded (c.in-Some.lane ∷ []) c.next.new.self.rest.items);
      count = ap length pushed.items ∙ length-append c.lanes.answers.items (c.take_back.result ∷ [])
          ∙ ap (λ k. k + 1) i.count
          ∙ sym (length-append c.lanes.yielded (c.in-Some.lane ∷ []));
      room = omega (arith, pushed.capacity, i.room);
      back = subst (g.K.RunsLanes.back c.args.shared.now c.take_back.new.left) (sym pushed.items)
          (c.take_back.ensures c.lanes.answers.items i.back
          (subst (λ k. k < n) (sym i.count) (in_order_below done n c.args.lanes.items c.lanes.yielded
          c.next.new.self.rest.items c.in-Some.lane c.requires.done front))
          (subst (λ k. done k c.in-Some.lane) (sym i.count) (in_order_here done n c.args.lanes.items
          c.lanes.yielded c.next.new.self.rest.items c.in-Some.lane c.requires.done front)));
    }

pub returns-clause-back : goal.returns-clause-back
returns-clause-back g c = c.lanes.invariant.back

pub returns-clause-all : goal.returns-clause-all
returns-clause-all g c =
    let i = c.lanes.invariant in
    let none = c.in-None.ensures.steps in
    let size : length c.lanes.lane-iterator.rest.items ≡ 0 = search rules in
    let a = ap length i.front in
    let b = length-append c.lanes.yielded c.lanes.lane-iterator.rest.items in
    let d = c.requires.done.count_is in
    let f = i.count in
    omega arith
