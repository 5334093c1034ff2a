use Rattle.std.proofs.Common.{◌≡◌, ◌<◌, ◌≤◌, length, List, sym, ap, ◌∙◌, subst, arith, Some, None}
use Rattle.std.specs.Prelude.{slice_get, slice_set}
use Rattle.std.proofs.lemmas.List.{set-get_or}
use Rattle.std.proofs.lemmas.Option.{slice_get_past}
use Rattle.context_core.specs.Core.{Core, happens}
use Rattle.context_books.specs.Asks.{batch_of, cipher_at}
use Rattle.context_core.specs.declared.lanes.Lane.{Lane}
use Rattle.context_books.specs.LaneCalls.{lane_calls}
use Rattle.context_core.specs.Following.{MayStep, IsRehearsal, Follows}
use Rattle.context_core.proofs.Events.{read_at, few_places, lane_steps, idle_event, not_there_event}
use Rattle.context_core.proofs.rehearsals.Rehearsal.event.Goals as goal

pub returns-then-i-len : goal.returns-then-i-len
returns-then-i-len g c = λ w t.
    let plan = c.args.plan.now in
    let contexts = c.args.contexts.now in
    let lanes = c.args.self.now.lanes.items in
    let books = c.args.self.now.books in
    let past : length lanes ≤ c.args.number = omega (
      arith,
      c.len.ensures,
      c.args.self.now.lanes.ok.0,
      c.if-i-len.true,
    ) in
    subst (λ (v : Core). IsRehearsal plan contexts v lanes books)
    (sym (not_there_event plan contexts w lanes books c.args.number t past)) t

pub calls_of-calls-requires : goal.calls_of-calls-requires
calls_of-calls-requires g c = omega (
  arith,
  c.len.ensures,
  c.args.self.now.lanes.ok.0,
  c.if-i-len.false,
  c.requires.follows.1.count,
)

pub step-requires-clause-may : goal.step-requires-clause-may
step-requires-clause-may g c =
    let plan = c.args.plan.now in
    let contexts = c.args.contexts.now in
    let lanes = c.args.self.now.lanes.items in
    let books = c.args.self.now.books in
    let lane = c.index_mut-lane.result.now in
    let call = c.in-Some.call.now in
    let n = c.args.number in
    let t = c.requires.follows.1 in
    let low : n < length lanes = omega (
      arith,
      c.len.ensures,
      c.args.self.now.lanes.ok.0,
      c.if-i-len.false,
    ) in
    let there : n < length plan.lanes = omega (arith, t.count) in
    let at = read_at lanes n lane low c.index_mut-lane.ensures.value in
    let call_is : slice_get (lane_calls plan n) lane.call ≡ Some call =
    ap (λ cs. slice_get cs lane.call) (sym c.calls_of-calls.ensures)
    ∙ read_at c.calls_of-calls.result.now lane.call call c.in-Some.ensures.lookup.3.0
    (c.in-Some.ensures.lookup.3.1 call) in
    subst (λ l. MayStep plan contexts l lane books call) (sym c.from.ensures) (record {
      within = c.requires.within;
      standing = c.requires.standing;
      there = there;
      call_is = call_is;
      few = few_places plan contexts c.requires.follows.0 lanes books c.requires.within t;
      core = c.requires.follows.0;
      follows = record { lane_follows = t.each n lane at; books_follow = t.books_follow };
    })

pub returns-in-Some : goal.returns-in-Some
returns-in-Some g c = λ w t.
    let plan = c.args.plan.now in
    let contexts = c.args.contexts.now in
    let lanes = c.args.self.now.lanes.items in
    let books = c.args.self.now.books in
    let lane = c.index_mut-lane.result.now in
    let call = c.in-Some.call.now in
    let n = c.args.number in
    let low : n < length lanes = omega (
      arith,
      c.len.ensures,
      c.args.self.now.lanes.ok.0,
      c.if-i-len.false,
    ) in
    let there : n < length plan.lanes = omega (arith, t.count) in
    let at = read_at lanes n lane low c.index_mut-lane.ensures.value in
    let call_is : slice_get (lane_calls plan n) lane.call ≡ Some call =
    ap (λ cs. slice_get cs lane.call) (sym c.calls_of-calls.ensures)
    ∙ read_at c.calls_of-calls.result.now lane.call call c.in-Some.ensures.lookup.3.0
    (c.in-Some.ensures.lookup.3.1 call) in
    let number_is = c.from.ensures in
    let follows : Follows plan contexts w n lane books =
    record { lane_follows = t.each n lane at; books_follow = t.books_follow } in
    let steps = subst (λ l. slice_get (lane_calls plan l) lane.call ≡ Some call
    → l < length plan.lanes → Follows plan contexts w l lane books
    → Follows plan contexts (happens (batch_of plan contexts) (cipher_at contexts) w l) l
    c.step.new.self c.step.new.books) number_is (c.step.ensures w) in
    lane_steps plan contexts w lanes books c.step.new.books n lane c.step.new.self t at
    (steps call_is there follows)

pub returns-in_default : goal.returns-in_default
returns-in_default g c = λ w t.
    let plan = c.args.plan.now in
    let contexts = c.args.contexts.now in
    let lanes = c.args.self.now.lanes.items in
    let books = c.args.self.now.books in
    let lane = c.index_mut-lane.result.now in
    let n = c.args.number in
    let low : n < length lanes = omega (
      arith,
      c.len.ensures,
      c.args.self.now.lanes.ok.0,
      c.if-i-len.false,
    ) in
    let at = read_at lanes n lane low c.index_mut-lane.ensures.value in
    let none : slice_get (lane_calls plan n) lane.call ≡ None =
    ap (λ cs. slice_get cs lane.call) (sym c.calls_of-calls.ensures)
    ∙ slice_get_past c.calls_of-calls.result.now lane.call c.in_default.ensures.lookup.3 in
    let same : slice_set lanes n lane ≡ lanes =
    ap (λ (x : Lane). slice_set lanes n x) c.index_mut-lane.ensures.value ∙ set-get_or lanes n lane in
    subst (λ (xs : List Lane). IsRehearsal plan contexts
    (happens (batch_of plan contexts) (cipher_at contexts) w n) xs books) (sym same)
    (subst (λ (v : Core). IsRehearsal plan contexts v lanes books)
    (sym (idle_event plan contexts w lanes books n lane t at none)) t)
