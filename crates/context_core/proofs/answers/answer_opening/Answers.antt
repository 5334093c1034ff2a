use Rattle.std.proofs.Common.{length, map, List, sym, ap, ◌∙◌, subst, arith}
use Rattle.std.specs.List.{All, sum_by}
use Rattle.std.proofs.lemmas.Grind.{common_steps}
use Rattle.call_places.specs.declared.spans.Item.{Item}
use Rattle.call_places.specs.Spans.{ItemIsInPool}
use Rattle.hpke_context.specs.Answers.{run}
use Rattle.hpke_context.specs.Contexts.{cipher_of}
use Rattle.context_books.specs.Openings.{unseals}
use Rattle.batch_plans.specs.Room.{opened_room}
use Rattle.context_books.specs.Standing.{standing_at}
use Rattle.context_books.specs.Runs.{answer_line}
use Rattle.context_books.specs.Writing.{PutsReplies}
use Rattle.context_books.specs.LaneCalls.{opening_items}
use Rattle.context_books.proofs.Within.{line_within, opening_spans, opening_count, opening_room}
use Rattle.context_core.specs.declared.lanes.Stage.TheVariants.{Settled}
use Rattle.context_core.proofs.Answering.{finds_room, opened_on}
use Rattle.context_core.proofs.answers.answer_opening.Goals as goal

pub items_of_opening-items-requires : goal.items_of_opening-items-requires
items_of_opening-items-requires c =
    let may = c.requires.4 in
    line_within c.args.plan.now c.requires.1 c.requires.2 c.args.call.now may.within may.there
    may.call_is

pub finish_opening-requires-clause-spans : goal.finish_opening-requires-clause-spans
finish_opening-requires-clause-spans c =
    let may = c.requires.4 in
    let plan = c.args.plan.now in
    let fits = line_within plan c.requires.1 c.requires.2 c.args.call.now may.within may.there
    may.call_is in
    subst (λ (xs : List Item). All (ItemIsInPool (length c.as_slice-pool.result.now)) xs)
    (sym c.items_of_opening-items.ensures)
    (subst (λ n. All (ItemIsInPool n) (opening_items plan c.args.call.now))
    (sym (ap length c.as_slice-pool.ensures.items))
    (opening_spans plan c.args.call.now may.within fits))

pub finish_opening-requires-clause-steps : goal.finish_opening-requires-clause-steps
finish_opening-requires-clause-steps c = grind (arith, common_steps)

pub finish_opening-requires-clause-room : goal.finish_opening-requires-clause-room
finish_opening-requires-clause-room c =
    let may = c.requires.4 in
    let plan = c.args.plan.now in
    let call = c.args.call.now in
    let opens = may.done.0.has.opens in
    let room = finds_room plan c.args.contexts.now c.requires.0 c.requires.1 c.requires.2 call
    c.args.steps.now c.requires.3 (Settled c.args.guess c.args.first c.args.missed c.args.start)
    c.args.progress.now may opens.free in
    omega (
      arith,
      room.room,
      opening_room plan call opens.opening,
      ap (sum_by opened_room) c.items_of_opening-items.ensures,
    )

pub finish_opening-requires-clause-left : goal.finish_opening-requires-clause-left
finish_opening-requires-clause-left c =
    let may = c.requires.4 in
    let plan = c.args.plan.now in
    let call = c.args.call.now in
    let opens = may.done.0.has.opens in
    let fits = line_within plan c.requires.1 c.requires.2 call may.within may.there may.call_is in
    let count = opening_count plan call opens.opening fits in
    let room = finds_room plan c.args.contexts.now c.requires.0 c.requires.1 c.requires.2 call
    c.args.steps.now c.requires.3 (Settled c.args.guess c.args.first c.args.missed c.args.start)
    c.args.progress.now may opens.free in
    omega (arith, room.left, count, ap length c.items_of_opening-items.ensures)

pub keep_guess-requires : goal.keep_guess-requires
keep_guess-requires c =
    let may = c.requires.4 in
    let plan = c.args.plan.now in
    let call = c.args.call.now in
    let opens = may.done.0.has.opens in
    let room = finds_room plan c.args.contexts.now c.requires.0 c.requires.1 c.requires.2 call
    c.args.steps.now c.requires.3 (Settled c.args.guess c.args.first c.args.missed c.args.start)
    c.args.progress.now may opens.free in
    omega (arith, room.batches, c.finish_opening.ensures.batches_left)

pub returns : goal.returns
returns c = λ w l number settled may.
    let plan = c.args.plan.now in
    let contexts = c.args.contexts.now in
    let call = c.args.call.now in
    let steps = c.args.steps.now in
    let p = c.args.progress.now in
    let view = c.in-Some.context.now in
    let guess = c.args.guess in
    let first = c.args.first in
    let misses = c.args.missed in
    let start = c.args.start in
    let cipher = cipher_of view in
    let mid = c.finish_opening.new.progress in
    let puts = subst (λ (xs : List Item). PutsReplies p mid (sum_by opened_room xs)
    (map answer_line (run cipher first (unseals c.as_slice-pool.result.now xs))))
    c.items_of_opening-items.ensures c.finish_opening.ensures in
    let puts_pool = subst (λ pool. PutsReplies p mid (sum_by opened_room (opening_items plan call))
    (map answer_line (run cipher first (unseals pool (opening_items plan call)))))
    c.as_slice-pool.ensures.items puts in
    opened_on plan contexts w l number call steps settled (Settled guess first misses start) p may
    view (ap (λ n. standing_at contexts n) (sym c.context_of.ensures) ∙ c.in-Some.ensures) guess first
    misses start may.done.0.has may.done.1 c.keep_guess.new.progress mid puts_pool
    c.keep_guess.ensures
