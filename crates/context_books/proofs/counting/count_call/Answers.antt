use Rattle.std.proofs.Common.{◌+◌, ap, arith, get_or}
use Rattle.batch_plans.proofs.Counts.{items_on-le}
use Rattle.context_books.specs.ContextLines.{export_limits}
use Rattle.context_books.proofs.Columns.{there, one_counted, none_counted}
use Rattle.context_books.proofs.counting.count_call.Goals as goal

pub bounds-counts-number : goal.bounds-counts-number
bounds-counts-number c =
    let lines = c.requires.standing.0 in
    let t = c.requires.standing.1 in
    let items = c.items_on-items.ensures lines t in
    let low = there lines c.args.contexts.now t c.args.call.now c.context_of-number.result
    c.context_of-number.ensures (omega (arith, items, c.if-items-gt0.true)) in
    omega (arith, low, c.requires.contexts)

pub overflow_add-counts : goal.overflow_add-counts
overflow_add-counts c =
    let lines = c.requires.standing.0 in
    let t = c.requires.standing.1 in
    let contexts = c.args.contexts.now in
    let number = c.context_of-number.result in
    let items = c.items_on-items.ensures lines t in
    let low = there lines contexts t c.args.call.now number
    c.context_of-number.ensures (omega (arith, items, c.if-items-gt0.true)) in
    let room = c.requires.room number (omega (arith, low, c.requires.contexts)) in
    let most = items_on-le lines (export_limits contexts) number c.args.call.now in
    omega (arith, room, most, items)

pub returns-then-items-gt0 : goal.returns-then-items-gt0
returns-then-items-gt0 c = λ lines t k low.
    let contexts = c.args.contexts.now in
    let number = c.context_of-number.result in
    let items = c.items_on-items.ensures lines t in
    let here = there lines contexts t c.args.call.now number
    c.context_of-number.ensures (omega (arith, items, c.if-items-gt0.true)) in
    one_counted lines contexts t c.args.call.now number c.context_of-number.ensures c.args.counts.now _
    (omega (arith, here, c.requires.contexts))
    (ap (λ n. get_or c.args.counts.now number 0 + n) items) k

pub returns-else-items-gt0 : goal.returns-else-items-gt0
returns-else-items-gt0 c = λ lines t k low.
    let none = none_counted lines c.args.contexts.now t c.args.call.now c.context_of-number.result
    c.context_of-number.ensures
    (omega (arith, c.items_on-items.ensures lines t, c.if-items-gt0.false)) k in
    omega (arith, none)
