use Rattle.std.proofs.Common.{◌≡◌, ◌+◌, ap, sym, ◌∙◌, arith, cond, get_or}
use Rattle.hpke_context.specs.Contexts.{cipher_of}
use Rattle.call_places.specs.declared.spans.Item.{Item}
use Rattle.call_places.specs.declared.entries.Step.TheVariants.{Sealed}
use Rattle.call_places.specs.Spans.{span_bytes}
use Rattle.context_books.specs.Entries.{number_after}
use Rattle.context_books.proofs.Steps.{rises_below}
use Rattle.context_books.proofs.Items.{step_within, step_is, one_more, some_left}
use Rattle.context_books.proofs.opening.finish_opening.Goals as goal
use Rattle.context_books.proofs.opening.finish_opening.Goals.{then-advances, else-advances}

-- what an index past the end would give
abbrev no_item : Item
no_item = record { aad = record { start = 0; len = 0 }; text = record { start = 0; len = 0 } }

pub bounds-steps-i : goal.bounds-steps-i
bounds-steps-i c =
    step_within (cipher_of c.args.context.now) c.args.pool.now c.args.items.now c.args.first
    c.args.steps.now c.requires.steps c.items.i c.items-test.true

pub opened-reply-requires-clause-step : goal.opened-reply-requires-clause-step
opened-reply-requires-clause-step c =
    step_is (cipher_of c.args.context.now) c.args.pool.now c.args.items.now c.args.first
    c.args.steps.now c.requires.steps c.items.i _ _ c.items-test.true c.items.number
    c.items.invariant.1

pub put-requires-clause-left : goal.put-requires-clause-left
put-requires-clause-left c =
    let some =
    some_left (cipher_of c.args.context.now) c.args.pool.now c.args.items.now c.args.first
    c.args.steps.now c.requires.steps
    c.args.progress.now c.items.progress _ c.items.i c.items.invariant.0 c.items-test.true
    c.requires.left in
    omega (arith, some, c.opened-reply.ensures.left)

pub overflow_add-number : goal.overflow_add-number
overflow_add-number c =
    let step =
    step_is (cipher_of c.args.context.now) c.args.pool.now c.args.items.now c.args.first
    c.args.steps.now c.requires.steps c.items.i no_item Sealed c.items-test.true c.items.number
    c.items.invariant.1 in
    let item = get_or c.args.items.now c.items.i no_item in
    let below = rises_below (cipher_of c.args.context.now) c.items.number
    (span_bytes c.args.pool.now item.aad) (span_bytes c.args.pool.now item.text)
    (get_or c.args.steps.now c.items.i Sealed) step (sym c.advances.ensures
    ∙ c.if-advances.true) in
    omega (arith, below, c.limit-limit.ensures.limit)

pub items-preserved : goal.items-preserved
items-preserved c =
    let view = cipher_of c.args.context.now in
    let step = get_or c.args.steps.now c.items.i Sealed in
    let next : c.if-advances.number ≡ number_after c.items.number step = elim c.if-advances.branch [
      | then-advances w ↦ w.number-is
          ∙ sym (ap (λ b. cond b (c.items.number + 1) c.items.number) (sym c.advances.ensures
          ∙ w.if-advances.true))
      | else-advances w ↦ w.number-is
          ∙ sym (ap (λ b. cond b (c.items.number + 1) c.items.number) (sym c.advances.ensures
          ∙ w.if-advances.false))
    ] in
    let some =
    some_left view c.args.pool.now c.args.items.now c.args.first c.args.steps.now
    c.requires.steps
    c.args.progress.now c.items.progress _ c.items.i c.items.invariant.0 c.items-test.true
    c.requires.left in
    one_more view c.args.pool.now c.args.items.now c.args.first c.args.steps.now c.requires.steps
    c.items.i no_item Sealed c.items-test.true c.items.number c.items.invariant.1
    c.args.progress.now c.items.progress c.opened-reply.new.progress c.put.new.self
    c.opened-reply.result c.if-advances.number
    c.items.invariant.0 c.opened-reply.ensures c.put.ensures
    (omega (arith, some, c.opened-reply.ensures.left)) next
