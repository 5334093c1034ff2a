use Rattle.std.proofs.Common.{sym, ◌∙◌, ap, is_some}
use Rattle.batch_plans.specs.Room.{takes_numbers}
use Rattle.context_books.proofs.Counts.{refused_call, served_call}
use Rattle.context_books.proofs.counting.items_on.Goals as goal

pub returns-then-is_some : goal.returns-then-is_some
returns-then-is_some c = λ lines t.
    sym (refused_call lines c.args.contexts.now t c.args.number c.args.call.now
    (ap is_some (sym c.refusal_of.ensures) ∙ sym c.is_some.ensures ∙ c.if-is_some.true))

pub returns : goal.returns
returns c = λ lines t.
    c.items_of.ensures
    ∙ sym (served_call lines c.args.contexts.now t c.args.number c.args.call.now
    (ap takes_numbers (sym c.kind_of.ensures) ∙ sym c.takes_numbers.ensures
    ∙ c.if-not-takes_numbers.false)
    (ap is_some (sym c.refusal_of.ensures) ∙ sym c.is_some.ensures ∙ c.if-is_some.false)
    (sym c.context_of.ensures ∙ c.if-context_of-number.false))
