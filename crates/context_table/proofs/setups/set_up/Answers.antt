use Rattle.std.proofs.Common.{subst, sym}
use Rattle.context_books.specs.ContextLines.{AreOfLines}
use Rattle.context_table.proofs.Scheduling.{of_lines}
use Rattle.context_table.proofs.setups.set_up.Goals as goal

pub returns-clause-lines : goal.returns-clause-lines
returns-clause-lines g c =
    let plan = c.args.plan.now in
    subst (AreOfLines plan.contexts) (sym c.from_vec-2.ensures.items)
    (of_lines plan c.in_ok-keys.keys.replies c.in_ok-contexts.contexts.replies.items
    c.in_ok-contexts.contexts.slots.items
    c.in_ok-contexts.ensures.reply_count c.in_ok-contexts.ensures.slot_count
    c.in_ok-contexts.ensures.outcomes)
