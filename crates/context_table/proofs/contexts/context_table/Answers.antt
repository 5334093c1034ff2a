use Rattle.std.proofs.Common.{refl}
use Rattle.context_table.specs.Contexts.{reply_of, slot_of}
use Rattle.context_table.proofs.ContextTables.{contexts_by}
use Rattle.context_table.proofs.contexts.context_table.Goals as goal

pub contexts-preserved : goal.contexts-preserved
contexts-preserved g c =
    let became = c.in_ok-outcome.outcome in
    contexts_by c.args.plan.now c.args.keys.now.replies c.contexts.line-index
    c.as_slice-line-items.result.now _
    c.deref.result.now became (reply_of became) (slot_of became)
    c.contexts.replies.items c.keep.new.replies.items c.contexts.slots.items
    c.keep.new.slots.items
    c.as_slice-line-items.ensures.items c.contexts-test.true c.deref.ensures.value
    c.in_ok-outcome.ensures refl refl
    c.in_ok-keep.ensures.replies c.in_ok-keep.ensures.slots c.contexts.invariant
