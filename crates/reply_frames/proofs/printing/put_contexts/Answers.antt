use Rattle.batch_plans.specs.Lines.{context_line}
use Rattle.reply_frames.proofs.Leaves.{Leaves-whole, Leaves-next, Leaves-nothing}
use Rattle.reply_frames.proofs.LinesLeft.{numbered-next, numbered-end}
use Rattle.reply_frames.proofs.printing.put_contexts.Goals as goal

pub contexts-init : goal.contexts-init
contexts-init g c = Leaves-whole

pub contexts-preserved : goal.contexts-preserved
contexts-preserved g c =
    let next = numbered-next context_line c.args.contexts.now c.contexts.context _ _ in
    Leaves-next (next c.contexts-test.true c.index-contexts-context.is) c.contexts.invariant
    c.put_context_line.ensures

pub returns : goal.returns
returns g c =
    let end = numbered-end context_line c.args.contexts.now c.contexts.context in
    Leaves-nothing (end c.contexts-test.false) c.contexts.invariant
