use Rattle.batch_plans.specs.Lines.{key_line}
use Rattle.reply_frames.proofs.Leaves.{Leaves-whole, Leaves-next, Leaves-nothing}
use Rattle.reply_frames.proofs.LinesLeft.{numbered-next, numbered-end}
use Rattle.reply_frames.proofs.replies.put_keys.Goals as goal

pub keys-init : goal.keys-init
keys-init g c = Leaves-whole

pub keys-preserved : goal.keys-preserved
keys-preserved g c =
    let next = numbered-next key_line c.args.keys.now c.keys.key _ _ in
    Leaves-next (next c.keys-test.true c.index-keys-key.is) c.keys.invariant c.put_key_line.ensures

pub returns : goal.returns
returns g c =
    let end = numbered-end key_line c.args.keys.now c.keys.key in
    Leaves-nothing (end c.keys-test.false) c.keys.invariant
