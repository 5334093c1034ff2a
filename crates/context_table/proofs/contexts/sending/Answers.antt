use Rattle.std.proofs.Common.{length}
use Rattle.context_table.proofs.Answering.{sends}
use Rattle.context_table.proofs.contexts.sending.Goals as goal

pub returns : goal.returns
returns g c =
    sends c.args.plan.now c.args.keys.now.replies c.args.keys.now.slots (length c.args.earlier.now)
    c.args.key c.in-Some.key.now _ c.in_ok-sender_exchange.field-0
    c.requires.keys c.in-Some.ensures c.context_stream-words.ensures.words
    c.in_ok-sender_exchange.ensures
