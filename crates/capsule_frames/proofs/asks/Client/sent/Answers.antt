use Rattle.std.proofs.Common.{arith}
use Rattle.std.proofs.lemmas.Grind.{common_steps}
use Rattle.std.proofs.lemmas.Result.{IfOk-weaker}
use Rattle.capsule_frames.proofs.Telling.{sent_is}
use Rattle.capsule_frames.proofs.asks.Client.sent.Goals as goal

pub sent_by-requires-clause-text : goal.sent_by-requires-clause-text
sent_by-requires-clause-text g c = grind (arith, common_steps)

pub returns-in-Some : goal.returns-in-Some
returns-in-Some g c =
    let self = c.args.self.now in
    let job = c.args.job in
    IfOk-weaker c.sent_by.result _ _
    (λ made is. sent_is self.plan.now self.keys.now.replies self.keys.now.slots job.number job.key job.id job.kdf
    job.aead job.text c.in-Some.key.now _ c.as_slice.result.now c.of-text.result.now
    made c.requires.keys c.in-Some.ensures
    c.context_stream-words.ensures.words c.as_slice.ensures.items c.of-text.ensures is)
    c.sent_by.ensures
