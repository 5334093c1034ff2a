use Rattle.std.proofs.Common.{refl, Ok}
use Rattle.std.proofs.lemmas.Result.{IfOk-weaker}
use Rattle.sntrup_kem.specs.declared.keys.KeyBytesFault.{KeyBytesFault}
use Rattle.sntrup_kem.specs.declared.keys.KeyBytesFault.TheVariants.{Length, Form, OutOfMemory}
use Rattle.context_table.specs.Keys.{IsSecretReply}
use Rattle.batch_plans.specs.declared.replies.KeyReply.TheVariants.{Secret}
use Rattle.sntrup_kem.specs.Kem.{public_part}
use Rattle.context_table.proofs.Answering.{no_fault, secret_reply, key_of_reply}
use Rattle.context_table.proofs.pairs.given_secret.Goals as goal

pub returns-in-Ok-clause-reply : goal.returns-in-Ok-clause-reply
returns-in-Ok-clause-reply g c =
    let taken = λ (fault : KeyBytesFault). no_fault (Ok c.in-Ok.secret) c.in-Ok.secret fault refl in
    IfOk-weaker c.held.result _
    (λ a. IsSecretReply g.S.Params.set c.args.bytes.now a.reply)
    (λ a is. secret_reply g.S.Params.set g.S.KemParams.SECRET c.args.bytes.now
    c.in-Ok.secret g.met.S.KemParams.secret_is c.in-Ok.ensures.key
    (λ other. taken Length (c.in-Ok.ensures.length.1 other))
    (λ bad. taken Form ((c.in-Ok.ensures.form (taken OutOfMemory)).1 bad))
    a.reply is)
    c.held.ensures.reply

pub returns-in-Ok-clause-pair : goal.returns-in-Ok-clause-pair
returns-in-Ok-clause-pair g c =
    rw (← c.in-Ok.ensures.key)
    (key_of_reply c.held.result (λ a. a.reply) (λ a. a.pair)
    (record { id = g.S.KemParams.ID; set = g.S.Params.set }) c.in-Ok.secret
    (Secret (public_part g.S.Params.set c.in-Ok.secret)) c.held.ensures.reply c.held.ensures.pair)
