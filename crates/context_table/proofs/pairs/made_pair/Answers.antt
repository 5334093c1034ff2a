use Rattle.std.proofs.Common.{[]}
use Rattle.std.proofs.lemmas.Result.{IfOk-weaker}
use Rattle.context_table.specs.Keys.{IsPairReply}
use Rattle.batch_plans.specs.declared.replies.KeyReply.TheVariants.{Generated}
use Rattle.context_table.proofs.Answering.{pair_reply, key_of_reply}
use Rattle.context_table.proofs.pairs.made_pair.Goals as goal

pub returns-in-Ok-clause-reply : goal.returns-in-Ok-clause-reply
returns-in-Ok-clause-reply g c =
    let keys = c.in-Ok.ensures.keys in
    IfOk-weaker c.generated.result _
    (λ a. IsPairReply g.S.Params.set (g.R.Words.word c.args.words.now) a.reply)
    (λ a is. pair_reply g.S.Params.set (g.R.Words.word c.args.words.now)
    (g.R.Words.place c.args.words.now) keys.0
    c.in-Ok.public c.in-Ok.secret c.requires
    (λ none. let no = (c.in-Ok.ensures.no_inverse (λ e. cc)).1 none in cc)
    keys.1 keys.2 a.reply is)
    c.generated.ensures.reply

pub returns-in-Ok-clause-pair : goal.returns-in-Ok-clause-pair
returns-in-Ok-clause-pair g c =
    key_of_reply c.generated.result (λ a. a.reply) (λ a. a.pair)
    (record { id = g.S.KemParams.ID; set = g.S.Params.set }) []
    (Generated c.in-Ok.public c.in-Ok.secret) c.generated.ensures.reply c.generated.ensures.pair
