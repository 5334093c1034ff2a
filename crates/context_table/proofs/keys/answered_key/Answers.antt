use Rattle.std.proofs.Common.{subst, sym, ◌∙◌}
use Rattle.std.specs.Prelude.{IfOk}
use Rattle.ring_core.specs.Sets.{sntrup761, sntrup857}
use Rattle.batch_plans.specs.declared.plan.KeySet.{KeySet}
use Rattle.batch_plans.specs.declared.plan.KeySource.{KeySource}
use Rattle.batch_plans.specs.KeyLines.{source_of}
use Rattle.context_table.specs.Keys.{IsKeyReply, IsSourceReply, kem_with}
use Rattle.context_table.proofs.Answering.{passed_on}
use Rattle.context_table.proofs.keys.answered_key.Goals as goal

pub returns-in-Sntrup761-clause-reply : goal.returns-in-Sntrup761-clause-reply
returns-in-Sntrup761-clause-reply g c =
    let plan = c.args.plan.now in
    let k = c.args.number in
    let line = c.args.line.now in
    let first = c.answered_of.result in
    let S : KeySource → Type 0 = λ source. IfOk first
    (λ a. IsSourceReply plan k sntrup761 source a.reply) in
    let L : KeySet → Type 0 = λ set. IfOk first
    (λ a. IsSourceReply plan k (kem_with set).set (source_of line) a.reply) in
    passed_on first c.map.result (λ a. a.reply) (λ a. a.reply) _ (IsKeyReply plan k line)
    (λ a b made. made.0)
    (subst L (sym c.in-Sntrup761.is ∙ c.set.ensures)
    (subst S c.source-source.ensures c.answered_of.ensures.reply))
    c.map.ensures.cases

pub returns-in-Sntrup857-clause-reply : goal.returns-in-Sntrup857-clause-reply
returns-in-Sntrup857-clause-reply g c =
    let plan = c.args.plan.now in
    let k = c.args.number in
    let line = c.args.line.now in
    let first = c.answered_of-in-Sntrup857.result in
    let S : KeySource → Type 0 = λ source. IfOk first
    (λ a. IsSourceReply plan k sntrup857 source a.reply) in
    let L : KeySet → Type 0 = λ set. IfOk first
    (λ a. IsSourceReply plan k (kem_with set).set (source_of line) a.reply) in
    passed_on first c.map-in-Sntrup857.result (λ a. a.reply) (λ a. a.reply) _ (IsKeyReply plan k line)
    (λ a b made. made.0)
    (subst L (sym c.in-Sntrup857.is ∙ c.set.ensures)
    (subst S c.source-source.ensures c.answered_of-in-Sntrup857.ensures.reply))
    c.map-in-Sntrup857.ensures.cases
