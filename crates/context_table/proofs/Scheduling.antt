-- A context that stands is that of its line.
use Rattle.std.proofs.Common.{◌≡◌, ℕ, List, length, take, Option, Some, None, Result, Ok, Err, sym, ap}
use Rattle.key_schedule.specs.declared.psks.PskFault.{PskFault}
use Rattle.key_schedule.specs.declared.schedules.Secrets.{Secrets}
use Rattle.hpke_context.specs.Contexts.{ContextView}
use Rattle.batch_plans.specs.declared.plan.Plan.{Plan}
use Rattle.batch_plans.specs.declared.plan.ContextLine.{ContextLine}
use Rattle.batch_plans.specs.declared.replies.KeyReply.{KeyReply}
use Rattle.batch_plans.specs.declared.replies.ContextReply.{ContextReply}
use Rattle.batch_plans.specs.declared.replies.ContextRefusal.{ContextRefusal}
use Rattle.context_table.specs.declared.exchanges.Exchange.{Exchange}
use Rattle.context_table.specs.Contexts.{standing_by, scheduled_after, exchange, slot_of, AreOutcomes}
use Rattle.context_books.specs.ContextLines.{IsOfLine, AreOfLines}
use Rattle.context_table.proofs.Lists.{some_within, same_some}

of_line_by : (line : ContextLine) (exchanged : Exchange) (context : ContextView)
    (secrets : Result Secrets PskFault)
    → Some context ≡ slot_of (standing_by line exchanged secrets) → IsOfLine line context
of_line_by line exchanged context (Err fault) is = absurd (let e : Some context ≡ None = is in cc)
of_line_by line exchanged context (Ok secrets) is =
    let made : context ≡ _ = same_some is in
    record {
      role = ap (λ (v : ContextView). v.role) made;
      kdf = ap (λ (v : ContextView). v.suite.kdf) made;
      aead = ap (λ (v : ContextView). v.suite.aead) made;
      limit = ap (λ (v : ContextView). v.limit) made;
    }

of_line_after : (pool : List ℕ) (line : ContextLine) (context : ContextView)
    (exchanged : Result Exchange ContextRefusal)
    → Some context ≡ slot_of (scheduled_after pool line exchanged) → IsOfLine line context
of_line_after pool line context (Err refusal) is = absurd (let e : Some context ≡ None = is in cc)
of_line_after pool line context (Ok exchanged) is = of_line_by line exchanged context _ is

-- all of them
pub of_lines : (plan : Plan) (keys : List KeyReply) (replies : List ContextReply)
    (standing : List (Option ContextView))
    → length replies ≡ length plan.contexts → length standing ≡ length plan.contexts
    → AreOutcomes plan keys replies standing → AreOfLines plan.contexts standing
of_lines plan keys replies standing reply_count slot_count outcomes = record {
  count = slot_count;
  each = λ n line context el es.
      let reply = some_within plan.contexts replies n line (sym reply_count) el in
      let is = outcomes.each n line reply.0 (Some context) el reply.1 es in
      of_line_after plan.pool line context
      (exchange plan keys (take n replies) n line.kind) is.slot_is;
}
