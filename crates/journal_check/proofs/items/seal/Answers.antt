use Rattle.std.proofs.Common.{◌≡◌, ℕ, List, length, refl, sym, ap, ◌∙◌}
use Rattle.std.specs.Prelude.{codes}
use Rattle.std.proofs.lemmas.Result.{IfOk-weaker}
use Rattle.call_places.specs.Spans.{span_bytes}
use Rattle.batch_plans.specs.Lines.{served_line}
use Rattle.context_books.specs.Runs.{answer_line}
use Rattle.journal_check.proofs.Along.{written_whole, always}
use Rattle.journal_check.proofs.items.seal.Goals as goal

pub returns-in-Ok-clause-line : goal.returns-in-Ok-clause-line
returns-in-Ok-clause-line c =
    let n = c.in-Ok.number in
    let size : length c.seal_into.new.out ≡ c.in_ok-out.out.len = c.seal_into.auto.out ∙ c.deref_mut.ensures.len in
    let written = written_whole c.seal_into.new.out _ c.in_ok-out.out.len size in
    let bytes = c.deref-in-Ok.ensures.value ∙ sym c.deref.ensures.value in
    let text = ap (λ (pool : List ℕ). span_bytes pool c.all_of-text.result) bytes ∙ c.all_of-text.ensures.all ∙ c.deref.ensures.value ∙ written in
    IfOk-weaker c.reply_line.result _ _
    (λ line is. is ∙ ap (served_line (codes "sealed ") n) text ∙ ap answer_line (sym (c.in-Ok.ensures.sealed n refl)))
    c.reply_line.ensures

pub returns-in-Ok-clause-seq : goal.returns-in-Ok-clause-seq
returns-in-Ok-clause-seq c = always c.reply_line.result (c.in-Ok.ensures.due c.requires.can)

pub returns-in-Ok-clause-context : goal.returns-in-Ok-clause-context
returns-in-Ok-clause-context c = always c.reply_line.result c.in-Ok.ensures.context
