use Rattle.std.proofs.Common.{◌≡◌, ◌<◌, true, List, length, ap, ◌∙◌, arith}
use Rattle.std.proofs.lemmas.Result.{IfOk-weaker}
use Rattle.call_places.specs.declared.entries.Mark.{Mark}
use Rattle.result_lines.specs.Journals.{is_journal}
use Rattle.journal_check.specs.Asks.{batch_from}
use Rattle.journal_check.specs.Piles.{asked_on}
use Rattle.journal_check.proofs.Dealt.{pile_is}
use Rattle.journal_check.proofs.tables.is_one_journal.Goals as goal

pub returns : goal.returns
returns c =
    let batch = batch_from c.args.asks.now in
    let context = c.args.context in
    let asked = c.in_ok-asked.asked.items in
    let low : context < length asked = omega (arith, c.in_ok-asked.ensures.size) in
    let due = pile_is asked context _ c.as_slice-due.result.now (asked_on batch context) low (c.as_slice-due.ensures.items ∙ c.index.ensures) (c.in_ok-asked.ensures.each context (omega arith)) in
    IfOk-weaker c.is_journal.result _ (λ good. good ≡ is_journal true batch context c.args.marks)
    (λ good judged. judged context due ∙ ap (λ (marks : List Mark). is_journal true batch context marks) c.as_slice-2.ensures.items)
    c.is_journal.ensures
