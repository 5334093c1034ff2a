use Rattle.std.proofs.Common.{◌&&◌, ◌||◌, not, sym, ap, ◌∙◌}
use Rattle.journal_check.specs.Asks.{batch_from}
use Rattle.result_lines.specs.Journals.{stamps_rise}
use Rattle.journal_check.proofs.Dealt.{journal_is}
use Rattle.journal_check.proofs.journals.is_journal.Goals as goal

pub returns-then-not-stamps : goal.returns-then-not-stamps
returns-then-not-stamps c = λ context asked_is.
    let stamps = c.args.stamps in
    let rise = stamps_rise c.args.marks.now in
    journal_is stamps (batch_from c.args.asks.now) context c.args.marks.now c.in_ok-legal.legal _ (c.in_ok-legal.ensures context asked_is)
    (ap not c.if-not-stamps.true ∙ sym (ap (λ b. b && (not stamps || rise)) c.if-legal.true ∙ ap (λ b. not b || rise) c.if-not-stamps.true))

pub returns-else-not-stamps : goal.returns-else-not-stamps
returns-else-not-stamps c = λ context asked_is.
    let stamps = c.args.stamps in
    let rise = stamps_rise c.args.marks.now in
    journal_is stamps (batch_from c.args.asks.now) context c.args.marks.now c.in_ok-legal.legal _ (c.in_ok-legal.ensures context asked_is)
    (c.stamps_rise.ensures ∙ sym (ap (λ b. b && (not stamps || rise)) c.if-legal.true ∙ ap (λ b. not b || rise) c.if-not-stamps.false))

pub returns-else-legal : goal.returns-else-legal
returns-else-legal c = λ context asked_is.
    let stamps = c.args.stamps in
    let rise = stamps_rise c.args.marks.now in
    journal_is stamps (batch_from c.args.asks.now) context c.args.marks.now c.in_ok-legal.legal _ (c.in_ok-legal.ensures context asked_is)
    (c.if-legal.false ∙ sym (ap (λ b. b && (not stamps || rise)) c.if-legal.false))
