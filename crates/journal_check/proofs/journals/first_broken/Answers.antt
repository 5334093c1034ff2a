use Rattle.std.proofs.Common.{◌<◌, length, ◌∙◌, arith}
use Rattle.std.proofs.lemmas.Grind.{common_steps}
use Rattle.journal_check.specs.Asks.{batch_from}
use Rattle.journal_check.specs.Piles.{asked_on}
use Rattle.journal_check.proofs.Dealt.{broken_here, broken_later, pile_is}
use Rattle.journal_check.proofs.journals.first_broken.Goals as goal

pub returns-then-not-legal : goal.returns-then-not-legal
returns-then-not-legal c =
    let batch = batch_from c.args.asks.now in
    let i = c.journals.number in
    let lt = c.journals-test.true in
    let low : i < length c.args.asked.now = omega (arith, lt, c.requires.asked_size) in
    let due = pile_is c.args.asked.now i c.index-asked-number.result c.as_slice-due.result.now (asked_on batch i) low (c.as_slice-due.ensures.items ∙ c.index-asked-number.is) (c.requires.asked i lt) in
    broken_here c.args.stamps batch c.args.journals.now i c.index-journals-number.result c.as_slice.result.now lt (c.as_slice.ensures.items ∙ c.index-journals-number.is) _
    c.journals.invariant c.in_ok-legal.legal (c.in_ok-legal.ensures i due) c.if-not-legal.true

pub journals-preserved : goal.journals-preserved
journals-preserved c =
    let batch = batch_from c.args.asks.now in
    let i = c.journals.number in
    let lt = c.journals-test.true in
    let low : i < length c.args.asked.now = omega (arith, lt, c.requires.asked_size) in
    let due = pile_is c.args.asked.now i c.index-asked-number.result c.as_slice-due.result.now (asked_on batch i) low (c.as_slice-due.ensures.items ∙ c.index-asked-number.is) (c.requires.asked i lt) in
    broken_later c.args.stamps batch c.args.journals.now i c.index-journals-number.result c.as_slice.result.now lt (c.as_slice.ensures.items ∙ c.index-journals-number.is) _
    c.journals.invariant c.in_ok-legal.legal (c.in_ok-legal.ensures i due) c.if-not-legal.false

pub returns : goal.returns
returns c = grind (arith, common_steps)
