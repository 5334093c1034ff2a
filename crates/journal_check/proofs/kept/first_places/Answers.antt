use Rattle.std.proofs.Common.{◌<◌, ◌+◌, ◌++◌, List, length, drop, ap, ◌∙◌, arith}
use Rattle.std.proofs.lemmas.Grind.{common_steps}
use Rattle.std.specs.Prelude.{take}
use Rattle.call_places.specs.declared.entries.Mark.{Mark}
use Rattle.call_places.specs.declared.entries.Place.{Place}
use Rattle.journal_check.specs.Asks.{batch_from}
use Rattle.journal_check.specs.Piles.{asked_on, kept_from}
use Rattle.journal_check.proofs.Dealt.{pile_is}
use Rattle.journal_check.proofs.KeptPlaces.{keep_next}
use Rattle.journal_check.proofs.kept.first_places.Goals as goal

pub journals-preserved : goal.journals-preserved
journals-preserved c =
    let batch = batch_from c.args.asks.now in
    let i = c.journals.number in
    let lt = c.journals-test.true in
    let asked = c.in_ok-asked.asked.items in
    let low : i < length asked = omega (arith, lt, c.in_ok-asked.ensures.size) in
    let due = pile_is asked i _ c.as_slice.result.now (asked_on batch i) low (c.as_slice.ensures.items ∙ c.index.ensures) (c.in_ok-asked.ensures.each i lt) in
    ap (λ (kept : List (List Mark)). kept ++ kept_from batch (i + 1) (drop (i + 1) c.args.journals.now)) c.in_ok-push.ensures.items
    ∙ keep_next batch c.args.journals.now i _ c.index-journals-number.result c.in_ok-first.field-0 c.journals.kept.items _ lt c.index-journals-number.is
    (c.in_ok-first.ensures ∙ ap (λ (pile : List Place). take (length pile + 1) c.index-journals-number.result) due)
    c.journals.invariant

pub returns : goal.returns
returns c = grind (arith, common_steps)
