use Rattle.std.proofs.Common.{◌<◌, ◌+◌, length, true, false, sym, ◌∙◌, arith}
use Rattle.journal_check.specs.Asks.{batch_from}
use Rattle.journal_check.proofs.Asking.{goes_at}
use Rattle.journal_check.proofs.Walks.{unbroken_ends, unbroken_fails, unbroken_goes_on, unbroken_passes}
use Rattle.journal_check.proofs.journals.is_unbroken.Goals as goal
use Rattle.journal_check.proofs.journals.is_unbroken.Goals.{then-i-places-via-then-i-places, then-i-places-via-else-i-places+then-not-is_next, then-goes_on+else-i-places+else-not-is_next, else-goes_on}

pub returns-then-i-places : goal.returns-then-i-places
returns-then-i-places c =
    let batch = batch_from c.args.asks.now in
    let ps = c.args.places.now in
    let i = c.places.i in
    let goes = goes_at c.args.asks.now ps i _ true (sym c.goes_on.ensures ∙ c.if-goes_on.true) in
    elim c.then-i-places.branch [
      | then-i-places-via-then-i-places w ↦ unbroken_ends batch ps i _ _ w.if-i-places.true goes c.places.invariant
      | then-i-places-via-else-i-places+then-not-is_next w ↦ (
          let not_last = w.if-i-places.false in
          let low : i + 1 < length ps = omega arith in
          unbroken_fails batch ps i _ _ low goes (sym w.is_next.ensures ∙ w.if-not-is_next.true) c.places.invariant)
    ]

pub places-preserved : goal.places-preserved
places-preserved c =
    let batch = batch_from c.args.asks.now in
    let ps = c.args.places.now in
    let i = c.places.i in
    elim c.if-goes_on.branch [
      | then-goes_on+else-i-places+else-not-is_next w ↦ (
          let goes = goes_at c.args.asks.now ps i _ true (sym c.goes_on.ensures ∙ w.if-goes_on.true) in
          let not_last = w.if-i-places.false in
          let low : i + 1 < length ps = omega arith in
          unbroken_goes_on batch ps i _ _ low goes (sym w.is_next.ensures ∙ w.if-not-is_next.false) c.places.invariant)
      | else-goes_on w ↦ (
          let stays = goes_at c.args.asks.now ps i _ false (sym c.goes_on.ensures ∙ w.if-goes_on.false) in
          unbroken_passes batch ps i _ _ c.places-test.true stays c.places.invariant)
    ]
