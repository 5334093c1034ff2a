use Rattle.std.proofs.Common.{List, drop, get_or, slice_set, subst, ap, ◌∙◌, ◌+◌, arith}
use Rattle.std.proofs.lemmas.Grind.{common_steps}
use Rattle.call_places.specs.declared.entries.Mark.{Mark}
use Rattle.context_books.specs.Batches.{Spot}
use Rattle.journal_check.specs.Histories.{Puts}
use Rattle.journal_check.proofs.Putting.{puts_next, puts_none}
use Rattle.journal_check.proofs.histories.put_journal.Goals as goal
use Rattle.journal_check.proofs.histories.put_journal.Goals.{then-at-history, else-at-history}

-- what an index past the end would read
abbrev no_mark : Mark
no_mark = record { place = record { lane = 0; call = 0; item = 0 }; stamp = 0 }

pub marks-preserved : goal.marks-preserved
marks-preserved c = λ final t.
    let marks = c.args.marks.now in
    let i = c.marks.mark-index in
    let rest = drop (i + 1) marks in
    let m : Mark = get_or marks i no_mark in
    let old = c.marks.history in
    elim c.if-at-history.branch [
      | then-at-history w ↦ (
          let written = w.history-is ∙ ap (λ (s : Spot). slice_set old m.stamp s) w.new.ensures in
          c.marks.invariant final
          (puts_next old final c.args.context marks i no_mark c.marks-test.true w.if-at-history.true
          (subst (λ (h : List Spot). Puts h final c.args.context rest) written t)))
      | else-at-history w ↦
          c.marks.invariant final
          (puts_none old final c.args.context marks i no_mark c.marks-test.true w.if-at-history.false
          (subst (λ (h : List Spot). Puts h final c.args.context rest) w.history-is t))
    ]

pub returns : goal.returns
returns c = grind (arith, common_steps)
