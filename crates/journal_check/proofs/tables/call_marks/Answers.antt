use Rattle.std.proofs.Common.{◌+◌, ◌++◌, List, map, drop, sym, ap, ◌∙◌, arith}
use Rattle.std.proofs.lemmas.Grind.{common_steps}
use Rattle.std.proofs.lemmas.Bool.{lt-ltb, le-ltb}
use Rattle.call_places.specs.declared.entries.Mark.{Mark}
use Rattle.context_books.specs.LiveChecks.{call_mark}
use Rattle.journal_check.specs.Tables.{is_low}
use Rattle.journal_check.proofs.Walks.{map_next, all_next, all_fail}
use Rattle.journal_check.proofs.tables.call_marks.Goals as goal

pub returns-then-mark-ge-MOST_CALLS : goal.returns-then-mark-ge-MOST_CALLS
returns-then-mark-ge-MOST_CALLS c =
    sym (all_fail is_low c.args.journal.now c.marks.mark-index _ _ c.marks-test.true c.marks.invariant.low (le-ltb _ 65536 c.if-mark-ge-MOST_CALLS.true))

pub marks-preserved : goal.marks-preserved
marks-preserved c =
    let journal = c.args.journal.now in
    let i = c.marks.mark-index in
    record {
      made = ap (λ (ms : List Mark). ms ++ map call_mark (drop (i + 1) journal)) c.in_ok-push.ensures.items
          ∙ map_next call_mark journal i _ c.mark_of_call.result c.marks.marks.items _ c.marks-test.true c.mark_of_call.ensures c.marks.invariant.made;
      low = all_next is_low journal i _ _ c.marks-test.true c.marks.invariant.low (lt-ltb _ 65536 c.if-mark-ge-MOST_CALLS.false);
    }

pub returns : goal.returns
returns c = grind (arith, common_steps)
