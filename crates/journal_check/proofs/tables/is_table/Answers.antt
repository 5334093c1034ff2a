use Rattle.std.proofs.Common.{◌≡◌, false, map, sym, ◌∙◌, subst}
use Rattle.std.specs.Option.{MatchOption}
use Rattle.std.specs.List.{list_all}
use Rattle.std.proofs.lemmas.Result.{IfOk-weaker}
use Rattle.context_books.specs.LiveChecks.{note_mark}
use Rattle.journal_check.specs.Asks.{AreFew}
use Rattle.journal_check.specs.Served.{table_along}
use Rattle.journal_check.specs.Tables.{is_low_note}
use Rattle.journal_check.proofs.NotedTables.{same_lengths, few_pairs, no_low_table, journal_found, no_table, table_is}
use Rattle.journal_check.proofs.tables.is_table.Goals as goal
use Rattle.result_lines.specs.Computed.{is_table}

pub returns-in_default : goal.returns-in_default
returns-in_default c =
    let notes = c.args.table.now.notes.now in
    no_low_table c.args.plan.now c.args.contexts.now c.args.table.now.calls.now c.args.journals.now c.args.table.now.notes.now c.requires.within c.requires.served.lanes
    (subst (λ o. MatchOption o (list_all is_low_note notes ≡ false) (λ marks. marks ≡ map note_mark notes)) c.in_default.is c.in_ok-marks.ensures)

pub asks_with_table-requires-clause-sizes : goal.asks_with_table-requires-clause-sizes
asks_with_table-requires-clause-sizes c = same_lengths c.args.plan.now c.args.contexts.now c.args.table.now.calls.now c.args.journals.now c.args.table.now.notes.now c.requires.within c.requires.served.lanes

pub is_one_journal-requires-clause-within : goal.is_one_journal-requires-clause-within
is_one_journal-requires-clause-within c =
    subst AreFew (sym (c.deref.ensures.value ∙ c.in_ok-asks.ensures)) (few_pairs c.args.plan.now c.args.contexts.now c.args.table.now.calls.now c.args.journals.now c.args.table.now.notes.now c.requires.within c.requires.served.lanes)

pub returns-then-not-branch : goal.returns-then-not-branch
returns-then-not-branch c =
    let notes = c.args.table.now.notes.now in
    let marks : c.in-Some.marks ≡ map note_mark notes =
    subst (λ o. MatchOption o (list_all is_low_note notes ≡ false) (λ marks. marks ≡ map note_mark notes)) c.in-Some.is c.in_ok-marks.ensures in
    no_table c.args.plan.now c.args.contexts.now c.args.table.now.calls.now c.args.journals.now c.args.table.now.notes.now c.requires.within c.requires.served.lanes
    (sym (journal_found c.args.plan.now c.args.contexts.now c.args.table.now.calls.now c.args.journals.now c.args.table.now.notes.now c.requires.within c.requires.served.lanes
    c.deref.result.now c.in-Some.marks c.in_ok-is_one_journal.field-0 (c.deref.ensures.value ∙ c.in_ok-asks.ensures) marks c.in_ok-is_one_journal.ensures) ∙ c.if-not-branch.true)

pub returns : goal.returns
returns c =
    let notes = c.args.table.now.notes.now in
    let marks : c.in-Some.marks ≡ map note_mark notes =
    subst (λ o. MatchOption o (list_all is_low_note notes ≡ false) (λ marks. marks ≡ map note_mark notes)) c.in-Some.is c.in_ok-marks.ensures in
    let found = journal_found c.args.plan.now c.args.contexts.now c.args.table.now.calls.now c.args.journals.now c.args.table.now.notes.now c.requires.within c.requires.served.lanes
    c.deref.result.now c.in-Some.marks c.in_ok-is_one_journal.field-0 (c.deref.ensures.value ∙ c.in_ok-asks.ensures) marks c.in_ok-is_one_journal.ensures in
    IfOk-weaker c.tell_lives.result _ (λ told. told ≡ is_table (table_along c.args.plan.now c.args.contexts.now c.args.table.now c.args.journals.now))
    (λ told is. is ∙ table_is c.args.plan.now c.args.contexts.now c.args.table.now.calls.now c.args.journals.now c.args.table.now.notes.now c.requires.within c.requires.served.lanes c.requires.served.acts (sym found ∙ c.if-not-branch.false))
    c.tell_lives.ensures
