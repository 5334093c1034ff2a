use Rattle.std.proofs.Common.{◌≡◌, false, sym, ◌∙◌, subst}
use Rattle.std.specs.Option.{MatchOption}
use Rattle.std.proofs.lemmas.Result.{IfOk-weaker}
use Rattle.context_books.specs.LiveChecks.{is_live_history}
use Rattle.journal_check.specs.Asks.{AreFew}
use Rattle.journal_check.specs.Served.{table_along}
use Rattle.journal_check.specs.Tables.{are_low, with_marks}
use Rattle.journal_check.proofs.NotedTables.{same_lengths, few_pairs, no_low_history, history_is}
use Rattle.journal_check.proofs.tables.is_live_history.Goals as goal

pub returns-in_default : goal.returns-in_default
returns-in_default c =
    let journals = c.args.journals.now in
    let notes = c.args.table.now.notes.now in
    no_low_history c.args.plan.now c.args.contexts.now c.args.table.now.calls.now c.args.journals.now c.args.table.now.notes.now c.requires.within c.requires.served.lanes
    (subst (λ o. MatchOption o (are_low journals notes ≡ false) (λ marks. marks.items ≡ with_marks journals notes)) c.in_default.is c.in_ok-marks.ensures)

pub asks_with_table-requires-clause-sizes : goal.asks_with_table-requires-clause-sizes
asks_with_table-requires-clause-sizes c = same_lengths c.args.plan.now c.args.contexts.now c.args.table.now.calls.now c.args.journals.now c.args.table.now.notes.now c.requires.within c.requires.served.lanes

pub is_history_by-requires-clause-within : goal.is_history_by-requires-clause-within
is_history_by-requires-clause-within c =
    subst AreFew (sym (c.deref.ensures.value ∙ c.in_ok-asks.ensures)) (few_pairs c.args.plan.now c.args.contexts.now c.args.table.now.calls.now c.args.journals.now c.args.table.now.notes.now c.requires.within c.requires.served.lanes)

pub returns : goal.returns
returns c =
    let journals = c.args.journals.now in
    let notes = c.args.table.now.notes.now in
    let marks : c.in-Some.marks.items ≡ with_marks journals notes =
    subst (λ o. MatchOption o (are_low journals notes ≡ false) (λ marks. marks.items ≡ with_marks journals notes)) c.in-Some.is c.in_ok-marks.ensures in
    IfOk-weaker c.is_history_by.result _ (λ good. good ≡ is_live_history (table_along c.args.plan.now c.args.contexts.now c.args.table.now journals))
    (λ good told. told ∙ history_is c.args.plan.now c.args.contexts.now c.args.table.now.calls.now c.args.journals.now c.args.table.now.notes.now c.requires.within c.requires.served.lanes c.requires.table
    c.deref.result.now c.deref-2.result.now (c.deref.ensures.value ∙ c.in_ok-asks.ensures) (c.deref-2.ensures.value ∙ marks))
    c.is_history_by.ensures
