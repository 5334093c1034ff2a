use Rattle.std.proofs.Common.{◌≡◌, Bool, subst, sym, ◌∙◌}
use Rattle.std.specs.Result.{IfOk}
use Rattle.journal_check.specs.Asks.{batch_from}
use Rattle.journal_check.proofs.OneHistory.{none_of_these, as_the_history}
use Rattle.journal_check.proofs.histories.judge.Goals as goal

pub returns-then-not-given : goal.returns-then-not-given
returns-then-not-given c =
    none_of_these (batch_from c.args.asks.now) c.args.journals.now c.args.history.now c.put_journals.new.history c.put_journals.ensures c.requires.size
    (sym c.in_ok-given.ensures ∙ c.if-not-given.true)

pub returns : goal.returns
returns c =
    let these = as_the_history (batch_from c.args.asks.now) c.args.journals.now c.args.history.now c.put_journals.new.history c.put_journals.ensures c.requires.size
    (sym c.in_ok-given.ensures ∙ c.if-not-given.false) in
    subst (λ (b : Bool). IfOk c.is_history.result (λ good. good ≡ b)) these c.is_history.ensures
