use Rattle.std.proofs.Common.{sym, ap, ◌∙◌}
use Rattle.std.proofs.lemmas.List.{drop_all}
use Rattle.journal_check.proofs.PileLists.{by_context_stamped}
use Rattle.journal_check.proofs.Dealt.{stamped_empty}
use Rattle.journal_check.proofs.dealing.marks_of.Goals as goal

pub returns : goal.returns
returns c =
    sym (ap (by_context_stamped c.history.piles.items c.history.stamp) (drop_all c.history.stamp c.args.history.now c.history-test.false))
    ∙ c.history.invariant ∙ stamped_empty c.args.count c.args.history.now
