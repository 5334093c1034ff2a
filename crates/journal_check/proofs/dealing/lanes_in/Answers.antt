use Rattle.std.proofs.Common.{sym, ap, ◌∙◌}
use Rattle.std.proofs.lemmas.List.{drop_all}
use Rattle.journal_check.proofs.PileLists.{by_lane}
use Rattle.journal_check.proofs.Dealt.{lanes_empty}
use Rattle.journal_check.proofs.dealing.lanes_in.Goals as goal

pub returns : goal.returns
returns c =
    sym (ap (by_lane c.history.lanes.items) (drop_all c.history.spot-index c.args.history.now c.history-test.false))
    ∙ c.history.invariant ∙ lanes_empty c.args.count c.args.history.now
