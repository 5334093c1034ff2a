use Rattle.std.proofs.Common.{rules, subst}
use Rattle.std.proofs.lemmas.List.{take_all}
use Rattle.std.proofs.lemmas.List.Elements.{All-more}
use Rattle.batch_plans.specs.Replies.{IsPrintable}
use Rattle.text_tests.proofs.printable.are_printable.Goals as goal

pub lanes-preserved : goal.lanes-preserved
lanes-preserved c =
    All-more IsPrintable c.args.lanes.now c.lanes.lane-index _ c.lanes-test.true c.lanes.invariant
    (subst IsPrintable c.lane-item.is (c.is_printable.ensures (search rules)))

pub returns : goal.returns
returns c =
    let all = take_all c.lanes.lane-index c.args.lanes.now c.lanes-test.false in
    λ _. rw (← all) c.lanes.invariant
