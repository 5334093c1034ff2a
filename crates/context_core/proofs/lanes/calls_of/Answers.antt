use Rattle.std.proofs.Common.{[], List, ap, get_or, ◌∙◌}
use Rattle.std.proofs.lemmas.List.{get_or_read}
use Rattle.batch_plans.specs.declared.plan.CallLine.{CallLine}
use Rattle.context_core.proofs.lanes.calls_of.Goals as goal

pub returns : goal.returns
returns c =
    let n = c.args.lane in
    c.as_slice-2.ensures.items
    ∙ get_or_read c.args.plan.now.lanes n c.index-as_slice-lane.result c.requires
    (c.index-as_slice-lane.is
    ∙ ap (λ (ls : List (List CallLine)). get_or ls n c.index-as_slice-lane.result) c.as_slice.ensures.items) []
