use Rattle.std.proofs.Common.{◌+◌, ◌++◌, List, map, drop, ap, ◌∙◌}
use Rattle.journal_check.specs.declared.asks.Asked.{Asked}
use Rattle.journal_check.specs.Asks.{size_in}
use Rattle.journal_check.proofs.Walks.{map_next}
use Rattle.journal_check.proofs.asks.all_sizes.Goals as goal

pub lanes-preserved : goal.lanes-preserved
lanes-preserved c =
    let sizes = map (size_in c.args.contexts.now) in
    let lanes = c.args.lanes.now in
    let i = c.lanes.calls-index in
    ap (λ (asks : List (List Asked)). asks ++ map sizes (drop (i + 1) lanes)) c.in_ok-push.ensures.items
    ∙ map_next sizes lanes i _ c.in_ok-sizes_in.field-0 c.lanes.asks.items _ c.lanes-test.true
    (c.in_ok-sizes_in.ensures ∙ ap sizes (c.as_slice.ensures.items ∙ c.calls-item.is)) c.lanes.invariant
