use Rattle.std.proofs.Common.{◌+◌, ◌++◌, List, map, drop, ap, ◌∙◌, arith}
use Rattle.std.proofs.lemmas.Grind.{common_steps}
use Rattle.journal_check.specs.declared.asks.Asked.{Asked}
use Rattle.journal_check.specs.Asks.{size_in}
use Rattle.journal_check.proofs.Walks.{map_next}
use Rattle.journal_check.proofs.asks.sizes_in.Goals as goal

pub calls-preserved : goal.calls-preserved
calls-preserved c =
    let size = size_in c.args.contexts.now in
    let calls = c.args.calls.now in
    let i = c.calls.call-index in
    ap (λ (sizes : List Asked). sizes ++ map size (drop (i + 1) calls)) c.in_ok-push.ensures.items
    ∙ map_next size calls i _ c.size_of.result c.calls.sizes.items _ c.calls-test.true c.size_of.ensures c.calls.invariant

pub returns : goal.returns
returns c = grind (arith, common_steps)
