use Rattle.std.proofs.Common.{◌<◌, ◌+◌, ◌++◌, ◌∷◌, [], List, length, drop, ap, ◌∙◌, arith}
use Rattle.std.proofs.lemmas.Grind.{common_steps}
use Rattle.journal_check.specs.declared.asks.Asked.{Asked}
use Rattle.journal_check.specs.Tables.{pairs_by}
use Rattle.journal_check.proofs.NotedCalls.{pair_next}
use Rattle.journal_check.proofs.tables.Notes.pair_sizes.Goals as goal

pub calls-preserved : goal.calls-preserved
calls-preserved c =
    let self = c.args.self.now in
    let plan = self.plan.now in
    let contexts = self.contexts.now in
    let calls = c.args.calls.now in
    let served = c.args.served.now in
    let i = c.calls.number in
    let low : i < length calls = c.calls-test.true in
    let few : i < length served = omega (arith, low, c.requires.size) in
    ap (λ (made : List Asked). made ++ pairs_by plan contexts self.table (drop (i + 1) calls) (drop (i + 1) served))
    (c.in_ok-push-2.ensures.items ∙ ap (λ (made : List Asked). made ++ c.size_of.result ∷ []) c.in_ok-push.ensures.items)
    ∙ pair_next plan contexts self.table calls served i _ _ c.size.result c.size_of.result c.calls.sizes.items _ low few c.size.ensures c.size_of.ensures c.calls.invariant

pub returns : goal.returns
returns c = grind (arith, common_steps)
