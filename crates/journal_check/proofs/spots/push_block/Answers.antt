use Rattle.std.proofs.Common.{◌++◌, ◌∷◌, [], ◌-◌, ◌+◌, List, ap, ◌∙◌, arith}
use Rattle.std.proofs.lemmas.Grind.{common_steps}
use Rattle.context_books.specs.Batches.{Spot, block, spots}
use Rattle.journal_check.proofs.Putting.{spots_go_on}
use Rattle.journal_check.proofs.spots.push_block.Goals as goal

pub items-preserved : goal.items-preserved
items-preserved c =
    let rest = spots c.args.context (block c.args.lane c.args.call (c.items.item + 1) (c.args.count - (c.items.item + 1))) in
    ap (λ (ss : List Spot). ss ++ rest) (c.in_ok-push.ensures.items ∙ ap (λ (s : Spot). c.items.spots.items ++ s ∷ []) c.new.ensures)
    ∙ spots_go_on c.args.context c.args.lane c.args.call c.args.count c.items.item c.items.spots.items _ c.items-test.true c.items.invariant

pub returns : goal.returns
returns c = grind (arith, common_steps)
