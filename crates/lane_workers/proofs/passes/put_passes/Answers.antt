use Rattle.std.proofs.Common.{◌≡◌, None, sym, ◌∙◌, subst, arith}
use Rattle.std.proofs.lemmas.Grind.{common_steps}
use Rattle.lane_workers.specs.Handing.{list_at, CanPut}
use Rattle.lane_workers.specs.Turns.{pass_at}
use Rattle.lane_workers.proofs.Handing.{found_here}
use Rattle.lane_workers.proofs.passes.put_passes.Goals as goal

pub put_one-requires : goal.put_one-requires
put_one-requires c =
    let inv = c.lists.invariant in
    let i = c.lists.i in
    let low = c.lists-test.true in
    let list : c.index-lists-i.result ≡ list_at c.args.lists.now i =
    found_here c.lists.lists i c.index-lists-i.result None
    (let same = c.lists.auto.lists in omega arith) c.index-lists-i.is ∙ inv.left i (omega arith) in
    let pass : c.take.result ≡ pass_at c.args.passes i = c.take.ensures.value
    ∙ found_here c.lists.passes.items i c.index_mut.result.now None
    (let same = inv.passes_count in let count = c.requires.count in omega arith)
    c.index_mut.ensures.value ∙ inv.kept i (omega arith) in
    subst (λ o. CanPut o c.take.result) (sym list ∙ c.index-lists-i.is)
    (subst (CanPut (list_at c.args.lists.now i)) (sym pass) (c.requires.each i low))

pub lists-preserved : goal.lists-preserved
lists-preserved c = grind (arith, common_steps)
