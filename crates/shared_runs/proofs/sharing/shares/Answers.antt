use Rattle.std.proofs.Common.{◌<◌, ◌≤◌, ◌++◌, ◌∷◌, [], length, sym, ap, ◌∙◌, subst, arith}
use Rattle.std.specs.Prelude.{sum}
use Rattle.lane_workers.proofs.Handing.{found_here}
use Rattle.shared_runs.proofs.Seats.{one_of_all, one_share_more}
use Rattle.shared_runs.proofs.sharing.shares.Goals as goal

pub total-requires : goal.total-requires
total-requires c =
    let all = c.args.all.now in
    let k = c.contexts.quotas-index in
    let low : k < length all = (let t = c.contexts-test.true in omega arith) in
    let here = found_here all k c.quotas-item.result [] low c.quotas-item.is in
    subst (λ q. sum q ≤ 65536) (sym here ∙ sym c.as_slice.ensures.items)
    (one_of_all all k 65536 low c.requires)

pub contexts-preserved : goal.contexts-preserved
contexts-preserved c =
    let i = c.contexts.invariant in
    let all = c.args.all.now in
    let k = c.contexts.quotas-index in
    let low : k < length all = (let t = c.contexts-test.true in omega arith) in
    let here = found_here all k c.quotas-item.result [] low c.quotas-item.is in
    let p = c.push_reserved-in-contexts.ensures in
    record {
      done = p.items
          ∙ (λ j. i.done j
          ++ (c.total.ensures ∙ ap sum (c.as_slice.ensures.items ∙ here)) j ∷ [])
          ∙ one_share_more all c.args.others k low;
      count = omega (arith, p.len, i.count);
      room = omega (arith, p.capacity, i.room);
    }
