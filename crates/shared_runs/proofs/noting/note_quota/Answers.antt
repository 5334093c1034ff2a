use Rattle.std.proofs.Common.{take, arith}
use Rattle.std.proofs.lemmas.List.{length-take}
use Rattle.shared_runs.proofs.Noted.{quota_most, notes_few}
use Rattle.shared_runs.proofs.noting.note_quota.Goals as goal

pub overflow_add-sum : goal.overflow_add-sum
overflow_add-sum c =
    let plan = c.args.plan.now in
    let contexts = c.args.contexts.now in
    let calls = c.args.calls.now in
    let k = c.calls.call-index in
    omega (
      arith,
      c.calls.invariant,
      quota_most plan contexts (take k calls),
      length-take k calls,
      c.notes_of-sum.ensures,
      notes_few plan contexts,
      c.requires.calls.1,
    )
