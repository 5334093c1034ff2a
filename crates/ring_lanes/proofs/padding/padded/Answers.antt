use Rattle.std.proofs.Common.{rules}
use Rattle.ring_core.proofs.ProductLaws.{zeros_at}
use Rattle.ring_lanes.proofs.padding.padded.Goals as goal

pub write_behind-requires-clause-zeros : goal.write_behind-requires-clause-zeros
write_behind-requires-clause-zeros c =
    zeros_at c.args.count _ _ c.deref_mut.ensures.value (search rules)
