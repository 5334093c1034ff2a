use Rattle.std.proofs.Common.{bit_xor, arith}
use Rattle.key_schedule.proofs.InPlace.{joined_more}
use Rattle.key_schedule.proofs.nonces.xor_into.Goals as goal

pub places-preserved : goal.places-preserved
places-preserved c =
    joined_more bit_xor c.args.bytes.now c.args.mask.now c.places.bytes c.places.i (omega arith) c.requires c.places.invariant
