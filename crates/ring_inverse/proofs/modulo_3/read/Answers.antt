use Rattle.std.proofs.Common.{arith, rules, length-append}
use Rattle.std.specs.Int.{w8}
use Rattle.std.specs.Int.RustNames.{FitsSigned}
use Rattle.std.proofs.lemmas.Int.{to_z-of_z}
use Rattle.ring_inverse.proofs.ListLaws.{within_append}
use Rattle.ring_inverse.proofs.modulo_3.read.Goals as goal

pub loop-k-preserved : goal.loop-k-preserved
loop-k-preserved c =
    let fits : FitsSigned w8 c.sign.result = search rules in
    let pushed = simp to_z-of_z at c.in_ok-push.ensures.items in
    rw pushed (simp length-append (omega arith), within_append 1 c.loop-k.list.items c.sign.result c.loop-k.invariant.1 c.sign.ensures)
