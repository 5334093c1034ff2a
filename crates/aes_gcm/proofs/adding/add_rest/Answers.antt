use Rattle.std.proofs.Common.{◌<◌, ◌-◌, length, take, arith}
use Rattle.std.proofs.lemmas.List.{length-set}
use Rattle.aes_gcm.proofs.XorBytes.{sum_more, left_more}
use Rattle.aes_gcm.proofs.adding.add_rest.Goals as goal

pub loop-i-preserved : goal.loop-i-preserved
loop-i-preserved c =
    let text = c.args.text.now in
    let more : c.loop-i.i < length text - c.args.at = omega arith in
    let within : c.loop-i.i < length c.args.stream.now = omega arith in
    record {
      sum = sum_more (take c.args.at text) c.loop-i.text text c.args.stream.now c.args.at c.loop-i.i more
          c.loop-i.invariant.size c.requires.within within c.loop-i.invariant.left c.loop-i.invariant.sum;
      left = left_more c.loop-i.text text c.args.at c.loop-i.i _ c.loop-i.invariant.left;
      size = simp length-set c.loop-i.invariant.size;
    }
