use Rattle.std.proofs.Common.{◌≡◌, arith, length}
use Rattle.std.proofs.lemmas.Simd.{length-chunk}
use lib.Lanes.{chunk}
use Rattle.sntrup_kem.proofs.Differences.{blocks_differ}
use Rattle.sntrup_kem.proofs.masks.block_difference.Goals as goal

pub returns : goal.returns
returns c =
    let at = c.args.at in
    let xs = c.args.first.now in
    let ys = c.args.second.now in
    let lx : length (chunk at 16 xs) ≡ 16 = length-chunk at 16 xs c.requires.first in
    let ly : length (chunk at 16 ys) ≡ 16 = length-chunk at 16 ys c.requires.second in
    blocks_differ (chunk at 16 xs) (chunk at 16 ys) (omega arith)
