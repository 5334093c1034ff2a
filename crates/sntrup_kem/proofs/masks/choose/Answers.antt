use Rattle.std.proofs.Common.{◌≡◌, ℕ, ◌*◌, List, length, ◌∙◌, w8, arith}
use Rattle.std.proofs.lemmas.Simd.{chunk-fits, length-chunk, length-put_chunk}
use lib.Lanes.{chunk}
use Rattle.sntrup_core.proofs.Masks.{agree_whole, agree_put, picked_all, picked_none}
use Rattle.sntrup_kem.proofs.masks.choose.Goals as goal

pub loop-block-preserved : goal.loop-block-preserved
loop-block-preserved c =
    let at : ℕ = 16 * c.loop-block.block in
    let xs : List ℕ = c.args.first.now in
    let ys : List ℕ = c.args.second.now in
    let list : List ℕ = c.loop-block.chosen in
    let lx : length (chunk at 16 xs) ≡ 16 = length-chunk at 16 xs (omega arith) in
    let ly : length (chunk at 16 ys) ≡ 16 = length-chunk at 16 ys (omega arith) in
    record {
      all =
          λ e. agree_put 0 c.loop-block.block list xs _ (omega arith) (omega arith) (picked_all c.args.mask (chunk at 16 xs) (chunk at 16 ys) e lx ly (chunk-fits w8 at 16 xs c.type_inv.first) (chunk-fits w8 at 16 ys c.type_inv.second)) (c.loop-block.invariant.all e);
      none =
          λ e. agree_put 0 c.loop-block.block list ys _ (omega arith) (omega arith) (picked_none c.args.mask (chunk at 16 xs) (chunk at 16 ys) e lx ly) (c.loop-block.invariant.none e);
      size = length-put_chunk _ _ _ ∙ c.loop-block.invariant.size;
    }

pub returns-clause-all : goal.returns-clause-all
returns-clause-all c =
    λ e. agree_whole 0 (16 * c.loop-block.block) c.loop-block.chosen c.args.first.now (omega arith) (omega arith) (c.loop-block.invariant.all e)

pub returns-clause-none : goal.returns-clause-none
returns-clause-none c =
    λ e. agree_whole 0 (16 * c.loop-block.block) c.loop-block.chosen c.args.second.now (omega arith) (omega arith) (c.loop-block.invariant.none e)
