use Rattle.std.proofs.Common.{◌≡◌, ℕ, ◌*◌, List, ℤ, pos, to_z, of_z, ap, sym, ◌∙◌, arith}
use Rattle.std.specs.Int.{w8}
use Rattle.std.specs.Int.RustNames.{FitsSigned}
use Rattle.std.proofs.lemmas.Int.{to_z-of_z}
use Rattle.std.proofs.lemmas.Simd.{length-put_chunk}
use Rattle.sntrup_core.proofs.Masks.{bits, agree_put, agree_whole, picked_first, picked_second}
use Rattle.sntrup_core.proofs.choosing.choose.Goals as goal

pub loop-block-preserved : goal.loop-block-preserved
loop-block-preserved c =
    let at : ℕ = 16 * c.loop-block.block in
    let xs : List ℤ = c.args.first.now in
    let ys : List ℤ = c.args.second.now in
    let list : List ℤ = c.loop-block.chosen in
    let fits : FitsSigned w8 c.args.mask = c.ranges.mask in
    let back : to_z w8 (of_z w8 c.args.mask) ≡ c.args.mask = to_z-of_z w8 c.args.mask fits in
    record {
      all =
          λ e. agree_put (pos 0) c.loop-block.block list xs _ (omega arith) (omega arith) (picked_first (bits c.args.mask) at xs ys (ap bits (sym back ∙ e)) (omega arith) (omega arith) c.requires.first_small c.requires.second_small) (c.loop-block.invariant.all e);
      none =
          λ e. agree_put (pos 0) c.loop-block.block list ys _ (omega arith) (omega arith) (picked_second (bits c.args.mask) at xs ys (ap bits (sym back ∙ e)) (omega arith) (omega arith) c.requires.second_small) (c.loop-block.invariant.none e);
      size = length-put_chunk _ _ _ ∙ c.loop-block.invariant.size;
    }

pub returns-clause-all : goal.returns-clause-all
returns-clause-all c =
    let back : to_z w8 (of_z w8 c.args.mask) ≡ c.args.mask = to_z-of_z w8 c.args.mask c.ranges.mask in
    λ e. agree_whole (pos 0) (16 * c.loop-block.block) c.loop-block.chosen c.args.first.now (omega arith) (omega arith) (c.loop-block.invariant.all (back ∙ e))

pub returns-clause-none : goal.returns-clause-none
returns-clause-none c =
    let back : to_z w8 (of_z w8 c.args.mask) ≡ c.args.mask = to_z-of_z w8 c.args.mask c.ranges.mask in
    λ e. agree_whole (pos 0) (16 * c.loop-block.block) c.loop-block.chosen c.args.second.now (omega arith) (omega arith) (c.loop-block.invariant.none (back ∙ e))
