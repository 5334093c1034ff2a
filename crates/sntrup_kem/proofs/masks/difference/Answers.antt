use Rattle.std.proofs.Common.{◌≡◌, ◌⊎◌, ℕ, ◌+◌, ◌-◌, ◌*◌, List, length, arith, inl, inr}
use Rattle.std.proofs.lemmas.Bool.{cases_lt}
use Rattle.sntrup_kem.proofs.Differences.{agree_all, differences_more}
use Rattle.sntrup_kem.proofs.masks.difference.Goals as goal

pub loop-block-preserved : goal.loop-block-preserved
loop-block-preserved c =
    let xs : List ℕ = c.args.first.now in
    let block : ℕ = c.loop-block.block in
    let at : ℕ = c.min-at.result in
    let end : (at ≡ 16 * block) ⊎ (at + 16 ≡ length xs) =
    elim (cases_lt (16 * block) (length xs - 16)) [
      | inl less ↦ inl (omega arith)
      | inr from ↦ inr (omega arith)
    ]
    in
    differences_more xs c.args.second.now block at c.loop-block.found c.block_difference-found.result c.requires.same (omega arith) (omega arith) end c.loop-block.invariant c.block_difference-found.ensures

pub returns : goal.returns
returns c =
    let all = agree_all (16 * c.loop-block.block) c.args.first.now c.args.second.now c.requires.same (omega arith) in (
      λ e. all.0 (c.loop-block.invariant.0 e),
      λ e. c.loop-block.invariant.1 (all.1 e),
    )
