use Rattle.std.proofs.Common.{[], ◌∷◌, refl, ◌∙◌, ap, ◌++◌}
use borrow.Rule.Slice.PartMut.{put_mid}
use Rattle.aes_gcm.specs.Gcm.{counter_block}
use Rattle.aes_gcm.proofs.XorBytes.{put_mid_end}
use Rattle.aes_gcm.proofs.counters.counter_block.Goals as goal

pub returns : goal.returns
unfolding counter_block
returns c =
    let nonce = c.args.nonce.now in
    ap (λ xs. put_mid 12 4 (xs ++ 0 ∷ 0 ∷ 0 ∷ 0 ∷ []) c.copy_from_slice-2.new.self) c.copy_from_slice.ensures.after
    ∙ put_mid_end nonce c.copy_from_slice-2.new.self (0 ∷ 0 ∷ 0 ∷ 0 ∷ []) 12 4 c.told-nonce refl
    ∙ ap (λ ys. nonce ++ ys) (c.copy_from_slice-2.ensures.after ∙ c.to_be_bytes.ensures)
