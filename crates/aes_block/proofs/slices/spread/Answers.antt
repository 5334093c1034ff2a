use Rattle.std.proofs.Common.{◌≡◌, ◌*◌, ◌%◌, ◌^◌, map, refl, ap, ◌∙◌}
use Rattle.aes_block.proofs.States.{eight, picked_lane, picked_of}
use Rattle.aes_block.proofs.slices.spread.Goals as goal

pub returns : goal.returns
returns c =
    let bit = 1 * 2 ^ c.args.k % 256 in
    let is : bit ≡ 2 ^ c.args.k = eight (λ k. 1 * 2 ^ k % 256 ≡ 2 ^ k) refl refl refl refl refl refl refl refl c.args.k c.requires.bit in
    picked_of c.args.x 16 bit 255 c.requires.lanes ∙ ap (λ b. map (picked_lane b 255) c.args.x) is
