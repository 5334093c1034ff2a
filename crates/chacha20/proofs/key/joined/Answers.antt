use Rattle.std.proofs.Common.{◌++◌, replicate, refl, ◌∙◌, ap}
use borrow.Rule.Slice.PartMut.{put_mid}
use Rattle.chacha20.proofs.XorBytes.{put_mid_end}
use Rattle.chacha20.proofs.key.joined.Goals as goal

pub returns : goal.returns
returns c =
    let a = c.args.a.now in
    let zeros = replicate 16 0 in
    ap (λ xs. put_mid 16 16 (xs ++ zeros) c.copy_from_slice-2.new.self) c.copy_from_slice.ensures.after
    ∙ put_mid_end a c.copy_from_slice-2.new.self zeros 16 16 c.told-a refl
    ∙ ap (λ ys. a ++ ys) c.copy_from_slice-2.ensures.after
