use Rattle.std.proofs.Common.{◌++◌, length, drop, replicate, ap, ◌∙◌}
use Rattle.std.proofs.lemmas.List.{drop-replicate}
use Rattle.ghash_core.proofs.blocks.padded.Goals as goal

pub returns : goal.returns
returns c =
    let size = length c.args.bytes.now in
    ap (λ xs. xs ++ drop size (replicate 16 0)) c.copy_from_slice.ensures.after
    ∙ ap (λ xs. c.args.bytes.now ++ xs) (drop-replicate size 16 0)
