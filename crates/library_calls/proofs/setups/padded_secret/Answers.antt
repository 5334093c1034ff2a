use Rattle.std.proofs.Common.{◌++◌, length, drop, replicate, ap, ◌∙◌}
use Rattle.std.proofs.lemmas.List.{drop-replicate}
use Rattle.library_calls.proofs.setups.padded_secret.Goals as goal

pub returns : goal.returns
returns c =
    let size = length c.args.secret.now in
    ap (λ xs. xs ++ drop size (replicate 64 0)) c.copy_from_slice.ensures.after
    ∙ ap (λ xs. c.args.secret.now ++ xs) (drop-replicate size 64 0)
