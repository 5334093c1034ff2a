use Rattle.std.proofs.Common.{◌++◌, length, drop, replicate, ap, ◌∙◌}
use Rattle.std.proofs.lemmas.List.{drop-replicate}
use Rattle.library_calls.proofs.asks.padded_enc.Goals as goal

pub returns : goal.returns
returns c =
    let size = length c.args.enc.now in
    ap (λ xs. xs ++ drop size (replicate 1184 0)) c.copy_from_slice.ensures.after
    ∙ ap (λ xs. c.args.enc.now ++ xs) (drop-replicate size 1184 0)
