use Rattle.std.proofs.Common.{arith, ap, ◌∙◌, ◌+◌, take, ◌++◌}
use Rattle.std.proofs.lemmas.Slice.{take-put_mid}
use Rattle.x25519_kem.proofs.keys.put_word.Goals as goal

pub returns : goal.returns
returns c =
    let bytes = c.copy_from_slice.ensures.after ∙ c.to_le_bytes.ensures in
    take-put_mid c.args.at _ c.args.out.now _ (c.args.at + 4) (omega arith) (omega arith)
    ∙ ap (λ t. take c.args.at c.args.out.now ++ t) bytes
