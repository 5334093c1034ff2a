use Rattle.std.proofs.Common.{◌∙◌}
use Rattle.library_calls.proofs.Pairs.{is_pair}
use Rattle.library_calls.proofs.kem.put_pair.Goals as goal

pub returns-in-Ok-clause-keys : goal.returns-in-Ok-clause-keys
returns-in-Ok-clause-keys g c =
    let keys = c.in-Ok.ensures.keys in
    λ _. is_pair g.S.Params.set (g.R.Words.word c.args.words.now) (g.R.Words.place c.args.words.now)
    keys.0 c.in-Ok.pk c.in-Ok.sk c.copy_from_slice.new.self c.copy_from_slice-in-Ok.new.self
    c.requires.start keys.1 keys.2 (c.copy_from_slice.ensures.after ∙ c.as_slice.ensures.bytes)
    (c.copy_from_slice-in-Ok.ensures.after ∙ c.as_slice-in-Ok.ensures.bytes)
