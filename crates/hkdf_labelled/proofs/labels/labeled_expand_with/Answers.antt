use Rattle.std.proofs.Common.{◌++◌, length, ap, ◌∙◌}
use Rattle.hkdf_labelled.specs.Hkdf.{expand}
use Rattle.hkdf_labelled.proofs.labels.labeled_expand_with.Goals as goal

pub returns : goal.returns
returns c =
    let kdf = c.args.kdf in
    let prk = c.args.prk.now in
    let len = length c.args.out.now in
    c.expand_parts.ensures prk c.new-keyed.ensures
    ∙ ap (λ prefix. expand kdf prk (prefix ++ c.args.suite_id.now ++ c.args.label.now ++ c.args.info.now) len) c.expand_prefix-prefix.ensures
