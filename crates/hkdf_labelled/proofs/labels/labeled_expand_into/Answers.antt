use Rattle.std.proofs.Common.{length, ap, ◌∙◌}
use Rattle.hkdf_labelled.specs.Labels.{labeled_expand_with}
use Rattle.hkdf_labelled.proofs.labels.labeled_expand_into.Goals as goal

pub returns : goal.returns
returns c =
    c.labeled_expand_with.ensures
    ∙ ap (λ id. labeled_expand_with c.args.suite.now.kdf id c.args.prk.now c.args.label.now c.args.info.now (length c.args.out.now)) c.suite_id.ensures
