use Rattle.std.proofs.Common.{ap, ◌∙◌}
use Rattle.hkdf_labelled.specs.Labels.{labeled_extract_with}
use Rattle.hkdf_labelled.proofs.labels.labeled_extract.Goals as goal

pub returns-clause-value : goal.returns-clause-value
returns-clause-value c =
    c.labeled_extract_with.ensures.value
    ∙ ap (λ id. labeled_extract_with c.args.suite.now.kdf id c.args.salt.now c.args.label.now c.args.ikm.now) c.suite_id.ensures
