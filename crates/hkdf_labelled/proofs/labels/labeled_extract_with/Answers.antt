use Rattle.std.proofs.Common.{length, ap, ◌∙◌}
use Rattle.hkdf_labelled.proofs.Blocks.{length-hmac}
use Rattle.hkdf_labelled.proofs.labels.labeled_extract_with.Goals as goal

pub returns-clause-value : goal.returns-clause-value
returns-clause-value c =
    let joined = c.update-4.ensures _ _ _ (c.update-3.ensures _ _ _ (c.update-2.ensures _ _ _ (c.update.ensures _ _ _ c.new-mac.ensures))) in
    c.finish.ensures.value _ _ _ joined

pub returns-clause-size : goal.returns-clause-size
returns-clause-size c = ap length (returns-clause-value c) ∙ length-hmac _ _ _
