use Rattle.std.proofs.Common.{length, take, ap, ◌∙◌}
use Rattle.hkdf_labelled.specs.Suites.{hash_size}
use Rattle.hkdf_labelled.specs.declared.suites.Suite.{Suite}
use Rattle.key_schedule.specs.Exports.{exported}
use Rattle.library_calls.proofs.contexts.context_export.Goals as goal

pub returns-clause-exported : goal.returns-clause-exported
returns-clause-exported c =
    let secret = c.args.context.now.exporter_secret in
    let info = c.args.exporter_context.now in
    let len = length c.args.out.now in
    λ _. c.labeled_expand_into.ensures
    ∙ ap (λ n. exported c.suite_named-suite.result (take n secret) info len) c.size-size.ensures
    ∙ ap (λ (s : Suite). exported s (take (hash_size s.kdf) secret) info len)
    c.suite_named-suite.ensures
