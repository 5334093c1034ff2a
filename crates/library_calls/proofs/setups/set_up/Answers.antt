use Rattle.std.proofs.Common.{ap, ◌∙◌}
use Rattle.hkdf_labelled.specs.declared.suites.Suite.{Suite}
use Rattle.key_schedule.specs.Schedule.{secrets_of}
use Rattle.library_calls.specs.Contexts.{mode_named, context_of}
use Rattle.library_calls.specs.Setups.{set_up}
use Rattle.library_calls.proofs.setups.set_up.Goals as goal

pub returns : goal.returns
unfolding set_up
returns c =
    let role = c.args.role in
    let limit = c.args.limit in
    c.context_of.ensures
    ∙ ap (context_of role limit c.suite_named-suite.result) c.secrets_of-secrets.ensures.secrets
    ∙ ap (λ (s : Suite). context_of role limit s (secrets_of s (mode_named c.args.mode) c.args.shared_secret.now c.args.info.now c.args.psk.now c.args.psk_id.now))
    c.suite_named-suite.ensures
