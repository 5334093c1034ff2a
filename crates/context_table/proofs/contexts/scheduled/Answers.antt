use Rattle.std.proofs.Common.{◌≡◌, ℕ, List, Result, ap, sym, ◌∙◌, Ok}
use Rattle.call_places.specs.Spans.{span_bytes}
use Rattle.call_places.specs.declared.spans.Span.{Span}
use Rattle.hkdf_labelled.specs.declared.suites.Suite.{Suite}
use Rattle.key_schedule.specs.Schedule.{key_schedule}
use Rattle.key_schedule.specs.declared.modes.Role.{Role}
use Rattle.key_schedule.specs.declared.psks.PskFault.{PskFault}
use Rattle.key_schedule.specs.declared.schedules.Secrets.{Secrets}
use Rattle.batch_plans.specs.Calls.{context_role}
use Rattle.context_table.specs.declared.contexts.Standing.{Standing}
use Rattle.context_table.specs.Contexts.{suite_of, standing_by}
use Rattle.context_table.proofs.contexts.scheduled.Goals as goal

pub returns-in-Ok : goal.returns-in-Ok
returns-in-Ok c =
    let line = c.args.line.now in
    let pool = c.args.plan.now.pool in
    let exchanged = c.args.exchanged in
    let ks : Suite → List ℕ → List ℕ → List ℕ → List ℕ → Result Secrets PskFault =
    λ suite s i p q. key_schedule suite line.mode s i p q in
    let suite = suite_of exchanged.kem line in
    let named : (span : Span) → span_bytes c.as_slice-pool.result.now span ≡ span_bytes pool span =
    λ span. ap (λ bytes. span_bytes bytes span) c.as_slice-pool.ensures.items in
    let info = span_bytes pool line.info in
    let psk = span_bytes pool line.psk in
    let psk_id = span_bytes pool line.psk_id in
    let secret = exchanged.shared_secret in
    let done : Ok c.in-Ok.secrets ≡ ks suite secret info psk psk_id =
    sym c.in-Ok.is
    ∙ c.schedule.ensures.result
    ∙ ap (λ u. ks u c.as_slice-shared_secret.result.now c.of-info.result.now c.of-psk.result.now
    c.of-psk_id.result.now) c.suite_of-suite.ensures
    ∙ ap (λ s. ks suite s c.of-info.result.now c.of-psk.result.now c.of-psk_id.result.now)
    c.as_slice-shared_secret.ensures.items
    ∙ ap (λ i. ks suite secret i c.of-psk.result.now c.of-psk_id.result.now)
    (c.of-info.ensures ∙ named line.info)
    ∙ ap (λ p. ks suite secret info p c.of-psk_id.result.now) (c.of-psk.ensures ∙ named line.psk)
    ∙ ap (ks suite secret info psk) (c.of-psk_id.ensures ∙ named line.psk_id) in
    let made : Role → Suite → Standing = λ role suite. record {
      reply = exchanged.reply;
      context = record {
        role = role;
        suite = suite;
        limit = line.limit;
        secrets = c.in-Ok.secrets;
      };
    } in
    ap (λ v. Ok (record { reply = exchanged.reply; context = v })) c.new.ensures
    ∙ ap (λ role. Ok (made role c.suite_of-suite.result)) c.role.ensures
    ∙ ap (λ suite. Ok (made (context_role line.kind) suite)) c.suite_of-suite.ensures
    ∙ ap (standing_by line exchanged) done
