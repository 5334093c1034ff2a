use Rattle.std.proofs.Common.{◌∙◌, ℕ, List, ap, sym}
use Rattle.std.specs.List.{concat}
use Rattle.sha2.specs.Sha256.{sha256}
use Rattle.demo_runs.proofs.Reported.{demo_some, sealed_count}
use Rattle.demo_runs.proofs.reports.report.Goals as goal

pub returns-clause-report : goal.returns-clause-report
returns-clause-report c = λ seed t.
    demo_some seed c.args.messages c.opened_messages.result c.hash_of.result c.args.cts.now t.sealed
    (c.opened_messages.ensures ∙ sym (sealed_count seed c.args.messages c.args.cts.now t.sealed))
    (c.hash_of.ensures ∙ ap (λ (xs : List (List ℕ)). sha256 (concat xs)) c.as_slice.ensures.items)
