use Rattle.demo_runs.proofs.Served.{has_sealed, has_opened}
use Rattle.batch_runner.proofs.demonstrating.demo.Goals as goal

pub ciphertexts-cts-requires : goal.ciphertexts-cts-requires
ciphertexts-cts-requires g c = (
  c.args.seed,
  c.args.messages,
  has_sealed c.args.seed c.args.messages c.in_ok-batch.field-0 c.in-Some.field-0 c.in_ok-serve-in-Some.field-0 c.in-Some.is
      c.in_ok-batch.ensures c.in_ok-serve-in-Some.ensures,
)

pub report-requires : goal.report-requires
report-requires g c =
    let sealed = has_sealed c.args.seed c.args.messages c.in_ok-batch.field-0 c.in-Some.field-0 c.in_ok-serve-in-Some.field-0
    c.in-Some.is c.in_ok-batch.ensures c.in_ok-serve-in-Some.ensures in (
      c.args.seed,
      has_opened c.args.seed c.args.messages c.ciphertexts-cts.result c.in_ok-opening-in-Some.opening c.in_ok-serve-in-Some-2.field-0
          c.in_ok-opening-in-Some.ensures c.in_ok-serve-in-Some-2.ensures
          (c.ciphertexts-cts.ensures.sealed c.args.seed c.args.messages sealed) c.requires.messages,
    )

pub returns-in_ok-serve-in-Some-2-clause-report : goal.returns-in_ok-serve-in-Some-2-clause-report
returns-in_ok-serve-in-Some-2-clause-report g c =
    let sealed = has_sealed c.args.seed c.args.messages c.in_ok-batch.field-0 c.in-Some.field-0 c.in_ok-serve-in-Some.field-0
    c.in-Some.is c.in_ok-batch.ensures c.in_ok-serve-in-Some.ensures in
    c.report.ensures.report c.args.seed
    (has_opened c.args.seed c.args.messages c.ciphertexts-cts.result c.in_ok-opening-in-Some.opening c.in_ok-serve-in-Some-2.field-0
    c.in_ok-opening-in-Some.ensures c.in_ok-serve-in-Some-2.ensures
    (c.ciphertexts-cts.ensures.sealed c.args.seed c.args.messages sealed) c.requires.messages)
