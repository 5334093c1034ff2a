use Rattle.demo_runs.proofs.Reported.{demo_none}
use Rattle.demo_runs.proofs.reports.report_without_key.Goals as goal

pub returns-clause-report : goal.returns-clause-report
returns-clause-report c = λ seed none. demo_none seed c.args.messages c.hash_of.result none c.hash_of.ensures
