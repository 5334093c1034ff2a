use Rattle.std.proofs.lemmas.Result.{IfOk-weaker}
use Rattle.journal_check.specs.Verdicts.{IsLiveVerdict}
use Rattle.journal_check.proofs.LiveLegalVerdicts.{legal_iff_live_reply}
use Rattle.journal_check.proofs.live_checking.check_live_result_by.Goals as goal

pub returns : goal.returns
returns g c =
    let plan = c.args.plan in
    let text = c.args.text.now in
    let judged = c.check_over-verdict.ensures in
    record {
      verdict = judged;
      legal = IfOk-weaker c.check_over-verdict.result (IsLiveVerdict plan text) _ (λ verdict v. legal_iff_live_reply plan text verdict c.requires.within v) judged;
    }
