use Rattle.std.proofs.Common.{◌∙◌}
use Rattle.std.proofs.lemmas.Result.{IfOk-weaker}
use Rattle.result_lines.proofs.FirstWrong.{first_wrong}
use Rattle.journal_check.specs.Served.{verdict_over}
use Rattle.journal_check.specs.Verdicts.{IsVerdict}
use Rattle.journal_check.proofs.LegalVerdicts.{legal_iff_reply}
use Rattle.journal_check.proofs.checking.check_result_by.Goals as goal

pub returns : goal.returns
returns g c =
    let plan = c.args.plan.now in
    let text = c.args.text.now in
    let setup = c.in_ok-setup.setup in
    let standing = c.deref_mut.ensures.value ∙ c.into_vec-contexts.ensures.items in
    let is_set_up = c.in_ok-setup.ensures.set_up in
    let judged = IfOk-weaker c.verdict.result _ (IsVerdict plan text)
    (λ verdict is. record {
      keys = setup.keys;
      contexts = setup.contexts;
      standing = setup.standing;
      set_up = is_set_up;
      is = (first_wrong plan setup.keys setup.contexts setup.standing text verdict c.requires.within is_set_up.standing_count).1
          (is ∙ (λ i. verdict_over plan (c.as_slice-keys.ensures.items i) (c.as_slice-replies.ensures.items i) (standing i) text));
    })
    c.verdict.ensures in
    record {
      verdict = judged;
      legal = IfOk-weaker c.verdict.result (IsVerdict plan text) _ (λ verdict v. legal_iff_reply plan text verdict c.requires.within v) judged;
    }
