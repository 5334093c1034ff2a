-- The verdict is Legal exactly for the replies that a plan may have.
use Rattle.std.proofs.Common.{◌≡◌, ◌↔◌, ℕ, List, Option, sym, ◌∙◌, subst}
use Rattle.hpke_context.specs.Contexts.{ContextView}
use Rattle.batch_plans.specs.Within.{IsWithinLimits}
use Rattle.batch_plans.specs.declared.plan.Plan.{Plan}
use Rattle.context_books.specs.Runs.{IsAllowed, run_text, run_along}
use Rattle.context_table.specs.ReplyTo.{IsReply}
use Rattle.context_table.proofs.OneSetUp.{one_set_up_lem}
use Rattle.result_lines.specs.declared.verdicts.Verdict.{Verdict}
use Rattle.result_lines.specs.declared.verdicts.Verdict.TheVariants.{Legal}
use Rattle.result_lines.specs.Verdicts.{IsVerdictBy}
use Rattle.result_lines.specs.Told.{told_by}
use Rattle.result_lines.proofs.FirstWrong.{first_wrong}
use Rattle.result_lines.proofs.LegalTexts.{sound, complete}
use Rattle.journal_check.specs.Verdicts.{IsVerdict}

module _ (plan : Plan) (text : List ℕ) (verdict : Verdict) (within : IsWithinLimits plan) (v : IsVerdict plan text verdict) where
  legal_reply : verdict ≡ Legal → IsReply plan text
  legal_reply e =
      let t = sound plan v.keys v.contexts v.standing text within (subst (IsVerdictBy plan v.standing (told_by plan v.keys v.contexts v.standing text)) e v.is) in
      record {
        keys = v.keys;
        contexts = v.contexts;
        standing = v.standing;
        set_up = v.set_up;
        journals = t.0;
        guesses = t.1;
        allowed = t.2;
        text_is = t.3;
      }

  reply_legal : IsReply plan text → verdict ≡ Legal
  reply_legal r =
      let same = one_set_up_lem plan r.keys v.keys r.contexts v.contexts r.standing v.standing r.set_up v.set_up in
      let is = λ (w : Verdict). first_wrong plan v.keys v.contexts v.standing text w within v.set_up.standing_count in
      (is verdict).0 v.is
      ∙ sym ((is Legal).0 (complete plan v.keys v.contexts v.standing text within (
        r.journals,
        r.guesses,
        subst (λ (standing : List (Option ContextView)). IsAllowed (run_along plan standing r.journals r.guesses)) same.2 r.allowed,
        r.text_is ∙ (λ i. run_text (same.0 i) (same.1 i) (run_along plan (same.2 i) r.journals r.guesses)),
      )))

  pub legal_iff_reply : (verdict ≡ Legal) ↔ IsReply plan text
  legal_iff_reply = (legal_reply, reply_legal)
