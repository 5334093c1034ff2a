-- The verdict is Legal exactly for the replies that a plan may have whose lanes add and retire
-- contexts.
use Rattle.std.proofs.Common.{◌≡◌, ◌↔◌, ℕ, List, Option, sym, ◌∙◌, subst}
use Rattle.hpke_context.specs.Contexts.{ContextView}
use Rattle.batch_plans.specs.Within.{IsWithinLimits}
use Rattle.batch_plans.specs.declared.plan.Plan.{Plan}
use Rattle.batch_plans.specs.declared.replies.ContextReply.{ContextReply}
use Rattle.context_books.specs.Live.{IsAllowedLive, live_run_text, live_run_along}
use Rattle.context_table.specs.ReplyTo.{IsLiveReply}
use Rattle.context_table.proofs.OneSetUp.{one_set_up_lem}
use Rattle.result_lines.specs.declared.verdicts.Verdict.{Verdict}
use Rattle.result_lines.specs.declared.verdicts.Verdict.TheVariants.{Legal}
use Rattle.result_lines.specs.LiveVerdicts.{IsLiveVerdictBy}
use Rattle.result_lines.specs.Tables.{table_told}
use Rattle.result_lines.specs.ToldLive.{told_live_by}
use Rattle.result_lines.proofs.FirstWrongLive.{first_wrong_live}
use Rattle.result_lines.proofs.LiveTexts.{live_sound, live_complete_texts}
use Rattle.journal_check.specs.Verdicts.{IsLiveVerdict}

module _ (plan : Plan) (text : List ℕ) (verdict : Verdict) (within : IsWithinLimits plan) (v : IsLiveVerdict plan text verdict) where
  legal_reply : verdict ≡ Legal → IsLiveReply plan text
  legal_reply e =
      let notes = table_told plan v.standing text in
      let t = live_sound plan v.keys v.contexts v.standing text within
      (subst (IsLiveVerdictBy plan v.contexts v.standing notes (told_live_by plan v.keys v.contexts v.standing notes text)) e v.is) in
      record {
        keys = v.keys;
        contexts = v.contexts;
        standing = v.standing;
        set_up = v.set_up;
        journals = t.0;
        guesses = t.1;
        notes = t.2;
        allowed = t.3;
        text_is = t.4;
      }

  reply_legal : IsLiveReply plan text → verdict ≡ Legal
  reply_legal r =
      let same = one_set_up_lem plan r.keys v.keys r.contexts v.contexts r.standing v.standing r.set_up v.set_up in
      let is = λ (w : Verdict). first_wrong_live plan v.keys v.contexts v.standing text w within v.set_up.standing_count in
      (is verdict).0 v.is
      ∙ sym ((is Legal).0 (live_complete_texts plan v.keys v.contexts v.standing text within (
        r.journals,
        r.guesses,
        r.notes,
        subst (λ (replies : List ContextReply). IsAllowedLive (live_run_along plan replies v.standing r.journals r.guesses r.notes)) same.1
            (subst (λ (standing : List (Option ContextView)). IsAllowedLive (live_run_along plan r.contexts standing r.journals r.guesses r.notes)) same.2 r.allowed),
        r.text_is ∙ (λ i. live_run_text (same.0 i) (live_run_along plan (same.1 i) (same.2 i) r.journals r.guesses r.notes)),
      )))

  pub legal_iff_live_reply : (verdict ≡ Legal) ↔ IsLiveReply plan text
  legal_iff_live_reply = (legal_reply, reply_legal)
