-- A bad line and a broken result are ends that a command may have.
use Rattle.std.proofs.Common.{◌≡◌, ℕ, Bool, true, false, List, Result, Ok, refl, subst, sym}
use Rattle.std.specs.Prelude.{◌≢◌}
use Rattle.field_text.specs.Lines.{bad}
use Rattle.field_text.specs.declared.reasons.Reason.{Reason}
use Rattle.field_text.specs.declared.faults.BadBatch.{BadBatch as Bad}
use Rattle.batch_plans.specs.ReplyText.{bad_text}
use Rattle.request_frames.specs.Batch.{batch}
use Rattle.request_frames.specs.Live.{live}
use Rattle.capsule_frames.specs.Capsules.{capsules}
use Rattle.capsule_frames.specs.Replies.{IsCapsuleReply}
use Rattle.context_table.specs.ReplyTo.{IsReply, IsLiveReply}
use Rattle.result_lines.specs.declared.verdicts.Verdict.{Verdict}
use Rattle.result_lines.specs.declared.verdicts.Verdict.TheVariants.{Legal, Form, Journal, Table, Stamps, Reply, Guess}
use Rattle.result_lines.specs.VerdictText.{verdict_text}
use Rattle.batch_words.specs.declared.commands.Command.{Command}
use Rattle.batch_words.specs.declared.commands.Command.TheVariants as commands
use Rattle.batch_serving.specs.declared.outcomes.Outcome.TheVariants.{BadBatch, Broken}
use Rattle.batch_serving.specs.Outcomes.{outcome_on}
use Rattle.batch_serving.specs.Text.{AnswersBy, IsBadFor, IsBroken, IsBrokenFor, IsRehearsal, IsTold, Judges, MayEnd}

module _ (line : ℕ) (reason : Reason) where
  abbrev said : List ℕ
  said = bad_text (record { line = line; reason = reason })

  told : IsTold (record { line = line; reason = reason }) (BadBatch line reason) said
  told = record { outcome_is = refl; text_is = refl }

  answers : {P : Type 0} (IsReplyTo : P → List ℕ → Type 0) (r : Result P Bad) → r ≡ bad line reason
      → AnswersBy IsReplyTo r (BadBatch line reason) said
  answers IsReplyTo r is = subst (λ one. AnswersBy IsReplyTo one (BadBatch line reason) said) (sym is) told

  pub ends_bad : (command : Command) (input : List ℕ) → IsBadFor command input line reason
      → MayEnd command input (BadBatch line reason) said
  ends_bad (commands.Run workers mult) input is = answers IsReply (batch input) is
  ends_bad (commands.Live workers mult) input is = answers IsLiveReply (live input) is
  ends_bad (commands.Rehearse schedule) input is = answers (IsRehearsal schedule) (batch input) is
  ends_bad (commands.Demo seed messages lanes) input is = absurd is
  ends_bad (commands.Check mult) input is =
      subst (λ one. Judges false one input (BadBatch line reason) said) (sym is) told
  ends_bad (commands.CheckLive mult) input is =
      subst (λ one. Judges true one input (BadBatch line reason) said) (sym is) told
  ends_bad (commands.Capsules mult) input is = answers IsCapsuleReply (capsules input) is

broken_is : (verdict : Verdict) → verdict ≢ Legal → Broken verdict ≡ outcome_on verdict
broken_is Legal none = absurd (none refl)
broken_is (Form line) none = refl
broken_is (Journal context) none = refl
broken_is Table none = refl
broken_is Stamps none = refl
broken_is (Reply line) none = refl
broken_is (Guess line) none = refl

judged : (is_live : Bool) (input : List ℕ) (verdict : Verdict) (is : IsBroken is_live input verdict)
    → Judges is_live (Ok (is.plan, is.end)) input (Broken verdict) (verdict_text verdict)
judged is_live input verdict is =
    record {
      verdict = verdict;
      judged = is.judged;
      outcome_is = broken_is verdict is.broken;
      text_is = refl;
    }

pub ends_broken : (command : Command) (input : List ℕ) (verdict : Verdict) → IsBrokenFor command input verdict
    → MayEnd command input (Broken verdict) (verdict_text verdict)
ends_broken (commands.Run workers mult) input verdict is = absurd is
ends_broken (commands.Live workers mult) input verdict is = absurd is
ends_broken (commands.Rehearse schedule) input verdict is = absurd is
ends_broken (commands.Demo seed messages lanes) input verdict is = absurd is
ends_broken (commands.Check mult) input verdict is =
    subst (λ one. Judges false one input (Broken verdict) (verdict_text verdict)) (sym is.begins) (judged false input verdict is)
ends_broken (commands.CheckLive mult) input verdict is =
    subst (λ one. Judges true one input (Broken verdict) (verdict_text verdict)) (sym is.begins) (judged true input verdict is)
ends_broken (commands.Capsules mult) input verdict is = absurd is
