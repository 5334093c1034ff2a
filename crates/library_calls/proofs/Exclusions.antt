-- An input has one kind of end by a command: it is no batch, or its result is broken, or the command may be done.
use Rattle.std.proofs.Common.{◌≡◌, ◌∙◌, ℕ, Bool, true, false, List, drop, Option, Some, None, Result, inl, inr, refl, sym, subst}
use Rattle.std.specs.Prelude.{◌≢◌, ◌⊎◌, ◌↔◌}
use Rattle.field_text.specs.Lines.{bad}
use Rattle.field_text.specs.declared.reasons.Reason.{Reason}
use Rattle.field_text.specs.declared.faults.BadBatch.{BadBatch as Bad}
use Rattle.request_frames.specs.Batch.{batch}
use Rattle.request_frames.specs.Live.{live}
use Rattle.capsule_frames.specs.Capsules.{capsules}
use Rattle.capsule_frames.specs.Replies.{IsCapsuleReply}
use Rattle.context_table.specs.ReplyTo.{IsReply, IsLiveReply}
use Rattle.result_lines.specs.declared.verdicts.Verdict.{Verdict}
use Rattle.result_lines.specs.declared.verdicts.Verdict.TheVariants.{Legal, Form, Journal, Table, Stamps, Reply, Guess}
use Rattle.batch_words.specs.declared.commands.Command.{Command}
use Rattle.batch_words.specs.declared.commands.Command.TheVariants as commands
use Rattle.batch_serving.specs.declared.outcomes.Outcome.TheVariants.{Done}
use Rattle.batch_serving.specs.Outcomes.{outcome_on}
use Rattle.batch_serving.specs.Text.{AnswersBy, IsBadFor, IsBroken, IsBrokenFor, IsRehearsal, IsTold, Judges, MayEnd, TellsVerdict, front_by}
use Rattle.library_calls.specs.Serving.{HasBrokenResult, IsNoBatchFor, MayAnswer, TellsBadFor, TellsBroken}

-- ---- by a command

untold : (one : Bad) (text : List ℕ) → ¬ IsTold one Done text
untold one text told = let e = told.outcome_is in cc

module _ (line : ℕ) (reason : Reason) (text : List ℕ) where
  unanswered : {P : Type 0} (IsReplyTo : P → List ℕ → Type 0) (r : Result P Bad) → r ≡ bad line reason
      → ¬ AnswersBy IsReplyTo r Done text
  unanswered IsReplyTo r is ends =
      untold (record { line = line; reason = reason }) text (subst (λ one. AnswersBy IsReplyTo one Done text) is ends)

  unjudged : (is_live : Bool) (input : List ℕ) → front_by is_live input ≡ bad line reason
      → ¬ Judges is_live (front_by is_live input) input Done text
  unjudged is_live input is ends =
      untold (record { line = line; reason = reason }) text (subst (λ one. Judges is_live one input Done text) is ends)

  -- no command is done with an input that is bad for it
  bad_not_done : (command : Command) (input : List ℕ) → IsBadFor command input line reason
      → ¬ MayEnd command input Done text
  bad_not_done (commands.Run workers mult) input is = unanswered IsReply (batch input) is
  bad_not_done (commands.Live workers mult) input is = unanswered IsLiveReply (live input) is
  bad_not_done (commands.Rehearse schedule) input is = unanswered (IsRehearsal schedule) (batch input) is
  bad_not_done (commands.Demo seed messages lanes) input is = absurd is
  bad_not_done (commands.Check mult) input is = unjudged false input is
  bad_not_done (commands.CheckLive mult) input is = unjudged true input is
  bad_not_done (commands.Capsules mult) input is = unanswered IsCapsuleReply (capsules input) is

legal_where_done : (verdict : Verdict) → Done ≡ outcome_on verdict → verdict ≡ Legal
legal_where_done Legal e = refl
legal_where_done (Form line) e = cc
legal_where_done (Journal context) e = cc
legal_where_done Table e = cc
legal_where_done Stamps e = cc
legal_where_done (Reply line) e = cc
legal_where_done (Guess line) e = cc

broken_undone : (is_live : Bool) (input text : List ℕ) (verdict : Verdict) → IsBroken is_live input verdict
    → ¬ Judges is_live (front_by is_live input) input Done text
broken_undone is_live input text verdict is ends =
    let told : TellsVerdict is_live is.plan (drop is.end input) Done text =
    subst (λ one. Judges is_live one input Done text) is.begins ends in
    is.broken (is.judged.legal.1 (told.judged.legal.0 (legal_where_done told.verdict told.outcome_is)))

-- no command is done with a broken result
broken_not_done : (command : Command) (input text : List ℕ) (verdict : Verdict) → IsBrokenFor command input verdict
    → ¬ MayEnd command input Done text
broken_not_done (commands.Run workers mult) input text verdict is = absurd is
broken_not_done (commands.Live workers mult) input text verdict is = absurd is
broken_not_done (commands.Rehearse schedule) input text verdict is = absurd is
broken_not_done (commands.Demo seed messages lanes) input text verdict is = absurd is
broken_not_done (commands.Check mult) input text verdict is = broken_undone false input text verdict is
broken_not_done (commands.CheckLive mult) input text verdict is = broken_undone true input text verdict is
broken_not_done (commands.Capsules mult) input text verdict is = absurd is

-- no result is broken behind an input that is bad
bad_not_broken : (command : Command) (input : List ℕ) (line : ℕ) (reason : Reason) (verdict : Verdict)
    → IsBadFor command input line reason → ¬ IsBrokenFor command input verdict
bad_not_broken (commands.Run workers mult) input line reason verdict is broken = absurd broken
bad_not_broken (commands.Live workers mult) input line reason verdict is broken = absurd broken
bad_not_broken (commands.Rehearse schedule) input line reason verdict is broken = absurd broken
bad_not_broken (commands.Demo seed messages lanes) input line reason verdict is broken = absurd broken
bad_not_broken (commands.Check mult) input line reason verdict is broken = let e = sym is ∙ broken.begins in cc
bad_not_broken (commands.CheckLive mult) input line reason verdict is broken = let e = sym is ∙ broken.begins in cc
bad_not_broken (commands.Capsules mult) input line reason verdict is broken = absurd broken

-- ---- by what the words spell

module _ (spelled : Option Command) (input : List ℕ) where
  one_command : (command other : Command) → spelled ≡ Some command → spelled ≡ Some other → command ≡ other
  one_command command other is also = let e = sym is ∙ also in cc

  no_batch_not_done : (text : List ℕ) → IsNoBatchFor spelled input → ¬ MayAnswer spelled input Done text
  unfolding IsNoBatchFor MayAnswer
  no_batch_not_done text is_bad may =
      bad_not_done is_bad.2 is_bad.3 text is_bad.0 input is_bad.4
      (subst (λ command. MayEnd command input Done text) (one_command may.0 is_bad.0 may.1 is_bad.1) may.2)

  broken_result_not_done : (text : List ℕ) → HasBrokenResult spelled input → ¬ MayAnswer spelled input Done text
  unfolding HasBrokenResult MayAnswer
  broken_result_not_done text has may =
      broken_not_done has.0 input text has.2 has.3
      (subst (λ command. MayEnd command input Done text) (one_command may.0 has.0 may.1 has.1) may.2)

  no_batch_has_no_result : IsNoBatchFor spelled input → ¬ HasBrokenResult spelled input
  unfolding IsNoBatchFor HasBrokenResult
  no_batch_has_no_result is_bad has =
      bad_not_broken is_bad.0 input is_bad.2 is_bad.3 has.2 is_bad.4
      (subst (λ command. IsBrokenFor command input has.2) (one_command has.0 is_bad.0 has.1 is_bad.1) has.3)

  pub spelled_by_no_batch : IsNoBatchFor spelled input → spelled ≢ None
  unfolding IsNoBatchFor
  spelled_by_no_batch is_bad none = let e = sym is_bad.1 ∙ none in cc

  pub spelled_by_result : HasBrokenResult spelled input → spelled ≢ None
  unfolding HasBrokenResult
  spelled_by_result has none = let e = sym has.1 ∙ none in cc

  of_bad : (text : List ℕ) → TellsBadFor spelled input text → IsNoBatchFor spelled input
  unfolding TellsBadFor IsNoBatchFor
  of_bad text tells = (tells.0, tells.1, tells.2, tells.3, tells.4)

  of_broken : (text : List ℕ) → TellsBroken spelled input text → HasBrokenResult spelled input
  unfolding TellsBroken HasBrokenResult
  of_broken text tells = (tells.0, tells.1, tells.2, tells.3)

  -- ---- a status that is told so

  module _ (status : ℕ) (text : List ℕ)
      (statuses : (status ≡ 0) ⊎ (status ≡ 2) ⊎ (status ≡ 3) ⊎ (status ≡ 5) ⊎ (status ≡ 6) ⊎ (status ≡ 7))
      (done : status ≡ 0 → MayAnswer spelled input Done text)
      (usage : status ≢ 6 → ((status ≡ 2) ↔ (spelled ≡ None)))
      (bad : status ≡ 3 → TellsBadFor spelled input text)
      (broken : status ≡ 7 → TellsBroken spelled input text)
      (room : status ≢ 5) (memory : status ≢ 6) where
    pub no_batch : (status ≡ 3) ↔ IsNoBatchFor spelled input
    no_batch = (
      (λ three. of_bad text (bad three)),
      (λ is_bad. elim statuses [
        | inl e ↦ absurd (no_batch_not_done text is_bad (done e))
        | inr (inl e) ↦ absurd (spelled_by_no_batch is_bad ((usage memory).0 e))
        | inr (inr (inl e)) ↦ e
        | inr (inr (inr (inl e))) ↦ absurd (room e)
        | inr (inr (inr (inr (inl e)))) ↦ absurd (memory e)
        | inr (inr (inr (inr (inr e)))) ↦ absurd (no_batch_has_no_result is_bad (of_broken text (broken e)))
      ]),
    )

    pub broken_result : (status ≡ 7) ↔ HasBrokenResult spelled input
    broken_result = (
      (λ seven. of_broken text (broken seven)),
      (λ has. elim statuses [
        | inl e ↦ absurd (broken_result_not_done text has (done e))
        | inr (inl e) ↦ absurd (spelled_by_result has ((usage memory).0 e))
        | inr (inr (inl e)) ↦ absurd (no_batch_has_no_result (of_bad text (bad e)) has)
        | inr (inr (inr (inl e))) ↦ absurd (room e)
        | inr (inr (inr (inr (inl e)))) ↦ absurd (memory e)
        | inr (inr (inr (inr (inr e)))) ↦ e
      ]),
    )
