-- What may come of an input: which outcomes there are, and that an input too large ends as one that was read
-- in part.
use Rattle.std.proofs.Common.{◌≡◌, ◌∙◌, ◌<◌, ℕ, Bool, true, false, List, ◌++◌, length, drop, Option, Some, None, Result, Ok, Err, refl, sym, ap, subst, inl, inr, arith, append-nil, length-append}
use Rattle.std.specs.Prelude.{◌≢◌}
use Rattle.field_text.specs.declared.reasons.Reason.{Reason}
use Rattle.field_text.specs.declared.reasons.Reason.TheVariants.{Size}
use Rattle.field_text.specs.declared.faults.BadBatch.{BadBatch}
use Rattle.field_text.specs.Lines.{bad, whole}
use Rattle.field_text.proofs.Judging.{too_large as front_too_large}
use Rattle.batch_plans.specs.Limits.{most_input}
use Rattle.batch_plans.specs.declared.plan.Plan.{Plan}
use Rattle.batch_plans.specs.ReplyText.{bad_text}
use Rattle.request_frames.specs.Batch.{batch, batch_lines, ended, front_batch}
use Rattle.request_frames.specs.Live.{front_live, live, live_lines}
use Rattle.capsule_frames.specs.Capsules.{capsules, capsule_lines}
use Rattle.capsule_frames.specs.Replies.{IsCapsuleReply}
use Rattle.context_table.specs.ReplyTo.{IsLiveReply, IsReply}
use Rattle.result_lines.specs.declared.verdicts.Verdict.{Verdict}
use Rattle.result_lines.specs.declared.verdicts.Verdict.TheVariants.{Legal}
use Rattle.result_lines.specs.VerdictText.{verdict_text}
use Rattle.batch_words.specs.declared.commands.Command.{Command}
use Rattle.batch_words.specs.declared.commands.Command.TheVariants as commands
use Rattle.batch_serving.specs.declared.outcomes.Outcome.{Outcome}
use Rattle.batch_serving.specs.declared.outcomes.Outcome.TheVariants as outcomes
use Rattle.batch_serving.specs.Input.{IsInput}
use Rattle.batch_serving.proofs.Endings.{IsNoBadLine, IsOfBroken, OfInput, broken_by, no_bad_verdict, on_verdict, told_bad}
use Rattle.batch_serving.specs.Text.{AnswersBy, IsBadFor, IsBroken, IsBrokenFor, IsJudged, IsReadBy, IsRehearsal, IsTold, Judges, MayEnd, ReadsInput, front_by}

-- ---- an input that is too large

abbrev too_many : BadBatch
too_many = record { line = 0; reason = Size }

large_batch : (text : List ℕ) → most_input < length text → batch text ≡ bad 0 Size
unfolding batch
large_batch text large = ap whole (front_too_large batch_lines most_input text large)

pub large_front : (text : List ℕ) → most_input < length text → front_batch text ≡ bad 0 Size
unfolding front_batch
large_front text large = ap (ended text) (front_too_large batch_lines most_input text large)

pub large_front_live : (text : List ℕ) → most_input < length text → front_live text ≡ bad 0 Size
unfolding front_live
large_front_live text large = ap (ended text) (front_too_large live_lines most_input text large)

large_live : (text : List ℕ) → most_input < length text → live text ≡ bad 0 Size
unfolding live
large_live text large = ap whole (front_too_large live_lines most_input text large)

large_capsules : (text : List ℕ) → most_input < length text → capsules text ≡ bad 0 Size
unfolding capsules
large_capsules text large = ap whole (front_too_large capsule_lines most_input text large)

module _ (text : List ℕ) (large : most_input < length text) (outcome : Outcome) (line : List ℕ) where
  told_when_large : (command : Command) → ReadsInput command → MayEnd command text outcome line → IsTold too_many outcome line
  told_when_large (commands.Run workers mult) reads end =
      subst (λ r. AnswersBy IsReply r outcome line) (large_batch text large) end
  told_when_large (commands.Live workers mult) reads end =
      subst (λ r. AnswersBy IsLiveReply r outcome line) (large_live text large) end
  told_when_large (commands.Demo seed messages lanes) reads end = absurd reads
  told_when_large (commands.Rehearse schedule) reads end =
      subst (λ r. AnswersBy (IsRehearsal schedule) r outcome line) (large_batch text large) end
  told_when_large (commands.Check mult) reads end =
      subst (λ r. Judges false r text outcome line) (large_front text large) end
  told_when_large (commands.CheckLive mult) reads end =
      subst (λ r. Judges true r text outcome line) (large_front_live text large) end
  told_when_large (commands.Capsules mult) reads end =
      subst (λ r. AnswersBy IsCapsuleReply r outcome line) (large_capsules text large) end

  ends_when_large : (command : Command) → ReadsInput command → IsTold too_many outcome line → MayEnd command text outcome line
  ends_when_large (commands.Run workers mult) reads told =
      subst (λ r. AnswersBy IsReply r outcome line) (sym (large_batch text large)) told
  ends_when_large (commands.Live workers mult) reads told =
      subst (λ r. AnswersBy IsLiveReply r outcome line) (sym (large_live text large)) told
  ends_when_large (commands.Demo seed messages lanes) reads told = absurd reads
  ends_when_large (commands.Rehearse schedule) reads told =
      subst (λ r. AnswersBy (IsRehearsal schedule) r outcome line) (sym (large_batch text large)) told
  ends_when_large (commands.Check mult) reads told =
      subst (λ r. Judges false r text outcome line) (sym (large_front text large)) told
  ends_when_large (commands.CheckLive mult) reads told =
      subst (λ r. Judges true r text outcome line) (sym (large_front_live text large)) told
  ends_when_large (commands.Capsules mult) reads told =
      subst (λ r. AnswersBy IsCapsuleReply r outcome line) (sym (large_capsules text large)) told

-- what comes of what was read comes of all that there was to read
ends_as_read : (command : Command) (xs input : List ℕ) (new : Option (List ℕ)) (outcome : Outcome) (text : List ℕ)
    → ReadsInput command → IsInput (Some xs) new input → MayEnd command input outcome text → MayEnd command xs outcome text
ends_as_read command xs input None outcome text reads (consumed, within, stop) end = absurd consumed
ends_as_read command xs input (Some rest) outcome text reads (consumed, within, inl at_end) end =
    let same : input ≡ xs = sym (consumed ∙ ap (λ zs. input ++ zs) at_end ∙ append-nil input) in
    subst (λ read. MayEnd command read outcome text) same end
ends_as_read command xs input (Some rest) outcome text reads (consumed, within, inr full) end =
    let large : most_input < length input = omega (arith, full) in
    let larger : most_input < length xs = omega (arith, full, ap length consumed, length-append input rest) in
    ends_when_large xs larger outcome text command reads (told_when_large input large outcome text command reads end)

pub ends_as_told : (command : Command) (xs input : List ℕ) (old new : Option (List ℕ)) (outcome : Outcome) (text : List ℕ)
    → ReadsInput command → old ≡ Some xs → IsInput old new input → MayEnd command input outcome text → MayEnd command xs outcome text
ends_as_told command xs input old new outcome text reads told read end =
    ends_as_read command xs input new outcome text reads (subst (λ o. IsInput o new input) told read) end

-- ---- who reads the input

module _ (old new : Option (List ℕ)) (input : List ℕ) where
  pub read_by : (command : Command) → ReadsInput command → IsInput old new input → IsReadBy command old new input
  read_by (commands.Run workers mult) reads is = is
  read_by (commands.Live workers mult) reads is = is
  read_by (commands.Rehearse schedule) reads is = is
  read_by (commands.Demo seed messages lanes) reads is = absurd reads
  read_by (commands.Check mult) reads is = is
  read_by (commands.CheckLive mult) reads is = is
  read_by (commands.Capsules mult) reads is = is

  -- a bad line is one of an input
  pub input_of_bad : (command : Command) (line : ℕ) (reason : Reason) → IsBadFor command input line reason
      → IsReadBy command old new input → IsInput old new input
  input_of_bad (commands.Run workers mult) line reason bad is = is
  input_of_bad (commands.Live workers mult) line reason bad is = is
  input_of_bad (commands.Rehearse schedule) line reason bad is = is
  input_of_bad (commands.Demo seed messages lanes) line reason bad is = absurd bad
  input_of_bad (commands.Check mult) line reason bad is = is
  input_of_bad (commands.CheckLive mult) line reason bad is = is
  input_of_bad (commands.Capsules mult) line reason bad is = is

  -- so is a broken result
  pub input_of_broken : (command : Command) (verdict : Verdict) → IsBrokenFor command input verdict
      → IsReadBy command old new input → IsInput old new input
  input_of_broken (commands.Run workers mult) verdict broken is = absurd broken
  input_of_broken (commands.Live workers mult) verdict broken is = absurd broken
  input_of_broken (commands.Rehearse schedule) verdict broken is = absurd broken
  input_of_broken (commands.Demo seed messages lanes) verdict broken is = absurd broken
  input_of_broken (commands.Check mult) verdict broken is = is
  input_of_broken (commands.CheckLive mult) verdict broken is = is
  input_of_broken (commands.Capsules mult) verdict broken is = absurd broken

-- ---- which outcomes there are

of_told : (b : BadBatch) (outcome : Outcome) (text : List ℕ) → IsTold b outcome text → OfInput outcome
of_told b outcome text told = subst OfInput (sym told.outcome_is) tt

of_done : (outcome : Outcome) → outcome ≡ outcomes.Done → OfInput outcome
of_done outcome is = subst OfInput (sym is) tt

of_answers : {P : Type 0} (IsReplyTo : P → List ℕ → Type 0) (r : Result P BadBatch) (outcome : Outcome) (text : List ℕ)
    → AnswersBy IsReplyTo r outcome text → OfInput outcome
of_answers IsReplyTo (Ok plan) outcome text end = of_done outcome end.0
of_answers IsReplyTo (Err b) outcome text end = of_told b outcome text end

of_judges : (is_live : Bool) (r : Result (Plan × ℕ) BadBatch) (input : List ℕ) (outcome : Outcome) (text : List ℕ)
    → Judges is_live r input outcome text → OfInput outcome
of_judges is_live (Ok front) input outcome text end = subst OfInput (sym end.outcome_is) (on_verdict end.verdict)
of_judges is_live (Err b) input outcome text end = of_told b outcome text end

pub of_input : (command : Command) (input : List ℕ) (outcome : Outcome) (text : List ℕ) → MayEnd command input outcome text → OfInput outcome
of_input (commands.Run workers mult) input outcome text end =
    of_answers IsReply (batch input) outcome text end
of_input (commands.Rehearse schedule) input outcome text end =
    of_answers (IsRehearsal schedule) (batch input) outcome text end
of_input (commands.Live workers mult) input outcome text end = of_answers IsLiveReply (live input) outcome text end
of_input (commands.Demo seed messages lanes) input outcome text end = of_done outcome end.outcome_is
of_input (commands.Check mult) input outcome text end = of_judges false (front_batch input) input outcome text end
of_input (commands.CheckLive mult) input outcome text end = of_judges true (front_live input) input outcome text end
of_input (commands.Capsules mult) input outcome text end = of_answers IsCapsuleReply (capsules input) outcome text end

-- ---- a bad line

-- a reading fails at this line, and it is told
abbrev IsBadLine : {A : Type 0} → Result A BadBatch → ℕ → Reason → List ℕ → Type 0
IsBadLine r line reason text = (r ≡ bad line reason) × (text ≡ bad_text (record { line = line; reason = reason }))

same_bad : {A : Type 0} (b : BadBatch) (line : ℕ) (reason : Reason) (text : List ℕ)
    → IsTold b (outcomes.BadBatch line reason) text → IsBadLine {A = A} (Err b) line reason text
same_bad b line reason text told =
    let whole : b ≡ record { line = line; reason = reason } = sym (ap (told_bad b) told.outcome_is) in
    (ap Err whole, told.text_is ∙ ap bad_text whole)

module _ (line : ℕ) (reason : Reason) (text : List ℕ) where
  bad_answers : {P : Type 0} (IsReplyTo : P → List ℕ → Type 0) (r : Result P BadBatch)
      → AnswersBy IsReplyTo r (outcomes.BadBatch line reason) text → IsBadLine r line reason text
  bad_answers IsReplyTo (Ok plan) end = absurd (subst IsNoBadLine (sym end.0) tt)
  bad_answers IsReplyTo (Err b) end = same_bad b line reason text end

  bad_judges : (is_live : Bool) (r : Result (Plan × ℕ) BadBatch) (input : List ℕ)
      → Judges is_live r input (outcomes.BadBatch line reason) text → IsBadLine r line reason text
  bad_judges is_live (Ok front) input end =
      absurd (subst IsNoBadLine (sym end.outcome_is) (no_bad_verdict end.verdict))
  bad_judges is_live (Err b) input end = same_bad b line reason text end

  not_bad : outcomes.BadBatch line reason ≡ outcomes.Done → ⊥
  not_bad e = subst IsNoBadLine (sym e) tt

  pub bad_line : (command : Command) (input : List ℕ) → MayEnd command input (outcomes.BadBatch line reason) text
      → IsBadFor command input line reason × (text ≡ bad_text (record { line = line; reason = reason }))
  bad_line (commands.Run workers mult) input end = bad_answers IsReply (batch input) end
  bad_line (commands.Live workers mult) input end = bad_answers IsLiveReply (live input) end
  bad_line (commands.Rehearse schedule) input end = bad_answers (IsRehearsal schedule) (batch input) end
  bad_line (commands.Demo seed messages lanes) input end = absurd (not_bad end.outcome_is)
  bad_line (commands.Check mult) input end = bad_judges false (front_batch input) input end
  bad_line (commands.CheckLive mult) input end = bad_judges true (front_live input) input end
  bad_line (commands.Capsules mult) input end = bad_answers IsCapsuleReply (capsules input) end

-- ---- a broken result

module _ (told : Verdict) (text : List ℕ) where
  -- a result behind a batch is broken, and that is told
  abbrev IsToldBroken : Bool → List ℕ → Type 0
  IsToldBroken is_live input = IsBroken is_live input told × (text ≡ verdict_text told)

  broken_judges : (is_live : Bool) (input : List ℕ) (r : Result (Plan × ℕ) BadBatch) → front_by is_live input ≡ r
      → Judges is_live r input (outcomes.Broken told) text → IsToldBroken is_live input
  broken_judges is_live input (Ok front) is end =
      let same = broken_by end.verdict told end.outcome_is in (
        record {
          plan = front.0;
          end = front.1;
          begins = is;
          judged = subst (IsJudged is_live front.0 (drop front.1 input)) same.0 end.judged;
          broken = subst (λ v. v ≢ Legal) same.0 same.1;
        },
        end.text_is ∙ ap verdict_text same.0,
      )
  broken_judges is_live input (Err b) is end = absurd (subst IsOfBroken end.outcome_is tt)

  no_answers : {P : Type 0} (IsReplyTo : P → List ℕ → Type 0) (r : Result P BadBatch)
      → AnswersBy IsReplyTo r (outcomes.Broken told) text → ⊥
  no_answers IsReplyTo (Ok plan) end = subst IsOfBroken end.0 tt
  no_answers IsReplyTo (Err b) end = subst IsOfBroken end.outcome_is tt

  not_broken : outcomes.Broken told ≡ outcomes.Done → ⊥
  not_broken e = subst IsOfBroken e tt

  pub broken_result : (command : Command) (input : List ℕ) → MayEnd command input (outcomes.Broken told) text
      → IsBrokenFor command input told × (text ≡ verdict_text told)
  broken_result (commands.Run workers mult) input end =
      absurd (no_answers IsReply (batch input) end)
  broken_result (commands.Live workers mult) input end = absurd (no_answers IsLiveReply (live input) end)
  broken_result (commands.Rehearse schedule) input end =
      absurd (no_answers (IsRehearsal schedule) (batch input) end)
  broken_result (commands.Demo seed messages lanes) input end = absurd (not_broken end.outcome_is)
  broken_result (commands.Check mult) input end = broken_judges false input (front_batch input) refl end
  broken_result (commands.CheckLive mult) input end = broken_judges true input (front_live input) refl end
  broken_result (commands.Capsules mult) input end = absurd (no_answers IsCapsuleReply (capsules input) end)
