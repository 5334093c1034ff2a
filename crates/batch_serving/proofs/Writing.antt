-- What was written, by the texts that are due.
use Rattle.std.proofs.Common.{◌≡◌, ℕ, List, Option, Result, Ok, Err, ap, refl, subst, sym}
use Rattle.std.specs.Prelude.{◌≢◌, IfOk}
use Rattle.std.specs.Io.KnownBytes.{Appends}
use Rattle.batch_io.specs.Faults.{Rose}
use Rattle.field_text.specs.Lines.{bad}
use Rattle.field_text.specs.Printing.{AppendsPrefix}
use Rattle.field_text.specs.declared.reasons.Reason.{Reason}
use Rattle.field_text.specs.declared.faults.BadBatch.{BadBatch}
use Rattle.field_text.specs.declared.faults.ReadBatchFault.{ReadBatchFault}
use Rattle.field_text.specs.declared.faults.ReadBatchFault.TheVariants as read_faults
use Rattle.field_text.specs.declared.printing.Printed.{Printed}
use Rattle.field_text.specs.declared.printing.Printed.TheVariants.{Whole, Failed}
use Rattle.batch_serving.specs.declared.outcomes.Outcome.{Outcome}
use Rattle.batch_serving.specs.declared.outcomes.Outcome.TheVariants.{Done, WriteFault, OutOfMemory}
use Rattle.batch_serving.specs.Effects.{Says, SaysFault, SaysReply, Writes, end_of}
use Rattle.batch_serving.specs.Text.{AnswersBy, IsTold}
use Rattle.batch_serving.proofs.Endings.{OfInput}

-- the text of the answers replies to what was read
said_reply : {P A E : Type 0} (IsReplyTo : P → List ℕ → Type 0) (plan : P) (text_of : A → List ℕ)
    (answered : Result A E) → IfOk answered (λ a. IsReplyTo plan (text_of a)) → (due : Outcome) (said : List ℕ)
    → SaysReply text_of answered due said → AnswersBy IsReplyTo (Ok plan) due said
said_reply IsReplyTo plan text_of (Ok answers) is due said s = (s.0, subst (IsReplyTo plan) (sym s.1) is)
said_reply IsReplyTo plan text_of (Err fault) is due said s = absurd s

module _ {K : Type 0} (written : K → Option (List ℕ)) (faults : K → ℕ) (old new : K) where
  -- a text that was printed is one that is due
  pub printed : (IsDue : Outcome → List ℕ → Type 0) (result : Printed) (due : Outcome) (text : List ℕ)
      → IsDue due text → due ≢ WriteFault → due ≢ OutOfMemory
      → (result ≡ Whole → Appends (written old) (written new) text)
      → (result ≡ Whole → faults new ≡ faults old)
      → (result ≡ Failed → AppendsPrefix (written old) (written new) text)
      → (result ≡ Failed → Rose (faults old) (faults new))
      → Writes written faults old new IsDue (end_of result due)
  printed IsDue Whole due text is no_fault no_want whole clean cut failed = record {
    whole = (λ a b. (text, is, whole refl));
    cut = (λ e. absurd (no_fault e));
    failed = (λ e. absurd (no_fault e));
    no_fault = (λ a. clean refl);
    unwritten = (λ e. absurd (no_want e));
  }
  printed IsDue Failed due text is no_fault no_want whole clean cut failed = record {
    whole = (λ a b. absurd (a refl));
    cut = (λ e. (due, text, is, cut refl));
    failed = (λ e. failed refl);
    no_fault = (λ a. absurd (a refl));
    unwritten = (λ e. cc);
  }

  -- the text of a run that is done
  pub done_told : (result : Printed) (text : List ℕ) (outcome : Outcome) → outcome ≡ end_of result Done
      → (result ≡ Whole → Appends (written old) (written new) text)
      → (result ≡ Whole → faults new ≡ faults old)
      → (result ≡ Failed → AppendsPrefix (written old) (written new) text)
      → (result ≡ Failed → Rose (faults old) (faults new))
      → Writes written faults old new (Says Done text) outcome
  done_told result text outcome ends whole clean cut failed =
      subst (Writes written faults old new (Says Done text)) (sym ends)
      (printed (Says Done text) result Done text (refl, refl) (λ e. subst OfInput e tt) (λ e. subst OfInput e tt)
      whole clean cut failed)

  -- what is due by one rule is due by another
  pub due_as : (IsDue Also : Outcome → List ℕ → Type 0) (outcome : Outcome)
      → ((due : Outcome) (text : List ℕ) → IsDue due text → Also due text)
      → Writes written faults old new IsDue outcome → Writes written faults old new Also outcome
  due_as IsDue Also outcome also w = record {
    whole = (λ a b. let t = w.whole a b in (t.0, also outcome t.0 t.1, t.2));
    cut = (λ e. let t = w.cut e in (t.0, t.1, also t.0 t.1 t.2, t.3));
    failed = w.failed;
    no_fault = w.no_fault;
    unwritten = w.unwritten;
  }

  -- the reply to what was read
  pub replied : {P : Type 0} (IsReplyTo : P → List ℕ → Type 0) (plan : P) (text : List ℕ)
      (outcome : Outcome) → IsReplyTo plan text → Writes written faults old new (Says Done text) outcome
      → Writes written faults old new (AnswersBy IsReplyTo (Ok plan)) outcome
  replied IsReplyTo plan text outcome is =
      due_as (Says Done text) (AnswersBy IsReplyTo (Ok plan)) outcome
      (λ due said s. (s.0, subst (IsReplyTo plan) (sym s.1) is))

  -- the reply to what was read, where it was answered
  pub reply_told : {P A E : Type 0} (IsReplyTo : P → List ℕ → Type 0) (read : Result P BadBatch) (plan : P)
      (text_of : A → List ℕ) (answered : Result A E) (outcome : Outcome) → read ≡ Ok plan
      → IfOk answered (λ a. IsReplyTo plan (text_of a))
      → Writes written faults old new (SaysReply text_of answered) outcome
      → Writes written faults old new (AnswersBy IsReplyTo read) outcome
  reply_told IsReplyTo read plan text_of answered outcome is_read is w =
      subst (λ r. Writes written faults old new (AnswersBy IsReplyTo r) outcome) (sym is_read)
      (due_as (SaysReply text_of answered) (AnswersBy IsReplyTo (Ok plan)) outcome
      (said_reply IsReplyTo plan text_of answered is) w)

  -- what is told of an input that couldn't be read
  pub fault_told : (IsDue : Outcome → List ℕ → Type 0) (fault : ReadBatchFault) (outcome : Outcome)
      → ((b : BadBatch) → fault ≡ read_faults.Bad b → (due : Outcome) (text : List ℕ)
      → IsTold b due text → IsDue due text)
      → Writes written faults old new (SaysFault fault) outcome → Writes written faults old new IsDue outcome
  fault_told IsDue fault outcome told = due_as (SaysFault fault) IsDue outcome (go fault refl)
    where
      go : (f : ReadBatchFault) → fault ≡ f → (due : Outcome) (text : List ℕ) → SaysFault f due text
          → IsDue due text
      go (read_faults.Bad b) is due text said = told b is due text said
      go read_faults.OutOfMemory is due text said = absurd said

  pub bad_told : {A P : Type 0} (IsReplyTo : P → List ℕ → Type 0) (read : Result P BadBatch)
      (fault : ReadBatchFault) (outcome : Outcome)
      → ((line : ℕ) (reason : Reason)
      → ◌≡◌ {A = Result A ReadBatchFault} (Err fault) (Err (read_faults.Bad (record { line = line; reason = reason })))
      → read ≡ bad line reason)
      → Writes written faults old new (SaysFault fault) outcome
      → Writes written faults old new (AnswersBy IsReplyTo read) outcome
  bad_told IsReplyTo read fault outcome is =
      fault_told (AnswersBy IsReplyTo read) fault outcome
      (λ b e due text told. subst (λ r. AnswersBy IsReplyTo r due text)
      (sym (is b.line b.reason (ap (λ f. Err f) e))) told)

-- nothing is written for want of memory
pub unwritten : {K : Type 0} (written : K → Option (List ℕ)) (faults : K → ℕ) (sink : K)
    (IsDue : Outcome → List ℕ → Type 0) → Writes written faults sink sink IsDue OutOfMemory
unwritten written faults sink IsDue = record {
  whole = (λ a b. absurd (b refl));
  cut = (λ e. cc);
  failed = (λ e. cc);
  no_fault = (λ a. refl);
  unwritten = (λ e. refl);
}
