-- What is told of an input that was served: the text of each outcome.
use Rattle.std.proofs.Common.{◌≡◌, ◌⊎◌, ℕ, List, Option, subst, inl, inr}
use Rattle.std.specs.Prelude.{◌≢◌}
use Rattle.std.specs.Io.KnownBytes.{Appends}
use Rattle.batch_io.specs.Faults.{Rose}
use Rattle.field_text.specs.declared.reasons.Reason.{Reason}
use Rattle.batch_plans.specs.ReplyText.{bad_text}
use Rattle.result_lines.specs.declared.verdicts.Verdict.{Verdict}
use Rattle.result_lines.specs.VerdictText.{verdict_text}
use Rattle.batch_words.specs.declared.commands.Command.{Command}
use Rattle.batch_serving.specs.declared.outcomes.Outcome.{Outcome}
use Rattle.batch_serving.specs.declared.outcomes.Outcome.TheVariants.{Usage, BadBatch, ReadFault, OutOfMemory, Broken}
use Rattle.batch_serving.specs.Effects.{Writes}
use Rattle.batch_serving.specs.Text.{IsBadFor, IsBrokenFor, MayEnd}
use Rattle.batch_serving.proofs.Ends.{bad_line, broken_result, of_input}
use Rattle.batch_serving.proofs.Endings.{OfInput, faults_or_not}

module _ {K : Type 0} (written : K → Option (List ℕ)) (faults : K → ℕ) (old new : K)
    (command : Command) (input : List ℕ) where
  abbrev Written : Outcome → Type 0
  Written outcome = Writes written faults old new (MayEnd command input) outcome

  -- the whole text of an outcome of the input
  pub told : (outcome : Outcome) → OfInput outcome → Written outcome
      → (text : List ℕ) × MayEnd command input outcome text × Appends (written old) (written new) text
  told outcome is w = w.whole (λ e. subst OfInput e is) (λ e. subst OfInput e is)

  pub bad_told : (line : ℕ) (reason : Reason) → Written (BadBatch line reason)
      → IsBadFor command input line reason
      × Appends (written old) (written new) (bad_text (record { line = line; reason = reason }))
  bad_told line reason w =
      let end = told (BadBatch line reason) tt w in
      let bad = bad_line line reason end.0 command input end.1 in
      (bad.0, subst (Appends (written old) (written new)) bad.1 end.2)

  pub broken_told : (verdict : Verdict) → Written (Broken verdict)
      → IsBrokenFor command input verdict
      × Appends (written old) (written new) (verdict_text verdict)
  broken_told verdict w =
      let end = told (Broken verdict) tt w in
      let broken = broken_result verdict end.0 command input end.1 in
      (broken.0, subst (Appends (written old) (written new)) broken.1 end.2)

  -- neither wrong words nor a fault of reading
  pub of_no_input : (outcome : Outcome) → Written outcome → (outcome ≢ Usage) × (outcome ≢ ReadFault)
  of_no_input outcome w = (
    (λ e. let end = (subst Written e w).whole (λ a. cc) (λ a. cc) in of_input command input Usage end.0 end.1),
    (λ e. let end = (subst Written e w).whole (λ a. cc) (λ a. cc) in of_input command input ReadFault end.0 end.1),
  )

  -- with no fault there is a text, or there was no memory
  pub told_whole : (outcome : Outcome) → Written outcome → ¬ Rose (faults old) (faults new)
      → ((text : List ℕ) × MayEnd command input outcome text) ⊎ (outcome ≡ OutOfMemory)
  told_whole outcome w none = elim (faults_or_not outcome) [
    | inl fault ↦ absurd (none (w.failed fault))
    | inr (inl want) ↦ inr want
    | inr (inr others) ↦ let end = w.whole others.0 others.1 in inl (end.0, end.1)
  ]
