-- A run that has read its input, or failed to, and wrote what came of it.
use Rattle.std.proofs.Common.{◌≡◌, ◌≤◌, ℕ, List, [], Option, Some, None, length, inl, inr, refl, subst, arith}
use Rattle.std.specs.Prelude.{◌≢◌}
use Rattle.std.specs.Io.KnownBytes.{Appends, Consumes}
use Rattle.batch_words.specs.declared.commands.Command.{Command}
use Rattle.batch_words.specs.declared.commands.Command.TheVariants.{Run, Live, Rehearse, Check, CheckLive, Capsules, Demo}
use Rattle.batch_serving.specs.declared.outcomes.Outcome.{Outcome}
use Rattle.batch_serving.specs.declared.outcomes.Outcome.TheVariants.{ReadFault}
use Rattle.batch_serving.specs.Effects.{Serves, Writes}
use Rattle.batch_serving.specs.Input.{IsInput, input_limit}
use Rattle.batch_serving.specs.Text.{Demonstrates, IsReadBy, MayEnd, ReadsInput}
use Rattle.batch_serving.proofs.Ends.{ends_as_told, of_input, read_by}
use Rattle.batch_serving.proofs.Endings.{OfInput, faults_or_not}

-- every command but `demo` reads its input
pub reads_input : (command : Command)
    → ((seed messages lanes : ℕ) → command ≡ Demo seed messages lanes → ⊥) → ReadsInput command
reads_input (Demo seed messages lanes) other = absurd (other seed messages lanes refl)
reads_input (Run workers mult) other = tt
reads_input (Live workers mult) other = tt
reads_input (Rehearse schedule) other = tt
reads_input (Check mult) other = tt
reads_input (CheckLive mult) other = tt
reads_input (Capsules mult) other = tt

module _ {K : Type 0} (written : K → Option (List ℕ)) (faults : K → ℕ) (sink sink_new : K)
    (command : Command) (input : List ℕ) (outcome : Outcome)
    (w : Writes written faults sink sink_new (MayEnd command input) outcome) where
  -- what was written is no fault of reading
  pub no_read_fault : outcome ≢ ReadFault
  no_read_fault e = elim (faults_or_not outcome) [
    | inl fault ↦ cc
    | inr (inl want) ↦ cc
    | inr (inr others) ↦
        let end = w.whole others.0 others.1 in
        subst OfInput e (of_input command input outcome end.0 end.1)
  ]

  module _ {S : Type 0} (left : S → Option (List ℕ)) (misses : S → ℕ) (source source_new : S) where
    serves : IsReadBy command (left source) (left source_new) input
        → ((front : List ℕ) × Consumes (left source) (left source_new) front × (length front ≤ input_limit))
        → misses source_new ≡ misses source
        → ((all text : List ℕ) → left source ≡ Some all → MayEnd command input outcome text
        → MayEnd command all outcome text)
        → Serves left misses written faults source source_new sink sink_new command outcome
    serves read taken clean as_told = record {
      whole = (λ a b m. let end = w.whole b m in (input, read, end.0, end.1, end.2));
      cut = (λ e. let end = w.cut e in (input, read, end.0, end.1, end.2, end.3));
      unwritten = (λ e. elim e [ inl fault ↦ absurd (no_read_fault fault) | inr want ↦ w.unwritten want ]);
      read_fault = (λ e. absurd (no_read_fault e));
      write_fault = w.failed;
      no_read_fault = (λ a. clean);
      no_write_fault = w.no_fault;
      taken = taken;
      complete = (λ all told a no_fault. elim (faults_or_not outcome) [
        | inl fault ↦ absurd (no_fault (w.failed fault))
        | inr (inl want) ↦ inr want
        | inr (inr others) ↦
            let end = w.whole others.0 others.1 in
            inl (end.0, as_told all end.0 told end.1)
      ]);
    }

    pub serves_input : ReadsInput command → IsInput (left source) (left source_new) input
        → misses source_new ≡ misses source
        → Serves left misses written faults source source_new sink sink_new command outcome
    serves_input reads read clean =
        serves (read_by _ _ input command reads read) (input, read.0, read.1) clean
        (λ all text told end. ends_as_told command all input _ _ outcome text reads told read end)

none_taken : (told : Option (List ℕ)) → Consumes told told []
none_taken None = tt
none_taken (Some xs) = refl

module _ {S K : Type 0} (left : S → Option (List ℕ)) (misses : S → ℕ)
    (written : K → Option (List ℕ)) (faults : K → ℕ) where
  -- a demonstration reads nothing
  pub serves_demo : (source : S) (sink sink_new : K) (seed messages lanes : ℕ) (outcome : Outcome)
      → Writes written faults sink sink_new (Demonstrates seed messages) outcome
      → Serves left misses written faults source source sink sink_new (Demo seed messages lanes) outcome
  serves_demo source sink sink_new seed messages lanes outcome w =
      serves written faults sink sink_new (Demo seed messages lanes) [] outcome w left misses source source
      refl ([], none_taken (left source), omega arith) refl (λ all text told end. end)

-- ---- what a run tells that served its command

module _ {S K : Type 0} (left : S → Option (List ℕ)) (misses : S → ℕ)
    (written : K → Option (List ℕ)) (faults : K → ℕ) (source source_new : S) (sink sink_new : K)
    (command : Command) (outcome : Outcome)
    (s : Serves left misses written faults source source_new sink sink_new command outcome) where
  -- the whole text of an outcome of the input
  pub whole_text : OfInput outcome
      → (input : List ℕ) × IsReadBy command (left source) (left source_new) input
      × (text : List ℕ) × MayEnd command input outcome text
      × Appends (written sink) (written sink_new) text
  whole_text is = s.whole (λ a. subst OfInput a is) (λ b. subst OfInput b is) (λ m. subst OfInput m is)
