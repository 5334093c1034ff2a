-- What a run does with its two ends: what it takes of the source, what it writes to the sink, and why a
-- fault comes. `left` and `misses`, `written` and `faults` are what the ends tell of themselves: their
-- bytes, where they tell them, and how often they have failed.
use Rattle.std.specs.Prelude.{◌≡◌, ◌≢◌, ◌⊎◌, ◌≤◌, ℕ, List, length, Option, Some, Result, Ok, Err}
use Rattle.std.specs.Io.KnownBytes.{Consumes, Appends}
use Rattle.batch_io.specs.Faults.{Rose}
use Rattle.field_text.specs.Printing.{AppendsPrefix}
use Rattle.field_text.specs.declared.printing.Printed.{Printed}
use Rattle.field_text.specs.declared.printing.Printed.TheVariants.{Whole, Failed}
use Rattle.field_text.specs.declared.faults.ReadBatchFault.{ReadBatchFault}
use Rattle.field_text.specs.declared.faults.ReadBatchFault.TheVariants as read_faults
use Rattle.batch_words.specs.declared.commands.Command.{Command}
use Rattle.batch_serving.specs.declared.outcomes.Outcome.{Outcome}
use Rattle.batch_serving.specs.declared.outcomes.Outcome.TheVariants.{Done, ReadFault, WriteFault, OutOfMemory}
use Rattle.batch_serving.specs.Input.{input_limit}
use Rattle.batch_serving.specs.Text.{IsReadBy, IsTold, MayEnd}

-- ---- which texts are due

-- this text, where the run ends so
abbrev pub Says : Outcome → List ℕ → Outcome → List ℕ → Type 0
Says due said outcome text = (outcome ≡ due) × (text ≡ said)

-- the first bad line of an input that couldn't be read
abbrev pub SaysFault : ReadBatchFault → Outcome → List ℕ → Type 0
SaysFault (read_faults.Bad bad) outcome text = IsTold bad outcome text
SaysFault read_faults.OutOfMemory outcome text = ⊥

-- the text of the answers, where there are some
abbrev pub SaysReply : {A E : Type 0} → (A → List ℕ) → Result A E → Outcome → List ℕ → Type 0
SaysReply text_of (Ok answers) outcome text = Says Done (text_of answers) outcome text
SaysReply text_of (Err fault) outcome text = ⊥

-- how a run ends whose text was printed so
abbrev pub end_of : Printed → Outcome → Outcome
end_of Whole due = due
end_of Failed due = WriteFault

-- ---- what is written

-- A text that is due was written whole, or some first bytes of it before a fault, or nothing for want of
-- memory. `IsDue` tells which texts are due, and how the run ends then.
pub record Writes
    {K : Type 0} (written : K → Option (List ℕ)) (faults : K → ℕ)
    (old new : K) (IsDue : Outcome → List ℕ → Type 0) (outcome : Outcome) : Type 0 where
  pub whole : outcome ≢ WriteFault → outcome ≢ OutOfMemory
      → (text : List ℕ) × IsDue outcome text × Appends (written old) (written new) text
  pub cut : outcome ≡ WriteFault → (due : Outcome) × (text : List ℕ) × IsDue due text
      × AppendsPrefix (written old) (written new) text
  pub failed : outcome ≡ WriteFault → Rose (faults old) (faults new)
  pub no_fault : outcome ≢ WriteFault → faults new ≡ faults old
  pub unwritten : outcome ≡ OutOfMemory → new ≡ old

-- ---- a whole run

-- the command's input was read, and what comes of it was written
pub record Serves
    {S K : Type 0} (left : S → Option (List ℕ)) (misses : S → ℕ)
    (written : K → Option (List ℕ)) (faults : K → ℕ)
    (source source_new : S) (sink sink_new : K) (command : Command) (outcome : Outcome)
    : Type 0 where
  pub whole : outcome ≢ ReadFault → outcome ≢ WriteFault → outcome ≢ OutOfMemory
      → (input : List ℕ) × IsReadBy command (left source) (left source_new) input
      × (text : List ℕ) × MayEnd command input outcome text
      × Appends (written sink) (written sink_new) text
  pub cut : outcome ≡ WriteFault
      → (input : List ℕ) × IsReadBy command (left source) (left source_new) input
      × (due : Outcome) × (text : List ℕ) × MayEnd command input due text
      × AppendsPrefix (written sink) (written sink_new) text
  pub unwritten : (outcome ≡ ReadFault) ⊎ (outcome ≡ OutOfMemory) → sink_new ≡ sink
  pub read_fault : outcome ≡ ReadFault → Rose (misses source) (misses source_new)
  pub write_fault : outcome ≡ WriteFault → Rose (faults sink) (faults sink_new)
  pub no_read_fault : outcome ≢ ReadFault → misses source_new ≡ misses source
  pub no_write_fault : outcome ≢ WriteFault → faults sink_new ≡ faults sink
  pub taken : (front : List ℕ) × Consumes (left source) (left source_new) front
      × (length front ≤ input_limit)
  pub complete : (input : List ℕ) → left source ≡ Some input
      → ¬ Rose (misses source) (misses source_new) → ¬ Rose (faults sink) (faults sink_new)
      → ((text : List ℕ) × MayEnd command input outcome text) ⊎ (outcome ≡ OutOfMemory)
