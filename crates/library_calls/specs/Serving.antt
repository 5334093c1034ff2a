-- A batch that is served in the caller's memory. The command is that which the words spell, if they spell one.
use Rattle.std.specs.Prelude.{◌≡◌, ◌≢◌, ◌⊎◌, ◌<◌, ◌≤◌, ◌==◌, ℕ, Bool, List, length, take, drop, nat_lt, Option, Some, None, ◌↔◌, if◌then◌else◌}
use Rattle.std.specs.List.{list_all, slice_split}
use Rattle.field_text.specs.declared.reasons.Reason.{Reason}
use Rattle.batch_plans.specs.ReplyText.{bad_text}
use Rattle.result_lines.specs.declared.verdicts.Verdict.{Verdict}
use Rattle.result_lines.specs.VerdictText.{verdict_text}
use Rattle.batch_words.specs.declared.commands.Command.{Command}
use Rattle.batch_words.specs.Words.{command_of}
use Rattle.batch_serving.specs.declared.outcomes.Outcome.{Outcome}
use Rattle.batch_serving.specs.declared.outcomes.Outcome.TheVariants.{Done}
use Rattle.batch_serving.specs.Text.{IsBadFor, IsBrokenFor, MayEnd}

-- ---- the words

abbrev pub is_ascii : ℕ → Bool
is_ascii byte = nat_lt byte 128

abbrev pub is_space : ℕ → Bool
is_space byte = byte == 32

-- the words of a line, with one space between each two
abbrev pub words_in : List ℕ → List (List ℕ)
words_in line = slice_split is_space line

-- the command that a line of words spells, which is ASCII text
unfoldable pub command_in : List ℕ → Option Command
command_in line = if list_all is_ascii line then command_of (words_in line) else None

-- ---- the text

-- the command may end so for this input, and write this text
unfoldable pub MayAnswer : Option Command → List ℕ → Outcome → List ℕ → Type 0
MayAnswer spelled input outcome text =
    (command : Command) × (spelled ≡ Some command) × MayEnd command input outcome text

-- the text is the line of the input's first bad line, by the command's grammar, and of its first reason
unfoldable pub TellsBadFor : Option Command → List ℕ → List ℕ → Type 0
TellsBadFor spelled input text =
    (command : Command) × (spelled ≡ Some command) × (line : ℕ) × (reason : Reason)
    × IsBadFor command input line reason
    × (text ≡ bad_text (record { line = line; reason = reason }))

-- the command judges, and the text says what is wrong with the result behind the input's batch
unfoldable pub TellsBroken : Option Command → List ℕ → List ℕ → Type 0
TellsBroken spelled input text =
    (command : Command) × (spelled ≡ Some command) × (verdict : Verdict)
    × IsBrokenFor command input verdict × (text ≡ verdict_text verdict)

-- the words spell a command, and the input is no batch by its grammar
unfoldable pub IsNoBatchFor : Option Command → List ℕ → Type 0
IsNoBatchFor spelled input =
    (command : Command) × (spelled ≡ Some command) × (line : ℕ) × (reason : Reason)
    × IsBadFor command input line reason

-- the words spell a command that judges, and the result behind the input's batch isn't legal
unfoldable pub HasBrokenResult : Option Command → List ℕ → Type 0
HasBrokenResult spelled input =
    (command : Command) × (spelled ≡ Some command) × (verdict : Verdict)
    × IsBrokenFor command input verdict

-- the command may write a text of this size, which is larger than the room
unfoldable pub NeedsRoom : Option Command → List ℕ → ℕ → ℕ → Type 0
NeedsRoom spelled input room size =
    (outcome : Outcome) × (text : List ℕ) × MayAnswer spelled input outcome text
    × (size ≡ length text) × (room < size)

-- ---- a whole call: the room before and after it, and the size of what was written

-- the statuses at which a text stands in the room
abbrev pub HasText : ℕ → Type 0
HasText status = (status ≡ 0) ⊎ (status ≡ 3) ⊎ (status ≡ 7)

pub record IsServed (spelled : Option Command) (input old new : List ℕ)
    (written_old written status : ℕ) : Type 0 where
  pub done : status ≡ 0 → MayAnswer spelled input Done (take written new)
  pub bad : status ≡ 3 → TellsBadFor spelled input (take written new)
  pub broken : status ≡ 7 → TellsBroken spelled input (take written new)
  pub room : status ≡ 5 → NeedsRoom spelled input (length old) written
  pub usage : status ≢ 6 → ((status ≡ 2) ↔ (spelled ≡ None))
  pub no_batch : status ≢ 5 → status ≢ 6 → ((status ≡ 3) ↔ IsNoBatchFor spelled input)
  pub broken_result : status ≢ 5 → status ≢ 6 → ((status ≡ 7) ↔ HasBrokenResult spelled input)
  pub statuses : (status ≡ 0) ⊎ (status ≡ 2) ⊎ (status ≡ 3) ⊎ (status ≡ 5) ⊎ (status ≡ 6)
      ⊎ (status ≡ 7)
  pub size : HasText status → written ≤ length new
  pub behind : drop written new ≡ drop written old
  pub kept : ¬ HasText status → new ≡ old
  pub told : ¬ HasText status → status ≢ 5 → written ≡ written_old
