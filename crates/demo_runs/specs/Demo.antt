-- What a demonstration gives: how many messages were sealed and opened again, and the hash of their
-- ciphertexts. A byte string is a list of numbers below 256.
use Rattle.std.specs.Prelude.{◌≡◌, ℕ, List, [], ◌∷◌, ◌++◌, ◌-◌, codes, decimal, Option, Some}
use Rattle.std.specs.List.{range_with_len, flat_map}
use Rattle.sha2.specs.Sha256.{sha256}
use Rattle.field_text.specs.Printing.{hex_text}
use Rattle.hpke_context.specs.Contexts.{ContextView, cipher_of}
use Rattle.batch_plans.specs.declared.replies.KeyReply.{KeyReply}
use Rattle.batch_plans.specs.declared.replies.KeyReply.TheVariants.{Generated}
use Rattle.batch_plans.specs.declared.replies.ContextReply.{ContextReply}
use Rattle.context_books.specs.Standing.{standing_at}
use Rattle.context_table.specs.SetUp.{IsSetUp}
use Rattle.demo_runs.specs.SetUp.{set_up_plan}
use Rattle.demo_runs.specs.declared.report_lines.DemoReport.{DemoReport}

-- T, the text that is sealed: the bytes 00 to 3f
abbrev pub sealed_text : List ℕ
sealed_text = range_with_len 0 64

-- Seal(key, ComputeNonce(n), "", T) with the key and the base_nonce of a context (RFC 9180, 5.2)
abbrev pub sealed_at : ContextView → ℕ → List ℕ
sealed_at context n = (cipher_of context).sealed n [] sealed_text

-- those of the numbers 0 to MESSAGES - 1
abbrev pub all_sealed : ContextView → ℕ → List ℕ
all_sealed context messages = flat_map (sealed_at context) (range_with_len 0 messages)

-- every message was opened
abbrev pub all_opened : ContextView → ℕ → DemoReport
all_opened context messages =
    record { messages = messages; opened = messages; hash = sha256 (all_sealed context messages) }

-- there was no key to seal with
abbrev pub none_opened : ℕ → DemoReport
none_opened messages = record { messages = messages; opened = 0; hash = sha256 [] }

-- where the key was generated, a sender's context stands and every message was opened
abbrev pub IsReportOf : ℕ → List KeyReply → List (Option ContextView) → DemoReport → Type 0
IsReportOf messages (Generated public secret ∷ []) standing report =
    (context : ContextView) × (standing_at standing 0 ≡ Some context)
    × (report ≡ all_opened context messages)
IsReportOf messages _ standing report = report ≡ none_opened messages

-- by the set-up of the key and the contexts that SEED gives (RFC 9180, 5.1): there is one
pub record IsDemo (seed messages : ℕ) (report : DemoReport) : Type 0 where
  pub keys : List KeyReply
  pub contexts : List ContextReply
  pub standing : List (Option ContextView)
  pub set_up : IsSetUp (set_up_plan seed) keys contexts standing
  pub report_is : IsReportOf messages keys standing report

-- ---- the text

-- `messages N opened O refused R` and `sha256 H`
abbrev pub report_text : DemoReport → List ℕ
report_text report =
    codes "messages " ++ decimal report.messages ++ codes " opened " ++ decimal report.opened
    ++ codes " refused " ++ decimal (report.messages - report.opened) ++ codes "\n"
    ++ codes "sha256 " ++ hex_text report.hash ++ codes "\n"
