-- What every plan of capsules that is read keeps.
use Rattle.std.specs.Prelude.{◌≢◌, ℕ, ◌≤◌, List, length, All, Option, IsSome}
use Rattle.hkdf_labelled.specs.declared.suites.Aead.TheVariants.{ExportOnly}
use Rattle.batch_plans.specs.Limits.{most_field}
use Rattle.batch_plans.specs.Within.{IsField, IsWithinLimits}
pub use Rattle.request_frames.specs.KeyForms.{IsMessageWithin}
use Rattle.capsule_frames.specs.declared.words.CapsuleWord.{CapsuleWord}
use Rattle.capsule_frames.specs.declared.lines.CapsuleLine.{CapsuleLine}
use Rattle.capsule_frames.specs.declared.lines.CapsuleLine.TheVariants.{Ask, Answer, Take}
use Rattle.capsule_frames.specs.declared.lines.CapsulePlan.{CapsulePlan}
use Rattle.capsule_frames.specs.Forms.{most_text, most_request, most_response}
use Rattle.capsule_frames.specs.Capsules.{most_lines, count_of}

-- a capsule line over a pool of this length; a request is made from a seed
abbrev pub IsLineWithin : Option (List ℕ) → ℕ → CapsuleLine → Type 0
IsLineWithin seed pool (Ask key id kdf aead text) =
    (key ≤ 65535)
    × (id ≤ 255)
    × (aead ≢ ExportOnly)
    × IsField most_text pool text
    × IsSome seed
IsLineWithin seed pool (Answer key id request nonce text) =
    (key ≤ 65535)
    × (id ≤ 255)
    × IsMessageWithin most_request pool request
    × IsField most_field pool nonce
    × IsField most_text pool text
IsLineWithin seed pool (Take ask response) =
    (ask ≤ 65535) × IsMessageWithin most_response pool response

-- the plan of seed and keys, the counts of each kind, and each line
pub record IsWithin (p : CapsulePlan) : Type 0 where
  pub plan : IsWithinLimits p.plan
  pub kinds : (word : CapsuleWord) → count_of word p.lines ≤ most_lines
  pub lines : All (IsLineWithin p.plan.seed (length p.plan.pool)) p.lines
