-- The lines of the seed and of keys without their first word, and a message of a line: what each one
-- spells. The bytes of each bytes field go to the end of the pool in turn.
use Rattle.std.specs.Prelude.{ℕ, ◌≤◌, ◌==◌, nat_le, Bool, false, List, [], ◌∷◌, length, drop, Result, Ok, Err, if◌then◌else◌}
use Rattle.call_places.specs.declared.spans.Span.{Span}
use Rattle.field_text.specs.declared.reasons.Reason.{Reason}
use Rattle.field_text.specs.declared.reasons.Reason.TheVariants.{Count, Size}
use Rattle.field_text.specs.Fields.{◌>>=◌, next, exactly, number, bytes}
use Rattle.batch_plans.specs.declared.plan.KeyLine.{KeyLine}
use Rattle.batch_plans.specs.declared.plan.KeySource.TheVariants as sources
use Rattle.batch_plans.specs.KeyLines.{key_line}
use Rattle.batch_plans.specs.declared.plan.EncField.{EncField}
use Rattle.batch_plans.specs.declared.plan.EncField.TheVariants.{Bytes, Of}
use Rattle.batch_plans.specs.Limits.{most_field}
use Rattle.batch_plans.specs.Within.{IsField}
use Rattle.request_frames.specs.declared.key_words.KeyWord.{KeyWord}
use Rattle.request_frames.specs.declared.key_words.KeyWord.TheVariants.{Generate, Secret, Peer}

-- ---- the seed

-- H64: a bytes field of exactly 32 bytes
abbrev pub seed_field : List ℕ → Result (List ℕ) Reason
seed_field piece = do
  read ← bytes 32 [] piece
  if length read.pool == 32 then Ok read.pool else Err Size

-- `rand H64`
unfoldable pub rand : List (List ℕ) → Result (List ℕ) Reason
rand pieces = do
  pieces ← exactly 1 pieces
  (seed, pieces) ← next seed_field pieces
  Ok seed

-- ---- key lines

-- HEX alone, the bytes of a key
unfoldable pub key_bytes : List ℕ → List (List ℕ) → Result (Span × List ℕ) Reason
key_bytes pool pieces = do
  pieces ← exactly 1 pieces
  (read, pieces) ← next (bytes most_field pool) pieces
  Ok (read.span, read.pool)

-- `keygen`, `secret HEX`, `peer HEX`, of each parameter set
abbrev pub key : KeyWord → List ℕ → List (List ℕ) → Result (KeyLine × List ℕ) Reason
key (Generate set) pool pieces = do
  pieces ← exactly 0 pieces
  Ok (key_line set sources.Generate, pool)
key (Secret set) pool pieces = do
  (bytes, pool) ← key_bytes pool pieces
  Ok (key_line set (sources.Secret bytes), pool)
key (Peer set) pool pieces = do
  (bytes, pool) ← key_bytes pool pieces
  Ok (key_line set (sources.Peer bytes), pool)

-- a quantity that is not above its limit
abbrev pub at_most : ℕ → ℕ → Result ℕ Reason
at_most limit n = if nat_le n limit then Ok n else Err Count

-- ---- messages

-- a piece that begins with `@`
abbrev pub is_reference : List ℕ → Bool
is_reference [] = false
is_reference (first ∷ more) = first == 64

-- `@` and the number of a line
abbrev pub reference : List ℕ → List ℕ → Result (EncField × List ℕ) Reason
reference pool piece = do
  number ← number 0 65535 (drop 1 piece)
  Ok (Of number, pool)

-- the bytes of a message
abbrev pub message_bytes : ℕ → List ℕ → List ℕ → Result (EncField × List ℕ) Reason
message_bytes most pool piece = do
  read ← bytes most pool piece
  Ok (Bytes read.span, read.pool)

-- ENC, REQ or RESP: a message of so many bytes at most, or `@` and the number of the line that made it
abbrev pub message : ℕ → List ℕ → List ℕ → Result (EncField × List ℕ) Reason
message most pool piece =
    if is_reference piece then reference pool piece else message_bytes most pool piece

-- what is kept of it, over a pool of this length
abbrev pub IsMessageWithin : ℕ → ℕ → EncField → Type 0
IsMessageWithin most pool (Bytes bytes) = IsField most pool bytes
IsMessageWithin most pool (Of number) = number ≤ 65535
