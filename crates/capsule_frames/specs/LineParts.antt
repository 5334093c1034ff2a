-- ---- for the proofs: the pieces that the code reads at once
use Rattle.std.specs.Prelude.{ℕ, List, Result, Ok}
use Rattle.hkdf_labelled.specs.declared.suites.Kdf.{Kdf}
use Rattle.hkdf_labelled.specs.declared.suites.Aead.{Aead}
use Rattle.field_text.specs.declared.reasons.Reason.{Reason}
use Rattle.field_text.specs.Fields.{◌>>=◌, next, exactly, number}
use Rattle.request_frames.specs.KeyWords.{kdf}
use Rattle.capsule_frames.specs.Forms.{cipher}

-- `KEY ID` of five pieces
abbrev pub key_parts : List (List ℕ) → Result ((ℕ × ℕ) × List (List ℕ)) Reason
key_parts pieces = do
  pieces ← exactly 5 pieces
  (key, pieces) ← next (number 0 65535) pieces
  (id, pieces) ← next (number 0 255) pieces
  Ok ((key, id), pieces)

-- `KDF AEAD`
abbrev pub suite_parts : List (List ℕ) → Result ((Kdf × Aead) × List (List ℕ)) Reason
suite_parts pieces = do
  (kdf, pieces) ← next kdf pieces
  (aead, pieces) ← next cipher pieces
  Ok ((kdf, aead), pieces)
