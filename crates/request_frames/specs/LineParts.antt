-- ---- for the proofs: the pieces that the code reads at once
use Rattle.std.specs.Prelude.{ℕ, List, Result, Ok}
use Rattle.hkdf_labelled.specs.declared.suites.Kdf.{Kdf}
use Rattle.hkdf_labelled.specs.declared.suites.Aead.{Aead}
use Rattle.key_schedule.specs.declared.modes.Role.{Role}
use Rattle.field_text.specs.declared.reasons.Reason.{Reason}
use Rattle.field_text.specs.Fields.{◌>>=◌, next, number}
use Rattle.request_frames.specs.KeyWords.{kdf}
use Rattle.request_frames.specs.Words.{role, aead}

-- `ROLE KEM KDF AEAD`
abbrev pub shared_parts : List (List ℕ) → Result ((Role × ℕ × Kdf × Aead) × List (List ℕ)) Reason
shared_parts pieces = do
  (role, pieces) ← next role pieces
  (kem, pieces) ← next (number 0 65535) pieces
  (kdf, pieces) ← next kdf pieces
  (aead, pieces) ← next aead pieces
  Ok ((role, kem, kdf, aead), pieces)

-- `KDF AEAD KEY`
abbrev pub key_parts : List (List ℕ) → Result ((Kdf × Aead × ℕ) × List (List ℕ)) Reason
key_parts pieces = do
  (kdf, pieces) ← next kdf pieces
  (aead, pieces) ← next aead pieces
  (key, pieces) ← next (number 0 65535) pieces
  Ok ((kdf, aead, key), pieces)
