-- The capsule lines of a batch without their first word: what each one spells. The bytes of each
-- bytes field go to the end of the pool in turn.
use Rattle.std.specs.Prelude.{ℕ, List, Result, Ok, ok_or}
use Rattle.hkdf_labelled.specs.declared.suites.Aead.{Aead}
use Rattle.hkdf_labelled.specs.Suites.{aead_named}
use Rattle.field_text.specs.declared.reasons.Reason.{Reason}
use Rattle.field_text.specs.declared.reasons.Reason.TheVariants.{Range}
use Rattle.field_text.specs.Fields.{◌>>=◌, next, exactly, number, bytes}
use Rattle.batch_plans.specs.Limits.{most_field}
use Rattle.request_frames.specs.KeyWords.{kdf}
use Rattle.request_frames.specs.KeyForms.{message}
use Rattle.capsule_frames.specs.declared.words.CapsuleWord.{CapsuleWord}
use Rattle.capsule_frames.specs.declared.words.CapsuleWord.TheVariants as words
use Rattle.capsule_frames.specs.declared.lines.CapsuleLine.{CapsuleLine}
use Rattle.capsule_frames.specs.declared.lines.CapsuleLine.TheVariants.{Ask, Answer, Take}

-- the text of a request or of a response
abbrev pub most_text : ℕ
most_text = 1048576

-- a request: its header of 7 bytes, the longer encapsulation, and the text with its tag (RFC 9458, 4.1)
abbrev pub most_request : ℕ
most_request = 1049783

-- a response: the longer nonce, and the text with its tag (RFC 9458, 4.2)
abbrev pub most_response : ℕ
most_response = 1048624

-- AEAD: aead_id (RFC 9180, 7.3) of those that encrypt
abbrev pub cipher : List ℕ → Result Aead Reason
cipher piece = do
  id ← number 1 2 piece
  ok_or (aead_named id) Range

-- `ask KEY ID KDF AEAD TEXT`
unfoldable pub ask : List ℕ → List (List ℕ) → Result (CapsuleLine × List ℕ) Reason
ask pool pieces = do
  pieces ← exactly 5 pieces
  (key, pieces) ← next (number 0 65535) pieces
  (id, pieces) ← next (number 0 255) pieces
  (kdf, pieces) ← next kdf pieces
  (aead, pieces) ← next cipher pieces
  (text, pieces) ← next (bytes most_text pool) pieces
  Ok (Ask key id kdf aead text.span, text.pool)

-- `answer KEY ID REQ NONCE TEXT`
unfoldable pub answer : List ℕ → List (List ℕ) → Result (CapsuleLine × List ℕ) Reason
answer pool pieces = do
  pieces ← exactly 5 pieces
  (key, pieces) ← next (number 0 65535) pieces
  (id, pieces) ← next (number 0 255) pieces
  ((request, pool), pieces) ← next (message most_request pool) pieces
  (nonce, pieces) ← next (bytes most_field pool) pieces
  (text, pieces) ← next (bytes most_text nonce.pool) pieces
  Ok (Answer key id request nonce.span text.span, text.pool)

-- `take ASK RESP`
unfoldable pub take_line : List ℕ → List (List ℕ) → Result (CapsuleLine × List ℕ) Reason
take_line pool pieces = do
  pieces ← exactly 2 pieces
  (ask, pieces) ← next (number 0 65535) pieces
  ((response, pool), pieces) ← next (message most_response pool) pieces
  Ok (Take ask response, pool)

-- a capsule line of each word
abbrev pub capsule : CapsuleWord → List ℕ → List (List ℕ) → Result (CapsuleLine × List ℕ) Reason
capsule words.Ask pool pieces = ask pool pieces
capsule words.Answer pool pieces = answer pool pieces
capsule words.Take pool pieces = take_line pool pieces
