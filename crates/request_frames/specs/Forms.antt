-- The lines of contexts and of calls without their first word: what each one spells. The bytes of each bytes
-- field go to the end of the pool in turn.
use Rattle.std.specs.Prelude.{ℕ, ◌+◌, ◌%◌, ◌==◌, ◌&&◌, nat_lt, Bool, false, List, [], ◌∷◌, ◌++◌, length, drop, Result, Ok, Err, if◌then◌else◌}
use Rattle.call_places.specs.declared.spans.Item.{Item}
use Rattle.hkdf_labelled.specs.declared.suites.Kdf.{Kdf}
use Rattle.hkdf_labelled.specs.declared.suites.Aead.{Aead}
use Rattle.field_text.specs.declared.reasons.Reason.{Reason}
use Rattle.field_text.specs.declared.reasons.Reason.TheVariants.{Fields, Number}
use Rattle.field_text.specs.Fields.{◌>>=◌, next, exactly, number, bytes}
use Rattle.batch_plans.specs.declared.plan.ContextKind.{ContextKind}
use Rattle.batch_plans.specs.declared.plan.ContextKind.TheVariants as kinds
use Rattle.batch_plans.specs.declared.plan.ContextLine.{ContextLine}
use Rattle.batch_plans.specs.declared.plan.CallLine.{CallLine}
use Rattle.batch_plans.specs.declared.plan.CallLine.TheVariants.{Seal, Unseal, Export}
use Rattle.request_frames.specs.KeyWords.{kdf}
use Rattle.request_frames.specs.KeyForms.{message}
use Rattle.request_frames.specs.declared.words.ContextWord.{ContextWord}
use Rattle.request_frames.specs.declared.words.ContextWord.TheVariants.{Share, Send, Recv}
use Rattle.request_frames.specs.Words.{role, mode, aead}
use Rattle.batch_plans.specs.Limits.{most_field, most_plaintext, most_ciphertext, first_name}

-- ---- context lines

-- `MODE INFO PSK PSKID LIMIT`, which ends each context line, behind what it says before
unfoldable pub schedule : ContextKind → Kdf → Aead
    → List ℕ → List (List ℕ) → Result (ContextLine × List ℕ) Reason
schedule kind kdf aead pool pieces = do
  (mode, pieces) ← next mode pieces
  (info, pieces) ← next (bytes most_field pool) pieces
  (psk, pieces) ← next (bytes most_field info.pool) pieces
  (psk_id, pieces) ← next (bytes most_field psk.pool) pieces
  (limit, pieces) ← next (number 1 18446744073709551615) pieces
  Ok (
    record {
      kind = kind;
      kdf = kdf;
      aead = aead;
      mode = mode;
      info = info.span;
      psk = psk.span;
      psk_id = psk_id.span;
      limit = limit;
    },
    psk_id.pool,
  )

-- `share ROLE KEM KDF AEAD SECRET MODE INFO PSK PSKID LIMIT`
unfoldable pub share : List ℕ → List (List ℕ) → Result (ContextLine × List ℕ) Reason
share pool pieces = do
  pieces ← exactly 10 pieces
  (role, pieces) ← next role pieces
  (kem, pieces) ← next (number 0 65535) pieces
  (kdf, pieces) ← next kdf pieces
  (aead, pieces) ← next aead pieces
  (secret, pieces) ← next (bytes most_field pool) pieces
  schedule (kinds.Share role kem secret.span) kdf aead secret.pool pieces

-- `send KDF AEAD KEY MODE INFO PSK PSKID LIMIT`
unfoldable pub send : List ℕ → List (List ℕ) → Result (ContextLine × List ℕ) Reason
send pool pieces = do
  pieces ← exactly 8 pieces
  (kdf, pieces) ← next kdf pieces
  (aead, pieces) ← next aead pieces
  (key, pieces) ← next (number 0 65535) pieces
  schedule (kinds.Send key) kdf aead pool pieces

-- `recv KDF AEAD KEY ENC MODE INFO PSK PSKID LIMIT`
unfoldable pub recv : List ℕ → List (List ℕ) → Result (ContextLine × List ℕ) Reason
recv pool pieces = do
  pieces ← exactly 9 pieces
  (kdf, pieces) ← next kdf pieces
  (aead, pieces) ← next aead pieces
  (key, pieces) ← next (number 0 65535) pieces
  ((enc, pool), pieces) ← next (message most_field pool) pieces
  schedule (kinds.Recv key enc) kdf aead pool pieces

-- a context line of each word
abbrev pub context : ContextWord
    → List ℕ → List (List ℕ) → Result (ContextLine × List ℕ) Reason
context Share pool pieces = share pool pieces
context Send pool pieces = send pool pieces
context Recv pool pieces = recv pool pieces

-- ---- the context of a call

-- a piece that begins with `+`
abbrev pub is_name : List ℕ → Bool
is_name [] = false
is_name (first ∷ more) = first == 43

-- `+` and the number of an `add` line
abbrev pub name : List ℕ → Result ℕ Reason
name piece = if is_name piece then number 0 65535 (drop 1 piece) else Err Number

-- the number by which a call names the context of an `add` line
abbrev pub named : List ℕ → Result ℕ Reason
named piece = do
  name ← name piece
  Ok (first_name + name)

-- CTX: the number of a context line. Where lanes add contexts, a call may name one of those
abbrev pub ctx : Bool → List ℕ → Result ℕ Reason
ctx names piece = if names && is_name piece then named piece else number 0 65535 piece

-- ---- call lines, in a text whose lanes add contexts or in one whose contexts stay

-- `AAD TEXT`, with a text of so many bytes at most
unfoldable pub item : ℕ
    → List ℕ → List (List ℕ) → Result ((Item × List ℕ) × List (List ℕ)) Reason
item most pool pieces = do
  (aad, pieces) ← next (bytes most_field pool) pieces
  (text, pieces) ← next (bytes most aad.pool) pieces
  Ok ((record { aad = aad.span; text = text.span }, text.pool), pieces)

-- `CTX AAD TEXT`
unfoldable pub one_item : Bool
    → ℕ → List ℕ → List (List ℕ) → Result (ℕ × Item × List ℕ) Reason
one_item names most pool pieces = do
  pieces ← exactly 3 pieces
  (context, pieces) ← next (ctx names) pieces
  ((item, pool), pieces) ← item most pool pieces
  Ok (context, item, pool)

-- `seal CTX AAD PT`
abbrev pub seal : Bool → List ℕ → List (List ℕ) → Result (CallLine × List ℕ) Reason
seal names pool pieces = do
  (context, item, pool) ← one_item names most_plaintext pool pieces
  Ok (Seal context item, pool)

-- `unseal CTX AAD CT`: a ciphertext is 16 bytes longer than its plaintext (RFC 9180, 7.3)
abbrev pub unseal : Bool → List ℕ → List (List ℕ) → Result (CallLine × List ℕ) Reason
unseal names pool pieces = do
  (context, item, pool) ← one_item names most_ciphertext pool pieces
  Ok (Unseal context item, pool)

-- `export CTX BYTES LEN`
unfoldable pub export : Bool → List ℕ → List (List ℕ) → Result (CallLine × List ℕ) Reason
export names pool pieces = do
  pieces ← exactly 3 pieces
  (context, pieces) ← next (ctx names) pieces
  (exporter, pieces) ← next (bytes most_field pool) pieces
  (size, pieces) ← next (number 0 65535) pieces
  Ok (Export context exporter.span size, exporter.pool)

-- pairs `AAD CT`, each an item behind these
unfoldable pub pairs : List ℕ → List Item → List (List ℕ) → Result (List Item × List ℕ) Reason
pairs pool items [] = Ok (items, pool)
pairs pool items (piece ∷ []) = Err Fields
pairs pool items (aad ∷ text ∷ more) = do
  ((item, pool), none) ← item most_ciphertext pool (aad ∷ text ∷ [])
  pairs pool (items ++ item ∷ []) more

-- a piece, and one pair or more
abbrev pub one_and_pairs : List (List ℕ) → Result (List (List ℕ)) Reason
one_and_pairs pieces =
    if nat_lt 1 (length pieces) && (length pieces % 2 == 1) then Ok pieces else Err Fields

-- `unsealall CTX AAD CT`, then any number of further pairs `AAD CT`
unfoldable pub unseal_all : Bool
    → List ℕ → List (List ℕ) → Result (ℕ × List Item × List ℕ) Reason
unseal_all names pool pieces = do
  pieces ← one_and_pairs pieces
  (context, pieces) ← next (ctx names) pieces
  (items, pool) ← pairs pool [] pieces
  Ok (context, items, pool)
