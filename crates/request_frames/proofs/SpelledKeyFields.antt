-- The piece that was read as a KDF or as a message is that of its value, and parts of lines.
use Rattle.std.proofs.Common.{◌≡◌, ℕ, ◌≤◌, ◌==◌, cond, true, List, [], ◌∷◌, ◌++◌, length, drop, codes, decimal, Ok, sym, ap, subst, ◌∙◌, lit<, arith}
use Rattle.std.proofs.lemmas.Bool.{eqb-true}
use Rattle.std.proofs.lemmas.Bool.Decides.{nat_tests}
use Rattle.std.proofs.lemmas.List.{length-append}
use Rattle.hkdf_labelled.specs.Suites.{kdf_id}
use Rattle.hkdf_labelled.specs.declared.suites.Kdf.{Kdf}
use Rattle.hkdf_labelled.specs.declared.suites.Kdf.TheVariants.{Sha256, Sha384, Sha512}
use Rattle.field_text.specs.Fields.{number, bytes, Pooled}
use Rattle.field_text.proofs.Spellings.{ok_same, step_ok, choice_ok, number_ok, bytes_ok, IsFront, IsFront-same, IsPooled}
use Rattle.batch_plans.specs.declared.plan.EncField.{EncField}
use Rattle.batch_plans.specs.Within.{IsField}
use Rattle.request_frames.specs.KeyWords.{kdf}
use Rattle.request_frames.specs.KeyForms.{is_reference, reference, message_bytes, message, IsMessageWithin}
use Rattle.request_frames.specs.KeyText.{enc_text}

-- ---- parts of lines

-- one piece, and those after it
pub piece_is : {text piece : List ℕ} {pieces rest more : List (List ℕ)} → pieces ≡ piece ∷ rest → text ≡ piece → more ≡ rest → text ∷ more ≡ pieces
piece_is {text} {piece} {pieces} {rest} {more} cut same after = cc

-- a pool is no shorter than its front
pub front_length : (front whole : List ℕ) → IsFront front whole → length front ≤ length whole
front_length front whole h = omega (arith, ap length h.parts, length-append front h.rest)

-- the bytes of a field are within its limit, in each pool that is as long
pub field_within : (most : ℕ) (pool piece : List ℕ) (read : Pooled) (size : ℕ)
    → IsPooled most pool piece read → length read.pool ≤ size → IsField most size read.span
field_within most pool piece read size h long =
    record { in_pool = omega (arith, h.end, long); size = h.size }

-- ---- KDF

kdf_back : (id : ℕ) → 1 ≤ id → id ≤ 3 → kdf_id (cond (id == 1) Sha256 (cond (id == 2) Sha384 Sha512)) ≡ id
kdf_back id least most = grind (arith, nat_tests)

pub kdf_ok : (piece : List ℕ) (value : Kdf) → kdf piece ≡ Ok value → decimal (kdf_id value) ≡ piece
kdf_ok piece value e =
    let found = step_ok (number 1 3 piece) _ value e in
    let id = number_ok 1 3 piece found.0 (lit< tt) found.1 in
    let same : cond (found.0 == 1) Sha256 (cond (found.0 == 2) Sha384 Sha512) ≡ value = cc in
    ap decimal (ap kdf_id (sym same) ∙ kdf_back found.0 id.least id.most) ∙ id.spelled

-- ---- messages

-- a piece that begins with `@`
reference_front : (piece : List ℕ) → is_reference piece ≡ true → codes "@" ++ drop 1 piece ≡ piece
reference_front [] e = absurd cc
reference_front (first ∷ more) e = ap (λ (c : ℕ). c ∷ more) (sym (eqb-true first 64 e))

-- a message that was read: the pool grew, over each longer pool it has this piece, and it is within its
-- limit
pub record IsMessage (most : ℕ) (old new piece : List ℕ) (read : EncField) : Type 0 where
  pub grown : IsFront old new
  pub spelled : (whole : List ℕ) → IsFront new whole → enc_text whole read ≡ piece
  pub within : (size : ℕ) → length new ≤ size → IsMessageWithin most size read

reference_ok : (most : ℕ) (pool piece : List ℕ) (read : EncField) (new : List ℕ)
    → is_reference piece ≡ true → reference pool piece ≡ Ok (read, new)
    → IsMessage most pool new piece read
reference_ok most pool piece read new is e =
    let found = step_ok (number 0 65535 (drop 1 piece)) _ (read, new) e in
    let id = number_ok 0 65535 (drop 1 piece) found.0 (lit< tt) found.1 in
    let IsRead : EncField × List ℕ → Type 0 = λ line. IsMessage most pool line.1 piece line.0 in
    subst IsRead (ok_same _ _ found.2) record {
      grown = IsFront-same pool;
      spelled = λ whole h.
          ap (λ (digits : List ℕ). codes "@" ++ digits) id.spelled ∙ reference_front piece is;
      within = λ size long. id.most;
    }

message_bytes_ok : (most : ℕ) (pool piece : List ℕ) (read : EncField) (new : List ℕ)
    → message_bytes most pool piece ≡ Ok (read, new) → IsMessage most pool new piece read
message_bytes_ok most pool piece read new e =
    let found = step_ok (bytes most pool piece) _ (read, new) e in
    let field = bytes_ok most pool piece found.0 found.1 in
    let IsRead : EncField × List ℕ → Type 0 = λ line. IsMessage most pool line.1 piece line.0 in
    subst IsRead (ok_same _ _ found.2) record {
      grown = field.grown;
      spelled = field.spelled;
      within = λ size long. field_within most pool piece found.0 size field long;
    }

pub message_ok : (most : ℕ) (pool piece : List ℕ) (read : EncField) (new : List ℕ)
    → message most pool piece ≡ Ok (read, new) → IsMessage most pool new piece read
message_ok most pool piece read new e =
    choice_ok (is_reference piece) (reference pool piece) (message_bytes most pool piece) (read, new) _
    (λ is ok. reference_ok most pool piece read new is ok)
    (λ _ ok. message_bytes_ok most pool piece read new ok) e
