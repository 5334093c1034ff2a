-- The pieces of the line of the seed or of a key are those of what it spells.
use Rattle.std.proofs.Common.{◌≡◌, ℕ, ◌+◌, ◌≤◌, ◌==◌, Bool, true, List, [], ◌∷◌, length, take, drop, Option, Result, Ok, Err, refl, sym, ap, subst, ◌∙◌, arith}
use Rattle.std.specs.Prelude.{IsSome}
use Rattle.std.proofs.lemmas.List.{take_all}
use Rattle.call_places.specs.Spans.{span_bytes}
use Rattle.call_places.specs.declared.spans.Span.{Span}
use Rattle.field_text.specs.declared.reasons.Reason.{Reason}
use Rattle.field_text.specs.declared.reasons.Reason.TheVariants.{Size}
use Rattle.field_text.specs.Fields.{◌>>=◌, exactly, bytes}
use Rattle.field_text.specs.Printing.{hex_text}
use Rattle.field_text.proofs.Spellings.{ok_same, step_ok, choice_ok, next_ok, exactly_ok, bytes_ok, IsFront, IsFront-same}
use Rattle.field_text.proofs.SpelledLines.{no_piece}
use Rattle.batch_plans.specs.declared.plan.KeyLine.{KeyLine}
use Rattle.batch_plans.specs.Limits.{most_field}
use Rattle.batch_plans.specs.Within.{IsField, IsSourceWithin, IsKeyWithin}
use Rattle.request_frames.specs.declared.key_words.KeyWord.{KeyWord}
use Rattle.request_frames.specs.declared.key_words.KeyWord.TheVariants.{Generate, Secret, Peer}
use Rattle.batch_plans.specs.declared.plan.KeySet.{KeySet}
use Rattle.batch_plans.specs.declared.plan.KeySet.TheVariants.{Sntrup761, Sntrup857}
use Rattle.batch_plans.specs.declared.plan.KeySource.{KeySource}
use Rattle.batch_plans.specs.declared.plan.KeySource.TheVariants as sources
use Rattle.batch_plans.specs.KeyLines.{key_line, set_of, source_of}
use Rattle.request_frames.specs.KeyWords.{key_word_text, key_draws}
use Rattle.request_frames.specs.KeyForms.{seed_field, rand, key_bytes, key}
use Rattle.request_frames.specs.KeyText.{span_text, source_pieces, key_pieces}
use Rattle.request_frames.proofs.SpelledKeyFields.{piece_is, field_within}

-- ---- the seed

-- the span of all bytes of a pool names them
whole_span : (pool : List ℕ) (span : Span) → span.start ≡ 0 → span.start + span.len ≡ length pool → span_bytes pool span ≡ pool
whole_span pool span start end =
    let all : span.len ≡ length pool = omega arith in
    ap (λ (n : ℕ). take span.len (drop n pool)) start ∙ ap (λ (n : ℕ). take n pool) all ∙ take_all (length pool) pool (omega arith)

seed_ok : (piece seed : List ℕ) → seed_field piece ≡ Ok seed → hex_text seed ≡ piece
seed_ok piece seed e =
    let found = step_ok (bytes 32 [] piece) _ seed e in
    let field = bytes_ok 32 [] piece found.0 found.1 in
    choice_ok (length found.0.pool == 32) (Ok found.0.pool) (Err Size) seed _
    (λ _ ok.
    let same : found.0.pool ≡ seed = ok_same _ _ ok in
    ap hex_text (sym same ∙ sym (whole_span found.0.pool found.0.span field.start field.end)) ∙ field.spelled found.0.pool (IsFront-same found.0.pool))
    (λ _ err. absurd cc) found.2

pub rand_ok : (pieces : List (List ℕ)) (seed : List ℕ) → rand pieces ≡ Ok seed → hex_text seed ∷ [] ≡ pieces
unfolding rand
rand_ok pieces seed e =
    let counted = exactly_ok 1 pieces _ seed e in
    next_ok seed_field pieces _ seed _
    (λ p1 read r1 cut1 read1 e.
    let last : r1 ≡ [] = no_piece r1 (omega (arith, counted.0, ap length cut1)) in
    let same : read ≡ seed = ok_same _ _ e in
    piece_is cut1 (ap hex_text (sym same) ∙ seed_ok p1 read read1) (sym last))
    counted.1

-- ---- keys

-- a key line that was read: the pool grew, over each longer pool the key has the line's pieces, and
-- it is within its limits where a line that draws from the seed has one
pub record IsKey (old new : List ℕ) (draws : Bool) (key : KeyLine) (pieces : List (List ℕ)) : Type 0 where
  pub grown : IsFront old new
  pub spelled : (whole : List ℕ) → IsFront new whole → key_pieces whole key ≡ pieces
  pub within : (seed : Option (List ℕ)) (size : ℕ) → length new ≤ size → (draws ≡ true → IsSome seed)
      → IsKeyWithin seed size key

record IsBytes (old new : List ℕ) (bytes : Span) (pieces : List (List ℕ)) : Type 0 where
  grown : IsFront old new
  spelled : (whole : List ℕ) → IsFront new whole → span_text whole bytes ∷ [] ≡ pieces
  within : (size : ℕ) → length new ≤ size → IsField most_field size bytes

key_bytes_ok : (pool : List ℕ) (pieces : List (List ℕ)) (bytes : Span) (new : List ℕ)
    → key_bytes pool pieces ≡ Ok (bytes, new) → IsBytes pool new bytes pieces
unfolding key_bytes
key_bytes_ok pool pieces span new e =
    let counted = exactly_ok 1 pieces _ (span, new) e in
    next_ok (bytes most_field pool) pieces _ (span, new) _
    (λ p1 read r1 cut1 read1 e.
    let field = bytes_ok most_field pool p1 read read1 in
    let last : r1 ≡ [] = no_piece r1 (omega (arith, counted.0, ap length cut1)) in
    let IsRead : Span × List ℕ → Type 0 = λ line. IsBytes pool line.1 line.0 pieces in
    subst IsRead (ok_same _ _ e) record {
      grown = field.grown;
      spelled = λ whole h. piece_is cut1 (field.spelled whole h) (sym last);
      within = λ size long. field_within most_field pool p1 read size field long;
    })
    counted.1

-- a word alone
abbrev alone_read : KeyLine → List ℕ → List (List ℕ) → Result (KeyLine × List ℕ) Reason
alone_read key pool pieces = do
  pieces ← exactly 0 pieces
  Ok (key, pool)

alone : (key read : KeyLine) (word : List ℕ) (draws : Bool)
    → ((whole : List ℕ) → key_pieces whole key ≡ word ∷ [])
    → ((seed : Option (List ℕ)) (size : ℕ) → (draws ≡ true → IsSome seed) → IsKeyWithin seed size key)
    → (pool new : List ℕ) (pieces : List (List ℕ)) → alone_read key pool pieces ≡ Ok (read, new)
    → IsKey pool new draws read (word ∷ pieces)
alone key read word draws text within pool new pieces e =
    let counted = exactly_ok 0 pieces _ (read, new) e in
    let IsRead : KeyLine × List ℕ → Type 0 = λ line. IsKey pool line.1 draws line.0 (word ∷ pieces) in
    subst IsRead (ok_same _ _ counted.1) record {
      grown = IsFront-same pool;
      spelled = λ whole h.
          text whole ∙ ap (λ (pieces : List (List ℕ)). word ∷ pieces) (sym (no_piece pieces counted.0));
      within = λ seed size long given. within seed size given;
    }

-- a word and HEX
abbrev bytes_read : (Span → KeyLine) → List ℕ → List (List ℕ) → Result (KeyLine × List ℕ) Reason
bytes_read key_of pool pieces = do
  (bytes, pool) ← key_bytes pool pieces
  Ok (key_of bytes, pool)

of_bytes : (key_of : Span → KeyLine) (read : KeyLine) (word : List ℕ) (draws : Bool)
    → ((whole : List ℕ) (bytes : Span) → key_pieces whole (key_of bytes) ≡ word ∷ span_text whole bytes ∷ [])
    → ((seed : Option (List ℕ)) (size : ℕ) (bytes : Span) → IsField most_field size bytes
    → IsKeyWithin seed size (key_of bytes))
    → (pool new : List ℕ) (pieces : List (List ℕ)) → bytes_read key_of pool pieces ≡ Ok (read, new)
    → IsKey pool new draws read (word ∷ pieces)
of_bytes key_of read word draws text within pool new pieces e =
    let found = step_ok (key_bytes pool pieces) _ (read, new) e in
    let bytes = key_bytes_ok pool pieces found.0.0 found.0.1 found.1 in
    let IsRead : KeyLine × List ℕ → Type 0 = λ line. IsKey pool line.1 draws line.0 (word ∷ pieces) in
    subst IsRead (ok_same _ _ found.2) record {
      grown = bytes.grown;
      spelled = λ whole h.
          text whole found.0.0 ∙ ap (λ (pieces : List (List ℕ)). word ∷ pieces) (bytes.spelled whole h);
      within = λ seed size long given. within seed size found.0.0 (bytes.within size long);
    }

-- a line has the set and the source that it was made of
set_is : (set : KeySet) (source : KeySource) → set_of (key_line set source) ≡ set
set_is Sntrup761 sources.Generate = refl
set_is Sntrup761 source = refl
set_is Sntrup857 sources.Generate = refl
set_is Sntrup857 source = refl

source_is : (set : KeySet) (source : KeySource) → source_of (key_line set source) ≡ source
source_is Sntrup761 sources.Generate = refl
source_is Sntrup761 source = refl
source_is Sntrup857 sources.Generate = refl
source_is Sntrup857 source = refl

pieces_of : (set : KeySet) (source : KeySource) (whole : List ℕ)
    → key_pieces whole (key_line set source) ≡ source_pieces whole set source
pieces_of set source whole = λ i. source_pieces whole (set_is set source i) (source_is set source i)

within_of : (set : KeySet) (source : KeySource) (seed : Option (List ℕ)) (size : ℕ)
    → IsSourceWithin seed size source → IsKeyWithin seed size (key_line set source)
within_of set source seed size = subst (IsSourceWithin seed size) (sym (source_is set source))

pub key_ok : (word : KeyWord) (pool : List ℕ) (pieces : List (List ℕ)) (read : KeyLine) (new : List ℕ)
    → key word pool pieces ≡ Ok (read, new)
    → IsKey pool new (key_draws word) read (key_word_text word ∷ pieces)
key_ok (Generate set) pool pieces read new e =
    alone (key_line set sources.Generate) read _ _ (pieces_of set sources.Generate)
    (λ seed size given. within_of set sources.Generate seed size (given refl)) pool new pieces e
key_ok (Secret set) pool pieces read new e =
    of_bytes (λ bytes. key_line set (sources.Secret bytes)) read _ _
    (λ whole bytes. pieces_of set (sources.Secret bytes) whole)
    (λ seed size bytes h. within_of set (sources.Secret bytes) seed size h) pool new pieces e
key_ok (Peer set) pool pieces read new e =
    of_bytes (λ bytes. key_line set (sources.Peer bytes)) read _ _
    (λ whole bytes. pieces_of set (sources.Peer bytes) whole)
    (λ seed size bytes h. within_of set (sources.Peer bytes) seed size h) pool new pieces e
