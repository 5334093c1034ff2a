-- The pieces of a capsule line are those of what it spells.
use Rattle.std.proofs.Common.{◌≡◌, ◌≢◌, ℕ, ◌≤◌, true, List, [], ◌∷◌, length, codes, decimal, Option, None, Some, ok_or, Ok, refl, sym, ap, subst, ◌∙◌, lit<, arith}
use Rattle.std.specs.Prelude.{IsSome}
use Rattle.hkdf_labelled.specs.Suites.{aead_id, aead_named}
use Rattle.hkdf_labelled.proofs.Numbers.{named_back}
use Rattle.hkdf_labelled.specs.declared.suites.Aead.{Aead}
use Rattle.hkdf_labelled.specs.declared.suites.Aead.TheVariants.{ExportOnly}
use Rattle.field_text.specs.declared.reasons.Reason.TheVariants.{Range}
use Rattle.field_text.specs.Fields.{number, bytes}
use Rattle.field_text.proofs.Spellings.{ok_same, step_ok, word_ok, next_ok, exactly_ok, number_ok, bytes_ok, IsFront, IsFront-then}
use Rattle.field_text.proofs.SpelledLines.{no_piece}
use Rattle.batch_plans.specs.Limits.{most_field}
use Rattle.request_frames.specs.KeyWords.{kdf}
use Rattle.request_frames.specs.KeyForms.{message}
use Rattle.request_frames.proofs.SpelledKeyFields.{kdf_ok, message_ok, piece_is, front_length, field_within}
use Rattle.capsule_frames.specs.declared.words.LineWord.{LineWord}
use Rattle.capsule_frames.specs.declared.words.LineWord.TheVariants.{Capsule}
use Rattle.capsule_frames.specs.declared.words.CapsuleWord.{CapsuleWord}
use Rattle.capsule_frames.specs.declared.words.CapsuleWord.TheVariants as words
use Rattle.capsule_frames.specs.declared.lines.CapsuleLine.{CapsuleLine}
use Rattle.capsule_frames.specs.Words.{word_text, word_among, draws}
use Rattle.capsule_frames.specs.Forms.{most_text, most_request, most_response, cipher, ask, answer, take_line, capsule}
use Rattle.capsule_frames.specs.Capsules.{is_of}
use Rattle.capsule_frames.specs.PlanText.{capsule_pieces}
use Rattle.capsule_frames.specs.Within.{IsLineWithin}

pub among_ok : (words : List LineWord) (piece : List ℕ) (word : LineWord)
    → word_among words piece ≡ Ok word → word_text word ≡ piece
among_ok [] piece word e = absurd cc
among_ok (first ∷ more) piece word e =
    word_ok (word_text first) piece first word (word_among more piece) _
    (λ is same. ap word_text (sym same) ∙ sym is) (λ rest. among_ok more piece word rest) e

-- ---- capsules

some_named : (found : Option Aead) (value : Aead) → ok_or found Range ≡ Ok value → found ≡ Some value
some_named None value e = absurd cc
some_named (Some x) value e = cc

-- the number of an export-only suite is none of 1 and 2
encrypts : (id : ℕ) → 65535 ≡ id → id ≤ 2 → ⊥
encrypts id e most = absurd (omega arith)

record IsCipher (piece : List ℕ) (value : Aead) : Type 0 where
  spelled : decimal (aead_id value) ≡ piece
  can : value ≢ ExportOnly

cipher_ok : (piece : List ℕ) (value : Aead) → cipher piece ≡ Ok value → IsCipher piece value
cipher_ok piece value e =
    let found = step_ok (number 1 2 piece) _ value e in
    let id = number_ok 1 2 piece found.0 (lit< tt) found.1 in
    let back : aead_id value ≡ found.0 = named_back found.0 value (some_named (aead_named found.0) value found.2) in
    record {
      spelled = ap decimal back ∙ id.spelled;
      can = λ e. encrypts found.0 (sym (ap aead_id e) ∙ back) id.most;
    }

-- a capsule line that was read: its kind, its pieces, and its limits
pub record IsCapsule (old new : List ℕ) (word : CapsuleWord) (line : CapsuleLine)
    (pieces : List (List ℕ)) : Type 0 where
  pub grown : IsFront old new
  pub kind : (w : CapsuleWord) → is_of w line ≡ true → w ≡ word
  pub spelled : (whole : List ℕ) → IsFront new whole → capsule_pieces whole line ≡ pieces
  pub within : (seed : Option (List ℕ)) (size : ℕ) → length new ≤ size
      → (draws (Capsule word) ≡ true → IsSome seed) → IsLineWithin seed size line

ask_ok : (pool : List ℕ) (pieces : List (List ℕ)) (line : CapsuleLine) (new : List ℕ)
    → ask pool pieces ≡ Ok (line, new) → IsCapsule pool new words.Ask line (codes "ask" ∷ pieces)
unfolding ask
ask_ok pool pieces line new e =
    let counted = exactly_ok 5 pieces _ (line, new) e in
    next_ok (number 0 65535) pieces _ (line, new) _
    (λ p1 key r1 cut1 read1 e.
    next_ok (number 0 255) r1 _ (line, new) _
    (λ p2 id r2 cut2 read2 e.
    next_ok kdf r2 _ (line, new) _
    (λ p3 kdf r3 cut3 read3 e.
    next_ok cipher r3 _ (line, new) _
    (λ p4 aead r4 cut4 read4 e.
    next_ok (bytes most_text pool) r4 _ (line, new) _
    (λ p5 text r5 cut5 read5 e.
    let field1 = number_ok 0 65535 p1 key (lit< tt) read1 in
    let field2 = number_ok 0 255 p2 id (lit< tt) read2 in
    let field4 = cipher_ok p4 aead read4 in
    let field5 = bytes_ok most_text pool p5 text read5 in
    let last : r5 ≡ [] = no_piece r5 (omega (
      arith,
      counted.0,
      ap length cut1,
      ap length cut2,
      ap length cut3,
      ap length cut4,
      ap length cut5,
    )) in
    let IsRead : CapsuleLine × List ℕ → Type 0 =
    λ read. IsCapsule pool read.1 words.Ask read.0 (codes "ask" ∷ pieces) in
    subst IsRead (ok_same _ _ e) record {
      grown = field5.grown;
      kind = elim [
        | words.Ask ↦ λ e. refl
        | words.Answer ↦ λ e. absurd cc
        | words.Take ↦ λ e. absurd cc
      ];
      spelled = λ whole h.
          ap (λ (pieces : List (List ℕ)). codes "ask" ∷ pieces)
          (piece_is cut1 field1.spelled (piece_is cut2 field2.spelled (piece_is cut3 (kdf_ok p3 kdf read3)
          (piece_is cut4 field4.spelled (piece_is cut5 (field5.spelled whole h) (sym last))))));
      within = λ seed size long given. (
        field1.most,
        field2.most,
        field4.can,
        field_within most_text pool p5 text size field5 long,
        given refl,
      );
    })
    e) e) e) e)
    counted.1

answer_ok : (pool : List ℕ) (pieces : List (List ℕ)) (line : CapsuleLine) (new : List ℕ)
    → answer pool pieces ≡ Ok (line, new)
    → IsCapsule pool new words.Answer line (codes "answer" ∷ pieces)
unfolding answer
answer_ok pool pieces line new e =
    let counted = exactly_ok 5 pieces _ (line, new) e in
    next_ok (number 0 65535) pieces _ (line, new) _
    (λ p1 key r1 cut1 read1 e.
    next_ok (number 0 255) r1 _ (line, new) _
    (λ p2 id r2 cut2 read2 e.
    next_ok (message most_request pool) r2 _ (line, new) _
    (λ p3 request r3 cut3 read3 e.
    next_ok (bytes most_field request.1) r3 _ (line, new) _
    (λ p4 nonce r4 cut4 read4 e.
    next_ok (bytes most_text nonce.pool) r4 _ (line, new) _
    (λ p5 text r5 cut5 read5 e.
    let field1 = number_ok 0 65535 p1 key (lit< tt) read1 in
    let field2 = number_ok 0 255 p2 id (lit< tt) read2 in
    let field3 = message_ok most_request pool p3 request.0 request.1 read3 in
    let field4 = bytes_ok most_field request.1 p4 nonce read4 in
    let field5 = bytes_ok most_text nonce.pool p5 text read5 in
    let from_request = IsFront-then request.1 nonce.pool text.pool field4.grown field5.grown in
    let few3 = front_length request.1 text.pool from_request in
    let few4 = front_length nonce.pool text.pool field5.grown in
    let last : r5 ≡ [] = no_piece r5 (omega (
      arith,
      counted.0,
      ap length cut1,
      ap length cut2,
      ap length cut3,
      ap length cut4,
      ap length cut5,
    )) in
    let IsRead : CapsuleLine × List ℕ → Type 0 =
    λ read. IsCapsule pool read.1 words.Answer read.0 (codes "answer" ∷ pieces) in
    subst IsRead (ok_same _ _ e) record {
      grown = IsFront-then pool request.1 text.pool field3.grown from_request;
      kind = elim [
        | words.Ask ↦ λ e. absurd cc
        | words.Answer ↦ λ e. refl
        | words.Take ↦ λ e. absurd cc
      ];
      spelled = λ whole h.
          let is3 = field3.spelled whole (IsFront-then request.1 text.pool whole from_request h) in
          let is4 = field4.spelled whole (IsFront-then nonce.pool text.pool whole field5.grown h) in
          ap (λ (pieces : List (List ℕ)). codes "answer" ∷ pieces)
          (piece_is cut1 field1.spelled (piece_is cut2 field2.spelled (piece_is cut3 is3
          (piece_is cut4 is4 (piece_is cut5 (field5.spelled whole h) (sym last))))));
      within = λ seed size long given. (
        field1.most,
        field2.most,
        field3.within size (omega (arith, few3, long)),
        field_within most_field request.1 p4 nonce size field4 (omega (arith, few4, long)),
        field_within most_text nonce.pool p5 text size field5 long,
      );
    })
    e) e) e) e)
    counted.1

take_ok : (pool : List ℕ) (pieces : List (List ℕ)) (line : CapsuleLine) (new : List ℕ)
    → take_line pool pieces ≡ Ok (line, new)
    → IsCapsule pool new words.Take line (codes "take" ∷ pieces)
unfolding take_line
take_ok pool pieces line new e =
    let counted = exactly_ok 2 pieces _ (line, new) e in
    next_ok (number 0 65535) pieces _ (line, new) _
    (λ p1 ask r1 cut1 read1 e.
    next_ok (message most_response pool) r1 _ (line, new) _
    (λ p2 response r2 cut2 read2 e.
    let field1 = number_ok 0 65535 p1 ask (lit< tt) read1 in
    let field2 = message_ok most_response pool p2 response.0 response.1 read2 in
    let last : r2 ≡ [] = no_piece r2 (omega (arith, counted.0, ap length cut1, ap length cut2)) in
    let IsRead : CapsuleLine × List ℕ → Type 0 =
    λ read. IsCapsule pool read.1 words.Take read.0 (codes "take" ∷ pieces) in
    subst IsRead (ok_same _ _ e) record {
      grown = field2.grown;
      kind = elim [
        | words.Ask ↦ λ e. absurd cc
        | words.Answer ↦ λ e. absurd cc
        | words.Take ↦ λ e. refl
      ];
      spelled = λ whole h.
          ap (λ (pieces : List (List ℕ)). codes "take" ∷ pieces)
          (piece_is cut1 field1.spelled (piece_is cut2 (field2.spelled whole h) (sym last)));
      within = λ seed size long given. (field1.most, field2.within size long);
    })
    e)
    counted.1

pub capsule_ok : (word : CapsuleWord) (pool : List ℕ) (pieces : List (List ℕ)) (line : CapsuleLine)
    (new : List ℕ) → capsule word pool pieces ≡ Ok (line, new)
    → IsCapsule pool new word line (word_text (Capsule word) ∷ pieces)
capsule_ok words.Ask pool pieces line new e = ask_ok pool pieces line new e
capsule_ok words.Answer pool pieces line new e = answer_ok pool pieces line new e
capsule_ok words.Take pool pieces line new e = take_ok pool pieces line new e
