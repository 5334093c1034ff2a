-- The pieces of a context line are those of what it spells.
use Rattle.std.proofs.Common.{◌≡◌, ℕ, ◌≤◌, Bool, true, List, [], ◌∷◌, length, drop, codes, decimal, Option, Some, Ok, refl, sym, ap, subst, ◌∙◌, lit<, arith}
use Rattle.std.specs.Prelude.{IsSome}
use Rattle.hkdf_labelled.specs.Suites.{kdf_id, aead_id}
use Rattle.hkdf_labelled.specs.declared.suites.Kdf.{Kdf}
use Rattle.hkdf_labelled.specs.declared.suites.Aead.{Aead}
use Rattle.field_text.specs.Fields.{number, bytes}
use Rattle.field_text.proofs.Spellings.{ok_same, next_ok, exactly_ok, number_ok, bytes_ok, IsFront, IsFront-then}
use Rattle.field_text.proofs.SpelledLines.{no_piece}
use Rattle.batch_plans.specs.declared.plan.ContextKind.{ContextKind}
use Rattle.batch_plans.specs.declared.plan.ContextKind.TheVariants as kinds
use Rattle.batch_plans.specs.declared.plan.ContextLine.{ContextLine}
use Rattle.batch_plans.specs.Limits.{most_field}
use Rattle.batch_plans.specs.Within.{IsKindWithin, IsContextWithin}
use Rattle.request_frames.specs.KeyWords.{kdf}
use Rattle.request_frames.specs.KeyForms.{message}
use Rattle.request_frames.proofs.SpelledKeyFields.{kdf_ok, message_ok, piece_is, front_length, field_within}
use Rattle.request_frames.specs.declared.words.LineWord.TheVariants.{Context}
use Rattle.request_frames.specs.declared.words.ContextWord.{ContextWord}
use Rattle.request_frames.specs.declared.words.ContextWord.TheVariants.{Share, Send, Recv}
use Rattle.request_frames.specs.Words.{word_text, draws, role, mode, aead}
use Rattle.request_frames.specs.Forms.{schedule, share, send, recv, context}
use Rattle.request_frames.specs.PlanText.{schedule_pieces, context_fields, context_pieces, added_pieces}
use Rattle.request_frames.specs.LivePlans.{IsShare}
use Rattle.request_frames.proofs.SpelledFields.{role_ok, mode_ok, aead_ok}

-- ---- the end of each context line

-- `MODE INFO PSK PSKID LIMIT`, behind what the line says before
record IsSchedule (kind : ContextKind) (kdf : Kdf) (aead : Aead) (old new : List ℕ) (line : ContextLine) (pieces : List (List ℕ)) : Type 0 where
  kind_is : line.kind ≡ kind
  kdf_is : line.kdf ≡ kdf
  aead_is : line.aead ≡ aead
  grown : IsFront old new
  spelled : (whole : List ℕ) → IsFront new whole → schedule_pieces whole line ≡ pieces
  within : (seed : Option (List ℕ)) (size : ℕ) → length new ≤ size → IsKindWithin seed size kind → IsContextWithin seed size line

schedule_ok : (kind : ContextKind) (kdf : Kdf) (aead : Aead) (pool : List ℕ) (pieces : List (List ℕ)) (line : ContextLine) (new : List ℕ) → length pieces ≡ 5
    → schedule kind kdf aead pool pieces ≡ Ok (line, new) → IsSchedule kind kdf aead pool new line pieces
unfolding schedule
schedule_ok kind kdf aead pool pieces line new five e =
    next_ok mode pieces _ (line, new) _
    (λ p1 mode r1 cut1 read1 e.
    next_ok (bytes most_field pool) r1 _ (line, new) _
    (λ p2 info r2 cut2 read2 e.
    next_ok (bytes most_field info.pool) r2 _ (line, new) _
    (λ p3 psk r3 cut3 read3 e.
    next_ok (bytes most_field psk.pool) r3 _ (line, new) _
    (λ p4 psk_id r4 cut4 read4 e.
    next_ok (number 1 18446744073709551615) r4 _ (line, new) _
    (λ p5 limit r5 cut5 read5 e.
    let field2 = bytes_ok most_field pool p2 info read2 in
    let field3 = bytes_ok most_field info.pool p3 psk read3 in
    let field4 = bytes_ok most_field psk.pool p4 psk_id read4 in
    let field5 = number_ok 1 18446744073709551615 p5 limit (lit< tt) read5 in
    let from_info = IsFront-then info.pool psk.pool psk_id.pool field3.grown field4.grown in
    let few2 = front_length info.pool psk_id.pool from_info in
    let few3 = front_length psk.pool psk_id.pool field4.grown in
    let last : r5 ≡ [] = no_piece r5 (omega (arith, five, ap length cut1, ap length cut2, ap length cut3, ap length cut4, ap length cut5)) in
    let IsRead : ContextLine × List ℕ → Type 0 = λ read. IsSchedule kind kdf aead pool read.1 read.0 pieces in
    subst IsRead (ok_same _ _ e) record {
      kind_is = refl;
      kdf_is = refl;
      aead_is = refl;
      grown = IsFront-then pool info.pool psk_id.pool field2.grown from_info;
      spelled = λ whole h.
          let is2 = field2.spelled whole (IsFront-then info.pool psk_id.pool whole from_info h) in
          let is3 = field3.spelled whole (IsFront-then psk.pool psk_id.pool whole field4.grown h) in
          piece_is cut1 (mode_ok p1 mode read1)
          (piece_is cut2 is2 (piece_is cut3 is3 (piece_is cut4 (field4.spelled whole h) (piece_is cut5 field5.spelled (sym last)))));
      within = λ seed size long first. record {
        kind = first;
        info = field_within most_field pool p2 info size field2 (omega (arith, few2, long));
        psk = field_within most_field info.pool p3 psk size field3 (omega (arith, few3, long));
        psk_id = field_within most_field psk.pool p4 psk_id size field4 long;
        limit_least = field5.least;
        limit_most = omega (arith, field5.most);
      };
    })
    e) e) e) e)
    e

-- ---- each context line

-- a context line that was read: the pool grew, over each longer pool the line has these pieces, and it is
-- within its limits where a line that draws from the seed has one
pub record IsContext (old new : List ℕ) (draws : Bool) (line : ContextLine) (pieces : List (List ℕ)) : Type 0 where
  pub grown : IsFront old new
  pub spelled : (whole : List ℕ) → IsFront new whole → context_pieces whole line line.kind ≡ pieces
  pub within : (seed : Option (List ℕ)) (size : ℕ) → length new ≤ size → (draws ≡ true → IsSome seed) → IsContextWithin seed size line

-- the same of a line `share`, whatever draws from the seed, and its kind
record IsShared (old new : List ℕ) (line : ContextLine) (pieces : List (List ℕ)) : Type 0 where
  grown : IsFront old new
  spelled : (whole : List ℕ) → IsFront new whole → context_pieces whole line line.kind ≡ codes "share" ∷ pieces
  within : (seed : Option (List ℕ)) (size : ℕ) → length new ≤ size → IsContextWithin seed size line
  shared : IsShare line.kind

share_ok : (pool : List ℕ) (pieces : List (List ℕ)) (line : ContextLine) (new : List ℕ) → share pool pieces ≡ Ok (line, new) → IsShared pool new line pieces
unfolding share
share_ok pool pieces line new e =
    let counted = exactly_ok 10 pieces _ (line, new) e in
    next_ok role pieces _ (line, new) _
    (λ p1 role r1 cut1 read1 e.
    next_ok (number 0 65535) r1 _ (line, new) _
    (λ p2 kem r2 cut2 read2 e.
    next_ok kdf r2 _ (line, new) _
    (λ p3 kdf r3 cut3 read3 e.
    next_ok aead r3 _ (line, new) _
    (λ p4 aead r4 cut4 read4 e.
    next_ok (bytes most_field pool) r4 _ (line, new) _
    (λ p5 secret r5 cut5 read5 e.
    let five : length r5 ≡ 5 = omega (arith, counted.0, ap length cut1, ap length cut2, ap length cut3, ap length cut4, ap length cut5) in
    let rest = schedule_ok (kinds.Share role kem secret.span) kdf aead secret.pool r5 line new five e in
    let field2 = number_ok 0 65535 p2 kem (lit< tt) read2 in
    let field5 = bytes_ok most_field pool p5 secret read5 in
    let few = front_length secret.pool new rest.grown in
    record {
      grown = IsFront-then pool secret.pool new field5.grown rest.grown;
      spelled = λ whole h.
          let is3 = ap (λ (kdf : Kdf). decimal (kdf_id kdf)) rest.kdf_is ∙ kdf_ok p3 kdf read3 in
          let is4 = ap (λ (aead : Aead). decimal (aead_id aead)) rest.aead_is ∙ aead_ok p4 aead read4 in
          let is5 = field5.spelled whole (IsFront-then secret.pool new whole rest.grown h) in
          let from3 = piece_is cut3 is3 (piece_is cut4 is4 (piece_is cut5 is5 (rest.spelled whole h))) in
          ap (context_pieces whole line) rest.kind_is
          ∙ ap (λ (pieces : List (List ℕ)). codes "share" ∷ pieces) (piece_is cut1 (role_ok p1 role read1) (piece_is cut2 field2.spelled from3));
      within = λ seed size long.
          rest.within seed size long (omega (arith, field2.most), field_within most_field pool p5 secret size field5 (omega (arith, few, long)));
      shared = subst IsShare (sym rest.kind_is) tt;
    })
    e) e) e) e)
    counted.1

-- the same fields behind `add`
pub record IsAdded (old new : List ℕ) (line : ContextLine) (pieces : List (List ℕ)) : Type 0 where
  pub grown : IsFront old new
  pub spelled : (whole : List ℕ) → IsFront new whole → added_pieces whole (Some line) ≡ codes "add" ∷ pieces
  pub within : (seed : Option (List ℕ)) (size : ℕ) → length new ≤ size → IsContextWithin seed size line
  pub shared : IsShare line.kind

fields_same : (one other : List ℕ) (xs ys : List (List ℕ)) → ◌≡◌ {A = List (List ℕ)} (one ∷ xs) (other ∷ ys) → xs ≡ ys
fields_same one other xs ys e = ap (λ (pieces : List (List ℕ)). drop 1 pieces) e

pub added_ok : (pool : List ℕ) (pieces : List (List ℕ)) (line : ContextLine) (new : List ℕ) → share pool pieces ≡ Ok (line, new) → IsAdded pool new line pieces
added_ok pool pieces line new e =
    let read = share_ok pool pieces line new e in
    record {
      grown = read.grown;
      spelled = λ whole h.
          let fields : context_fields whole line line.kind ≡ pieces = fields_same _ _ _ _ (read.spelled whole h) in
          ap (λ (pieces : List (List ℕ)). codes "add" ∷ pieces) fields;
      within = read.within;
      shared = read.shared;
    }

send_ok : (pool : List ℕ) (pieces : List (List ℕ)) (line : ContextLine) (new : List ℕ) → send pool pieces ≡ Ok (line, new)
    → IsContext pool new true line (codes "send" ∷ pieces)
unfolding send
send_ok pool pieces line new e =
    let counted = exactly_ok 8 pieces _ (line, new) e in
    next_ok kdf pieces _ (line, new) _
    (λ p1 kdf r1 cut1 read1 e.
    next_ok aead r1 _ (line, new) _
    (λ p2 aead r2 cut2 read2 e.
    next_ok (number 0 65535) r2 _ (line, new) _
    (λ p3 key r3 cut3 read3 e.
    let five : length r3 ≡ 5 = omega (arith, counted.0, ap length cut1, ap length cut2, ap length cut3) in
    let rest = schedule_ok (kinds.Send key) kdf aead pool r3 line new five e in
    let field3 = number_ok 0 65535 p3 key (lit< tt) read3 in
    record {
      grown = rest.grown;
      spelled = λ whole h.
          let is1 = ap (λ (kdf : Kdf). decimal (kdf_id kdf)) rest.kdf_is ∙ kdf_ok p1 kdf read1 in
          let is2 = ap (λ (aead : Aead). decimal (aead_id aead)) rest.aead_is ∙ aead_ok p2 aead read2 in
          ap (context_pieces whole line) rest.kind_is
          ∙ ap (λ (pieces : List (List ℕ)). codes "send" ∷ pieces)
          (piece_is cut1 is1 (piece_is cut2 is2 (piece_is cut3 field3.spelled (rest.spelled whole h))));
      within = λ seed size long given. rest.within seed size long (field3.most, given refl);
    })
    e) e)
    counted.1

recv_ok : (pool : List ℕ) (pieces : List (List ℕ)) (line : ContextLine) (new : List ℕ) (draws : Bool) → recv pool pieces ≡ Ok (line, new)
    → IsContext pool new draws line (codes "recv" ∷ pieces)
unfolding recv
recv_ok pool pieces line new draws e =
    let counted = exactly_ok 9 pieces _ (line, new) e in
    next_ok kdf pieces _ (line, new) _
    (λ p1 kdf r1 cut1 read1 e.
    next_ok aead r1 _ (line, new) _
    (λ p2 aead r2 cut2 read2 e.
    next_ok (number 0 65535) r2 _ (line, new) _
    (λ p3 key r3 cut3 read3 e.
    next_ok (message most_field pool) r3 _ (line, new) _
    (λ p4 enc r4 cut4 read4 e.
    let five : length r4 ≡ 5 = omega (arith, counted.0, ap length cut1, ap length cut2, ap length cut3, ap length cut4) in
    let rest = schedule_ok (kinds.Recv key enc.0) kdf aead enc.1 r4 line new five e in
    let field3 = number_ok 0 65535 p3 key (lit< tt) read3 in
    let field4 = message_ok most_field pool p4 enc.0 enc.1 read4 in
    let few = front_length enc.1 new rest.grown in
    record {
      grown = IsFront-then pool enc.1 new field4.grown rest.grown;
      spelled = λ whole h.
          let is1 = ap (λ (kdf : Kdf). decimal (kdf_id kdf)) rest.kdf_is ∙ kdf_ok p1 kdf read1 in
          let is2 = ap (λ (aead : Aead). decimal (aead_id aead)) rest.aead_is ∙ aead_ok p2 aead read2 in
          let is4 = field4.spelled whole (IsFront-then enc.1 new whole rest.grown h) in
          let from3 = piece_is cut3 field3.spelled (piece_is cut4 is4 (rest.spelled whole h)) in
          ap (context_pieces whole line) rest.kind_is
          ∙ ap (λ (pieces : List (List ℕ)). codes "recv" ∷ pieces) (piece_is cut1 is1 (piece_is cut2 is2 from3));
      within = λ seed size long given. rest.within seed size long (field3.most, field4.within size (omega (arith, few, long)));
    })
    e) e) e)
    counted.1

pub context_ok : (word : ContextWord) (pool : List ℕ) (pieces : List (List ℕ)) (line : ContextLine) (new : List ℕ) → context word pool pieces ≡ Ok (line, new)
    → IsContext pool new (draws (Context word)) line (word_text (Context word) ∷ pieces)
context_ok Share pool pieces line new e =
    let read = share_ok pool pieces line new e in
    record { grown = read.grown; spelled = read.spelled; within = λ seed size long given. read.within seed size long }
context_ok Send pool pieces line new e = send_ok pool pieces line new e
context_ok Recv pool pieces line new e = recv_ok pool pieces line new _ e
