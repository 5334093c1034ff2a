-- The piece that was read as a word or a number is that of its value.
use Rattle.std.proofs.Common.{◌≡◌, ℕ, ◌+◌, ◌-◌, ◌<◌, ◌&&◌, nat_lt, Bool, false, true, List, [], ◌∷◌, ◌++◌, drop, codes, decimal, Option, None, Some, ok_or, Ok, Err, refl, sym, ap, subst, ◌∙◌, lit<, arith}
use Rattle.std.proofs.lemmas.Bool.{eqb-true, and_parts, lt-ltb}
use Rattle.std.proofs.lemmas.Bool.Decides.{nat_tests}
use Rattle.hkdf_labelled.specs.Suites.{aead_id, aead_named}
use Rattle.hkdf_labelled.proofs.Numbers.{named_back}
use Rattle.hkdf_labelled.specs.declared.suites.Aead.{Aead}
use Rattle.key_schedule.specs.declared.modes.Role.{Role}
use Rattle.key_schedule.specs.declared.modes.Role.TheVariants.{Sender, Recipient}
use Rattle.key_schedule.specs.declared.modes.Mode.{Mode}
use Rattle.key_schedule.specs.declared.modes.Mode.TheVariants.{Base, Psk}
use Rattle.field_text.specs.declared.reasons.Reason.TheVariants.{Word, Number, Range}
use Rattle.field_text.specs.Fields.{number}
use Rattle.field_text.proofs.Spellings.{ok_same, step_ok, choice_ok, word_ok, number_ok}
use Rattle.batch_plans.specs.Limits.{first_name}
use Rattle.batch_plans.specs.Within.{IsNumber}
use Rattle.request_frames.specs.declared.words.LineWord.{LineWord}
use Rattle.request_frames.specs.Words.{word_text, word_among, role, mode, aead}
use Rattle.request_frames.specs.Forms.{is_name, name, named, ctx}
use Rattle.request_frames.specs.PlanText.{role_word, mode_word, ctx_text}

-- ---- words

pub among_ok : (words : List LineWord) (piece : List ℕ) (word : LineWord) → word_among words piece ≡ Ok word → word_text word ≡ piece
among_ok [] piece word e = absurd cc
among_ok (first ∷ more) piece word e =
    word_ok (word_text first) piece first word (word_among more piece) _ (λ is same. ap word_text (sym same) ∙ sym is) (λ rest. among_ok more piece word rest) e

pub role_ok : (piece : List ℕ) (value : Role) → role piece ≡ Ok value → role_word value ≡ piece
role_ok piece value e =
    word_ok (codes "send") piece Sender value _ _ (λ is same. ap role_word (sym same) ∙ sym is)
    (λ rest.
    word_ok (codes "recv") piece Recipient value (Err Word) _ (λ is same. ap role_word (sym same) ∙ sym is) (λ err. absurd cc) rest)
    e

pub mode_ok : (piece : List ℕ) (value : Mode) → mode piece ≡ Ok value → mode_word value ≡ piece
mode_ok piece value e =
    word_ok (codes "base") piece Base value _ _ (λ is same. ap mode_word (sym same) ∙ sym is)
    (λ rest.
    word_ok (codes "psk") piece Psk value (Err Word) _ (λ is same. ap mode_word (sym same) ∙ sym is) (λ err. absurd cc) rest)
    e

some_named : (found : Option Aead) (value : Aead) → ok_or found Range ≡ Ok value → found ≡ Some value
some_named None value e = absurd cc
some_named (Some x) value e = cc

pub aead_ok : (piece : List ℕ) (value : Aead) → aead piece ≡ Ok value → decimal (aead_id value) ≡ piece
aead_ok piece value e =
    let found = step_ok (number 1 65535 piece) _ value e in
    ap decimal (named_back found.0 value (some_named (aead_named found.0) value found.2)) ∙ (number_ok 1 65535 piece found.0 (lit< tt) found.1).spelled

-- ---- the context of a call

-- a piece that begins with `+`
name_front : (piece : List ℕ) → is_name piece ≡ true → codes "+" ++ drop 1 piece ≡ piece
name_front [] e = absurd cc
name_front (first ∷ more) e = ap (λ (c : ℕ). c ∷ more) (sym (eqb-true first 43 e))

-- a name that was read
pub record IsName (piece : List ℕ) (value : ℕ) : Type 0 where
  pub low : value < first_name
  pub spelled : codes "+" ++ decimal value ≡ piece

pub name_ok : (piece : List ℕ) (value : ℕ) → name piece ≡ Ok value → IsName piece value
name_ok piece value e =
    choice_ok (is_name piece) (number 0 65535 (drop 1 piece)) (Err Number) value _
    (λ is ok.
    let read = number_ok 0 65535 (drop 1 piece) value (lit< tt) ok in
    record {
      low = omega (arith, read.most);
      spelled = ap (λ (digits : List ℕ). codes "+" ++ digits) read.spelled ∙ name_front piece is;
    })
    (λ _ err. absurd cc) e

low_text : (n : ℕ) → n < first_name → ctx_text n ≡ decimal n
low_text n low = let test : nat_lt n first_name ≡ true = lt-ltb n first_name low in rw test refl

high_text : (k : ℕ) → ctx_text (first_name + k) ≡ codes "+" ++ decimal k
high_text k =
    let test : nat_lt (first_name + k) first_name ≡ false = grind (arith, nat_tests) in
    let same : (first_name + k) - first_name ≡ k = omega arith in
    rw test (ap (λ (n : ℕ). codes "+" ++ decimal n) same)

-- CTX that was read: where no line adds a context, it is the number of a context line
pub record IsCtx (names : Bool) (piece : List ℕ) (value : ℕ) : Type 0 where
  pub within : IsNumber value
  pub plain : names ≡ false → value < first_name
  pub spelled : ctx_text value ≡ piece

line_ok : (names : Bool) (piece : List ℕ) (value : ℕ) → number 0 65535 piece ≡ Ok value → IsCtx names piece value
line_ok names piece value e =
    let read = number_ok 0 65535 piece value (lit< tt) e in
    record {
      within = omega (arith, read.most);
      plain = λ stay. omega (arith, read.most);
      spelled = low_text value (omega (arith, read.most)) ∙ read.spelled;
    }

named_ok : (names : Bool) (piece : List ℕ) (value : ℕ) → names ≡ true → named piece ≡ Ok value → IsCtx names piece value
named_ok names piece value is e =
    let found = step_ok (name piece) _ value e in
    let read = name_ok piece found.0 found.1 in
    subst (IsCtx names piece) (ok_same _ _ found.2) record {
      within = omega (arith, read.low);
      plain = λ stay. absurd (let no : true ≡ false = sym is ∙ stay in cc);
      spelled = high_text found.0 ∙ read.spelled;
    }

pub ctx_ok : (names : Bool) (piece : List ℕ) (value : ℕ) → ctx names piece ≡ Ok value → IsCtx names piece value
ctx_ok names piece value e =
    choice_ok (names && is_name piece) (named piece) (number 0 65535 piece) value _
    (λ is ok. named_ok names piece value (and_parts names (is_name piece) is).0 ok)
    (λ _ ok. line_ok names piece value ok) e
