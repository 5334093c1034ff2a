-- What is printed as a line has one line feed, at its end.
use Rattle.std.proofs.Common.{◌≡◌, ℕ, zero, suc, ◌/◌, ◌%◌, ◌==◌, not, Bool, true, false, cond, List, [], ◌∷◌, ◌++◌, codes, decimal, refl, ap, inl, inr, arith}
use Rattle.std.specs.Fmt.{digits, digits_onto, digit_glyph}
use Rattle.std.specs.List.{list_all}
use Rattle.std.specs.Prelude.{slice_index}
use Rattle.std.proofs.lemmas.Bool.{agree_below_at, and_parts, cases_lt, not-true}
use Rattle.std.proofs.lemmas.Bool.Decides.{nat_tests}
use Rattle.std.proofs.lemmas.List.{get_or_past}
use Rattle.std.proofs.lemmas.List.Elements.{All-cons, All-nil, All-append}
use Rattle.hex.specs.Hex.{encode_with, encode_lower, lower_digits}
use Rattle.hpke_context.specs.Answers.{Answer, Sealed_at, Opened_at, Failed_at, At_limit}
use Rattle.field_text.specs.Printing.{hex_text}
use Rattle.batch_plans.specs.declared.replies.KeyReply.{KeyReply}
use Rattle.batch_plans.specs.declared.replies.KeyReply.TheVariants as keys
use Rattle.batch_plans.specs.declared.replies.ContextReply.{ContextReply}
use Rattle.batch_plans.specs.declared.replies.ContextReply.TheVariants as contexts
use Rattle.batch_plans.specs.declared.replies.KeyRefusal.{KeyRefusal}
use Rattle.batch_plans.specs.declared.replies.KeyRefusal.TheVariants.{Exhausted, NoInverse, Length, Form}
use Rattle.batch_plans.specs.declared.replies.ContextRefusal.{ContextRefusal}
use Rattle.batch_plans.specs.declared.replies.ContextRefusal.TheVariants.{NoKey, NeedSecret, NoEnc, EncSize, PskPair, PskExtra, PskMissing}
use Rattle.batch_plans.specs.declared.replies.CallRefusal.{CallRefusal}
use Rattle.batch_plans.specs.declared.replies.CallRefusal.TheVariants as calls
use Rattle.batch_plans.specs.Words.{key_refusal_word, context_refusal_word, call_refusal_word}
use Rattle.batch_plans.specs.Lines.{key_words, key_line, context_words, context_line, exported_line, refused_line}
use Rattle.context_books.specs.Runs.{answer_line}
use Rattle.result_lines.specs.Printed.{IsLine}
use Rattle.result_lines.proofs.FirstLines.{HasNoFeed}

-- ---- bytes that are no line feed

abbrev is_no_feed : ℕ → Bool
is_no_feed byte = not (byte == 10)

-- a text that a test finds to have none
pub tested : (text : List ℕ) → list_all is_no_feed text ≡ true → HasNoFeed text
tested [] e = All-nil (λ byte. (byte == 10) ≡ false)
tested (c ∷ cs) e =
    let parts = and_parts (is_no_feed c) (list_all is_no_feed cs) e in
    All-cons (λ byte. (byte == 10) ≡ false) c cs (not-true (c == 10) parts.0) (tested cs parts.1)

pub both : (xs ys : List ℕ) → HasNoFeed xs → HasNoFeed ys → HasNoFeed (xs ++ ys)
both xs ys a b = All-append (λ byte. (byte == 10) ≡ false) xs ys a b

glyph_one : (d : ℕ) → (digit_glyph false d == 10) ≡ false
glyph_one d = grind (arith, nat_tests)

digits_one : (k n : ℕ) (acc : List ℕ) → HasNoFeed acc → HasNoFeed (digits_onto k 10 false n acc)
digits_one zero n acc one = one
digits_one (suc k) n acc one =
    let more = All-cons (λ byte. (byte == 10) ≡ false) (digit_glyph false (n % 10)) acc (glyph_one (n % 10)) one in
    elim (n / 10 == 0) as (λ (b : Bool). HasNoFeed (cond b (digit_glyph false (n % 10) ∷ acc) (digits_onto k 10 false (n / 10) (digit_glyph false (n % 10) ∷ acc)))) [
      | true ↦ more
      | false ↦ digits_one k (n / 10) (digit_glyph false (n % 10) ∷ acc) more
    ]

pub decimal_one : (n : ℕ) → HasNoFeed (decimal n)
unfolding digits
decimal_one n = digits_one 64 n [] (All-nil (λ byte. (byte == 10) ≡ false))

hex_digit_one : (k : ℕ) → (slice_index lower_digits k == 10) ≡ false
hex_digit_one k = elim (cases_lt k 16) [
  | inl low ↦ agree_below_at (λ (i : ℕ). slice_index lower_digits i == 10) (λ _. false) 16 k refl low
  | inr high ↦ ap (λ (d : ℕ). d == 10) (get_or_past lower_digits k 0 high)
]

hex_one : (bytes : List ℕ) → HasNoFeed (encode_lower bytes)
unfolding encode_with
hex_one [] = All-nil (λ byte. (byte == 10) ≡ false)
hex_one (b ∷ bytes) =
    All-cons (λ byte. (byte == 10) ≡ false) (slice_index lower_digits (b / 16)) (slice_index lower_digits (b % 16) ∷ encode_lower bytes) (hex_digit_one (b / 16))
    (All-cons (λ byte. (byte == 10) ≡ false) (slice_index lower_digits (b % 16)) (encode_lower bytes) (hex_digit_one (b % 16)) (hex_one bytes))

pub hex_text_one : (bytes : List ℕ) → HasNoFeed (hex_text bytes)
hex_text_one [] = tested (codes "-") refl
hex_text_one (b ∷ bytes) = hex_one (b ∷ bytes)

-- ---- lines of the set-up

key_refusal_one : (refusal : KeyRefusal) → HasNoFeed (key_refusal_word refusal)
key_refusal_one Exhausted = tested (codes "exhausted") refl
key_refusal_one NoInverse = tested (codes "noinverse") refl
key_refusal_one Length = tested (codes "length") refl
key_refusal_one Form = tested (codes "form") refl

context_refusal_one : (refusal : ContextRefusal) → HasNoFeed (context_refusal_word refusal)
context_refusal_one NoKey = tested (codes "nokey") refl
context_refusal_one NeedSecret = tested (codes "needsecret") refl
context_refusal_one NoEnc = tested (codes "noenc") refl
context_refusal_one EncSize = tested (codes "encsize") refl
context_refusal_one PskPair = tested (codes "pskpair") refl
context_refusal_one PskExtra = tested (codes "pskextra") refl
context_refusal_one PskMissing = tested (codes "pskmissing") refl

key_words_one : (reply : KeyReply) → HasNoFeed (key_words reply)
key_words_one (keys.Generated public secret) =
    both ((codes "generated " ++ hex_text public) ++ codes " ") (hex_text secret)
    (both (codes "generated " ++ hex_text public) (codes " ")
    (both (codes "generated ") (hex_text public) (tested (codes "generated ") refl) (hex_text_one public)) (tested (codes " ") refl))
    (hex_text_one secret)
key_words_one (keys.Secret public) = both (codes "secret ") (hex_text public) (tested (codes "secret ") refl) (hex_text_one public)
key_words_one keys.Peer = tested (codes "peer") refl
key_words_one (keys.Refused refusal) = both (codes "refused ") (key_refusal_word refusal) (tested (codes "refused ") refl) (key_refusal_one refusal)

context_words_one : (reply : ContextReply) → HasNoFeed (context_words reply)
context_words_one contexts.Shared = tested (codes "shared") refl
context_words_one (contexts.Sender enc) = both (codes "sender ") (hex_text enc) (tested (codes "sender ") refl) (hex_text_one enc)
context_words_one contexts.Recipient = tested (codes "recipient") refl
context_words_one (contexts.Refused refusal) =
    both (codes "refused ") (context_refusal_word refusal) (tested (codes "refused ") refl) (context_refusal_one refusal)

-- a word, a number, a space and a text
four_parts : (word : List ℕ) (n : ℕ) (text : List ℕ) → list_all is_no_feed word ≡ true → HasNoFeed text
    → HasNoFeed (((word ++ decimal n) ++ codes " ") ++ text)
four_parts word n text plain one =
    both ((word ++ decimal n) ++ codes " ") text
    (both (word ++ decimal n) (codes " ") (both word (decimal n) (tested word plain) (decimal_one n)) (tested (codes " ") refl)) one

-- a word and a number
pub numbered_line : (word : List ℕ) (n : ℕ) → list_all is_no_feed word ≡ true → IsLine ((word ++ decimal n) ++ codes "\n")
numbered_line word n plain =
    record { body = word ++ decimal n; is = refl; one = both word (decimal n) (tested word plain) (decimal_one n) }

pub key_line_is : (number : ℕ) (reply : KeyReply) → IsLine (key_line number reply)
key_line_is number reply = record {
  body = ((codes "key " ++ decimal number) ++ codes " ") ++ key_words reply;
  is = refl;
  one = four_parts (codes "key ") number (key_words reply) refl (key_words_one reply);
}

pub context_line_is : (number : ℕ) (reply : ContextReply) → IsLine (context_line number reply)
context_line_is number reply = record {
  body = ((codes "context " ++ decimal number) ++ codes " ") ++ context_words reply;
  is = refl;
  one = four_parts (codes "context ") number (context_words reply) refl (context_words_one reply);
}

pub end_line_is : IsLine (codes "end\n")
end_line_is = record { body = codes "end"; is = refl; one = tested (codes "end") refl }

-- ---- replies

pub answer_line_is : (answer : Answer) → IsLine (answer_line answer)
answer_line_is (Sealed_at number ct) = record {
  body = ((codes "sealed " ++ decimal number) ++ codes " ") ++ hex_text ct;
  is = refl;
  one = four_parts (codes "sealed ") number (hex_text ct) refl (hex_text_one ct);
}
answer_line_is (Opened_at number text) = record {
  body = ((codes "opened " ++ decimal number) ++ codes " ") ++ hex_text text;
  is = refl;
  one = four_parts (codes "opened ") number (hex_text text) refl (hex_text_one text);
}
answer_line_is (Failed_at number) = numbered_line (codes "failed ") number refl
answer_line_is At_limit = record { body = codes "limit"; is = refl; one = tested (codes "limit") refl }

pub exported_line_is : (bytes : List ℕ) → IsLine (exported_line bytes)
exported_line_is bytes = record {
  body = codes "exported " ++ hex_text bytes;
  is = refl;
  one = both (codes "exported ") (hex_text bytes) (tested (codes "exported ") refl) (hex_text_one bytes);
}

call_refusal_one : (refusal : CallRefusal) → HasNoFeed (call_refusal_word refusal)
call_refusal_one calls.NoContext = tested (codes "nocontext") refl
call_refusal_one calls.Role = tested (codes "role") refl
call_refusal_one calls.NoCipher = tested (codes "nocipher") refl
call_refusal_one calls.ExportSize = tested (codes "exportsize") refl
call_refusal_one calls.PskPair = tested (codes "pskpair") refl
call_refusal_one calls.PskExtra = tested (codes "pskextra") refl
call_refusal_one calls.PskMissing = tested (codes "pskmissing") refl

pub refused_line_is : (refusal : CallRefusal) → IsLine (refused_line refusal)
refused_line_is refusal = record {
  body = codes "refused " ++ call_refusal_word refusal;
  is = refl;
  one = both (codes "refused ") (call_refusal_word refusal) (tested (codes "refused ") refl) (call_refusal_one refusal);
}
