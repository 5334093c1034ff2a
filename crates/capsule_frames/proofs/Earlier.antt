-- What lines of one kind leave behind one another, and which line left what is found by a number.
use Rattle.std.proofs.Common.{◌≡◌, ◌<◌, ◌≤◌, ℕ, zero, suc, ◌+◌, cond, List, [], ◌∷◌, ◌++◌, length, take, Option, Some, None, Result, refl, sym, ap, ◌∙◌, inl, inr, arith}
use Rattle.std.specs.Prelude.{slice_get, is_some}
use Rattle.std.proofs.lemmas.Bool.{cases_lt}
use Rattle.std.proofs.lemmas.List.{length_push}
use Rattle.std.proofs.lemmas.List.Sums.{sum_by-cons}
use Rattle.std.proofs.lemmas.Option.{slice_get_past, slice_get_within}
use Rattle.call_places.specs.declared.spans.Span.{Span}
use Rattle.hkdf_labelled.specs.declared.suites.Kdf.{Kdf}
use Rattle.hkdf_labelled.specs.declared.suites.Aead.{Aead}
use Rattle.batch_plans.specs.declared.plan.Plan.{Plan}
use Rattle.batch_plans.specs.declared.plan.EncField.{EncField}
use Rattle.batch_plans.specs.declared.replies.KeyReply.{KeyReply}
use Rattle.context_table.proofs.Lists.{slice_get-append_low, slice_get-append_end, same_some}
use Rattle.capsule_frames.specs.declared.words.CapsuleWord.{CapsuleWord}
use Rattle.capsule_frames.specs.declared.words.CapsuleWord.TheVariants as words
use Rattle.capsule_frames.specs.declared.lines.CapsuleLine.{CapsuleLine}
use Rattle.capsule_frames.specs.declared.lines.CapsuleLine.TheVariants.{Ask, Answer, Take}
use Rattle.capsule_frames.specs.declared.replies.CapsuleRefusal.{CapsuleRefusal}
use Rattle.capsule_frames.specs.Capsules.{is_of, count_of}
use Rattle.capsule_frames.specs.Results.{SentView, GivenView}
use Rattle.capsule_frames.specs.Lines.{sent, given}
use Rattle.capsule_frames.specs.Replies.{Done, nothing_done, done_with}
use Rattle.capsule_frames.proofs.Placing.{done_from}

-- ---- one more at the end, where there is one

abbrev with_one : {X : Type 0} → List X → Option X → List X
with_one xs None = xs
with_one xs (Some x) = xs ++ x ∷ []

one_length : {X : Type 0} (xs : List X) (o : Option X)
    → length (with_one xs o) ≡ length xs + cond (is_some o) 1 0
one_length xs None = omega arith
one_length xs (Some x) = length_push xs x

one_low : {X : Type 0} (xs : List X) (o : Option X) (k : ℕ) → k < length xs
    → slice_get (with_one xs o) k ≡ slice_get xs k
one_low xs None k h = refl
one_low xs (Some x) k h = slice_get-append_low xs (x ∷ []) k h

none_left : {X : Type 0} (xs : List X) (n : ℕ) (x : X) → length xs ≤ n → slice_get xs n ≡ Some x → ⊥
none_left xs n x past e = let no : None ≡ Some x = sym (slice_get_past xs n past) ∙ e in cc

one_last : {X : Type 0} (xs : List X) (o : Option X) (n : ℕ) (x : X) → length xs ≤ n
    → slice_get (with_one xs o) n ≡ Some x → (n ≡ length xs) × (o ≡ Some x)
one_last xs None n x past e = absurd (none_left xs n x past e)
one_last xs (Some y) n x past e =
    let last : n ≡ length xs =
    omega (arith, slice_get_within (xs ++ y ∷ []) n x e, length_push xs y) in
    (last, sym (slice_get-append_end xs y n last) ∙ e)

-- ---- lines of one kind

-- a line leaves one more where it is of this kind, and else none
pub record IsKind {X : Type 0} (plan : Plan) (keys : List KeyReply) (word : CapsuleWord)
    (list : Done → List X) (left : Done → CapsuleLine → Option X) : Type 0 where
  pub grows : (d : Done) (line : CapsuleLine)
      → list (done_with plan keys d line) ≡ with_one (list d) (left d line)
  pub leaves : (d : Done) (line : CapsuleLine) → is_some (left d line) ≡ is_of word line

-- the line that left what has this number, before place i
pub record Found {X : Type 0} (plan : Plan) (keys : List KeyReply) (list : Done → List X)
    (left : Done → CapsuleLine → Option X) (lines : List CapsuleLine) (d : Done) (i n : ℕ) (x : X)
    : Type 0 where
  pub at : ℕ
  pub earlier : at < i
  pub line : CapsuleLine
  pub line_is : slice_get lines at ≡ Some line
  pub number_is : n ≡ length (list (done_from plan keys d (take at lines)))
  pub left_is : left (done_from plan keys d (take at lines)) line ≡ Some x

module _ {X : Type 0} (plan : Plan) (keys : List KeyReply) (word : CapsuleWord) (list : Done → List X)
    (left : Done → CapsuleLine → Option X) (kind : IsKind plan keys word list left) where
  grown : (d : Done) (line : CapsuleLine)
      → length (list (done_with plan keys d line)) ≡ length (list d) + cond (is_of word line) 1 0
  grown d line =
      ap length (kind.grows d line) ∙ one_length (list d) (left d line)
      ∙ ap (λ b. length (list d) + cond b 1 0) (kind.leaves d line)

  count_from : (lines : List CapsuleLine) (d : Done)
      → length (list (done_from plan keys d lines)) ≡ length (list d) + count_of word lines
  count_from [] d = omega arith
  count_from (line ∷ lines) d =
      let more : count_of word (line ∷ lines) ≡ cond (is_of word line) 1 0 + count_of word lines =
      sum_by-cons (λ l. cond (is_of word l) 1 0) line lines in
      omega (arith, more, grown d line, count_from lines (done_with plan keys d line))

  -- what was left stays
  stays : (lines : List CapsuleLine) (d : Done) (k : ℕ) → k < length (list d)
      → slice_get (list (done_from plan keys d lines)) k ≡ slice_get (list d) k
  stays [] d k h = refl
  stays (line ∷ lines) d k h =
      stays lines (done_with plan keys d line) k (omega (arith, grown d line))
      ∙ ap (λ (xs : List X). slice_get xs k) (kind.grows d line)
      ∙ one_low (list d) (left d line) k h

  left_at : (lines : List CapsuleLine) (d : Done) (i j n : ℕ) (line : CapsuleLine) (x : X)
      → slice_get lines i ≡ Some line → i < j
      → n ≡ length (list (done_from plan keys d (take i lines)))
      → left (done_from plan keys d (take i lines)) line ≡ Some x
      → slice_get (list (done_from plan keys d (take j lines))) n ≡ Some x
  left_at [] d i j n line x e later number is = absurd (let none : None ≡ Some line = e in cc)
  left_at (l ∷ lines) d i zero n line x e later number is = absurd (omega arith)
  left_at (l ∷ lines) d zero (suc j) n line x e later number is =
      let more : list (done_with plan keys d l) ≡ list d ++ x ∷ [] =
      kind.grows d l ∙ ap (with_one (list d)) (ap (left d) (same_some e) ∙ is) in
      stays (take j lines) (done_with plan keys d l) n
      (omega (arith, ap length more, length_push (list d) x))
      ∙ ap (λ (xs : List X). slice_get xs n) more
      ∙ slice_get-append_end (list d) x n number
  left_at (l ∷ lines) d (suc i) (suc j) n line x e later number is =
      left_at lines (done_with plan keys d l) i j n line x e (omega arith) number is

  found : (lines : List CapsuleLine) (d : Done) (i n : ℕ) (x : X) → length (list d) ≤ n
      → slice_get (list (done_from plan keys d (take i lines))) n ≡ Some x
      → Found plan keys list left lines d i n x
  found [] d zero n x past e = absurd (none_left (list d) n x past e)
  found [] d (suc i) n x past e = absurd (none_left (list d) n x past e)
  found (line ∷ lines) d zero n x past e = absurd (none_left (list d) n x past e)
  found (line ∷ lines) d (suc i) n x past e =
      let new = done_with plan keys d line in
      elim (cases_lt n (length (list new))) [
        | inl here ↦
            let last = one_last (list d) (left d line) n x past
            (sym (ap (λ (xs : List X). slice_get xs n) (kind.grows d line))
            ∙ sym (stays (take i lines) new n here) ∙ e) in
            record {
              at = 0;
              earlier = omega arith;
              line = line;
              line_is = refl;
              number_is = last.0;
              left_is = last.1;
            }
        | inr behind ↦
            let next = found lines new i n x behind e in
            record {
              at = suc next.at;
              earlier = (let before = next.earlier in omega arith);
              line = next.line;
              line_is = next.line_is;
              number_is = next.number_is;
              left_is = next.left_is;
            }
      ]

-- ---- asks

abbrev pub asks_left : Plan → List KeyReply → Done → CapsuleLine
    → Option (Result SentView CapsuleRefusal)
asks_left plan keys d (Ask key id kdf aead text) =
    Some (sent plan keys (length d.asks) key id kdf aead text)
asks_left plan keys d other = None

ask_kind : (plan : Plan) (keys : List KeyReply)
    → IsKind plan keys words.Ask (λ d. d.asks) (asks_left plan keys)
ask_kind plan keys = record {
  grows = λ d. elim [
    | Ask key id kdf aead text ↦ refl
    | Answer key id request nonce text ↦ refl
    | Take ask response ↦ refl
  ];
  leaves = λ d. elim [
    | Ask key id kdf aead text ↦ refl
    | Answer key id request nonce text ↦ refl
    | Take ask response ↦ refl
  ];
}

-- the asks are numbered from 0
pub ask_count : (plan : Plan) (keys : List KeyReply) (lines : List CapsuleLine)
    → length (done_from plan keys nothing_done lines).asks ≡ count_of words.Ask lines
ask_count plan keys lines =
    omega (
      arith,
      count_from plan keys words.Ask (λ d. d.asks) (asks_left plan keys)
          (ask_kind plan keys) lines nothing_done,
    )

pub ask_found : (plan : Plan) (keys : List KeyReply) (lines : List CapsuleLine) (i n : ℕ)
    (x : Result SentView CapsuleRefusal)
    → slice_get (done_from plan keys nothing_done (take i lines)).asks n ≡ Some x
    → Found plan keys (λ d. d.asks) (asks_left plan keys) lines nothing_done i n x
ask_found plan keys lines i n x e =
    found plan keys words.Ask (λ d. d.asks) (asks_left plan keys) (ask_kind plan keys) lines
    nothing_done i n x (omega arith) e

pub ask_at : (plan : Plan) (keys : List KeyReply) (lines : List CapsuleLine) (i j n : ℕ)
    (key id : ℕ) (kdf : Kdf) (aead : Aead) (text : Span)
    → slice_get lines i ≡ Some (Ask key id kdf aead text) → i < j
    → count_of words.Ask (take i lines) ≡ n
    → slice_get (done_from plan keys nothing_done (take j lines)).asks n
    ≡ Some (sent plan keys n key id kdf aead text)
ask_at plan keys lines i j n key id kdf aead text e later number =
    let count = ask_count plan keys (take i lines) ∙ number in
    left_at plan keys words.Ask (λ d. d.asks) (asks_left plan keys) (ask_kind plan keys) lines
    nothing_done i j n (Ask key id kdf aead text) (sent plan keys n key id kdf aead text) e later
    (sym count) (ap (λ k. Some (sent plan keys k key id kdf aead text)) count)

-- ---- answers

abbrev pub answers_left : Plan → List KeyReply → Done → CapsuleLine
    → Option (Result GivenView CapsuleRefusal)
answers_left plan keys d (Answer key id request nonce text) =
    Some (given plan keys d.asks key id request nonce text)
answers_left plan keys d other = None

answer_kind : (plan : Plan) (keys : List KeyReply)
    → IsKind plan keys words.Answer (λ d. d.answers) (answers_left plan keys)
answer_kind plan keys = record {
  grows = λ d. elim [
    | Ask key id kdf aead text ↦ refl
    | Answer key id request nonce text ↦ refl
    | Take ask response ↦ refl
  ];
  leaves = λ d. elim [
    | Ask key id kdf aead text ↦ refl
    | Answer key id request nonce text ↦ refl
    | Take ask response ↦ refl
  ];
}

pub answer_count : (plan : Plan) (keys : List KeyReply) (lines : List CapsuleLine)
    → length (done_from plan keys nothing_done lines).answers ≡ count_of words.Answer lines
answer_count plan keys lines =
    omega (
      arith,
      count_from plan keys words.Answer (λ d. d.answers) (answers_left plan keys)
          (answer_kind plan keys) lines nothing_done,
    )

pub answer_found : (plan : Plan) (keys : List KeyReply) (lines : List CapsuleLine) (i n : ℕ)
    (x : Result GivenView CapsuleRefusal)
    → slice_get (done_from plan keys nothing_done (take i lines)).answers n ≡ Some x
    → Found plan keys (λ d. d.answers) (answers_left plan keys) lines nothing_done i n x
answer_found plan keys lines i n x e =
    found plan keys words.Answer (λ d. d.answers) (answers_left plan keys) (answer_kind plan keys)
    lines nothing_done i n x (omega arith) e

pub answer_at : (plan : Plan) (keys : List KeyReply) (lines : List CapsuleLine) (i j n : ℕ)
    (key id : ℕ) (request : EncField) (nonce text : Span)
    → slice_get lines i ≡ Some (Answer key id request nonce text) → i < j
    → count_of words.Answer (take i lines) ≡ n
    → slice_get (done_from plan keys nothing_done (take j lines)).answers n
    ≡ Some (given plan keys (done_from plan keys nothing_done (take i lines)).asks key id request
    nonce text)
answer_at plan keys lines i j n key id request nonce text e later number =
    left_at plan keys words.Answer (λ d. d.answers) (answers_left plan keys) (answer_kind plan keys)
    lines nothing_done i j n (Answer key id request nonce text) _ e later
    (sym (answer_count plan keys (take i lines) ∙ number)) refl
