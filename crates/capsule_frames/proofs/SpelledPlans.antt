-- A text that was read is the text of its plan, which is within its limits: each line adds its own text
-- to that of the plan, and keeps the plan within them.
use Rattle.std.proofs.Common.{◌≡◌, ℕ, ◌+◌, ◌≤◌, ◌==◌, ◌&&◌, ◌||◌, not, Bool, true, false, List, [], ◌∷◌, ◌++◌, length, get_or, codes, Option, Ok, Err, refl, sym, ap, subst, ◌∙◌, inr, cond, append_assoc, append-nil, arith}
use Rattle.std.specs.Prelude.{IsSome, is_some}
use Rattle.std.specs.List.{All, flat_map}
use Rattle.std.proofs.lemmas.Bool.{cond-true, cond-false, eqb-true, and_parts}
use Rattle.std.proofs.lemmas.List.Sums.{sum_by_push}
use Rattle.std.proofs.lemmas.List.Elements.{All-nil, All-push}
use Rattle.field_text.specs.declared.reasons.Reason.TheVariants as reasons
use Rattle.field_text.specs.Cuts.{line_text}
use Rattle.field_text.specs.Lines.{front, whole}
use Rattle.field_text.proofs.Spellings.{ok_same, step_ok, word_ok, IsFront, IsFront-same, IsFront-then}
use Rattle.field_text.proofs.SpelledLines.{IsSpelling, text_read}
use Rattle.batch_plans.specs.Limits.{most_input, most_keys}
use Rattle.request_frames.specs.declared.key_words.KeyWord.{KeyWord}
use Rattle.request_frames.specs.KeyForms.{rand, key}
use Rattle.request_frames.specs.KeyText.{seed_text, key_text}
use Rattle.request_frames.proofs.SpelledKeyFields.{front_length}
use Rattle.request_frames.proofs.SpelledKeys.{rand_ok, key_ok}
use Rattle.request_frames.proofs.MoreLines.{field_grown, message_grown, last_more, before_none, texts_none, counted_ok, seed_given, no_seed}
use Rattle.request_frames.proofs.Growth as growth
use Rattle.capsule_frames.specs.declared.words.LineWord.{LineWord}
use Rattle.capsule_frames.specs.declared.words.LineWord.TheVariants.{Rand, Key, Capsule}
use Rattle.capsule_frames.specs.declared.words.CapsuleWord.{CapsuleWord}
use Rattle.capsule_frames.specs.declared.words.CapsuleWord.TheVariants as words
use Rattle.capsule_frames.specs.declared.lines.CapsuleLine.{CapsuleLine}
use Rattle.capsule_frames.specs.declared.lines.CapsuleLine.TheVariants.{Ask, Answer, Take}
use Rattle.capsule_frames.specs.declared.lines.CapsulePlan.{CapsulePlan}
use Rattle.capsule_frames.specs.Words.{word_text, line_words, draws}
use Rattle.capsule_frames.specs.Forms.{capsule, most_text, most_request, most_response}
use Rattle.capsule_frames.specs.Capsules.{is_bare, may_stand, most_lines, is_of, count_of, with_rand, with_key, with_capsule, with_line, empty, header, capsule_lines, capsules, Spells}
use Rattle.capsule_frames.specs.PlanText.{capsule_text, text_of}
use Rattle.capsule_frames.specs.Within.{IsLineWithin, IsWithin}
use Rattle.capsule_frames.proofs.SpelledLines.{among_ok, capsule_ok}

-- ---- limits, over a pool that is as long

line_grown : (seed : Option (List ℕ)) (n m : ℕ) (line : CapsuleLine) → n ≤ m
    → IsLineWithin seed n line → IsLineWithin seed m line
line_grown seed n m (Ask key id kdf aead text) long h =
    (h.0, h.1, h.2, field_grown most_text n m text long h.3, h.4)
line_grown seed n m (Answer key id request nonce text) long h = (
  h.0,
  h.1,
  message_grown most_request n m request long h.2,
  field_grown _ n m nonce long h.3,
  field_grown most_text n m text long h.4,
)
line_grown seed n m (Take ask response) long h =
    (h.0, message_grown most_response n m response long h.1)

-- a line more of one kind
count_more : (word w : CapsuleWord) (lines : List CapsuleLine) (line : CapsuleLine)
    → (is_of w line ≡ true → w ≡ word) → count_of word lines + 1 ≤ most_lines
    → count_of w lines ≤ most_lines → count_of w (lines ++ line ∷ []) ≤ most_lines
count_more word w lines line kind few all =
    let pushed : count_of w (lines ++ line ∷ []) ≡ count_of w lines + cond (is_of w line) 1 0 =
    sum_by_push (λ (l : CapsuleLine). cond (is_of w l) 1 0) lines line in
    let by : (b : Bool) → is_of w line ≡ b → count_of w (lines ++ line ∷ []) ≤ most_lines = elim [
      | true ↦ λ e.
          let same : count_of w lines ≡ count_of word lines =
          ap (λ (v : CapsuleWord). count_of v lines) (kind e) in
          omega (arith, same, few, pushed, cond-true {A = ℕ} (is_of w line) 1 0 e)
      | false ↦ λ e. omega (arith, all, pushed, cond-false {A = ℕ} (is_of w line) 1 0 e)
    ] in
    by (is_of w line) refl

-- a plan within its limits, without contexts
pub record IsBuilt (p : CapsulePlan) : Type 0 where
  pub plan : growth.IsBuilt p.plan
  pub no_context : length p.plan.contexts ≡ 0
  pub kinds : (word : CapsuleWord) → count_of word p.lines ≤ most_lines
  pub lines : All (IsLineWithin p.plan.seed (length p.plan.pool)) p.lines

is_within : (p : CapsulePlan) → IsBuilt p → IsWithin p
is_within p h = record { plan = h.plan.limits; kinds = h.kinds; lines = h.lines }

-- with a longer pool
with_pool : (p : CapsulePlan) (pool : List ℕ) → length p.plan.pool ≤ length pool
    → length pool ≤ most_input → IsBuilt p
    → IsBuilt (record p { plan = record p.plan { pool = pool } })
with_pool p pool long small h = record {
  plan = growth.with_pool p.plan pool long small h.plan;
  no_context = h.no_context;
  kinds = h.kinds;
  lines = λ k d lt.
      line_grown p.plan.seed (length p.plan.pool) (length pool) (get_or p.lines k d) long
      (h.lines k d lt);
}

-- ---- what a line adds

-- the lines of a plan behind the first, with spans of this pool
abbrev body : List ℕ → CapsulePlan → List ℕ
body pool p =
    seed_text p.plan.seed ++ flat_map (key_text pool) p.plan.keys
    ++ flat_map (capsule_text pool) p.lines

-- a line adds its text at the end of the plan's lines, whatever the pool grows to, and keeps the plan
-- within its limits
record Adds (p new : CapsulePlan) (text : List ℕ) : Type 0 where
  grown : IsFront p.plan.pool new.plan.pool
  added : (whole : List ℕ) → IsFront new.plan.pool whole → body whole new ≡ body whole p ++ text
  built : length new.plan.pool ≤ most_input → IsBuilt p → IsBuilt new

rand_adds : (p new : CapsulePlan) (pieces : List (List ℕ)) → is_bare p ≡ true
    → with_rand p pieces ≡ Ok new → Adds p new (line_text (codes "rand" ∷ pieces))
unfolding with_rand
rand_adds p new pieces bare e =
    let found = step_ok (rand pieces) _ new e in
    let parts = and_parts (not (is_some p.plan.seed) && (length p.plan.keys == 0))
    (length p.lines == 0) bare in
    let front = and_parts (not (is_some p.plan.seed)) (length p.plan.keys == 0) parts.0 in
    let line = line_text (codes "rand" ∷ pieces) in
    subst (λ (new : CapsulePlan). Adds p new line) (ok_same _ _ found.2) record {
      grown = IsFront-same p.plan.pool;
      added = λ whole h.
          before_none _ _ _ (flat_map (capsule_text whole) p.lines)
          (texts_none (capsule_text whole) p.lines parts.1)
          (before_none _ _ _ (flat_map (key_text whole) p.plan.keys)
          (texts_none (key_text whole) p.plan.keys front.1)
          (ap (λ (pieces : List (List ℕ)). line_text (codes "rand" ∷ pieces))
          (rand_ok pieces found.0 found.1)
          ∙ ap (λ (seed : Option (List ℕ)). seed_text seed ++ line) (sym (no_seed p.plan.seed front.0))));
      built = λ small h. record {
        plan = growth.with_seed p.plan found.0 (eqb-true (length p.plan.keys) 0 front.1) h.no_context
            h.plan;
        no_context = h.no_context;
        kinds = h.kinds;
        lines = λ k d lt. absurd (omega (arith, lt, eqb-true (length p.lines) 0 parts.1));
      };
    }

key_adds : (word : KeyWord) (p new : CapsulePlan) (pieces : List (List ℕ))
    → (length p.lines == 0) ≡ true → (draws (Key word) ≡ true → IsSome p.plan.seed)
    → with_key p word pieces ≡ Ok new → Adds p new (line_text (word_text (Key word) ∷ pieces))
unfolding with_key
key_adds word p new pieces place given e =
    let found = step_ok (key word p.plan.pool pieces) _ new e in
    let count = counted_ok most_keys (length p.plan.keys + 1) _ new found.2 in
    let line = key_ok word p.plan.pool pieces found.0.0 found.0.1 found.1 in
    let long = front_length p.plan.pool found.0.1 line.grown in
    subst (λ (new : CapsulePlan). Adds p new (line_text (word_text (Key word) ∷ pieces)))
    (ok_same _ _ count.1) record {
      grown = line.grown;
      added = λ whole h.
          let same : key_text whole found.0.0 ≡ line_text (word_text (Key word) ∷ pieces) =
          ap line_text (line.spelled whole h) in
          before_none _ _ _ (flat_map (capsule_text whole) p.lines)
          (texts_none (capsule_text whole) p.lines place)
          (last_more (seed_text p.plan.seed) (key_text whole) p.plan.keys found.0.0 _ same);
      built = λ small h.
          let longer = with_pool p found.0.1 long small h in
          record {
            plan = growth.with_key (record p.plan { pool = found.0.1 }) found.0.0 count.0
                (line.within p.plan.seed (length found.0.1) (omega arith) given) longer.plan;
            no_context = h.no_context;
            kinds = h.kinds;
            lines = longer.lines;
          };
    }

capsule_adds : (word : CapsuleWord) (p new : CapsulePlan) (pieces : List (List ℕ))
    → (draws (Capsule word) ≡ true → IsSome p.plan.seed)
    → with_capsule p word pieces ≡ Ok new
    → Adds p new (line_text (word_text (Capsule word) ∷ pieces))
unfolding with_capsule
capsule_adds word p new pieces given e =
    let found = step_ok (capsule word p.plan.pool pieces) _ new e in
    let count = counted_ok most_lines (count_of word p.lines + 1) _ new found.2 in
    let line = capsule_ok word p.plan.pool pieces found.0.0 found.0.1 found.1 in
    let long = front_length p.plan.pool found.0.1 line.grown in
    subst (λ (new : CapsulePlan). Adds p new (line_text (word_text (Capsule word) ∷ pieces)))
    (ok_same _ _ count.1) record {
      grown = line.grown;
      added = λ whole h.
          last_more (seed_text p.plan.seed ++ flat_map (key_text whole) p.plan.keys)
          (capsule_text whole) p.lines found.0.0 _ (ap line_text (line.spelled whole h));
      built = λ small h.
          let longer = with_pool p found.0.1 long small h in
          record {
            plan = longer.plan;
            no_context = h.no_context;
            kinds = λ w. count_more word w p.lines found.0.0 (line.kind w) count.0 (h.kinds w);
            lines = All-push (IsLineWithin p.plan.seed (length found.0.1)) p.lines found.0.0
                longer.lines
                (line.within p.plan.seed (length found.0.1) (omega arith) given);
          };
    }

-- ---- any line

line_adds : (word : LineWord) (p new : CapsulePlan) (pieces : List (List ℕ))
    → may_stand word p ≡ true → with_line p word pieces ≡ Ok new
    → Adds p new (line_text (word_text word ∷ pieces))
line_adds Rand p new pieces stands e =
    rand_adds p new pieces (and_parts (is_bare p) true stands).0 e
line_adds (Key word) p new pieces stands e =
    let parts = and_parts (length p.lines == 0) (not (draws (Key word)) || is_some p.plan.seed) stands in
    key_adds word p new pieces parts.0 (seed_given (draws (Key word)) p.plan.seed parts.1) e
line_adds (Capsule word) p new pieces stands e =
    let parts = and_parts true (not (draws (Capsule word)) || is_some p.plan.seed) stands in
    capsule_adds word p new pieces (seed_given (draws (Capsule word)) p.plan.seed parts.1) e

-- lines after a line
adds_then : (p new final : CapsulePlan) (line text : List ℕ) → Adds p new line → Adds new final text
    → Adds p final (line ++ text)
adds_then p new final line text first more = record {
  grown = IsFront-then p.plan.pool new.plan.pool final.plan.pool first.grown more.grown;
  added = λ whole h.
      more.added whole h
      ∙ ap (λ (front : List ℕ). front ++ text)
      (first.added whole (IsFront-then new.plan.pool final.plan.pool whole more.grown h))
      ∙ append_assoc (body whole p) line text;
  built = λ small h.
      more.built small
      (first.built (omega (arith, small, front_length new.plan.pool final.plan.pool more.grown)) h);
}

spelling : IsSpelling capsule_lines Adds
spelling = record {
  none = λ p. record {
    grown = IsFront-same p.plan.pool;
    added = λ whole h. sym (append-nil (body whole p));
    built = λ small h. h;
  };
  line = λ word p new final piece pieces text named stands read more.
      adds_then p new final (line_text (piece ∷ pieces)) text
      (subst (λ (piece : List ℕ). Adds p new (line_text (piece ∷ pieces)))
      (among_ok line_words piece word named) (line_adds word p new pieces stands read)) more;
}

-- ---- the whole text

record IsHeader (line : List ℕ) (p : CapsulePlan) : Type 0 where
  is : line ≡ codes "hpkebatch 2"
  same : empty ≡ p

header_ok : (line : List ℕ) (p : CapsulePlan) → header line ≡ Ok p → IsHeader line p
header_ok line p e =
    word_ok (codes "hpkebatch 2") line empty p (Err reasons.Header) _
    (λ is same. record { is = is; same = same }) (λ err. absurd cc) e

empty_built : IsBuilt empty
empty_built = record {
  plan = growth.empty 2 (inr refl);
  no_context = refl;
  kinds = elim [
    | words.Ask ↦ omega arith
    | words.Answer ↦ omega arith
    | words.Take ↦ omega arith
  ];
  lines = All-nil _;
}

-- the parts of a text
text_parts : (a b c d e : List ℕ) → ((a ++ ((b ++ c) ++ d)) ++ e) ++ [] ≡ (((a ++ b) ++ c) ++ d) ++ e
text_parts a b c d e = simp (append_assoc, append-nil)

-- a text that spells a plan is the text of that plan, which is within its limits where the pool is
record IsRead (p : CapsulePlan) (text : List ℕ) : Type 0 where
  text_is : text ≡ text_of p
  limits : length p.plan.pool ≤ most_input → IsWithin p

whole_read : (text : List ℕ) (p : CapsulePlan) → whole (front capsule_lines most_input text) ≡ Ok p
    → IsRead p text
whole_read text p e =
    let read = text_read capsule_lines Adds spelling most_input text p e in
    let first = header_ok read.header read.start read.first in
    let adds : Adds empty p read.body =
    subst (λ (start : CapsulePlan). Adds start p read.body) (sym first.same) read.adds in
    let pool = p.plan.pool in
    let added : body pool p ≡ read.body = adds.added pool (IsFront-same pool) in
    record {
      text_is =
          read.parts
          ∙ ap (λ (line : List ℕ). (((line ++ codes "\n") ++ read.body) ++ codes "end\n") ++ [])
          first.is
          ∙ ap (λ (body : List ℕ). ((codes "hpkebatch 2\n" ++ body) ++ codes "end\n") ++ []) (sym added)
          ∙ text_parts (codes "hpkebatch 2\n") (seed_text p.plan.seed)
          (flat_map (key_text pool) p.plan.keys) (flat_map (capsule_text pool) p.lines) (codes "end\n");
      limits = λ small. is_within p (adds.built small empty_built);
    }

pub text_back : (text : List ℕ) (p : CapsulePlan) → Spells text p → text ≡ text_of p
unfolding capsules
text_back text p e = (whole_read text p e).text_is

pub whole_within : (text : List ℕ) (p : CapsulePlan)
    → whole (front capsule_lines most_input text) ≡ Ok p → length p.plan.pool ≤ most_input
    → IsWithin p
whole_within text p e small = (whole_read text p e).limits small
