-- A text of a batch whose lanes add contexts is the text of its plan, which is within its limits and names its contexts.
use Rattle.std.proofs.Common.{◌≡◌, ℕ, ◌≤◌, true, List, [], ◌∷◌, length, codes, Ok, Err, refl, sym, ap, subst, ◌∙◌, append-nil, inr, lit<}
use Rattle.std.specs.List.{join_with_byte}
use Rattle.field_text.specs.declared.reasons.Reason.TheVariants as reasons
use Rattle.field_text.specs.Cuts.{line_feed, line_text}
use Rattle.field_text.specs.Lines.{FrontText, front, whole}
use Rattle.field_text.proofs.Spellings.{step_ok, word_ok}
use Rattle.field_text.proofs.SpelledLines.{IsSpelling, text_read, front_read}
use Rattle.batch_plans.specs.declared.plan.Plan.{Plan}
use Rattle.batch_plans.specs.Limits.{most_input}
use Rattle.batch_plans.specs.Within.{IsWithinLimits}
use Rattle.request_frames.specs.Words.{line_word, words_of}
use Rattle.request_frames.specs.LivePlans.{IsLive}
use Rattle.request_frames.specs.Batch.{empty_plan}
use Rattle.request_frames.specs.PlanText.{text_of}
use Rattle.request_frames.proofs.SpelledFields.{among_ok}
use Rattle.request_frames.proofs.SpelledPlans.{Adds, line_adds, added_adds, retired_adds, adds_then, adds_nothing}
use Rattle.request_frames.proofs.SpelledTexts.{IsHeader, empty_header, IsRead, is_read}
use Rattle.request_frames.specs.declared.live_words.LiveWord.{LiveWord}
use Rattle.request_frames.specs.declared.live_words.LiveWord.TheVariants.{Batch, Add, Retire}
use Rattle.request_frames.specs.Live.{header, batch_word, word, may_stand, with_line, live_lines, live, Spells}

-- ---- lines

-- the first line is that of version 2
header_ok : (line : List ℕ) (plan : Plan) → header line ≡ Ok plan → IsHeader line plan × (plan.version ≡ 2)
header_ok line plan e =
    word_ok (codes "hpkebatch 2") line (empty_plan 2) plan (Err reasons.Header) _
    (λ is same. (subst (IsHeader line) same (empty_header 2 line (inr refl) (lit< tt) is), ap (λ (plan : Plan). plan.version) (sym same)))
    (λ err. absurd cc) e

-- what a piece is that was read as a word
abbrev IsWord : List ℕ → LiveWord → Type 0
IsWord piece (Batch word) = line_word 2 piece ≡ Ok word
IsWord piece Add = piece ≡ codes "add"
IsWord piece Retire = piece ≡ codes "retire"

batch_same : (piece : List ℕ) (value : LiveWord) → batch_word piece ≡ Ok value → IsWord piece value
batch_same piece value e =
    let found = step_ok (line_word 2 piece) _ value e in
    let same : Batch found.0 ≡ value = cc in
    subst (IsWord piece) same found.1

word_read : (piece : List ℕ) (value : LiveWord) → word piece ≡ Ok value → IsWord piece value
word_read piece value e =
    word_ok (codes "add") piece Add value _ _ (λ is same. subst (IsWord piece) same is)
    (λ rest.
    word_ok (codes "retire") piece Retire value (batch_word piece) _ (λ is same. subst (IsWord piece) same is)
    (λ left. batch_same piece value left) rest)
    e

line_read : (value : LiveWord) (plan new : Plan) (piece : List ℕ) (pieces : List (List ℕ)) → IsWord piece value → may_stand value plan ≡ true
    → with_line plan value pieces ≡ Ok new → Adds true plan new (line_text (piece ∷ pieces))
line_read (Batch value) plan new piece pieces named stands e =
    subst (λ (piece : List ℕ). Adds true plan new (line_text (piece ∷ pieces))) (among_ok (words_of 2) piece value named) (line_adds true value plan new pieces stands e)
line_read Add plan new piece pieces named stands e =
    subst (λ (piece : List ℕ). Adds true plan new (line_text (piece ∷ pieces))) (sym named) (added_adds plan new pieces stands e)
line_read Retire plan new piece pieces named stands e =
    subst (λ (piece : List ℕ). Adds true plan new (line_text (piece ∷ pieces))) (sym named) (retired_adds plan new pieces stands e)

pub live_spelling : IsSpelling live_lines (Adds true)
live_spelling = record {
  none = adds_nothing true;
  line = λ value plan new final piece pieces text named stands read more.
      adds_then true plan new final (line_text (piece ∷ pieces)) text (line_read value plan new piece pieces (word_read piece value named) stands read) more;
}

-- ---- texts

-- a text that spells a plan
live_read : (text : List ℕ) (plan : Plan) → Spells text plan → IsRead true plan text [] × (plan.version ≡ 2)
unfolding live
live_read text plan e =
    let read = text_read live_lines (Adds true) live_spelling most_input text plan e in (
      is_read true live_lines plan text [] (λ line start is. (header_ok line start is).0) read,
      read.adds.version ∙ (header_ok read.header read.start read.first).1,
    )

pub text_back : (text : List ℕ) (plan : Plan) → Spells text plan → text ≡ text_of plan
text_back text plan e = (live_read text plan e).0.parts ∙ append-nil (text_of plan)

pub whole_within : (text : List ℕ) (plan : Plan) → whole (front live_lines most_input text) ≡ Ok plan → length plan.pool ≤ most_input → IsWithinLimits plan
unfolding live
whole_within text plan e small = (live_read text plan e).0.limits small

pub whole_live : (text : List ℕ) (plan : Plan) → whole (front live_lines most_input text) ≡ Ok plan → IsLive plan
unfolding live
whole_live text plan e = let read = live_read text plan e in read.0.live read.1

-- ---- a text whose front spells a plan

pub front_plan_read : (text : List ℕ) (found : FrontText Plan) → front live_lines most_input text ≡ Ok found
    → IsRead true found.plan text (join_with_byte line_feed found.rest) × (found.plan.version ≡ 2)
front_plan_read text found e =
    let read = front_read live_lines (Adds true) live_spelling most_input text found e in (
      is_read true live_lines found.plan text (join_with_byte line_feed found.rest) (λ line start is. (header_ok line start is).0) read,
      read.adds.version ∙ (header_ok read.header read.start read.first).1,
    )

pub front_within : (text : List ℕ) (found : FrontText Plan) → front live_lines most_input text ≡ Ok found → length found.plan.pool ≤ most_input
    → IsWithinLimits found.plan
front_within text found e small = (front_plan_read text found e).0.limits small

pub front_is_live : (text : List ℕ) (found : FrontText Plan) → front live_lines most_input text ≡ Ok found → IsLive found.plan
front_is_live text found e = let read = front_plan_read text found e in read.0.live read.1
