-- A text that was read begins with the text of its plan, which is within its limits.
use Rattle.std.proofs.Common.{◌≡◌, ℕ, ◌⊎◌, ◌+◌, ◌-◌, ◌<◌, ◌≤◌, Bool, false, List, [], ◌∷◌, ◌++◌, length, codes, decimal, Result, Ok, Err, refl, sym, ap, subst, ◌∙◌, append_assoc, append-nil, inl, inr, lit<, arith}
use Rattle.std.specs.List.{flat_map, join_with_byte}
use Rattle.std.proofs.lemmas.Fmt.{decimal_digit}
use Rattle.std.proofs.lemmas.List.{length-append}
use Rattle.std.proofs.lemmas.List.Elements.{All-nil}
use Rattle.call_places.specs.declared.spans.Item.{Item}
use Rattle.field_text.specs.declared.reasons.Reason.{Reason}
use Rattle.field_text.specs.declared.reasons.Reason.TheVariants as reasons
use Rattle.field_text.specs.Cuts.{line_feed, lines_of}
use Rattle.field_text.specs.declared.faults.BadBatch.{BadBatch}
use Rattle.field_text.specs.Lines.{Grammar, FrontText, bad, front, whole}
use Rattle.field_text.proofs.Spellings.{joined, word_ok, IsFront-same}
use Rattle.field_text.proofs.SpelledLines.{IsText, text_read, front_read}
use Rattle.batch_plans.specs.declared.plan.Plan.{Plan}
use Rattle.batch_plans.specs.declared.plan.ContextLine.{ContextLine}
use Rattle.request_frames.specs.KeyText.{seed_text, key_text}
use Rattle.request_frames.specs.LivePlans.{added_contexts, IsLive}
use Rattle.request_frames.specs.Batch.{ended, header, batch_lines, batch, empty_plan, Spells}
use Rattle.batch_plans.specs.Limits.{most_input}
use Rattle.batch_plans.specs.Within.{IsWithinLimits, IsPlain}
use Rattle.request_frames.specs.PlanText.{context_text, lane_text, text_of}
use Rattle.request_frames.proofs.Growth as growth
use Rattle.request_frames.proofs.AddedContexts.{Begins-same, IsOrdered, line_contexts}
use Rattle.request_frames.proofs.SpelledPlans.{body, Adds, spelling}

-- the first line of a version
pub record IsHeader (line : List ℕ) (plan : Plan) : Type 0 where
  pub version : (plan.version ≡ 1) ⊎ (plan.version ≡ 2)
  pub is : line ≡ codes "hpkebatch " ++ decimal plan.version
  pub empty : (pool : List ℕ) (items : List Item) (extra : List ContextLine) → body pool items extra plan ≡ []
  pub ordered : IsOrdered plan
  pub built : growth.IsBuilt plan
  pub plain : IsPlain plan
  pub live : plan.version ≡ 2 → IsLive plan

one_digit : (n : ℕ) → n < 10 → codes "hpkebatch " ++ decimal n ≡ codes "hpkebatch " ++ (48 + n) ∷ []
one_digit n small = ap (λ (digits : List ℕ). codes "hpkebatch " ++ digits) (decimal_digit n small)

pub empty_header : (version : ℕ) (line : List ℕ) → (version ≡ 1) ⊎ (version ≡ 2) → version < 10 → line ≡ codes "hpkebatch " ++ (48 + version) ∷ [] → IsHeader line (empty_plan version)
empty_header version line is small spelled = record {
  version = is;
  is = spelled ∙ sym (one_digit version small);
  empty = λ pool items extra. refl;
  ordered = record { none = λ none. refl; few = omega arith };
  built = growth.empty version is;
  plain = growth.plain_empty version;
  live = λ two. record { version = two; shared = All-nil _; named = refl };
}

header_ok : (line : List ℕ) (plan : Plan) → header line ≡ Ok plan → IsHeader line plan
header_ok line plan e =
    word_ok (codes "hpkebatch 1") line (empty_plan 1) plan _ _
    (λ is same. subst (λ (plan : Plan). IsHeader line plan) same (empty_header 1 line (inl refl) (lit< tt) is))
    (λ rest.
    word_ok (codes "hpkebatch 2") line (empty_plan 2) plan (Err reasons.Header) _
    (λ is same. subst (λ (plan : Plan). IsHeader line plan) same (empty_header 2 line (inr refl) (lit< tt) is))
    (λ err. absurd cc) rest)
    e

-- the parts of a text
text_parts : (a b c d e f g h : List ℕ)
    → (((a ++ b) ++ c) ++ (((d ++ e) ++ f) ++ g)) ++ h ≡ (((((((a ++ b) ++ c) ++ d) ++ e) ++ f) ++ g) ++ h)
text_parts a b c d e f g h = simp append_assoc

-- what a text was read as: its front is the text of the plan, which is within its limits where the pool is
pub record IsRead (names : Bool) (plan : Plan) (text rest : List ℕ) : Type 0 where
  pub parts : text ≡ text_of plan ++ rest
  pub limits : length plan.pool ≤ most_input → IsWithinLimits plan
  pub plain : names ≡ false → IsPlain plan
  pub live : plan.version ≡ 2 → IsLive plan

pub is_read : {W : Type 0} (names : Bool) (g : Grammar Plan W) (plan : Plan) (text rest : List ℕ)
    → ((line : List ℕ) (start : Plan) → g.header line ≡ Ok start → IsHeader line start)
    → IsText g (Adds names) plan text rest → IsRead names plan text rest
is_read names g plan text rest headed read =
    let first = headed read.header read.start read.first in
    let extra = added_contexts plan in
    let added : body plan.pool plan.items extra plan ≡ read.body =
    read.adds.added first.ordered plan.pool plan.items extra (IsFront-same plan.pool) (Begins-same plan.items) (Begins-same extra)
    ∙ ap (λ (front : List ℕ). front ++ read.body) (first.empty plan.pool plan.items extra) in
    let line : read.header ≡ codes "hpkebatch " ++ decimal plan.version = first.is ∙ ap (λ (n : ℕ). codes "hpkebatch " ++ decimal n) (sym read.adds.version) in
    record {
      parts =
          read.parts
          ∙ ap (λ (line : List ℕ). (((line ++ codes "\n") ++ read.body) ++ codes "end\n") ++ rest) line
          ∙ ap (λ (body : List ℕ). ((((codes "hpkebatch " ++ decimal plan.version) ++ codes "\n") ++ body) ++ codes "end\n") ++ rest) (sym added)
          ∙ ap (λ (text : List ℕ). text ++ rest)
          (text_parts (codes "hpkebatch ") (decimal plan.version) (codes "\n") (seed_text plan.seed) (flat_map (key_text plan.pool) plan.keys)
          (flat_map (context_text plan.pool) (line_contexts plan)) (flat_map (lane_text plan.pool plan.items extra) plan.lanes) (codes "end\n"));
      limits = λ small. (read.adds.built small first.built).limits;
      plain = λ stay. read.adds.plain stay first.plain;
      live = λ two. read.adds.live first.ordered (first.live (sym read.adds.version ∙ two));
    }

-- a text that spells a plan
pub whole_read : (text : List ℕ) (plan : Plan) → Spells text plan → IsRead false plan text []
unfolding batch
whole_read text plan e = is_read false batch_lines plan text [] header_ok (text_read batch_lines (Adds false) spelling most_input text plan e)

-- a text whose front spells a plan
pub front_plan_read : (text : List ℕ) (found : FrontText Plan) → front batch_lines most_input text ≡ Ok found
    → IsRead false found.plan text (join_with_byte line_feed found.rest)
front_plan_read text found e =
    is_read false batch_lines found.plan text (join_with_byte line_feed found.rest) header_ok
    (front_read batch_lines (Adds false) spelling most_input text found e)

-- a text that spells a plan is the text of that plan
pub text_back : (text : List ℕ) (plan : Plan) → Spells text plan → text ≡ text_of plan
text_back text plan e = (whole_read text plan e).parts ∙ append-nil (text_of plan)

-- ---- how a whole text is answered

-- the plan that was read is within its limits
pub whole_within : (text : List ℕ) (plan : Plan) → whole (front batch_lines most_input text) ≡ Ok plan → length plan.pool ≤ most_input → IsWithinLimits plan
unfolding batch
whole_within text plan e small = (whole_read text plan e).limits small

pub front_within : (text : List ℕ) (found : FrontText Plan) → front batch_lines most_input text ≡ Ok found → length found.plan.pool ≤ most_input
    → IsWithinLimits found.plan
front_within text found e small = (front_plan_read text found e).limits small

-- its contexts stay
pub whole_plain : (text : List ℕ) (plan : Plan) → whole (front batch_lines most_input text) ≡ Ok plan → IsPlain plan
unfolding batch
whole_plain text plan e = (whole_read text plan e).plain refl

pub front_plain : (text : List ℕ) (found : FrontText Plan) → front batch_lines most_input text ≡ Ok found → IsPlain found.plan
front_plain text found e = (front_plan_read text found e).plain refl

-- what a front gives, and where it ends
pub ended_ok : (text : List ℕ) (read : Result (FrontText Plan) BadBatch) (plan : Plan) (end : ℕ) → ended text read ≡ Ok (plan, end)
    → (found : FrontText Plan) × (read ≡ Ok found) × (found.plan ≡ plan) × (length text - length (join_with_byte line_feed found.rest) ≡ end)
ended_ok text (Ok found) plan end e =
    let same : (found.plan, length text - length (join_with_byte line_feed found.rest)) ≡ (plan, end) = cc in
    (found, refl, ap (λ (front : Plan × ℕ). front.0) same, ap (λ (front : Plan × ℕ). front.1) same)
ended_ok text (Err fault) plan end e = absurd cc

-- what stands behind a front is no longer than the text
pub behind_front : {names : Bool} (text after : List ℕ) (plan : Plan) → IsRead names plan text (join_with_byte line_feed (lines_of after))
    → length after ≤ length text
behind_front text after plan read =
    let rest = join_with_byte line_feed (lines_of after) in
    omega (arith, ap length read.parts, length-append (text_of plan) rest, ap length (joined line_feed after))

-- where it ends
pub front_ends : {W : Type 0} (g : Grammar Plan W) (text after : List ℕ) (plan : Plan) (lines : ℕ)
    → front g most_input text ≡ Ok (record { plan = plan; lines = lines; rest = lines_of after })
    → ended text (front g most_input text) ≡ Ok (plan, length text - length after)
front_ends g text after plan lines e =
    ap (ended text) e ∙ ap (λ (rest : List ℕ). Ok (plan, length text - length rest)) (joined line_feed after)

-- each text has a plan or a first bad line
pub either : {P : Type 0} (read : Result P BadBatch)
    → ((plan : P) × (read ≡ Ok plan)) ⊎ ((n : ℕ) × (reason : Reason) × (read ≡ bad n reason))
either (Ok plan) = inl (plan, refl)
either (Err fault) = inr (fault.line, fault.reason, refl)
