-- The contexts that are added stand behind those of context lines.
use Rattle.std.proofs.Common.{◌≡◌, ℕ, zero, suc, ◌+◌, ◌<◌, ◌≤◌, List, [], ◌∷◌, ◌++◌, length, take, drop, Some, refl, sym, ap, subst, ◌∙◌, append_assoc, append-nil, add-one, arith}
use Rattle.std.specs.Prelude.{slice_get}
use Rattle.std.specs.List.{All, flat_map, range_with_len}
use Rattle.std.proofs.lemmas.List.{length-append, length-drop, take-append-le, drop-append-le, take_all, drop_all}
use Rattle.std.proofs.lemmas.List.Concat.{flat_map-append}
use Rattle.std.proofs.lemmas.List.Elements.{All-nil, All-push}
use Rattle.batch_plans.specs.declared.plan.Plan.{Plan}
use Rattle.batch_plans.specs.declared.plan.ContextLine.{ContextLine}
use Rattle.batch_plans.specs.declared.plan.CallLine.{CallLine}
use Rattle.batch_plans.specs.declared.plan.CallLine.TheVariants.{Add}
use Rattle.batch_plans.specs.Names.{line_count}
use Rattle.request_frames.specs.Batch.{add_call}
use Rattle.request_frames.specs.LivePlans.{added_contexts, IsShare, name_added, names_added, IsLive}

-- the first of these are those
pub record Begins {A : Type 0} (front whole : List A) : Type 0 where
  pub rest : List A
  pub parts : whole ≡ front ++ rest

pub Begins-same : {A : Type 0} (xs : List A) → Begins xs xs
Begins-same xs = record { rest = []; parts = sym (append-nil xs) }

pub Begins-then : {A : Type 0} (a b c : List A) → Begins a b → Begins b c → Begins a c
Begins-then {A} a b c first second = record {
  rest = first.rest ++ second.rest;
  parts = second.parts ∙ ap (λ (front : List A). front ++ second.rest) first.parts ∙ append_assoc a first.rest second.rest;
}

-- no context is added before the first lane, and no more than there are
pub record IsOrdered (plan : Plan) : Type 0 where
  pub none : length plan.lanes ≡ 0 → plan.added ≡ 0
  pub few : plan.added ≤ length plan.contexts

-- the contexts of context lines
abbrev pub line_contexts : Plan → List ContextLine
line_contexts plan = take (line_count plan) plan.contexts

-- ---- where none is added

pub all_lines : (plan : Plan) → plan.added ≡ 0 → line_contexts plan ≡ plan.contexts
all_lines plan none = take_all (line_count plan) plan.contexts (omega (arith, none))

pub none_added : (plan : Plan) → plan.added ≡ 0 → added_contexts plan ≡ []
none_added plan none = drop_all (line_count plan) plan.contexts (omega (arith, none))

-- a context line more
pub line_begins : (plan : Plan) (line : ContextLine) → plan.added ≡ 0
    → Begins (added_contexts plan) (added_contexts (record plan { contexts = plan.contexts ++ line ∷ [] }))
line_begins plan line none =
    let new : Plan = record plan { contexts = plan.contexts ++ line ∷ [] } in
    record { rest = []; parts = none_added new none ∙ sym (append-nil (added_contexts plan) ∙ none_added plan none) }

pub line_live : (plan : Plan) (pool : List ℕ) (line : ContextLine) → plan.added ≡ 0 → IsLive plan
    → IsLive (record plan { pool = pool; contexts = plan.contexts ++ line ∷ [] })
line_live plan pool line none h =
    let new : Plan = record plan { pool = pool; contexts = plan.contexts ++ line ∷ [] } in
    let shared : ContextLine → Type 0 = λ line. IsShare line.kind in
    record { version = h.version; shared = subst (All shared) (sym (none_added new none)) (All-nil shared); named = h.named }

-- ---- an added context more

seam : {A : Type 0} (xs : List A) (y : A) (rest : List A) → slice_get ((xs ++ y ∷ []) ++ rest) (length xs) ≡ Some y
seam [] y rest = refl
seam (x ∷ xs) y rest = seam xs y rest

module _ (plan : Plan) (pool : List ℕ) (line : ContextLine) where
  abbrev pub longer : Plan
  longer = record plan { pool = pool; contexts = plan.contexts ++ line ∷ []; added = plan.added + 1 }

  count_same : line_count longer ≡ line_count plan
  count_same = omega (arith, length-append plan.contexts (line ∷ []))

  pub lines_stay : line_contexts longer ≡ line_contexts plan
  lines_stay =
      ap (λ (n : ℕ). take n (plan.contexts ++ line ∷ [])) count_same
      ∙ take-append-le (line_count plan) plan.contexts (line ∷ []) (omega arith)

  pub added_more : added_contexts longer ≡ added_contexts plan ++ line ∷ []
  added_more =
      ap (λ (n : ℕ). drop n (plan.contexts ++ line ∷ [])) count_same
      ∙ drop-append-le (line_count plan) plan.contexts (line ∷ []) (omega arith)

  pub added_begins : Begins (added_contexts plan) (added_contexts longer)
  added_begins = record { rest = line ∷ []; parts = added_more }

  -- it is the context of the next name
  pub named_here : IsOrdered plan → (all : List ContextLine) → Begins (added_contexts longer) all → slice_get all plan.added ≡ Some line
  named_here h all begins =
      let before = added_contexts plan in
      let count : length before ≡ plan.added = omega (arith, length-drop (line_count plan) plan.contexts, h.few) in
      let parts : all ≡ (before ++ line ∷ []) ++ begins.rest = begins.parts ∙ ap (λ (front : List ContextLine). front ++ begins.rest) added_more in
      ap (λ (xs : List ContextLine). slice_get xs plan.added) parts
      ∙ ap (λ (n : ℕ). slice_get ((before ++ line ∷ []) ++ begins.rest) n) (sym count)
      ∙ seam before line begins.rest

-- ---- the names

-- one number more
pub range_more : (a n : ℕ) → range_with_len a (suc n) ≡ range_with_len a n ++ (a + n) ∷ []
range_more a zero = ap (λ (b : ℕ). b ∷ []) (let same : a ≡ a + 0 = omega arith in same)
range_more a (suc n) =
    let same : (a + 1) + n ≡ a + suc n = omega arith in
    ap (λ (rest : List ℕ). a ∷ rest) (range_more (a + 1) n ∙ ap (λ (b : ℕ). range_with_len (a + 1) n ++ b ∷ []) same)

-- a call in the last lane
pub names_more : (lanes : List (List CallLine)) (call : CallLine) → 0 < length lanes → names_added (add_call lanes call) ≡ names_added lanes ++ name_added call
names_more [] call some = absurd (omega arith)
names_more (lane ∷ []) call some =
    append-nil (flat_map name_added (lane ++ call ∷ []))
    ∙ flat_map-append name_added lane (call ∷ [])
    ∙ ap (λ (names : List ℕ). flat_map name_added lane ++ names) (append-nil (name_added call))
    ∙ ap (λ (names : List ℕ). names ++ name_added call) (sym (append-nil (flat_map name_added lane)))
names_more (lane ∷ next ∷ more) call some =
    ap (λ (names : List ℕ). flat_map name_added lane ++ names) (names_more (next ∷ more) call (omega arith))
    ∙ sym (append_assoc (flat_map name_added lane) (names_added (next ∷ more)) (name_added call))

-- a lane more
pub names_lane : (lanes : List (List CallLine)) → names_added (lanes ++ [] ∷ []) ≡ names_added lanes
names_lane lanes = flat_map-append (flat_map name_added) lanes ([] ∷ []) ∙ append-nil (names_added lanes)

-- a call that adds no context
pub call_live : (plan : Plan) (call : CallLine) → 0 < length plan.lanes → name_added call ≡ [] → IsLive plan → names_added (add_call plan.lanes call) ≡ range_with_len 0 plan.added
call_live plan call some nameless h =
    names_more plan.lanes call some
    ∙ ap (λ (names : List ℕ). names_added plan.lanes ++ names) nameless
    ∙ append-nil (names_added plan.lanes) ∙ h.named

-- a call that adds the next one
pub added_live : (plan : Plan) (pool : List ℕ) (line : ContextLine) → 0 < length plan.lanes → IsShare line.kind → IsLive plan
    → IsLive (record (longer plan pool line) { lanes = add_call plan.lanes (Add plan.added) })
added_live plan pool line some is h =
    let shared : ContextLine → Type 0 = λ line. IsShare line.kind in
    record {
      version = h.version;
      shared = subst (All shared) (sym (added_more plan pool line)) (All-push shared (added_contexts plan) line h.shared is);
      named =
          names_more plan.lanes (Add plan.added) some
          ∙ ap (λ (names : List ℕ). names ++ plan.added ∷ []) h.named
          ∙ ap (λ (n : ℕ). range_with_len 0 plan.added ++ n ∷ []) (let same : plan.added ≡ 0 + plan.added = omega arith in same)
          ∙ sym (range_more 0 plan.added)
          ∙ ap (range_with_len 0) (sym (add-one plan.added));
    }
