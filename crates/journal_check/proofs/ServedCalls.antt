-- The places of a call that is served, and its replies.
use Rattle.std.proofs.Common.{◌≡◌, ◌≢◌, ℕ, ◌+◌, ◌<◌, cond, List, [], ◌∷◌, ◌++◌, length, map, drop, Result, Ok, Err, Option, Some, None, refl, sym, ap, ◌∙◌, subst, inl, inr, eq-eqb, ne_eqb, arith}
use Rattle.std.specs.Prelude.{slice_index}
use Rattle.std.specs.Result.{OnOk}
use Rattle.std.proofs.lemmas.Bool.{cases_eq, cases_lt}
use Rattle.std.proofs.lemmas.List.{get_or_past}
use Rattle.call_places.specs.declared.entries.Place.{Place}
use Rattle.call_places.specs.declared.entries.Mark.{Mark}
use Rattle.hpke_context.specs.Contexts.{ContextView}
use Rattle.context_books.specs.Batches.{own_places, block}
use Rattle.context_books.specs.Histories.{marks_at, places}
use Rattle.batch_plans.specs.Calls.{context_of}
use Rattle.batch_plans.specs.declared.plan.CallLine.{CallLine}
use Rattle.batch_plans.specs.declared.plan.CallLine.TheVariants as calls
use Rattle.batch_plans.specs.declared.replies.CallRefusal.{CallRefusal}
use Rattle.context_books.specs.Standing.{standing_at, call_refusal}
use Rattle.context_books.specs.Runs.{Run, place_line, item_lines}
use Rattle.journal_check.specs.declared.lane_walks.Walk.{Walk}
use Rattle.result_lines.proofs.DueReplies.{stands_for}
use Rattle.result_lines.proofs.RunTexts.{length-block}
use Rattle.journal_check.specs.Asks.{items_asked, asked_unless, asked_in, places_asked, places_from}
use Rattle.journal_check.specs.Walks.{Points, IsRun, PointsTo, Stands, run_in, left_in}

-- what a call asks, where it asks for items
pub asked_some : (refusal : Option CallRefusal) (asks : Option (ℕ × ℕ)) (one : ℕ × ℕ) → asked_unless refusal asks ≡ Some one → (refusal ≡ None) × (asks ≡ Some one)
asked_some None asks one is = (refl, is)
asked_some (Some refusal) asks one is = absurd cc

pub some_pair : (a b : ℕ × ℕ) → Some a ≡ Some b → a ≡ b
some_pair a b is = cc

pub context_asked : (call : CallLine) (at n : ℕ) → items_asked call ≡ Some (at, n) → context_of call ≡ at
context_asked (calls.Seal context item) at n is = ap (λ (p : ℕ × ℕ). p.0) (some_pair (context, 1) (at, n) is)
context_asked (calls.Unseal context item) at n is = ap (λ (p : ℕ × ℕ). p.0) (some_pair (context, 1) (at, n) is)
context_asked (calls.UnsealAll context first count) at n is = ap (λ (p : ℕ × ℕ). p.0) (some_pair (context, count) (at, n) is)
context_asked (calls.Export context exporter size) at n is = absurd cc
context_asked (calls.Add name) at n is = absurd cc
context_asked (calls.Retire name) at n is = absurd cc

pub lines_asked : (run : Run) (lane number : ℕ) (call : CallLine) (at n : ℕ) → items_asked call ≡ Some (at, n)
    → map (place_line run at) (block lane number 0 n) ≡ item_lines run lane number call
lines_asked run lane number (calls.Seal context item) at n is =
    ap (λ (p : ℕ × ℕ). map (place_line run p.0) (block lane number 0 p.1)) (sym (some_pair (context, 1) (at, n) is))
lines_asked run lane number (calls.Unseal context item) at n is =
    ap (λ (p : ℕ × ℕ). map (place_line run p.0) (block lane number 0 p.1)) (sym (some_pair (context, 1) (at, n) is))
lines_asked run lane number (calls.UnsealAll context first count) at n is =
    ap (λ (p : ℕ × ℕ). map (place_line run p.0) (block lane number 0 p.1)) (sym (some_pair (context, count) (at, n) is))
lines_asked run lane number (calls.Export context exporter size) at n is = absurd cc
lines_asked run lane number (calls.Add name) at n is = absurd cc
lines_asked run lane number (calls.Retire name) at n is = absurd cc

module _ (contexts : List (Option ContextView)) (journals : List (List Mark)) (lane number : ℕ) (call : CallLine) (more : List CallLine) (cursors : List ℕ)
    (points : Points contexts journals lane number (call ∷ more) cursors) (c n : ℕ) (asks : items_asked call ≡ Some (c, n)) (free : call_refusal contexts call ≡ None)
    (there : c < length journals) where
  asked_is : asked_in contexts call ≡ Some (c, n)
  asked_is = ap (λ (r : Option CallRefusal). asked_unless r (items_asked call)) free ∙ asks

  -- where its context's cursor points
  pub own_here : own_places lane (places (drop (slice_index cursors c) (marks_at journals c))) ≡ block lane number 0 n ++ places_from contexts c lane (number + 1) more
  own_here =
      points c there
      ∙ ap (λ (o : Option (ℕ × ℕ)). places_asked c lane number o ++ places_from contexts c lane (number + 1) more) asked_is
      ∙ ap (λ b. cond b (block lane number 0 n) [] ++ places_from contexts c lane (number + 1) more) (eq-eqb c c refl)

  -- the cursors behind its places
  points_on : (new : List ℕ) → own_places lane (places (drop (slice_index new c) (marks_at journals c))) ≡ places_from contexts c lane (number + 1) more
      → ((d : ℕ) → d ≢ c → slice_index new d ≡ slice_index cursors d) → Points contexts journals lane (number + 1) more new
  points_on new here others d low = elim (cases_eq d c) [
    | inl same ↦ subst (λ (k : ℕ). own_places lane (places (drop (slice_index new k) (marks_at journals k))) ≡ places_from contexts k lane (number + 1) more) (sym same) here
    | inr other ↦
        ap (λ (k : ℕ). own_places lane (places (drop k (marks_at journals d)))) (others d other)
        ∙ points d low
        ∙ ap (λ (o : Option (ℕ × ℕ)). places_asked d lane number o ++ places_from contexts d lane (number + 1) more) asked_is
        ∙ ap (λ b. cond b (block lane number 0 n) [] ++ places_from contexts d lane (number + 1) more) (ne_eqb c d (λ e. other (sym e)))
  ]

  -- where as many of its places were passed
  pub points_passed : (new : List ℕ)
      → ((ps later : List Place) → length ps ≡ n → own_places lane (places (drop (slice_index cursors c) (marks_at journals c))) ≡ ps ++ later
      → own_places lane (places (drop (slice_index new c) (marks_at journals c))) ≡ later)
      → ((d : ℕ) → d ≢ c → slice_index new d ≡ slice_index cursors d) → Points contexts journals lane (number + 1) more new
  points_passed new passed others =
      points_on new (passed (block lane number 0 n) (places_from contexts c lane (number + 1) more) (length-block lane number 0 n) own_here) others

-- there is a journal for its context
pub there_for : (contexts : List (Option ContextView)) (journals : List (List Mark)) (call : CallLine) (c : ℕ) → context_of call ≡ c → call_refusal contexts call ≡ None
    → length contexts ≡ length journals → c < length journals
there_for contexts journals call c of free size = elim (cases_lt c (length contexts)) [
  | inl low ↦ omega arith
  | inr high ↦ absurd (let s = stands_for contexts call free in
      let none : standing_at contexts (context_of call) ≡ None = ap (standing_at contexts) of ∙ get_or_past contexts c None high in
      let clash : None ≡ Some s.0 = sym none ∙ s.1 in cc)
]

-- no call
abbrev pub no_call : CallLine
no_call = calls.Seal 0 (record { aad = record { start = 0; len = 0 }; text = record { start = 0; len = 0 } })

-- what follows where a call succeeded
pub on_ok : {T E P Q : Type 0} (r : Result T E) → (P → Q) → OnOk r P → OnOk r Q
on_ok (Ok x) f p = f p
on_ok (Err e) f p = tt

-- the cursors before the next call of a lane
pub points_at : (contexts : List (Option ContextView)) (journals : List (List Mark)) (lane number : ℕ) (calls next : List CallLine) (cursors : List ℕ)
    → calls ≡ next → Points contexts journals lane number calls cursors → Points contexts journals lane number next cursors
points_at contexts journals lane number calls next cursors same points c low =
    points c low ∙ ap (places_from contexts c lane number) same

-- ---- a call of a walk that asks for items

module _ (walk : Walk) (run : IsRun walk.checked) (call : CallLine) (at n : ℕ) (asked : asked_in walk.checked.contexts.now call ≡ Some (at, n)) where
  abbrev contexts : List (Option ContextView)
  contexts = walk.checked.contexts.now

  abbrev journals : List (List Mark)
  journals = walk.checked.journals.now

  both : (call_refusal contexts call ≡ None) × (items_asked call ≡ Some (at, n))
  both = asked_some (call_refusal contexts call) (items_asked call) (at, n) asked

  of : context_of call ≡ at
  of = context_asked call at n both.1

  pub stands_on : Stands walk.checked at
  stands_on =
      let s = stands_for contexts call both.0 in
      (s.0, ap (standing_at contexts) (sym of) ∙ s.1)

  pub there : at < length journals
  there = there_for contexts journals call at of both.0 run.contexts_size

  pub left_here : (cursors : List ℕ) (number : ℕ) (more : List CallLine) → PointsTo walk number (call ∷ more) cursors
      → left_in walk cursors at ≡ block walk.lane number 0 n ++ places_from contexts at walk.lane (number + 1) more
  left_here cursors number more points = own_here contexts journals walk.lane number call more cursors points at n both.1 both.0 there

  pub points_behind : (cursors new : List ℕ) (number : ℕ) (more : List CallLine) → PointsTo walk number (call ∷ more) cursors
      → ((ps later : List Place) → length ps ≡ n → left_in walk cursors at ≡ ps ++ later → left_in walk new at ≡ later)
      → ((d : ℕ) → d ≢ at → slice_index new d ≡ slice_index cursors d) → PointsTo walk (number + 1) more new
  points_behind cursors new number more points passed others =
      points_passed contexts journals walk.lane number call more cursors points at n both.1 both.0 there new passed others

  pub lines_here : (number : ℕ) → map (place_line (run_in walk.checked) at) (block walk.lane number 0 n) ≡ item_lines (run_in walk.checked) walk.lane number call
  lines_here number = lines_asked (run_in walk.checked) walk.lane number call at n both.1
