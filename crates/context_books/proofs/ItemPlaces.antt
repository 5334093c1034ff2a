-- How many places the lanes have in the journal of a context.
use Rattle.std.proofs.Common.{◌≡◌, ◌<◌, ◌≤◌, ℕ, ◌+◌, ◌==◌, Bool, true, false, cond, List, [], ◌∷◌, length, map, sym, refl, ap, ◌∙◌, subst, arith, Option, Some, None, is_some, inl, inr, length-append, if◌then◌else◌}
use Rattle.std.specs.Prelude.{slice_index_or, sum_by}
use Rattle.std.specs.List.{All}
use Rattle.std.proofs.lemmas.Bool.{cases_lt}
use Rattle.std.proofs.lemmas.List.Sums.{sum_by-cons}
use Rattle.std.proofs.lemmas.List.Elements.{All-head, All-tail}
use Rattle.call_places.specs.declared.entries.Place.{Place}
use Rattle.hpke_context.specs.Contexts.{ContextView}
use Rattle.context_books.specs.Batches.{spots, block, asked, items_in, lane_of, on, own_places}
use Rattle.context_books.specs.Merging.{all_asked, lane_places}
use Rattle.context_books.proofs.Lists.{on-append, on-spots}
use Rattle.context_books.specs.Lists.{In}
use Rattle.context_books.proofs.Places.{in_own}
use Rattle.context_books.proofs.Blocks.{length-block}
use Rattle.batch_plans.specs.declared.plan.Plan.{Plan}
use Rattle.batch_plans.specs.declared.plan.CallLine.{CallLine}
use Rattle.batch_plans.specs.declared.plan.CallLine.TheVariants as calls
use Rattle.batch_plans.specs.declared.replies.CallRefusal.{CallRefusal}
use Rattle.batch_plans.specs.Within.{IsCallWithin, IsWithinLimits}
use Rattle.batch_plans.specs.Room.{items_at, items_on, if_served, all_items_on}
use Rattle.batch_plans.proofs.Rooms.{lane_within}
use Rattle.context_books.specs.Standing.{call_refusal}
use Rattle.context_books.specs.ContextLines.{export_limits, AreOfLines}
use Rattle.context_books.specs.Asks.{asked_by, ask_unless, ask_of, batch_of}
use Rattle.context_books.specs.Runs.{Run}
use Rattle.context_books.proofs.Done.{lane_asks, length-messages}
use Rattle.context_books.specs.Quotas.{lane_quota}
use Rattle.context_books.proofs.Counts.{counted, refused_call}
use Rattle.context_books.proofs.Sums.{count_parts, sum_numbers}

-- ---- the places that a lane asks for

module _ (plan : Plan) (contexts : List (Option ContextView)) (t : AreOfLines plan.contexts contexts)
    (number : ℕ) where
  abbrev limits : List ℕ
  limits = export_limits contexts

  abbrev count : CallLine → ℕ
  count = items_on plan.contexts limits number

  on_block : (l k c n items : ℕ) → length (block l k 0 n) ≡ items
      → length (on number (spots c (block l k 0 n))) ≡ (if c == number then items else 0)
  on_block l k c n items size =
      ap length (on-spots number c (block l k 0 n)) ∙ step (c == number)
    where
      step : (b : Bool) → length (cond b (block l k 0 n) []) ≡ (if b then items else 0)
      step true = size
      step false = refl

  on_call : (l k : ℕ) (call : CallLine) (refusal : Option CallRefusal)
      → call_refusal contexts call ≡ refusal
      → IsCallWithin (length plan.items) (length plan.pool) call
      → length (on number (asked l k (ask_unless refusal (asked_by plan call)))) ≡ count call
  on_call l k call (Some why) is within =
      sym (refused_call plan.contexts contexts t number call (ap is_some is))
  on_call l k (calls.Seal c item) None is within =
      on_block l k c 1 1 refl
      ∙ ap (λ r. items_at (if_served r c) number 1) (sym is)
      ∙ sym (counted plan.contexts contexts t number (calls.Seal c item))
  on_call l k (calls.Unseal c item) None is within =
      on_block l k c 1 1 refl
      ∙ ap (λ r. items_at (if_served r c) number 1) (sym is)
      ∙ sym (counted plan.contexts contexts t number (calls.Unseal c item))
  on_call l k (calls.UnsealAll c first n) None is within =
      let call = calls.UnsealAll c first n in
      let size = length-messages plan.items plan.pool first n within.3 in
      on_block l k c (length (items_in (asked_by plan call))) n
      (length-block l k 0 (length (items_in (asked_by plan call))) ∙ size)
      ∙ ap (λ r. items_at (if_served r c) number n) (sym is)
      ∙ sym (counted plan.contexts contexts t number call)
  on_call l k call None is within = refl

  on_calls : (l k : ℕ) (calls : List CallLine)
      → All (IsCallWithin (length plan.items) (length plan.pool)) calls
      → length (on number (all_asked l k (map (ask_of plan contexts) calls))) ≡ sum_by count calls
  on_calls l k [] all = refl
  on_calls l k (call ∷ calls) all =
      let P = IsCallWithin (length plan.items) (length plan.pool) in
      let first = asked l k (ask_of plan contexts call) in
      let rest = all_asked l (k + 1) (map (ask_of plan contexts) calls) in
      ap length (on-append number first rest) ∙ length-append (on number first) (on number rest)
      ∙ (λ i. on_call l k call (call_refusal contexts call) refl (All-head P call calls all) i
      + on_calls l (k + 1) calls (All-tail P call calls all) i)
      ∙ sym (sum_by-cons count call calls)

  -- as many as its quota
  pub quota_is : IsWithinLimits plan → (l : ℕ) → l < length plan.lanes
      → length (lane_places number l (lane_of (batch_of plan contexts) l))
      ≡ lane_quota plan contexts number (slice_index_or plan.lanes l [])
  quota_is within l low =
      let run : Run = record { plan = plan; contexts = contexts; journals = []; guesses = [] } in
      ap (λ asks. length (lane_places number l asks)) (lane_asks run l)
      ∙ on_calls l 0 (slice_index_or plan.lanes l []) (lane_within plan within l [] low).lines

-- ---- a journal

-- a list with the lanes' places on a context, and no others, has as many as the lanes ask for
pub journal_count : (plan : Plan) (contexts : List (Option ContextView))
    → AreOfLines plan.contexts contexts → (n : ℕ) → IsWithinLimits plan → (ps : List Place)
    → ((l : ℕ) → l < length plan.lanes
    → own_places l ps ≡ lane_places n l (lane_of (batch_of plan contexts) l))
    → ((l : ℕ) → length plan.lanes ≤ l → own_places l ps ≡ [])
    → length ps ≡ all_items_on plan.contexts (export_limits contexts) n plan.lanes
journal_count plan contexts t n within ps own others =
    let known : (p : Place) → In p ps → p.lane < length plan.lanes = λ p has.
    elim (cases_lt p.lane (length plan.lanes)) [
      | inl low ↦ low
      | inr high ↦ absurd (subst (In p) (others p.lane high) (in_own p ps has))
    ] in
    let parts = count_parts (λ (p : Place). p.lane) (length plan.lanes) ps known in
    let each = sum_numbers (λ l. length (own_places l ps)) (lane_quota plan contexts n) [] 0
    plan.lanes
    (λ i low. let start : 0 + i ≡ i = omega arith in
    ap (λ l. length (own_places l ps)) start
    ∙ ap length (own i low)
    ∙ quota_is plan contexts t n within i low) in
    sym parts ∙ each
