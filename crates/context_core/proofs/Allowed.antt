-- The run of a rehearsal is allowed.
use Rattle.std.proofs.Common.{◌≡◌, ◌<◌, ◌≤◌, ℕ, zero, suc, true, false, List, [], ◌∷◌, length, map, sym, refl, ap, ◌∙◌, subst, arith, Option, Some, None, inl, inr}
use Rattle.std.specs.Prelude.{slice_get}
use Rattle.std.proofs.lemmas.Bool.{cases_lt}
use Rattle.std.proofs.lemmas.List.{length-map, get_or_past}
use Rattle.std.proofs.lemmas.List.FromFn.{length-map-range_with_len}
use Rattle.call_places.specs.declared.entries.Place.{Place}
use Rattle.hpke_context.specs.Answers.{Item}
use Rattle.hpke_context.specs.Contexts.{ContextView}
use Rattle.context_books.specs.Batches.{item_in, item_in_call, lane_of, on, IsServed}
use Rattle.context_books.specs.Legal.{Legal}
use Rattle.context_books.specs.Guesses.{AllGuessed, Guessed, guess_at}
use Rattle.context_books.specs.Histories.{journals_of}
use Rattle.context_books.proofs.Members.{got, none_in, contains_in}
use Rattle.context_core.specs.Core as core
use Rattle.context_core.specs.Core.{Core}
use Rattle.context_core.proofs.Schedules.{journals_legal, lane_count, all_guessed, legal_together}
use Rattle.batch_plans.specs.declared.plan.Plan.{Plan}
use Rattle.batch_plans.specs.declared.plan.CallLine.{CallLine}
use Rattle.batch_plans.specs.declared.plan.CallLine.TheVariants as calls
use Rattle.batch_plans.specs.declared.replies.CallRefusal.{CallRefusal}
use Rattle.batch_plans.specs.Within.{IsWithinLimits}
use Rattle.batch_plans.specs.Calls.{context_of}
use Rattle.batch_plans.specs.ReplyText.{has_stamps}
use Rattle.context_books.specs.Standing.{standing_at, refusal_on, call_refusal}
use Rattle.context_books.specs.ContextLines.{AreOfLines}
use Rattle.context_books.specs.Asks.{asked_by, ask_unless, ask_of, batch_of, cipher_at}
use Rattle.context_books.specs.Runs.{journal_of, LegalFor, IsAllowed}
use Rattle.context_core.specs.Rehearsals.{rehearsed}
use Rattle.context_core.proofs.Runs.{journal_there, journal_past, guesses_are}

-- a call that asks something asks a context that stands
pub stands_of : (contexts : List (Option ContextView)) (call : CallLine)
    → call_refusal contexts call ≡ None
    → (view : ContextView) × (standing_at contexts (context_of call) ≡ Some view)
stands_of contexts call free = step (standing_at contexts (context_of call)) refl free
  where
    step : (o : Option ContextView) → standing_at contexts (context_of call) ≡ o
        → refusal_on o call ≡ None → (view : ContextView) × (standing_at contexts (context_of call) ≡ Some view)
    step None is free = absurd (let f : Some _ ≡ None = free in cc)
    step (Some view) is free = (view, is)

pub within_contexts : (contexts : List (Option ContextView)) (c : ℕ) (view : ContextView)
    → standing_at contexts c ≡ Some view → c < length contexts
within_contexts contexts c view is = elim (cases_lt c (length contexts)) [
  | inl low ↦ low
  | inr high ↦ absurd (let f : Some view ≡ None = sym is ∙ get_or_past contexts c None high in cc)
]

module _ (plan : Plan) (contexts : List (Option ContextView)) where
  asks_there : (call : CallLine) (refusal : Option CallRefusal) (i c : ℕ) (x : Item)
      → call_refusal contexts call ≡ refusal
      → item_in (ask_unless refusal (asked_by plan call)) i ≡ Some (c, x) → c < length contexts
  asks_there call (Some why) i c x is at = absurd (let f : None ≡ Some (c, x) = at in cc)
  asks_there call None i c x is at =
      let t = stands_of contexts call is in
      within_contexts contexts c t.0 (ap (standing_at contexts) (sym (same call at)) ∙ t.1)
    where
      context_is : (o : Option Item) (d : ℕ)
          → Rattle.context_books.specs.Batches.with_context d o ≡ Some (c, x) → d ≡ c
      context_is None d e = absurd (let f : None ≡ Some (c, x) = e in cc)
      context_is (Some y) d e = ap pair e
        where
          pair : Option (ℕ × Item) → ℕ
          pair None = d
          pair (Some z) = z.0

      same : (call : CallLine) → item_in (asked_by plan call) i ≡ Some (c, x) → context_of call ≡ c
      same (calls.Seal context item) e = context_is _ context e
      same (calls.Unseal context item) e = context_is _ context e
      same (calls.UnsealAll context first count) e = context_is _ context e
      same call e = absurd (let f : None ≡ Some (c, x) = e in cc)

  calls_there : (calls : List CallLine) (k i c : ℕ) (x : Item)
      → item_in_call (slice_get (map (ask_of plan contexts) calls) k) i ≡ Some (c, x)
      → c < length contexts
  calls_there [] k i c x e = absurd (let f : None ≡ Some (c, x) = e in cc)
  calls_there (call ∷ calls) zero i c x e =
      asks_there call (call_refusal contexts call) i c x refl e
  calls_there (call ∷ calls) (suc k) i c x e = calls_there calls k i c x e

  lanes_there : (lanes : List (List CallLine)) (l k i c : ℕ) (x : Item)
      → item_in_call (slice_get (lane_of (map (map (ask_of plan contexts)) lanes) l) k) i
      ≡ Some (c, x) → c < length contexts
  lanes_there [] l k i c x e = absurd (let f : None ≡ Some (c, x) = e in cc)
  lanes_there (calls ∷ lanes) zero k i c x e = calls_there calls k i c x e
  lanes_there (calls ∷ lanes) (suc l) k i c x e = lanes_there lanes l k i c x e

  -- only contexts that stand serve places
  pub served_there : (c : ℕ) (p : Place) → IsServed (batch_of plan contexts) c p
      → c < length contexts
  served_there c p t = lanes_there plan.lanes p.lane p.call p.item c t.0 t.1

pub allowed : (plan : Plan) (contexts : List (Option ContextView)) (schedule : List ℕ)
    → IsWithinLimits plan → AreOfLines plan.contexts contexts
    → IsAllowed (rehearsed plan contexts schedule)
allowed plan contexts schedule within standing =
    let batch = batch_of plan contexts in
    let ciphers = cipher_at contexts in
    let last : Core = core.core batch ciphers schedule in
    let run = rehearsed plan contexts schedule in
    let n = length plan.contexts in
    let few : (c : ℕ) (p : Place) → IsServed batch c p → c < n = λ c p t.
    let low = served_there plan contexts c p t in let same = standing.count in omega arith in
    let none : (c : ℕ) → n ≤ c → on c last.history ≡ [] = λ c high.
    none_in (on c last.history) (λ p has.
    let t = ((journals_legal batch ciphers schedule c).served p).0
    (contains_in (on c last.history) p has) in
    let low : c < n = few c p t in absurd (omega arith)) in
    let is : (c : ℕ) → journal_of run c ≡ on c last.history = λ c. elim (cases_lt c n) [
      | inl low ↦ journal_there plan contexts last c low
      | inr high ↦ journal_past plan contexts last c high ∙ sym (none c high)
    ] in
    record {
      journals = length-map-range_with_len _ 0 n;
      lanes = length-map last.lanes (λ (lane : core.Lane). lane.guesses)
          ∙ lane_count batch ciphers schedule
          ∙ length-map plan.lanes (map (ask_of plan contexts));
      legal = elim (has_stamps plan.version) as (λ b. LegalFor b batch (journals_of n last.history)) [
        | true ↦ legal_together batch ciphers schedule n few
        | false ↦ λ c. subst (Legal batch c) (sym (is c)) (journals_legal batch ciphers schedule c)
      ];
      guessed = λ lane low.
          let size = lane_count batch ciphers schedule in
          let all = length-map plan.lanes (map (ask_of plan contexts)) in
          let s = got last.lanes lane (omega (arith, size, all)) in
          let t = all_guessed batch ciphers schedule lane s.0 s.1 in
          subst (AllGuessed batch ciphers (journal_of run) lane)
          (sym (guesses_are plan contexts last lane s.0 s.1)) (record {
            count = t.count;
            each = λ c call k o.
                subst (λ j. Guessed batch (ciphers c) j lane call k
                (guess_at (lane_of batch lane) s.0.guesses call)) (sym (is c))
                (t.each c call k o);
          });
    }
