-- How many places the calls of a lane ask for.
use Rattle.std.proofs.Common.{◌≡◌, ◌≤◌, ℕ, ◌+◌, List, [], ◌∷◌, ◌++◌, length, map, take, drop, sym, refl, ◌∙◌, arith, Option, Some, None, length-append}
use Rattle.std.specs.Prelude.{sum_by}
use Rattle.std.proofs.lemmas.List.{length-map, length-take}
use Rattle.std.proofs.lemmas.List.Sums.{sum_by-cons, sum_by-take-drop}
use Rattle.hpke_context.specs.Contexts.{ContextView}
use Rattle.call_places.specs.Messages.{sealed_message, sealed_messages}
use Rattle.context_books.specs.Batches.{Ask, unseal, asked, items_in}
use Rattle.context_books.specs.Merging.{all_asked}
use Rattle.context_core.specs.CoreStages.{Stage, Fresh, HasGuess, HasTests, HasPlaces, placed}
use Rattle.batch_plans.specs.declared.plan.Plan.{Plan}
use Rattle.batch_plans.specs.declared.plan.CallLine.{CallLine}
use Rattle.batch_plans.specs.declared.plan.CallLine.TheVariants as calls
use Rattle.batch_plans.specs.declared.replies.CallRefusal.{CallRefusal}
use Rattle.batch_plans.specs.Limits.{items_of, items_from}
use Rattle.context_books.specs.Standing.{call_refusal}
use Rattle.context_books.specs.Asks.{asked_by, ask_unless, ask_of}
use Rattle.context_core.proofs.Adding.{length-asked}

-- ---- the places that the calls of a lane ask for

abbrev size : Ask → ℕ
size a = length (items_in a)

pub asked_size : (l k : ℕ) (asks : List Ask)
    → length (all_asked l k asks) ≡ sum_by size asks
asked_size l k [] = refl
asked_size l k (a ∷ asks) =
    length-append (asked l k a) (all_asked l (k + 1) asks)
    ∙ (λ i. length-asked l k a i + asked_size l (k + 1) asks i) ∙ sym (sum_by-cons size a asks)

placed-le : (stage : Stage) (l k : ℕ) (asks : List Ask)
    → length (placed stage l k asks) ≤ sum_by size asks
placed-le stage l k [] = omega arith
placed-le Fresh l k (a ∷ asks) = omega arith
placed-le HasGuess l k (a ∷ asks) = omega arith
placed-le HasTests l k (a ∷ asks) = omega arith
placed-le HasPlaces l k (a ∷ asks) = omega (arith, length-asked l k a, sum_by-cons size a asks)

-- a lane has no more places than its calls ask for
pub own-le : (stage : Stage) (l k : ℕ) (asks : List Ask)
    → length (all_asked l 0 (take k asks) ++ placed stage l k (drop k asks)) ≤ sum_by size asks
own-le stage l k asks =
    omega (
      arith,
      length-append (all_asked l 0 (take k asks)) (placed stage l k (drop k asks)),
      asked_size l 0 (take k asks),
      placed-le stage l k (drop k asks),
      sum_by-take-drop size asks k,
    )

module _ (plan : Plan) (contexts : List (Option ContextView)) where
  ask_size : (call : CallLine) (refusal : Option CallRefusal)
      → size (ask_unless refusal (asked_by plan call)) ≤ items_of call
  ask_size call (Some why) = omega arith
  ask_size (calls.UnsealAll context first count) None =
      let items = items_from plan.items first count in
      omega (
        arith,
        length-map (sealed_messages plan.pool items) unseal,
        length-map items (sealed_message plan.pool),
        length-take count (drop first plan.items),
      )
  ask_size call None = omega arith

  pub asks_size : (calls : List CallLine)
      → sum_by size (map (ask_of plan contexts) calls) ≤ sum_by items_of calls
  asks_size [] = omega arith
  asks_size (call ∷ calls) =
      omega (
        arith,
        sum_by-cons size (ask_of plan contexts call) (map (ask_of plan contexts) calls),
        sum_by-cons items_of call calls,
        ask_size call (call_refusal contexts call),
        asks_size calls,
      )
