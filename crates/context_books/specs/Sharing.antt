-- Which contexts of a plan two lanes share, and what of a reply doesn't depend on the order of lanes
-- that share none.
use Rattle.std.specs.Prelude.{ℕ, ◌≡◌, ◌⊎◌, ◌+◌, ◌<◌, ◌==◌, Bool, true, false, List, [], ◌∷◌, length, slice_get, Some}
use Rattle.std.specs.List.{list_any}
use Rattle.call_places.specs.declared.entries.Place.{Place}
use Rattle.call_places.specs.declared.spans.Item.{Item}
use Rattle.batch_plans.specs.declared.plan.Plan.{Plan}
use Rattle.batch_plans.specs.declared.plan.CallLine.{CallLine}
use Rattle.batch_plans.specs.declared.plan.CallLine.TheVariants as calls
use Rattle.batch_plans.specs.Lines.{batch_line}
use Rattle.batch_plans.specs.Names.{line_count, position}
use Rattle.context_books.specs.Batches.{Batch, IsServed}
use Rattle.context_books.specs.LaneCalls.{lane_calls}

-- ---- what a call does with the context that stands at this place among those of the plan

-- it seals
abbrev pub seals_on : Plan → ℕ → CallLine → Bool
seals_on plan at (calls.Seal context item) = position plan context == at
seals_on plan at call = false

-- it opens a message, or several
abbrev pub opens_on : Plan → ℕ → CallLine → Bool
opens_on plan at (calls.Unseal context item) = position plan context == at
opens_on plan at (calls.UnsealAll context first count) = position plan context == at
opens_on plan at call = false

-- it adds the context, or retires it
abbrev pub changes_name : Plan → ℕ → CallLine → Bool
changes_name plan at (calls.Add name) = line_count plan + name == at
changes_name plan at (calls.Retire name) = line_count plan + name == at
changes_name plan at call = false

-- ---- what a lane does with it

abbrev pub Seals : Plan → ℕ → ℕ → Type 0
Seals plan at lane = list_any (seals_on plan at) (lane_calls plan lane) ≡ true

abbrev pub Opens : Plan → ℕ → ℕ → Type 0
Opens plan at lane = list_any (opens_on plan at) (lane_calls plan lane) ≡ true

abbrev pub ChangesName : Plan → ℕ → ℕ → Type 0
ChangesName plan at lane = list_any (changes_name plan at) (lane_calls plan lane) ≡ true

-- ---- plans whose lanes share no context

-- no lane but this one seals with the context, adds it or retires it
abbrev pub NoOtherSeals : Plan → ℕ → ℕ → Type 0
NoOtherSeals plan at lane =
    (other : ℕ) → Seals plan at other ⊎ ChangesName plan at other → other ≡ lane

-- No two lanes seal on one context. Nor does a lane seal on one that another adds or retires: which of
-- its seals are served would depend on their order.
abbrev pub NoTwoLanesSeal : Plan → Type 0
NoTwoLanesSeal plan =
    (at lane : ℕ) → at < length plan.contexts → Seals plan at lane → NoOtherSeals plan at lane

-- no two lanes seal or open on one context
abbrev pub NoTwoLanesMeet : Plan → Type 0
NoTwoLanesMeet plan = (at lane other : ℕ) → at < length plan.contexts
    → Seals plan at lane ⊎ Opens plan at lane → Seals plan at other ⊎ Opens plan at other
    → other ≡ lane

-- one lane asks for all places of this context
abbrev pub IsOfOneLane : Batch → ℕ → Type 0
IsOfOneLane batch context =
    (p q : Place) → IsServed batch context p → IsServed batch context q → p.lane ≡ q.lane

-- ---- replies that are alike

-- each seal of the plan is answered by the same lines
abbrev pub SealsAlike : Plan → (ℕ → ℕ → CallLine → List (List ℕ))
    → (ℕ → ℕ → CallLine → List (List ℕ)) → Type 0
SealsAlike plan lines others = (lane number context : ℕ) (item : Item)
    → slice_get (lane_calls plan lane) number ≡ Some (calls.Seal context item)
    → lines lane number (calls.Seal context item) ≡ others lane number (calls.Seal context item)

-- a line `batch G M`
pub record IsGuessLine (line : List ℕ) : Type 0 where
  pub guess : ℕ
  pub missed : ℕ
  pub is : line ≡ batch_line guess missed

-- the same lines one by one, where both aren't lines `batch G M`
abbrev pub DifferInGuesses : List (List ℕ) → List (List ℕ) → Type 0
DifferInGuesses [] [] = Unit {0}
DifferInGuesses [] (other ∷ others) = ⊥
DifferInGuesses (line ∷ lines) [] = ⊥
DifferInGuesses (line ∷ lines) (other ∷ others) =
    ((line ≡ other) ⊎ (IsGuessLine line × IsGuessLine other)) × DifferInGuesses lines others
