use Rattle.std.proofs.Common.{◌≡◌, ◌<◌, ◌^◌, List, None, refl, sym, ◌∙◌, subst, true, arith}
use Rattle.call_places.specs.declared.spans.Item.{Item}
use Rattle.batch_plans.specs.declared.plan.CallLine.{CallLine}
use Rattle.batch_plans.specs.declared.plan.ContextLine.{ContextLine}
use Rattle.batch_plans.specs.declared.plan.KeyLine.{KeyLine}
use Rattle.batch_plans.specs.Within.{IsWithinLimits}
use Rattle.context_tests.specs.declared.rehearsals.plans.TheConstants.{ITEMS}
use Rattle.context_tests.specs.SmallPlans.{are_small, two_lines}
use Rattle.context_tests.proofs.SmallPlans.{plain_plan, small_plan}
use Rattle.context_tests.proofs.rehearsals.plans.plan_of.Goals as goal

pub returns-clause-within : goal.returns-clause-within
returns-clause-within g c =
    let limit = c.args.limit in
    let items = c.items.result in
    let lanes = c.lanes.result in
    let pool = c.pool.result in
    let keys_are = c.from_vec.ensures.items ∙ c.new.ensures.items in
    let most : limit < 2 ^ 64 = omega arith in
    let named = subst (λ (ls : List (List CallLine)). are_small ITEMS ls ≡ true)
    (sym c.lanes.ensures) c.requires.small in
    let passed = subst (λ (xs : List Item). are_small xs lanes ≡ true) (sym c.items.ensures) named in
    let within = small_plan pool limit items lanes c.pool.ensures c.requires.limit most passed in
    subst (λ (lines : List ContextLine). IsWithinLimits (record {
      version = 2;
      seed = None;
      pool = pool;
      keys = c.from_vec.result;
      contexts = lines;
      items = items;
      lanes = lanes;
      added = 0;
    })) (sym c.contexts.ensures)
    (subst (λ (keys : List KeyLine). IsWithinLimits (record {
      version = 2;
      seed = None;
      pool = pool;
      keys = keys;
      contexts = two_lines limit;
      items = items;
      lanes = lanes;
      added = 0;
    })) (sym keys_are) within)

pub returns-clause-plain : goal.returns-clause-plain
returns-clause-plain g c =
    let limit = c.args.limit in
    let items = c.items.result in
    let lanes = c.lanes.result in
    let most : limit < 2 ^ 64 = omega arith in
    let named = subst (λ (ls : List (List CallLine)). are_small ITEMS ls ≡ true)
    (sym c.lanes.ensures) c.requires.small in
    let passed = subst (λ (xs : List Item). are_small xs lanes ≡ true) (sym c.items.ensures) named in
    let plain = plain_plan c.pool.result limit items lanes c.pool.ensures
    c.requires.limit most passed in
    record { added = refl; calls = plain.calls }
