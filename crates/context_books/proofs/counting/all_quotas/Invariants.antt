use Rattle.std.proofs.Common.{◌≡◌, ◌≤◌, length, map, vec_len, vec_capacity}
use Rattle.std.specs.List.{range_with_len}
use Rattle.batch_plans.specs.declared.plan.Plan.{Plan}
use Rattle.context_books.specs.ContextLines.{AreOfLines}
use Rattle.context_books.specs.Quotas.{quotas_on}
use Rattle.context_books.proofs.counting.all_quotas.Given as goal

abbrev pub invariant-contexts : goal.invariant-contexts
invariant-contexts l = record {
  done : (plan : Plan) → AreOfLines plan.contexts l.contexts → plan.lanes ≡ l.lanes
      → l.all.items ≡ map (quotas_on plan l.contexts) (range_with_len 0 l.number);
  count : vec_len l.all ≡ l.number;
  room : length l.contexts ≤ vec_capacity l.all;
}
