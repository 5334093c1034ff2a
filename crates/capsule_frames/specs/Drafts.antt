-- ---- for the proofs: the plan of the lines so far, as the code holds it
use Rattle.std.specs.Prelude.{◌≤◌, [], vec_len}
use Rattle.batch_plans.specs.Limits.{most_input}
use Rattle.capsule_frames.specs.declared.draft.CapsuleDraft.{CapsuleDraft}
use Rattle.capsule_frames.specs.declared.lines.CapsulePlan.{CapsulePlan}

abbrev pub plan_of : CapsuleDraft → CapsulePlan
plan_of d =
    record {
      plan = record {
        version = 2;
        seed = d.seed;
        pool = d.pool.items;
        keys = d.keys.items;
        contexts = [];
        items = [];
        lanes = [];
        added = 0;
      };
      lines = d.lines.items;
    }

-- the pool is no longer than the input
abbrev pub IsKept : CapsuleDraft → Type 0
IsKept d = vec_len d.pool ≤ most_input
