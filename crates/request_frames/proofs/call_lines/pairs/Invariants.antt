use Rattle.std.proofs.Common.{◌≡◌, ◌≤◌, ◌+◌, ◌%◌, length, vec_len}
use Rattle.std.specs.Prelude.{sum_by}
use Rattle.batch_plans.specs.Limits.{most_opening}
use Rattle.request_frames.specs.Firsts.{first_items}
use Rattle.request_frames.specs.Forms.{pairs}
use Rattle.request_frames.proofs.call_lines.pairs.Given as goal

abbrev pub invariant-pairs : goal.invariant-pairs
invariant-pairs l = record {
  read : first_items (pairs l.pool.items l.items.items l.fields) ≡ first_items (pairs l.initial.pool.items l.initial.items.items l.initial.fields);
  even : length l.fields % 2 ≡ 0;
  few : vec_len l.items ≤ most_opening + 1;
  size : vec_len l.pool + sum_by length l.fields ≤ vec_len l.initial.pool + sum_by length l.initial.fields;
  count : vec_len l.items + length l.fields ≤ vec_len l.initial.items + length l.initial.fields;
}

abbrev pub decreases-pairs : goal.decreases-pairs
decreases-pairs l = length l.fields
