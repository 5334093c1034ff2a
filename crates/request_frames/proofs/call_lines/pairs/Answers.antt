use Rattle.std.proofs.Common.{◌≤◌, ◌+◌, length, rules, arith}
use Rattle.std.proofs.lemmas.Result.{err_from_is_err_and}
use Rattle.batch_plans.specs.Limits.{most_opening}
use Rattle.request_frames.proofs.Firsts.{first_go_on, first_fail, first_none, first_pass}
use Rattle.request_frames.proofs.call_lines.pairs.Goals as goal

pub returns-in_err-item-clause-read : goal.returns-in_err-item-clause-read
returns-in_err-item-clause-read c =
    let p = err_from_is_err_and c.from_residual.result c.from_residual.ensures.1 in
    rw (p.1, p.2) (first_fail _ _ _ c.pairs.invariant.even _ c.pairs.invariant.read c.in_err-item.field-0.0 (search rules) c.in_err-item.ensures.read)

pub pairs-preserved-in-Continue-branch-2 : goal.pairs-preserved-in-Continue-branch-2
pairs-preserved-in-Continue-branch-2 c = record {
  read = rw c.in_ok-push.ensures.items (first_go_on _ _ _ c.pairs.invariant.even _ c.pairs.invariant.read _ _ _ (search rules) c.in_ok-item.ensures.read);
  even = omega (arith, c.in_ok-item.ensures.count);
  few = omega (arith, c.len.ensures, c.if-len-le-MOST_OPENING.true, c.in_ok-push.ensures.len);
  size = omega (arith, c.in_ok-item.ensures.size);
  count = omega (arith, c.in_ok-item.ensures.count, c.in_ok-push.ensures.len);
}

pub pairs-preserved : goal.pairs-preserved
pairs-preserved c = record {
  read = first_pass _ _ _ c.pairs.invariant.even _ c.pairs.invariant.read _ _ _ (search rules) c.in_ok-item.ensures.read (omega (arith, c.len.ensures, c.if-len-le-MOST_OPENING.false));
  even = omega (arith, c.in_ok-item.ensures.count);
  few = c.pairs.invariant.few;
  size = omega (arith, c.in_ok-item.ensures.size);
  count = omega (arith, c.in_ok-item.ensures.count);
}

pub returns-clause-read : goal.returns-clause-read
returns-clause-read c =
    let few : length c.pairs.items.items ≤ most_opening + 1 = omega (arith, c.pairs.invariant.few, c.pairs.items.ok) in
    first_none _ _ _ c.pairs.invariant.even _ c.pairs.invariant.read (search rules) few
