use Rattle.std.proofs.Common.{◌≡◌, ◌+◌, ◌≤◌, length, take, vec_len, vec_capacity}
use Rattle.shared_runs.specs.Sharing.{shares}
use Rattle.shared_runs.proofs.sharing.shares.Given as goal

abbrev pub invariant-contexts : goal.invariant-contexts
invariant-contexts l = record {
  done : l.shares.items ≡ shares (take l.quotas-index l.all) l.others;
  count : vec_len l.shares ≡ l.quotas-index + 2;
  room : length l.all + 2 ≤ vec_capacity l.shares;
}
