use Rattle.std.proofs.Common.{◌≡◌, []}
use Rattle.std.specs.Prelude.{replicate}
use Rattle.journal_check.proofs.dealing.empty_piles.Given as goal

abbrev pub invariant-piles : goal.invariant-piles
invariant-piles g l = l.piles.items ≡ replicate l._pile []
