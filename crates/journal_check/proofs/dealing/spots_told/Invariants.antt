use Rattle.std.proofs.Common.{◌≡◌, ◌++◌, drop}
use Rattle.journal_check.specs.Piles.{spots_told}
use Rattle.journal_check.proofs.dealing.spots_told.Given as goal

abbrev pub invariant-journals : goal.invariant-journals
invariant-journals l =
    l.spots.items ++ spots_told l.context (drop l.context l.journals) ≡ spots_told 0 l.journals
