use Rattle.std.proofs.Common.{◌≡◌, drop}
use Rattle.journal_check.specs.Piles.{by_context}
use Rattle.journal_check.proofs.dealing.deal_places.Given as goal

abbrev pub invariant-spots : goal.invariant-spots
invariant-spots l = by_context l.piles (drop l.spot-index l.spots) ≡ by_context l.initial.piles l.spots
