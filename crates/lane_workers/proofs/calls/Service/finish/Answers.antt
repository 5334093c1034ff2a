use Rattle.std.proofs.Common.{ℕ, All, List, length, sym, refl, subst, arith}
use Rattle.std.proofs.lemmas.Grind.{common_steps}
use Rattle.call_places.specs.Spans.{ItemIsInPool}
use Rattle.hpke_context.specs.Calls.{HasCipher}
use Rattle.lane_workers.proofs.calls.Service.finish.Goals as goal

pub finish_opening-requires-clause-cipher : goal.finish_opening-requires-clause-cipher
finish_opening-requires-clause-cipher g c =
    subst HasCipher (sym c.context.ensures.context) c.requires.cipher

pub finish_opening-requires-clause-spans : goal.finish_opening-requires-clause-spans
finish_opening-requires-clause-spans g c =
    subst (λ (bytes : List ℕ). All (ItemIsInPool (length bytes)) c.args.items.now)
    (sym c.as_slice-pool.ensures.items) c.requires.spans

pub finish_opening-requires-clause-room : goal.finish_opening-requires-clause-room
finish_opening-requires-clause-room g c = c.requires.room

pub finish_opening-requires-clause-left : goal.finish_opening-requires-clause-left
finish_opening-requires-clause-left g c = c.requires.left

pub returns-clause-same : goal.returns-clause-same
returns-clause-same g c = refl

pub returns-clause-puts : goal.returns-clause-puts
returns-clause-puts g c = grind (arith, common_steps)
