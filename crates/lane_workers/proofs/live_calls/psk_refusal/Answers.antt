use Rattle.std.proofs.Common.{arith}
use Rattle.std.proofs.lemmas.Grind.{elements}
use Rattle.lane_workers.proofs.live_calls.psk_refusal.Goals as goal

pub returns-in-Ok : goal.returns-in-Ok
returns-in-Ok c = grind (arith, elements)

pub returns-in-Err-Inconsistent : goal.returns-in-Err-Inconsistent
returns-in-Err-Inconsistent c = grind (arith, elements)

pub returns-in-Err-Unneeded : goal.returns-in-Err-Unneeded
returns-in-Err-Unneeded c = grind (arith, elements)

pub returns-in-Err-Missing : goal.returns-in-Err-Missing
returns-in-Err-Missing c = grind (arith, elements)
