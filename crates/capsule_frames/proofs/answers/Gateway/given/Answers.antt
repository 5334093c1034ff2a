use Rattle.std.proofs.Common.{arith}
use Rattle.std.proofs.lemmas.Grind.{common_steps}
use Rattle.capsule_frames.proofs.answers.Gateway.given.Goals as goal

pub request_at-requires : goal.request_at-requires
request_at-requires g c = grind (arith, common_steps)

pub given_with-requires-clause-request : goal.given_with-requires-clause-request
given_with-requires-clause-request g c = grind (arith, common_steps)

pub given_with-requires-clause-text : goal.given_with-requires-clause-text
given_with-requires-clause-text g c = grind (arith, common_steps)

pub given_with-requires-in-Some-Of857-clause-request : goal.given_with-requires-in-Some-Of857-clause-request
given_with-requires-in-Some-Of857-clause-request g c = grind (arith, common_steps)

pub given_with-requires-in-Some-Of857-clause-text : goal.given_with-requires-in-Some-Of857-clause-text
given_with-requires-in-Some-Of857-clause-text g c = grind (arith, common_steps)
