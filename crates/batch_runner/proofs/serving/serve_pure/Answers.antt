use Rattle.std.proofs.Common.{arith, refl}
use Rattle.batch_runner.proofs.serving.serve_pure.Goals as goal

pub returns-clause-complete : goal.returns-clause-complete
returns-clause-complete g c = λ command is. c.serve_words.ensures.complete command c.args.source.now is refl (λ rose. omega (arith, rose)) (λ rose. omega (arith, rose))
