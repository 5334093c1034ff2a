use Rattle.batch_words.specs.Parses.{rule_under}
use Rattle.batch_words.proofs.Rules.{one_more}
use Rattle.batch_words.proofs.parsing.parser_of.Goals as goal

pub loop-name-preserved : goal.loop-name-preserved
loop-name-preserved c =
    one_more (rule_under c.args.form) c.args.names.now c.loop-name.name-index _ _ _ _ c.loop-name-test.true c.loop-name.invariant (c.in_ok-parser.ensures.shape c.argument.ensures.local)
    c.argument.ensures.rule
