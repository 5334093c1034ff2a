use Rattle.clap.specs.Walk.{texts}
use Rattle.batch_words.proofs.Rules.{options_free}
use Rattle.batch_words.proofs.parsing.parse_options.Goals as goal

pub parse-requires : goal.parse-requires
parse-requires c = options_free (texts c.args.names.now)
