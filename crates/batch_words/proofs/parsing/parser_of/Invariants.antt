use Rattle.std.proofs.Common.{◌≡◌, take}
use Rattle.clap.specs.Simple.{app_of}
use Rattle.clap.specs.Walk.{texts}
use Rattle.batch_words.specs.Parses.{app_under}
use Rattle.batch_words.proofs.parsing.parser_of.Given as goal

abbrev pub invariant-loop-name : goal.invariant-loop-name
invariant-loop-name l = app_of l.parser ≡ app_under l.form (texts (take l.name-index l.names))
