use Rattle.std.proofs.Common.{◌∙◌, ap₂, map, subst}
use Rattle.std.specs.String.{string_bytes}
use Rattle.clap.specs.Walk.{texts}
use Rattle.batch_words.specs.Parses.{IsParse, option_app}
use Rattle.batch_words.specs.Words.{options_with}
use Rattle.batch_words.proofs.OptionAnswers.{options-parsed, options-refused}
use Rattle.batch_words.proofs.options.read_options.Goals as goal

pub returns-in-Some : goal.returns-in-Some
returns-in-Some c =
    let names = texts c.args.names.now in
    let words = map string_bytes c.args.words.now in
    c.options_with.ensures ∙ ap₂ options_with c.get_str.ensures c.get_str-in-Some.ensures
    ∙ options-parsed names c.requires words c.in-Some.matches (subst (IsParse (option_app names) words) c.in-Some.is c.in_ok-matches.ensures)

pub returns-in-None : goal.returns-in-None
returns-in-None c =
    let names = texts c.args.names.now in
    let words = map string_bytes c.args.words.now in
    options-refused names c.requires words (subst (IsParse (option_app names) words) c.in-None.is c.in_ok-matches.ensures)
