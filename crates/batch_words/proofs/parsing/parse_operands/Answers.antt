use Rattle.std.proofs.Common.{◌≡◌, ◌<◌, ◌^◌, Option, None, Some, arith, false, true, length, map}
use Rattle.std.specs.Prelude.{IfNone, IfSome}
use Rattle.std.specs.String.{string_bytes}
use Rattle.std.proofs.lemmas.List.{length-map}
use Rattle.std.proofs.lemmas.Result.{IfOk-weaker}
use Rattle.clap.specs.Walk.{texts}
use Rattle.clap.specs.declared.parser.matches.ArgMatches.{ArgMatches}
use Rattle.batch_words.specs.Parses.{IsParse, are_operands, has_each, operand_app, word_under}
use Rattle.batch_words.proofs.OperandReads.{operands-refused, operands-words}
use Rattle.batch_words.proofs.Rules.{operands_free}
use Rattle.batch_words.proofs.parsing.parse_operands.Goals as goal

few : (c : goal.After-parse) → length (texts c.args.names.now) < 2 ^ 32
few c = omega (arith, length-map c.args.names.now (λ s. s.now), c.requires.few)

pub parse-requires : goal.parse-requires
parse-requires c =
    let names = texts c.args.names.now in
    let few : length names < 2 ^ 32 = omega (arith, length-map c.args.names.now (λ s. s.now)) in
    operands_free names few

pub returns-clause-none : goal.returns-clause-none
returns-clause-none c =
    let names = texts c.args.names.now in
    let words = map string_bytes c.args.words.now in
    let each : (found : Option ArgMatches) → IsParse (operand_app names) words found → IfNone found (are_operands names words ≡ false) =
    λ found. elim found as (λ o. IsParse (operand_app names) words o → IfNone o (are_operands names words ≡ false)) [
      | None ↦ λ parse. operands-refused names c.requires.distinct (few c) words parse
      | Some m ↦ λ parse. tt
    ] in
    IfOk-weaker _ _ _ each c.parse.ensures

pub returns-clause-words : goal.returns-clause-words
returns-clause-words c =
    let names = texts c.args.names.now in
    let words = map string_bytes c.args.words.now in
    let each : (found : Option ArgMatches) → IsParse (operand_app names) words found → IfSome found (λ m. words ≡ map (word_under m) names) =
    λ found. elim found as (λ o. IsParse (operand_app names) words o → IfSome o (λ m. words ≡ map (word_under m) names)) [
      | None ↦ λ parse. tt
      | Some m ↦ λ parse. (operands-words names c.requires.distinct (few c) words m parse).0
    ] in
    IfOk-weaker _ _ _ each c.parse.ensures

pub returns-clause-each : goal.returns-clause-each
returns-clause-each c =
    let names = texts c.args.names.now in
    let words = map string_bytes c.args.words.now in
    let each : (found : Option ArgMatches) → IsParse (operand_app names) words found → IfSome found (λ m. has_each m names ≡ true) =
    λ found. elim found as (λ o. IsParse (operand_app names) words o → IfSome o (λ m. has_each m names ≡ true)) [
      | None ↦ λ parse. tt
      | Some m ↦ λ parse. (operands-words names c.requires.distinct (few c) words m parse).1
    ] in
    IfOk-weaker _ _ _ each c.parse.ensures
