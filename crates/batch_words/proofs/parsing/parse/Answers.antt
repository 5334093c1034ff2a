use Rattle.std.proofs.Common.{◌≡◌, ◌∙◌, Some, None, ap, false, true, codes, map, subst, sym}
use Rattle.std.specs.Str.{bytes_eq}
use Rattle.std.specs.String.{string_bytes}
use Rattle.clap.proofs.WalkLemmas.{list_any-map}
use Rattle.clap.specs.Faults.{is_simple_and_free}
use Rattle.clap.specs.Simple.{app_of}
use Rattle.clap.specs.Walk.{texts}
use Rattle.batch_words.specs.Parses.{IsParse, app_under, has_dashes}
use Rattle.batch_words.proofs.Parses.{refused_with_dashes, taken, refused_by_clap, simple_too}
use Rattle.batch_words.proofs.parsing.parse.Goals as goal

pub returns-then-has_dashes : goal.returns-then-has_dashes
returns-then-has_dashes c =
    let words = map string_bytes c.args.words.now in
    refused_with_dashes (app_under c.args.form (texts c.args.names.now)) words
    (sym (list_any-map (λ word. bytes_eq word (codes "--")) string_bytes c.args.words.now) ∙ sym c.has_dashes.ensures ∙ c.if-has_dashes.true)

pub returns-in-Ok : goal.returns-in-Ok
returns-in-Ok c =
    let words = map string_bytes c.args.words.now in
    let app = app_of c.in_ok-parser.parser in
    let free : is_simple_and_free app ≡ true = ap is_simple_and_free c.in_ok-parser.ensures ∙ c.requires in
    let clean : has_dashes words ≡ false =
    sym (list_any-map (λ word. bytes_eq word (codes "--")) string_bytes c.args.words.now) ∙ sym c.has_dashes.ensures ∙ c.if-has_dashes.false in
    subst (λ app. IsParse app words (Some c.in-Ok.matches)) c.in_ok-parser.ensures
    (taken app words clean (c.in-Ok.ensures.kinds free), (c.in-Ok.ensures.matches (simple_too app words free)).0)

pub returns : goal.returns
returns c =
    let words = map string_bytes c.args.words.now in
    let app = app_of c.in_ok-parser.parser in
    let free : is_simple_and_free app ≡ true = ap is_simple_and_free c.in_ok-parser.ensures ∙ c.requires in
    subst (λ app. IsParse app words None) c.in_ok-parser.ensures
    (refused_by_clap app words c.in-Err.error (c.in-Err.ensures.kinds free)
    (λ memory. c.in_default.not-OutOfMemory (c.kind.ensures ∙ memory)))
