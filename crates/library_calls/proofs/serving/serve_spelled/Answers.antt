use Rattle.std.proofs.Common.{◌∙◌, ap, subst, sym}
use Rattle.batch_words.specs.Words.{command_of}
use Rattle.library_calls.specs.Serving.{IsServed, command_in, words_in}
use Rattle.library_calls.proofs.Served.{unspelled}
use Rattle.library_calls.proofs.Words.{is_text, spelled_in, spells_none}
use Rattle.library_calls.proofs.serving.serve_spelled.Goals as goal

pub returns-then-not-is_text : goal.returns-then-not-is_text
returns-then-not-is_text c =
    unspelled (command_in c.args.words.now) c.args.input.now c.args.output.now c.args.written.now
    (spells_none c.args.words.now (sym c.if-not-is_text.ensures))

pub unreachable-requires : goal.unreachable-requires
unreachable-requires c = c.in-Err.ensures.cases.0 (is_text c.args.words.now (sym c.if-not-is_text.ensures))

pub returns : goal.returns
returns c =
    let same = spelled_in c.args.words.now (sym c.if-not-is_text.ensures)
    ∙ ap (λ l. command_of (words_in l)) (sym c.in-Ok.ensures.cases.0) in
    subst (λ spelled. IsServed spelled c.args.input.now c.args.output.now c.serve_line.new.output c.args.written.now c.serve_line.new.written c.serve_line.result)
    (sym same) c.serve_line.ensures
