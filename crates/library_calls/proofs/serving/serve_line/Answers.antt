use Rattle.std.proofs.Common.{◌∙◌, ap, map, subst}
use Rattle.std.specs.String.{string_bytes}
use Rattle.batch_words.specs.Words.{command_of}
use Rattle.library_calls.specs.Serving.{IsServed}
use Rattle.library_calls.proofs.serving.serve_line.Goals as goal

pub returns-in-Ok : goal.returns-in-Ok
returns-in-Ok c =
    subst (λ spelled. IsServed spelled c.args.input.now c.args.output.now c.serve_words.new.output c.args.written.now
    c.serve_words.new.written c.serve_words.result)
    (ap (λ ws. command_of (map string_bytes ws)) c.deref.ensures.value ∙ ap command_of c.in-Ok.ensures)
    c.serve_words.ensures
