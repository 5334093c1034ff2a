use Rattle.std.proofs.Common.{◌∙◌, map, sym}
use Rattle.std.specs.String.{string_bytes}
use Rattle.batch_plans.specs.ReplyText.{bad_text}
use Rattle.result_lines.specs.VerdictText.{verdict_text}
use Rattle.batch_words.specs.Words.{command_of}
use Rattle.library_calls.proofs.Served.{put_bad, put_broken, put_done, unspelled}
use Rattle.library_calls.proofs.Words.{whole_text}
use Rattle.library_calls.proofs.serving.serve_words.Goals as goal

pub returns-in-Done : goal.returns-in-Done
returns-in-Done c =
    let e = c.in-Done.is in
    let t = c.serve_alone.ensures.done e in
    put_done (command_of (map string_bytes c.args.words.now)) c.args.input.now c.args.output.now c.args.written.now
    c.deref.result.now c.put_text.new.output c.put_text.new.written c.put_text.result
    c.put_text.ensures.size c.put_text.ensures.room c.put_text.ensures.behind
    t.0 t.2 t.1 t.3
    (c.deref.ensures.value ∙ whole_text c.new-sink.result.text.items c.serve_alone.new.sink.text.items t.2 c.new-sink.ensures t.4)
    c.put_text.ensures.whole

pub returns-in-BadBatch : goal.returns-in-BadBatch
returns-in-BadBatch c =
    let e = c.in-BadBatch.is in
    let t = c.serve_alone.ensures.bad c.in-BadBatch.line c.in-BadBatch.reason e in
    put_bad (command_of (map string_bytes c.args.words.now)) c.args.input.now c.args.output.now c.args.written.now
    c.deref-in-BadBatch.result.now c.put_text-in-BadBatch.new.output c.put_text-in-BadBatch.new.written c.put_text-in-BadBatch.result
    c.put_text-in-BadBatch.ensures.size c.put_text-in-BadBatch.ensures.room c.put_text-in-BadBatch.ensures.behind
    t.0 c.in-BadBatch.line c.in-BadBatch.reason t.1 t.2
    (c.deref-in-BadBatch.ensures.value ∙ whole_text c.new-sink.result.text.items c.serve_alone.new.sink.text.items (bad_text (record { line = c.in-BadBatch.line; reason = c.in-BadBatch.reason })) c.new-sink.ensures t.3)
    c.put_text-in-BadBatch.ensures.whole

pub returns-in-Broken : goal.returns-in-Broken
returns-in-Broken c =
    let e = c.in-Broken.is in
    let t = c.serve_alone.ensures.broken c.in-Broken.verdict e in
    put_broken (command_of (map string_bytes c.args.words.now)) c.args.input.now c.args.output.now c.args.written.now
    c.deref-in-Broken.result.now c.put_text-in-Broken.new.output c.put_text-in-Broken.new.written c.put_text-in-Broken.result
    c.put_text-in-Broken.ensures.size c.put_text-in-Broken.ensures.room c.put_text-in-Broken.ensures.behind
    t.0 c.in-Broken.verdict t.1 t.2
    (c.deref-in-Broken.ensures.value ∙ whole_text c.new-sink.result.text.items c.serve_alone.new.sink.text.items (verdict_text c.in-Broken.verdict) c.new-sink.ensures t.3)
    c.put_text-in-Broken.ensures.whole

pub returns-in-Usage : goal.returns-in-Usage
returns-in-Usage c =
    let e = c.in-Usage.is in
    unspelled (command_of (map string_bytes c.args.words.now)) c.args.input.now c.args.output.now c.args.written.now
    ((c.serve_alone.ensures.usage (λ want. let x = sym e ∙ want in cc)).0 e)
