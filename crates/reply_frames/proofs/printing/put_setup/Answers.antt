use Rattle.std.proofs.Common.{sym}
use Rattle.std.proofs.lemmas.List.Folds.{concat-append}
use Rattle.field_text.proofs.Held.{Puts-same}
use Rattle.batch_plans.specs.Lines.{key_line, context_line}
use Rattle.batch_plans.specs.ReplyText.{numbered}
use Rattle.reply_frames.proofs.Chains.{◌⨾◌}
use Rattle.reply_frames.proofs.printing.put_setup.Goals as goal

pub returns : goal.returns
returns g c =
    let keys = numbered key_line 0 c.args.keys.now in
    let contexts = numbered context_line 0 c.args.contexts.now in
    Puts-same (sym (concat-append keys contexts)) (c.put_keys.ensures ⨾ c.put_contexts.ensures)
