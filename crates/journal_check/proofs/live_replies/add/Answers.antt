use Rattle.std.proofs.Common.{◌+◌, ◌-◌, List, length, Some, sym, ap, ◌∙◌}
use Rattle.std.specs.Prelude.{slice_get}
use Rattle.std.proofs.lemmas.Bool.{ltb-true}
use Rattle.std.proofs.lemmas.Option.{slice_get-get_or}
use Rattle.batch_plans.specs.declared.plan.ContextLine.{ContextLine}
use Rattle.context_books.specs.Live.{add_line}
use Rattle.journal_check.proofs.live_replies.add.Goals as goal

pub returns-in-Some-Refused-clause-line : goal.returns-in-Some-Refused-clause-line
returns-in-Some-Refused-clause-line c =
    let adds = c.args.adds.now in
    let plan = c.args.plan.now in
    let lookup = c.in-Some-Refused.ensures.lookup in
    let at = length c.as_slice.result.now - plan.added + c.args.name in
    let here = slice_get-get_or adds at _ (ltb-true at (length adds) (sym lookup.0)) ∙ ap Some (sym lookup.1 ∙ c.in-Some-Refused.field-0-is) in
    c.refused_add.ensures.line
    ∙ sym (ap add_line (ap (λ (lines : List ContextLine). slice_get adds (length lines - plan.added + c.args.name)) (sym c.as_slice.ensures.items) ∙ here))
