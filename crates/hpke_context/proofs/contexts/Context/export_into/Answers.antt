use Rattle.std.proofs.Common.{length, ap, ◌∙◌}
use Rattle.hpke_context.specs.Contexts.{exported_by}
use Rattle.hpke_context.proofs.contexts.Context.export_into.Goals as goal

pub returns-clause-exported : goal.returns-clause-exported
returns-clause-exported c =
    c.labeled_expand_into.ensures
    ∙ ap (λ view. exported_by view c.args.exporter_context.now (length c.args.out.now)) c.self.view_is
