use Rattle.std.proofs.Common.{◌≡◌, length, refl, sym, ap, ◌∙◌, subst}
use Rattle.batch_plans.specs.declared.replies.Answers.{Answers}
use Rattle.batch_plans.specs.Room.{room_for}
use Rattle.context_books.specs.ContextLines.{export_limits}
use Rattle.context_table.specs.SetUp.{IsSetUp}
use Rattle.demo_runs.proofs.batches.prepared.Goals as goal

pub returns : goal.returns
returns c =
    let plan = c.args.plan.now in
    let set_up = c.in_ok-keys.field-0 in
    let made = c.in_ok-keys.ensures in
    let limits = c.deref.ensures.value ∙ c.in_ok-limits.ensures ∙ ap export_limits c.as_slice.ensures.items in
    let is : c.in_ok-answers.answers
    ≡ room_for plan set_up.keys set_up.contexts (export_limits set_up.standing) =
    c.in_ok-answers.ensures.plain c.requires.plain
    ∙ ap (room_for plan set_up.keys set_up.contexts) limits in
    record {
      plan_is = refl;
      ready = record {
        within = c.requires.within;
        set_up = subst (λ (a : Answers). IsSetUp plan a.keys a.contexts set_up.standing) (sym is)
            made.set_up;
        lines = made.lines;
        room = subst (λ (a : Answers). a ≡ room_for plan a.keys a.contexts
            (export_limits set_up.standing)) (sym is) refl;
        key_count = ap (λ (a : Answers). length a.keys) is ∙ made.key_count;
        context_count = ap (λ (a : Answers). length a.contexts) is ∙ made.context_count;
      };
    }
