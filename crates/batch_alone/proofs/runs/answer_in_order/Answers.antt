use Rattle.std.proofs.Common.{◌≡◌, sym, ap, ◌∙◌}
use Rattle.batch_plans.specs.declared.replies.Answers.{Answers}
use Rattle.batch_plans.specs.Names.{all_live}
use Rattle.batch_plans.specs.Room.{room_for}
use Rattle.context_books.specs.ContextLines.{export_limits}
use Rattle.batch_alone.proofs.Rooms.{room_same}
use Rattle.batch_alone.proofs.runs.answer_in_order.Goals as goal

pub rehearse_by-requires-clause-room : goal.rehearse_by-requires-clause-room
rehearse_by-requires-clause-room g c =
    let plan = c.args.plan.now in
    let contexts = c.args.contexts.now in
    let limits = export_limits contexts in
    let answers = c.in_ok-answers.answers in
    let is : answers ≡ room_for plan c.args.keys c.args.adds limits = c.in_ok-answers.ensures.room
    ∙ ap (room_for (all_live plan) c.args.keys c.args.adds) c.requires.limits
    ∙ room_same plan contexts c.requires.within c.requires.placed c.requires.standing c.args.keys
    c.args.adds in
    is ∙ (λ i. room_for plan (sym (ap (λ (a : Answers). a.keys) is) i)
    (sym (ap (λ (a : Answers). a.contexts) is) i) limits)
