use Rattle.std.proofs.Common.{sym, ◌∙◌, subst}
use Rattle.context_core.specs.declared.lanes.Stage.{Stage}
use Rattle.context_core.specs.Following.{MayReply}
use Rattle.context_core.proofs.Answering.{refused_left, refused_on}
use Rattle.context_core.proofs.answers.answer_call.Goals as goal

pub refuse-requires : goal.refuse-requires
refuse-requires c =
    refused_left c.args.plan.now c.args.contexts.now c.requires.0 c.requires.1 c.requires.2
    c.args.call.now c.args.steps.now c.requires.3 c.args.done c.args.progress.now c.requires.4
    c.in-Some.refusal (sym c.refusal_of.ensures ∙ c.in-Some.is)

pub returns-in-Some : goal.returns-in-Some
returns-in-Some c = λ w l number settled may.
    refused_on c.args.plan.now c.args.contexts.now w l number c.args.call.now c.args.steps.now settled
    c.args.done c.args.progress.now may c.refuse.new.progress c.in-Some.refusal
    (sym c.refusal_of.ensures ∙ c.in-Some.is) c.refuse.ensures

pub returns-in-Fresh : goal.returns-in-Fresh
returns-in-Fresh c = λ w l number settled may.
    c.answer_export.ensures c.args.steps.now w l number settled
    (subst (λ (s : Stage). MayReply c.args.plan.now c.args.contexts.now w l number c.args.call.now
    c.args.steps.now settled s c.args.progress.now) c.in-Fresh.is may)

pub returns-in-Drawn : goal.returns-in-Drawn
returns-in-Drawn c = λ w l number settled may.
    c.answer_seal.ensures c.args.steps.now w l number settled
    (subst (λ (s : Stage). MayReply c.args.plan.now c.args.contexts.now w l number c.args.call.now
    c.args.steps.now settled s c.args.progress.now) c.in-Drawn.is may)

pub returns-in-Settled : goal.returns-in-Settled
returns-in-Settled c = λ w l number settled may.
    c.answer_opening.ensures w l number settled
    (subst (λ (s : Stage). MayReply c.args.plan.now c.args.contexts.now w l number c.args.call.now
    c.args.steps.now settled s c.args.progress.now) c.in-Settled.is may)
