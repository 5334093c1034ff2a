use Rattle.std.proofs.Common.{◌≡◌, ◌+◌, length, drop, sym, ap, ◌∙◌, subst, arith, [], ◌∷◌}
use Rattle.std.proofs.lemmas.List.{length-take}
use Rattle.std.proofs.lemmas.Grind.{common_steps}
use Rattle.call_places.specs.Spans.{IsInPool, span_bytes}
use Rattle.hpke_context.specs.Answers.{Seal, answer}
use Rattle.hpke_context.specs.Contexts.{cipher_of}
use Rattle.batch_plans.specs.Limits.{items_of}
use Rattle.batch_plans.specs.Within.{IsCallWithin}
use Rattle.batch_plans.specs.Room.{served_room}
use Rattle.context_books.specs.Runs.{answer_line}
use Rattle.context_books.specs.Writing.{due_at, PutsReplies}
use Rattle.context_books.proofs.Within.{line_within, span_size}
use Rattle.context_core.specs.declared.lanes.Stage.TheVariants.{Drawn}
use Rattle.context_core.proofs.Answering.{finds_room, sealed_on}
use Rattle.context_core.proofs.answers.answer_seal.Goals as goal

pub of-aad-requires : goal.of-aad-requires
of-aad-requires c =
    let may = c.requires.5 in
    let plan = c.args.plan.now in
    let fits = subst (IsCallWithin (length plan.items) (length plan.pool)) c.in-Seal.is
    (line_within plan c.requires.1 c.requires.2 c.args.call.now may.within may.there may.call_is) in
    subst (λ n. IsInPool n c.in-Seal.item.aad) (sym (ap length c.as_slice-pool.ensures.items))
    fits.1.aad.in_pool

pub of-text-requires : goal.of-text-requires
of-text-requires c =
    let may = c.requires.5 in
    let plan = c.args.plan.now in
    let fits = subst (IsCallWithin (length plan.items) (length plan.pool)) c.in-Seal.is
    (line_within plan c.requires.1 c.requires.2 c.args.call.now may.within may.there may.call_is) in
    subst (λ n. IsInPool n c.in-Seal.item.text) (sym (ap length c.as_slice-pool.ensures.items))
    fits.1.text.in_pool

pub finish_seal-requires-clause-text : goal.finish_seal-requires-clause-text
finish_seal-requires-clause-text c = grind (arith, common_steps)

pub finish_seal-requires-clause-aad : goal.finish_seal-requires-clause-aad
finish_seal-requires-clause-aad c = grind (arith, common_steps)

pub finish_seal-requires-clause-room : goal.finish_seal-requires-clause-room
finish_seal-requires-clause-room c =
    let may = c.requires.5 in
    let plan = c.args.plan.now in
    let room = finds_room plan c.args.contexts.now c.requires.0 c.requires.1 c.requires.2
    c.args.call.now c.requires.4 c.requires.3 (Drawn c.args.drawn) c.args.progress.now may
    may.done.free in
    let size = length-take c.in-Seal.item.text.len
    (drop c.in-Seal.item.text.start c.as_slice-pool.result.now) in
    omega (arith, room.room, ap (served_room plan.items) c.in-Seal.is, ap length c.of-text.ensures, size)

pub finish_seal-requires-clause-left : goal.finish_seal-requires-clause-left
finish_seal-requires-clause-left c =
    let may = c.requires.5 in
    let plan = c.args.plan.now in
    let room = finds_room plan c.args.contexts.now c.requires.0 c.requires.1 c.requires.2
    c.args.call.now c.requires.4 c.requires.3 (Drawn c.args.drawn) c.args.progress.now may
    may.done.free in
    omega (arith, room.left, ap items_of c.in-Seal.is)

pub returns : goal.returns
returns c = λ steps w l number settled may.
    let plan = c.args.plan.now in
    let contexts = c.args.contexts.now in
    let call = c.args.call.now in
    let p = c.args.progress.now in
    let after = c.finish_seal.new.progress in
    let view = c.in-Some.context.now in
    let item = c.in-Seal.item in
    let drawn = c.args.drawn in
    let fits = subst (IsCallWithin (length plan.items) (length plan.pool)) c.in-Seal.is
    (line_within plan l number call may.within may.there may.call_is) in
    let aad_is = c.of-aad.ensures
    ∙ ap (λ pool. span_bytes pool item.aad) c.as_slice-pool.ensures.items in
    let text_is = c.of-text.ensures
    ∙ ap (λ pool. span_bytes pool item.text) c.as_slice-pool.ensures.items in
    let size : length c.of-text.result.now ≡ item.text.len = ap length text_is
    ∙ span_size plan.pool item.text fits.1.text.in_pool in
    let puts = subst (λ n. PutsReplies p after (n + 16)
    (answer_line (answer (cipher_of view) (due_at view.limit drawn)
    (Seal (span_bytes plan.pool item.aad) (span_bytes plan.pool item.text))) ∷ [])) size
    (subst (λ text. PutsReplies p after (length c.of-text.result.now + 16)
    (answer_line (answer (cipher_of view) (due_at view.limit drawn)
    (Seal (span_bytes plan.pool item.aad) text)) ∷ [])) text_is
    (subst (λ aad. PutsReplies p after (length c.of-text.result.now + 16)
    (answer_line (answer (cipher_of view) (due_at view.limit drawn)
    (Seal aad c.of-text.result.now)) ∷ [])) aad_is c.finish_seal.ensures)) in
    sealed_on plan contexts w l number call steps settled (Drawn drawn) p may c.in-Seal.context item
    view drawn after c.in-Seal.is c.in-Some.ensures may.done puts
