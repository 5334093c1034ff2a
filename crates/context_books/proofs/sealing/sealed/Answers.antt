use Rattle.std.proofs.lemmas.Grind.{common_steps}
use Rattle.std.proofs.Common.{arith, ◌≡◌, ◌+◌, length, ap, sym, ◌∙◌, subst}
use Rattle.hpke_context.specs.Answers.{Answer, Seal, Sealed_at, answer}
use Rattle.hpke_context.specs.Contexts.{cipher_of}
use Rattle.batch_plans.specs.declared.replies.Reply.TheVariants.{Sealed}
use Rattle.batch_plans.specs.Progress.{with_pool}
use Rattle.context_books.specs.Runs.{answer_line}
use Rattle.context_books.specs.Writing.{due_at, WritesReply}
use Rattle.context_books.proofs.Steps.{seal_below}
use Rattle.context_books.proofs.sealing.sealed.Goals as goal

-- the number that was drawn is the one that was due
pub returns-in-Number : goal.returns-in-Number
returns-in-Number c =
    let n = c.in-Number.number in
    let view = c.args.context.now in
    let asked = Seal c.args.aad.now c.args.text.now in
    let answer_is : answer (cipher_of view) (due_at view.limit c.args.drawn) asked ≡ Sealed_at n
    ((cipher_of view).sealed n c.args.aad.now c.args.text.now) =
    ap (λ d. answer (cipher_of view) (due_at view.limit d) asked) c.in-Number.is
    ∙ seal_below (cipher_of view) n c.args.aad.now c.args.text.now
    (c.requires.drawn n c.in-Number.is) in
    let progress = with_pool c.take_room-span.new.self c.seal_at.new.pool in
    let written : WritesReply c.args.progress.now progress (length c.args.text.now + 16)
    (Sealed n c.take_room-span.result)
    (answer_line (Sealed_at n ((cipher_of view).sealed n c.args.aad.now c.args.text.now))) =
    grind (arith, common_steps) in
    subst (λ (a : Answer). WritesReply c.args.progress.now progress (length c.args.text.now + 16)
    (Sealed n c.take_room-span.result) (answer_line a)) (sym answer_is) written
