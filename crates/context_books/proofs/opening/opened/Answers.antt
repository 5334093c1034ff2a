use Rattle.std.proofs.Common.{◌≡◌, refl, sym, ap, ◌∙◌, subst, arith}
use Rattle.call_places.specs.Spans.{span_bytes}
use Rattle.call_places.specs.declared.spans.Span.{Span}
use Rattle.hpke_context.specs.Answers.{Answer, Unseal, Opened_at, answer}
use Rattle.hpke_context.specs.Contexts.{cipher_of}
use Rattle.batch_plans.specs.declared.replies.Reply.TheVariants.{Opened}
use Rattle.batch_plans.specs.Progress.{with_room, with_pool}
use Rattle.batch_plans.specs.Room.{opened_room}
use Rattle.context_books.specs.Runs.{answer_line}
use Rattle.context_books.specs.Writing.{WritesReply}
use Rattle.context_books.proofs.Steps.{opened_is}
use Rattle.context_books.proofs.Writing.{writes}
use Rattle.context_books.proofs.opening.opened.Goals as goal

pub returns-in-Opened : goal.returns-in-Opened
returns-in-Opened c =
    let old = c.args.progress.now in
    let one = c.take_room-text.new.self in
    let made = c.open_at.new.pool in
    let size = opened_room c.args.item.now in
    let span = c.take_room-text.result in
    let start = ap (λ (s : Span). s.start) c.take_room-text.ensures.span in
    let len = ap (λ (s : Span). s.len) c.take_room-text.ensures.span in
    let n = c.args.number in
    let view = cipher_of c.args.context.now in
    let aad = span_bytes c.args.pool.now c.args.item.now.aad in
    let ct = span_bytes c.args.pool.now c.args.item.now.text in
    let bytes = c.open_at.ensures.opened
    ∙ (λ i. view.clear n (c.of-aad.ensures i) (c.of-ct.ensures i)) in
    let is : answer view n (Unseal aad ct) ≡ Opened_at n (view.clear n aad ct) =
    opened_is view n aad ct (sym c.in-Opened.is ∙ c.requires.step) in
    let written : WritesReply old (with_pool one made) size (Opened n span)
    (answer_line (Opened_at n (view.clear n aad ct))) =
    writes old one size span.start c.pool.result.now made (Opened n span)
    (answer_line (Opened_at n (view.clear n aad ct)))
    (c.take_room-text.ensures.taken ∙ ap (with_room old) c.saturating_sub.ensures)
    c.pool.ensures.value c.open_at.auto.pool start c.open_at.ensures.kept
    (ap (λ text. answer_line (Opened_at n text)) bytes) refl (omega arith) in
    subst (λ (a : Answer). WritesReply old (with_pool one made) size (Opened n span)
    (answer_line a)) (sym is) written
