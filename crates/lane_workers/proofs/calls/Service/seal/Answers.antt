use Rattle.std.proofs.Common.{◌≡◌, ◌<◌, ◌≤◌, ◌+◌, ◌-◌, ◌^◌, List, [], ◌∷◌, ℕ, length, refl, sym, ap, ◌∙◌, subst, arith}
use Rattle.call_places.specs.Spans.{IsInPool, span_bytes}
use Rattle.hpke_context.specs.Answers.{Seal, answer}
use Rattle.hpke_context.specs.Contexts.{ContextView, cipher_of}
use Rattle.hpke_context.specs.Calls.{HasCipher}
use Rattle.batch_plans.specs.declared.plan.CallLine.TheVariants as calls
use Rattle.context_books.specs.declared.book.Draw.{Draw}
use Rattle.context_books.specs.declared.book.Draw.TheVariants.{Number}
use Rattle.batch_plans.specs.Limits.{items_of, most_plaintext, most_field}
use Rattle.batch_plans.specs.Room.{served_room}
use Rattle.batch_plans.specs.Progress.{Progress}
use Rattle.context_books.specs.Runs.{answer_line}
use Rattle.context_books.specs.Writing.{due_at, PutsReplies}
use Rattle.lane_workers.specs.Readings.{heard, hears, with_more}
use Rattle.lane_workers.proofs.Heard.{turn_of, draws_heard, enough_left, puts_heard}
use Rattle.lane_workers.proofs.Adding.{answers_words, adds_one}
use Rattle.lane_workers.proofs.Later.{pass_of, draws_later}
use Rattle.lane_workers.proofs.Answering.{sealed_on}
use Rattle.lane_workers.proofs.Fitting.{fit_of, room_of}
use Rattle.lane_workers.proofs.Ready.{can_seal, drawn_below, seal_turn, seal_context, stands_at}
use Rattle.context_books.proofs.Within.{span_size}
use Rattle.lane_workers.proofs.calls.Service.seal.Goals as goal

-- the replies of a seal, by what its function was given
puts_same : (old now p : Progress) (x y : ContextView) (aad aad' text text' : List ℕ) (drawn : Draw)
    → old ≡ now → x ≡ y → aad ≡ aad' → text ≡ text'
    → PutsReplies old p (length text + 16) (answer_line
    (answer (cipher_of x) (due_at x.limit drawn) (Seal aad text)) ∷ [])
    → PutsReplies now p (length text' + 16) (answer_line
    (answer (cipher_of y) (due_at y.limit drawn) (Seal aad' text')) ∷ [])
puts_same old now p x y aad aad' text text' drawn same view aads texts puts =
    subst (λ (b : Progress). PutsReplies b p (length text' + 16) (answer_line
    (answer (cipher_of y) (due_at y.limit drawn) (Seal aad' text')) ∷ [])) same
    (subst (λ (z : ContextView). PutsReplies old p (length text' + 16) (answer_line
    (answer (cipher_of z) (due_at z.limit drawn) (Seal aad' text')) ∷ [])) view
    (subst (λ bytes. PutsReplies old p (length text' + 16) (answer_line
    (answer (cipher_of x) (due_at x.limit drawn) (Seal bytes text')) ∷ [])) aads
    (subst (λ bytes. PutsReplies old p (length bytes + 16) (answer_line
    (answer (cipher_of x) (due_at x.limit drawn) (Seal aad bytes)) ∷ [])) texts puts)))

few_bytes : {size len found : ℕ} → size ≡ len → found ≡ size → len ≤ most_plaintext
    → found ≤ 2 ^ 36 - 32
few_bytes is here few = omega arith

few_aad : {size len found : ℕ} → size ≡ len → found ≡ size → len ≤ most_field → found < 2 ^ 61
few_aad is here few = omega arith

pub draw-drawn-requires-clause-turn : goal.draw-drawn-requires-clause-turn
draw-drawn-requires-clause-turn g c κs within =
    let v = c.args.self.now in
    let r = c.requires.0 in
    let w = c.args.work.now in
    turn_of (hears r w) w refl refl
    (seal_turn r.plan v.contexts.now v.counter c.args.call
    (calls.Seal c.args.number c.args.item.now) c.args.shared.now (hears r w) c.requires.1.may
    c.args.number c.args.item.now refl)

pub draw-drawn-requires-clause-seals : goal.draw-drawn-requires-clause-seals
draw-drawn-requires-clause-seals g c κs within =
    let v = c.args.self.now in
    let r = c.requires.0 in
    can_seal r.plan v.contexts.now v.counter c.args.call (calls.Seal c.args.number c.args.item.now)
    c.args.shared.now (hears r c.args.work.now) c.requires.1.may c.args.number c.args.item.now refl

pub of-aad-requires : goal.of-aad-requires
of-aad-requires g c =
    let fit = fit_of c.requires.1 in
    subst (λ i. IsInPool i c.args.item.now.aad)
    (ap length (c.requires.1.bytes.pool ∙ sym c.as_slice-pool.ensures.items)) fit.1.aad.in_pool

pub of-text-requires : goal.of-text-requires
of-text-requires g c =
    let fit = fit_of c.requires.1 in
    subst (λ i. IsInPool i c.args.item.now.text)
    (ap length (c.requires.1.bytes.pool ∙ sym c.as_slice-pool.ensures.items)) fit.1.text.in_pool

pub finish_seal-requires-clause-cipher : goal.finish_seal-requires-clause-cipher
finish_seal-requires-clause-cipher g c =
    let v = c.args.self.now in
    let r = c.requires.0 in
    subst HasCipher (sym c.context.ensures.context) (can_seal r.plan v.contexts.now v.counter c.args.call
    (calls.Seal c.args.number c.args.item.now) c.args.shared.now (hears r c.args.work.now)
    c.requires.1.may c.args.number c.args.item.now refl).1

pub finish_seal-requires-clause-drawn : goal.finish_seal-requires-clause-drawn
finish_seal-requires-clause-drawn g c =
    let v = c.args.self.now in
    let r = c.requires.0 in
    let w = c.args.work.now in
    let mid = c.draw-drawn.new.work in
    let drawn = c.draw-drawn.result in
    subst (λ (x : ContextView). (i : ℕ) → drawn ≡ Number i → i < x.limit)
    (sym c.context.ensures.context)
    (drawn_below r.plan v.contexts.now v.counter c.args.call
    (calls.Seal c.args.number c.args.item.now) c.args.shared.now (hears r w) c.requires.1.may
    c.args.number c.args.item.now refl (hears r mid) drawn
    (draws_heard r w mid c.args.number c.args.call drawn c.draw-drawn.ensures))

pub finish_seal-requires-clause-text : goal.finish_seal-requires-clause-text
finish_seal-requires-clause-text g c =
    let fit = fit_of c.requires.1 in
    let text = ap length (c.of-text.ensures
    ∙ ap (λ pool. span_bytes pool c.args.item.now.text)
    (c.as_slice-pool.ensures.items ∙ sym c.requires.1.bytes.pool)) in
    few_bytes (span_size c.requires.0.plan.pool c.args.item.now.text fit.1.text.in_pool) text
    fit.1.text.size

pub finish_seal-requires-clause-aad : goal.finish_seal-requires-clause-aad
finish_seal-requires-clause-aad g c =
    let fit = fit_of c.requires.1 in
    let aad = ap length (c.of-aad.ensures
    ∙ ap (λ pool. span_bytes pool c.args.item.now.aad)
    (c.as_slice-pool.ensures.items ∙ sym c.requires.1.bytes.pool)) in
    few_aad (span_size c.requires.0.plan.pool c.args.item.now.aad fit.1.aad.in_pool) aad
    fit.1.aad.size

pub finish_seal-requires-clause-room : goal.finish_seal-requires-clause-room
finish_seal-requires-clause-room g c =
    let r = c.requires.0 in
    let call = calls.Seal c.args.number c.args.item.now in
    let w = c.args.work.now in
    let fit = fit_of c.requires.1 in
    let room : w.progress.taken + served_room r.plan.items call ≤ length w.progress.pool =
    (room_of c.requires.1).room in
    let text = ap length (c.of-text.ensures
    ∙ ap (λ pool. span_bytes pool c.args.item.now.text)
    (c.as_slice-pool.ensures.items ∙ sym c.requires.1.bytes.pool)) in
    let size = span_size r.plan.pool c.args.item.now.text fit.1.text.in_pool in
    let taken = ap (λ (p : Progress). p.taken) c.draw-drawn.ensures.same.progress in
    let pool = ap (λ (p : Progress). length p.pool) c.draw-drawn.ensures.same.progress in
    omega arith

pub finish_seal-requires-clause-left : goal.finish_seal-requires-clause-left
finish_seal-requires-clause-left g c =
    let r = c.requires.0 in
    let call = calls.Seal c.args.number c.args.item.now in
    let w = c.args.work.now in
    let left : items_of call ≤ w.progress.left - r.blanks = (room_of c.requires.1).left in
    let now = ap (λ (p : Progress). p.left) c.draw-drawn.ensures.same.progress in
    omega arith

pub returns : goal.returns
returns g c = λ r t.
    let v = c.args.self.now in
    let w = c.args.work.now in
    let s = c.args.shared.now in
    let item = c.args.item.now in
    let call = calls.Seal c.args.number item in
    let drawn = c.draw-drawn.result in
    let mid = c.draw-drawn.new.work in
    let p = c.finish_seal.new.progress in
    let m = t.may in
    let pool = c.as_slice-pool.ensures.items ∙ sym t.bytes.pool in
    let aad = c.of-aad.ensures ∙ ap (λ bytes. span_bytes bytes item.aad) pool in
    let text = c.of-text.ensures ∙ ap (λ bytes. span_bytes bytes item.text) pool in
    let reply = answer_line (answer (cipher_of s.context) (due_at s.context.limit drawn)
    (Seal (span_bytes r.plan.pool item.aad) (span_bytes r.plan.pool item.text))) in
    let size = length (span_bytes r.plan.pool item.text) + 16 in
    let puts = puts_same mid.progress w.progress p c.context.result.now s.context
    c.of-aad.result.now (span_bytes r.plan.pool item.aad) c.of-text.result.now
    (span_bytes r.plan.pool item.text) drawn c.draw-drawn.ensures.same.progress
    c.context.ensures.context aad text c.finish_seal.ensures in
    let left : items_of call ≤ w.progress.left - r.blanks = (room_of t).left in
    let enough = enough_left r w.progress p size (reply ∷ []) puts t.enough (omega (arith, left)) in
    record {
      adds = adds_one v.contexts.now call w.progress p size (reply ∷ []) puts m.free refl refl refl
          (answers_words (answer (cipher_of s.context) (due_at s.context.limit drawn)
          (Seal (span_bytes r.plan.pool item.aad) (span_bytes r.plan.pool item.text)) ∷ []));
      enough = enough;
      later = λ low known.
          let late = draws_later v.counter low c.args.call w mid c.args.number drawn
          c.draw-drawn.ensures (pass_of r.plan v.contexts.now v.counter c.args.call call s (hears r w) m
          c.draw-drawn.ensures.pass c.draw-drawn.ensures.was) known in
          record { seat = late.seat; later = late.later };
      is_at = sealed_on r.plan v.contexts.now v.counter c.args.call call (hears r w) m.may m.free s
          (stands_at r.plan v.contexts.now v.counter c.args.call call s (hears r w) m
          (seal_context r.plan v.contexts.now v.counter c.args.call call s (hears r w) m
          c.args.number item refl)) c.args.number item (hears r mid) drawn
          (heard (with_more r puts.more) p) refl
          (draws_heard r w mid c.args.number c.args.call drawn c.draw-drawn.ensures)
          (puts_heard r w.progress p size (reply ∷ []) puts enough);
    }
