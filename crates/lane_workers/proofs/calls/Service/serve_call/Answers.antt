use Rattle.std.proofs.Common.{◌≡◌, ◌+◌, ◌-◌, ◌≤◌, ◌∷◌, [], List, ℕ, length, refl, sym, ap, ◌∙◌, subst, arith}
use Rattle.std.proofs.lemmas.Grind.{common_steps}
use Rattle.batch_plans.specs.declared.plan.CallLine.{CallLine}
use Rattle.batch_plans.specs.Limits.{items_of}
use Rattle.batch_plans.specs.Within.{IsCallWithin}
use Rattle.batch_plans.specs.Calls.{context_of}
use Rattle.batch_plans.specs.Room.{served_room, served_batches}
use Rattle.batch_plans.specs.Progress.{Progress, with_batch}
use Rattle.call_places.specs.Spans.{IsInPool, span_bytes}
use Rattle.hpke_context.specs.Contexts.{exported_by}
use Rattle.batch_plans.specs.Lines.{exported_line}
use Rattle.context_books.specs.Writing.{PutsReplies}
use Rattle.lane_workers.specs.declared.works.LaneWork.{LaneWork}
use Rattle.context_books.specs.LaneCalls.{IsOpening}
use Rattle.lane_workers.specs.Turns.{shared_at, with_progress}
use Rattle.lane_workers.specs.Lanes.{LaneIsAt}
use Rattle.lane_workers.proofs.Answering.{exported_on, standing_is}
use Rattle.lane_workers.proofs.Fitting.{fit_of, room_of}
use Rattle.lane_workers.specs.Readings.{heard, hears, with_more, MayServeAs, IsOneOn}
use Rattle.lane_workers.proofs.Heard.{heard_batch, enough_left, puts_heard, opens_of, opens_heard}
use Rattle.lane_workers.proofs.Adding.{answers_words, exported_words, opened_answers, opened_lines, opened_size, opened_each, adds_one, adds_by, adds_all}
use Rattle.lane_workers.proofs.Later.{pass_of, same_later, opens_later}
use Rattle.lane_workers.proofs.Opened.{unsealed_on, opened_all_on}
use Rattle.lane_workers.proofs.Ready.{open_context, stands_at}
use Rattle.lane_workers.proofs.calls.Service.serve_call.Goals as goal

pub seal-requires-after_bounds : goal.seal-requires-after_bounds
seal-requires-after_bounds g c κs within =
    let v = c.args.self.now in
    let r = c.requires.0 in (
      r,
      subst (λ (x : CallLine). MayServeAs r v.plan.now v.contexts.now v.counter c.args.call x
          c.args.shared.now c.args.work.now) c.in-Seal.is c.requires.1,
    )

pub open-requires-clause-may : goal.open-requires-clause-may
open-requires-clause-may g c κs within = c.requires

pub open-requires-clause-opening : goal.open-requires-clause-opening
open-requires-clause-opening g c κs within = subst IsOpening (sym c.in-Unseal.is) tt

pub open-batch-requires-clause-may : goal.open-batch-requires-clause-may
open-batch-requires-clause-may g c κs within = c.requires

pub open-batch-requires-clause-opening : goal.open-batch-requires-clause-opening
open-batch-requires-clause-opening g c κs within = subst IsOpening (sym c.in-UnsealAll.is) tt

pub put_batch-requires : goal.put_batch-requires
put_batch-requires g c =
    let r = c.requires.0 in
    let w = c.args.work.now in
    let room : served_batches c.args.line.now ≤ w.progress.batches_left - r.spare =
    (room_of c.requires.1).batches in
    let one = ap served_batches c.in-UnsealAll.is in
    let new = ap (λ (x : LaneWork). x.progress.batches_left) c.open-batch.ensures.new_is in
    let kept = c.open-batch.ensures.puts.batches_left in
    omega arith

pub export-requires-clause-span : goal.export-requires-clause-span
export-requires-clause-span g c κs within =
    let r = c.requires.0 in
    subst (λ (pool : List ℕ). IsInPool (length pool) c.in-Export.exporter) c.requires.1.bytes.pool
    (subst (IsCallWithin (length r.plan.items) (length r.plan.pool)) c.in-Export.is
    (fit_of c.requires.1)).1.in_pool

pub export-requires-clause-room : goal.export-requires-clause-room
export-requires-clause-room g c κs within =
    let r = c.requires.0 in
    let w = c.args.work.now in
    let room : w.progress.taken + served_room r.plan.items c.args.line.now ≤ length w.progress.pool =
    (room_of c.requires.1).room in
    let size = ap (served_room r.plan.items) c.in-Export.is in
    omega arith

pub export-requires-clause-left : goal.export-requires-clause-left
export-requires-clause-left g c κs within =
    let r = c.requires.0 in
    let w = c.args.work.now in
    let left : items_of c.args.line.now ≤ w.progress.left - r.blanks =
    (room_of c.requires.1).left in
    let one = ap items_of c.in-Export.is in
    omega arith

pub returns-in-Seal : goal.returns-in-Seal
returns-in-Seal g c = λ r t.
    let v = c.args.self.now in
    let s = c.args.shared.now in
    let w = c.args.work.now in
    subst (λ (x : CallLine). IsOneOn r v.contexts.now v.counter c.args.call x w c.seal.new.work)
    (sym c.in-Seal.is) (c.seal.ensures r
    (subst (λ (x : CallLine). MayServeAs r v.plan.now v.contexts.now v.counter c.args.call x s w)
    c.in-Seal.is t))

pub returns-in-Unseal : goal.returns-in-Unseal
returns-in-Unseal g c = λ r t.
    let v = c.args.self.now in
    let s = c.args.shared.now in
    let w = c.args.work.now in
    let call = c.args.line.now in
    let m = t.may in
    let opening : IsOpening call = subst IsOpening (sym c.in-Unseal.is) tt in
    let guess = c.open.result.guess in
    let missed = c.open.result.missed in
    let new = c.open.new.work in
    let o = opens_of r.plan v.plan.now t.bytes s w new c.args.call call guess missed
    c.open.ensures in
    let lines = opened_lines r.plan s.context o.first call in
    let each = opened_each r.plan v.contexts.now v.counter c.args.call call (hears r w) m.may opening
    s.context o.first in
    let left : items_of call ≤ w.progress.left - r.blanks =
    (room_of t).left in
    let enough = enough_left r w.progress o.progress (opened_size r.plan call) lines o.puts t.enough
    (omega (arith, left, each)) in
    let now = ap (λ (x : LaneWork). x.progress) (sym o.new_is) in
    let item : items_of call ≡ 1 = ap items_of c.in-Unseal.is in
    let adds = adds_one v.contexts.now call w.progress o.progress (opened_size r.plan call) lines o.puts
    m.free (ap served_batches c.in-Unseal.is) item (each ∙ item)
    (answers_words (opened_answers r.plan s.context o.first call)) in
    record {
      adds = adds_by adds now;
      enough = subst (λ (p : Progress). r.blanks ≤ p.left) now enough;
      later = λ low known.
          let late = opens_later v.counter low c.args.call r.plan s w new call guess missed o
          (pass_of r.plan v.contexts.now v.counter c.args.call call s (hears r w) m o.guesses.pass
          o.guesses.was) known in
          record { seat = late.seat; later = late.later };
      is_at = unsealed_on r.plan v.contexts.now v.counter c.args.call call (hears r w) m.may m.free s
          (stands_at r.plan v.contexts.now v.counter c.args.call call s (hears r w) m
          (open_context r.plan v.contexts.now v.counter c.args.call call s (hears r w) m opening))
          opening (hears (with_more r o.puts.more) new) guess missed
          (opens_heard r s w new c.args.call call guess missed o enough) c.in-Unseal.context
          c.in-Unseal.item c.in-Unseal.is;
    }

pub returns-in-UnsealAll : goal.returns-in-UnsealAll
returns-in-UnsealAll g c = λ r t.
    let v = c.args.self.now in
    let s = c.args.shared.now in
    let w = c.args.work.now in
    let call = c.args.line.now in
    let m = t.may in
    let all = c.in-UnsealAll in
    let opening : IsOpening call = subst IsOpening (sym all.is) tt in
    let guess = c.open-batch.result.guess in
    let missed = c.open-batch.result.missed in
    let new = c.open-batch.new.work in
    let o = opens_of r.plan v.plan.now t.bytes s w new c.args.call call guess missed
    c.open-batch.ensures in
    let more = with_more r o.puts.more in
    let p = c.put_batch.new.self in
    let put : p ≡ with_batch o.progress c.open-batch.result =
    c.put_batch.ensures ∙ ap (λ (x : LaneWork). with_batch x.progress c.open-batch.result) o.new_is in
    let lines = opened_lines r.plan s.context o.first call in
    let each = opened_each r.plan v.contexts.now v.counter c.args.call call (hears r w) m.may opening
    s.context o.first in
    let left : items_of call ≤ w.progress.left - r.blanks =
    (room_of t).left in
    let enough = enough_left r w.progress o.progress (opened_size r.plan call) lines o.puts t.enough
    (omega (arith, left, each)) in
    let fit = subst (IsCallWithin (length r.plan.items) (length r.plan.pool)) all.is
    (fit_of t) in
    record {
      adds = adds_all v.contexts.now call all.context all.first all.count w.progress o.progress p
          (opened_size r.plan call) lines c.open-batch.result o.puts m.free all.is
          (let count = fit.1 in omega arith) (each ∙ ap items_of all.is)
          (answers_words (opened_answers r.plan s.context o.first call)) put;
      enough = subst (λ (x : Progress). r.blanks ≤ x.left) (sym put) enough;
      later = λ low known.
          let late = opens_later v.counter low c.args.call r.plan s w new call guess missed o
          (pass_of r.plan v.contexts.now v.counter c.args.call call s (hears r w) m o.guesses.pass
          o.guesses.was) known in
          record { seat = late.seat; later = late.later };
      is_at = subst (λ (x : LaneWork). LaneIsAt r.plan v.contexts.now v.counter w.lane
          (c.args.call + 1) (with_progress x (heard more p))) (sym o.new_is)
          (opened_all_on r.plan v.contexts.now v.counter c.args.call call (hears r w) m.may m.free s
          (stands_at r.plan v.contexts.now v.counter c.args.call call s (hears r w) m
          (open_context r.plan v.contexts.now v.counter c.args.call call s (hears r w) m opening))
          opening (hears more new) guess missed
          (opens_heard r s w new c.args.call call guess missed o enough)
          all.context all.first all.count (heard more p) all.is
          (ap (heard more) put ∙ heard_batch more o.progress c.open-batch.result));
    }

pub returns-in-Export : goal.returns-in-Export
returns-in-Export g c = λ r t.
    let v = c.args.self.now in
    let s = c.args.shared.now in
    let w = c.args.work.now in
    let call = c.args.line.now in
    let m = t.may in
    let e = c.in-Export in
    let p = c.export.new.work.progress in
    let bytes = exported_by s.context (span_bytes r.plan.pool e.exporter) e.size in
    let line = exported_line bytes in
    let puts = subst (λ (pool : List ℕ). PutsReplies w.progress p e.size
    (exported_line (exported_by s.context (span_bytes pool e.exporter) e.size) ∷ []))
    (sym t.bytes.pool) c.export.ensures.puts in
    let more = with_more r puts.more in
    let left : items_of call ≤ w.progress.left - r.blanks =
    (room_of t).left in
    let item : items_of call ≡ 1 = ap items_of e.is in
    let enough = enough_left r w.progress p e.size (line ∷ []) puts t.enough
    (omega (arith, left, item)) in
    record {
      adds = adds_one v.contexts.now call w.progress p e.size (line ∷ []) puts m.free
          (ap served_batches e.is) item refl (exported_words bytes);
      enough = enough;
      later = λ low known. same_later v.counter low c.args.call w c.export.new.work
          (ap (λ (x : LaneWork). x.passes.items) c.export.ensures.same)
          (ap (λ (x : LaneWork). x.seat) c.export.ensures.same) known;
      is_at = subst (λ (x : LaneWork). LaneIsAt r.plan v.contexts.now v.counter w.lane
          (c.args.call + 1) (with_progress x (heard more p)))
          (sym c.export.ensures.same)
          (exported_on r.plan v.contexts.now v.counter c.args.call call (hears r w) m.may m.free
          e.context e.exporter e.size s.context (heard more p) e.is
          (standing_is v.contexts.now e.context s
          (ap (shared_at v.contexts.now) (sym (ap context_of e.is)) ∙ m.stands))
          (puts_heard r w.progress p e.size (line ∷ []) puts enough));
    }

pub export-requires-clause-size : goal.export-requires-clause-size
export-requires-clause-size g c = grind (arith, common_steps)
