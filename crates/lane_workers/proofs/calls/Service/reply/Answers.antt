use Rattle.std.proofs.Common.{◌<◌, ◌-◌, ◌∷◌, [], ap, refl, sym, ◌∙◌, arith}
use Rattle.batch_plans.specs.declared.replies.Reply.TheVariants.{Refused}
use Rattle.batch_plans.specs.Progress.{Progress}
use Rattle.lane_workers.specs.Turns.{shared_at, with_progress}
use Rattle.lane_workers.specs.Readings.{heard, hears, with_more}
use Rattle.lane_workers.proofs.Answering.{refusal_here, refused_left, refused_on}
use Rattle.lane_workers.proofs.Heard.{heard_reply}
use Rattle.lane_workers.proofs.Adding.{adds_refusal}
use Rattle.lane_workers.proofs.Later.{same_later}
use Rattle.lane_workers.proofs.calls.Service.reply.Goals as goal

pub refuse-requires : goal.refuse-requires
refuse-requires g c =
    let v = c.args.self.now in
    let r = c.requires.0 in
    let w = c.args.work.now in
    let left : 0 < w.progress.left - r.blanks =
    refused_left r.plan v.contexts.now v.counter c.args.call c.args.line.now
    (hears r w) c.requires.1.may c.in-Some.refusal
    (sym (refusal_here v.contexts.now c.args.line.now c.context_of.result c.standing-context.result
    c.context_of.ensures c.standing-context.ensures) ∙ sym c.refusal_of.ensures ∙ c.in-Some.is) in
    omega arith

pub returns-in-Some : goal.returns-in-Some
returns-in-Some g c = λ r t.
    let v = c.args.self.now in
    let w = c.args.work.now in
    let p = c.refuse.new.progress in
    let call = c.args.line.now in
    let why = c.in-Some.refusal in
    let refused = sym (refusal_here v.contexts.now call c.context_of.result
    c.standing-context.result c.context_of.ensures c.standing-context.ensures)
    ∙ sym c.refusal_of.ensures ∙ c.in-Some.is in
    let later = with_more r (Refused why ∷ []) in
    let left : 0 < w.progress.left - r.blanks =
    refused_left r.plan v.contexts.now v.counter c.args.call call (hears r w) t.may why refused in
    record {
      adds = adds_refusal v.contexts.now call w.progress p why refused c.refuse.ensures;
      enough = (let now = ap (λ (x : Progress). x.left) c.refuse.ensures in omega arith);
      later = λ low known. same_later v.counter low c.args.call w (with_progress w p) refl refl known;
      is_at = refused_on r.plan v.contexts.now v.counter c.args.call call
          (hears r w) t.may why refused (heard later p)
          (ap (heard later) c.refuse.ensures ∙ heard_reply r w.progress (Refused why));
    }

pub serve_call-requires-after_bounds : goal.serve_call-requires-after_bounds
serve_call-requires-after_bounds g c κs within =
    let v = c.args.self.now in
    let r = c.requires.0 in
    let t = c.requires.1 in (
      r,
      record {
        may = record {
          may = t.may;
          stands = ap (shared_at v.contexts.now) (sym c.context_of.ensures) ∙ c.in-Some-context.ensures;
          free = sym (refusal_here v.contexts.now c.args.line.now c.context_of.result
              c.standing-context.result c.context_of.ensures c.standing-context.ensures)
              ∙ sym c.refusal_of.ensures ∙ c.in_default.is;
        };
        bytes = t.bytes;
        enough = t.enough;
      },
    )

pub returns : goal.returns
returns g c = λ r t.
    let v = c.args.self.now in
    c.serve_call.ensures r (record {
      may = record {
        may = t.may;
        stands = ap (shared_at v.contexts.now) (sym c.context_of.ensures) ∙ c.in-Some-context.ensures;
        free = sym (refusal_here v.contexts.now c.args.line.now c.context_of.result
            c.standing-context.result c.context_of.ensures c.standing-context.ensures)
            ∙ sym c.refusal_of.ensures ∙ c.in_default.is;
      };
      bytes = t.bytes;
      enough = t.enough;
    })
