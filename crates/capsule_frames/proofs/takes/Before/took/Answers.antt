use Rattle.std.proofs.Common.{◌≡◌, List, ℕ, Result, Ok, Err, ap, ◌∙◌}
use Rattle.std.specs.Prelude.{◌≢◌}
use Rattle.ohttp_capsule.specs.declared.faults.CapsuleFault.{CapsuleFault}
use Rattle.ohttp_capsule.specs.declared.faults.CapsuleFault.TheVariants.{OutOfMemory}
use Rattle.capsule_frames.specs.declared.replies.CapsuleRefusal.{CapsuleRefusal}
use Rattle.capsule_frames.specs.Lines.{refusal_of, took}
use Rattle.capsule_frames.proofs.Telling.{refused_so, took_is}
use Rattle.capsule_frames.proofs.takes.Before.took.Goals as goal

pub returns-in-Ok : goal.returns-in-Ok
returns-in-Ok c =
    let to : List ℕ → Result (List ℕ) CapsuleRefusal = λ t. Ok t in
    let became : Result (List ℕ) CapsuleFault = Ok c.in-Ok.text in
    ap to c.held_in.ensures
    ∙ took_is c.args.self.now.plan.now c.args.self.now.asks.now c.args.self.now.answers.now c.args.ask
    c.args.response
    c.in-Some.sent.now c.asked.result.now c.as_slice-pool.result.now c.in-Some-response_at.response.now
    became
    c.in-Some.ensures c.as_slice-pool.ensures.items c.in-Some-response_at.ensures.response
    c.asked.ensures.asked c.in-Ok.ensures.taken (λ e. cc)

pub returns-in-Err : goal.returns-in-Err
returns-in-Err c =
    let self = c.args.self.now in
    let fault = c.in-Err.fault in
    let became : Result (List ℕ) CapsuleFault = Err fault in
    let Is : Result (List ℕ) CapsuleRefusal → Type 0 =
    λ now. now ≡ took self.plan.now self.asks.now self.answers.now c.args.ask c.args.response in
    refused_so c.refused.result (Err (refusal_of fault)) (fault ≢ OutOfMemory) Is c.refused.ensures.refusal
    c.refused.ensures.memory
    (λ memory. took_is self.plan.now self.asks.now self.answers.now c.args.ask c.args.response c.in-Some.sent.now
    c.asked.result.now c.as_slice-pool.result.now c.in-Some-response_at.response.now became
    c.in-Some.ensures c.as_slice-pool.ensures.items c.in-Some-response_at.ensures.response
    c.asked.ensures.asked c.in-Err.ensures.taken
    (λ e. memory (let same : fault ≡ OutOfMemory = cc in same)))
