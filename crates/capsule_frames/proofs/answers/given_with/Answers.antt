use Rattle.std.proofs.Common.{◌≡◌, Result, Err, ap, refl}
use Rattle.std.specs.Prelude.{◌≢◌, option_copied}
use Rattle.ohttp_capsule.specs.declared.faults.CapsuleFault.TheVariants.{OutOfMemory}
use Rattle.capsule_frames.specs.declared.replies.CapsuleRefusal.{CapsuleRefusal}
use Rattle.capsule_frames.specs.Results.{GivenView}
use Rattle.capsule_frames.specs.Lines.{refusal_of, given_with}
use Rattle.capsule_frames.proofs.Telling.{refused_so, given_refused}
use Rattle.capsule_frames.proofs.answers.given_with.Goals as goal

pub returns-in-Err : goal.returns-in-Err
returns-in-Err g c =
    let parts = c.args.parts.now in
    let key = c.args.key.now in
    let fault = c.in-Err.fault in
    let found = option_copied parts.request in
    let Is : Result GivenView CapsuleRefusal → Type 0 =
    λ now. now ≡ given_with key.kem key.secret parts.id found parts.nonce.now parts.text.now in
    refused_so c.refused.result (Err (refusal_of fault)) (fault ≢ OutOfMemory) Is c.refused.ensures.refusal
    c.refused.ensures.memory
    (λ memory. given_refused g.S.Params.set g.S.KemParams.ID key.kem key.secret found c.in-Some.secret.now
    c.in-Some-request.request.now parts.nonce.now parts.text.now parts.id (Err fault) fault (refusal_of fault)
    c.secret.ensures.kem c.in-Some.ensures.secret (ap option_copied c.in-Some-request.is) refl
    c.in-Err.ensures.answered memory refl)
