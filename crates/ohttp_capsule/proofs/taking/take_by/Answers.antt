use Rattle.std.proofs.Common.{◌≡◌, ◌<◌, ◌≤◌, Err, length, take, drop, refl, ap, ◌∙◌, arith, rules}
use Rattle.hkdf_labelled.specs.declared.suites.Suite.{Suite}
use Rattle.hpke_context.specs.Contexts.{ContextView}
use Rattle.ohttp_capsule.specs.declared.faults.CapsuleFault.TheVariants.{Short, OutOfMemory}
use Rattle.ohttp_capsule.specs.Responses.{entropy_size, aead_key, aead_nonce}
use Rattle.ohttp_capsule.specs.Replies.{least_response}
use Rattle.ohttp_capsule.proofs.Telling.{told_short, told_late, taken_by_parts, tells_of}
use Rattle.ohttp_capsule.proofs.taking.take_by.Goals as goal

pub returns-then-response-size : goal.returns-then-response-size
returns-then-response-size c =
    let asked = c.args.asked.now in
    let response = c.args.response.now in
    let size_is : c.entropy_size-size.result ≡ entropy_size asked.context.suite.aead =
    c.entropy_size-size.ensures.size
    ∙ ap (λ (s : Suite). entropy_size s.aead) c.suite.ensures.suite
    ∙ ap (λ (v : ContextView). entropy_size v.suite.aead) c.as_context-context.ensures in
    let few : length response < least_response asked =
    omega (arith, size_is, c.if-response-size.true) in
    let k = tells_of asked response (Err Short) (told_short asked response (Err Short) few refl) in
    record {
      taken = k.taken_is;
      short = k.short;
      failed = k.failed;
      header = k.header;
      nonce_size = k.nonce_size;
    }

pub returns-in_err-key : goal.returns-in_err-key
returns-in_err-key c =
    let asked = c.args.asked.now in
    let response = c.args.response.now in
    let r = c.from_residual.result in
    let size_is : c.entropy_size-size.result ≡ entropy_size asked.context.suite.aead =
    c.entropy_size-size.ensures.size
    ∙ ap (λ (s : Suite). entropy_size s.aead) c.suite.ensures.suite
    ∙ ap (λ (v : ContextView). entropy_size v.suite.aead) c.as_context-context.ensures in
    let long : least_response asked ≤ length response =
    omega (arith, size_is, c.if-response-size.false) in
    let is : r ≡ Err OutOfMemory = search rules in
    let k = tells_of asked response r
    (told_late asked response r long (λ known. absurd (known is))) in
    record {
      taken = k.taken_is;
      short = k.short;
      failed = k.failed;
      header = k.header;
      nonce_size = k.nonce_size;
    }

pub returns : goal.returns
returns c =
    let asked = c.args.asked.now in
    let response = c.args.response.now in
    let r = c.opened.result in
    let size_is : c.entropy_size-size.result ≡ entropy_size asked.context.suite.aead =
    c.entropy_size-size.ensures.size
    ∙ ap (λ (s : Suite). entropy_size s.aead) c.suite.ensures.suite
    ∙ ap (λ (v : ContextView). entropy_size v.suite.aead) c.as_context-context.ensures in
    let long : least_response asked ≤ length response =
    omega (arith, size_is, c.if-response-size.false) in
    let enc = c.as_slice.result.now in
    let nonce = c.split_at.result.0.now in
    let made = taken_by_parts asked response c.in_ok-key.key.key c.in_ok-key.key.nonce
    c.as_slice.result.now c.split_at.result.0.now c.split_at.result.1.now c.as_slice.ensures.items
    (c.split_at.ensures.front ∙ ap (λ n. take n response) size_is)
    (c.split_at.ensures.back ∙ ap (λ n. drop n response) size_is)
    (c.in_ok-key.ensures.key ∙ ap (λ v. aead_key v enc nonce) c.as_context-context.ensures)
    (c.in_ok-key.ensures.nonce ∙ ap (λ v. aead_nonce v enc nonce) c.as_context-context.ensures) in
    let k = tells_of asked response r
    (told_late asked response r long (λ known. c.opened.ensures known ∙ made)) in
    record {
      taken = k.taken_is;
      short = k.short;
      failed = k.failed;
      header = k.header;
      nonce_size = k.nonce_size;
    }
