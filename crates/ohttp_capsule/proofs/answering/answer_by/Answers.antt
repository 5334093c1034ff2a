use Rattle.std.proofs.Common.{◌≡◌, ◌-◌, Err, length, take, drop, sym, ap, ◌∙◌, arith, rules, length-drop}
use Rattle.std.proofs.lemmas.List.{take_all}
use Rattle.sntrup_kem.specs.Sizes.{enc_size}
use Rattle.hpke_context.specs.Contexts.{ContextView}
use Rattle.hkdf_labelled.specs.Suites.{encrypts}
use Rattle.hpke_context.specs.Calls.{HasCipher}
use Rattle.ohttp_capsule.specs.declared.faults.CapsuleFault.TheVariants.{OutOfMemory}
use Rattle.ohttp_capsule.proofs.Telling.{told_refusal, told_memory, told_answer, ready_by, tells}
use Rattle.ohttp_capsule.proofs.answering.answer_by.Goals as goal

pub returns-in_err-suite : goal.returns-in_err-suite
returns-in_err-suite g c =
    let set = g.S.Params.set in
    let kem = g.S.KemParams.ID in
    let sk = c.args.secret.now in
    let request = c.args.request.now in
    let r = c.from_residual.result in
    let f = c.in_err-suite.field-0.0 in
    let is : r ≡ Err f = search rules in
    let told = told_refusal set kem sk c.args.id request c.args.nonce.now c.args.text.now r f
    (sym c.suite_for.ensures ∙ c.in_err-suite.was) is in
    let k = tells set kem sk c.args.id request c.args.nonce.now c.args.text.now r
    c.both_ends_agree.ensures.agreement told in
    record {
      answered = k.answered_is;
      short = k.short;
      header = k.header;
      nonce_size = k.nonce_size;
      failed = k.failed;
      size = search rules;
      exchange = k.exchange;
    }

pub returns-in_err-shared_secret : goal.returns-in_err-shared_secret
returns-in_err-shared_secret g c =
    let set = g.S.Params.set in
    let kem = g.S.KemParams.ID in
    let sk = c.args.secret.now in
    let request = c.args.request.now in
    let r = c.from_residual-in_err-shared_secret.result in
    let is : r ≡ Err OutOfMemory = search rules in
    let told = told_memory set kem sk c.args.id request c.args.nonce.now c.args.text.now r
    c.in_ok-suite.suite (sym c.suite_for.ensures ∙ c.in_ok-suite.was) is in
    let k = tells set kem sk c.args.id request c.args.nonce.now c.args.text.now r
    c.both_ends_agree.ensures.agreement told in
    record {
      answered = k.answered_is;
      short = k.short;
      header = k.header;
      nonce_size = k.nonce_size;
      failed = k.failed;
      size = search rules;
      exchange = k.exchange;
    }

pub returns-in_err-context : goal.returns-in_err-context
returns-in_err-context g c =
    let set = g.S.Params.set in
    let kem = g.S.KemParams.ID in
    let sk = c.args.secret.now in
    let request = c.args.request.now in
    let r = c.from_residual-in_err-context.result in
    let is : r ≡ Err OutOfMemory = search rules in
    let told = told_memory set kem sk c.args.id request c.args.nonce.now c.args.text.now r
    c.in_ok-suite.suite (sym c.suite_for.ensures ∙ c.in_ok-suite.was) is in
    let k = tells set kem sk c.args.id request c.args.nonce.now c.args.text.now r
    c.both_ends_agree.ensures.agreement told in
    record {
      answered = k.answered_is;
      short = k.short;
      header = k.header;
      nonce_size = k.nonce_size;
      failed = k.failed;
      size = search rules;
      exchange = k.exchange;
    }

pub returns : goal.returns
returns g c =
    let set = g.S.Params.set in
    let kem = g.S.KemParams.ID in
    let sk = c.args.secret.now in
    let request = c.args.request.now in
    let r = c.answer_in.result in
    let enc_size_is : c.ENC.result ≡ enc_size set = c.ENC.ensures ∙ g.met.S.KemParams.enc_is in
    let rest : take (length request - 7) (drop 7 request) ≡ drop 7 request =
    take_all (length request - 7) (drop 7 request) (omega (arith, length-drop 7 request)) in
    let told = told_answer set kem sk c.args.id request c.args.nonce.now c.args.text.now r
    c.in_ok-suite.suite c.as_context.result.now c.in_ok-shared_secret.shared_secret
    c.split_at.result.0.now c.split_at.result.1.now
    (sym c.suite_for.ensures ∙ c.in_ok-suite.was)
    (c.split_at.ensures.front ∙ ap (take c.ENC.result) rest
    ∙ ap (λ n. take n (drop 7 request)) enc_size_is)
    (c.split_at.ensures.back ∙ ap (drop c.ENC.result) rest
    ∙ ap (λ n. drop n (drop 7 request)) enc_size_is)
    c.in_ok-shared_secret.ensures (c.as_context.ensures ∙ c.in_ok-context.ensures)
    c.answer_in.ensures.answered in
    let k = tells set kem sk c.args.id request c.args.nonce.now c.args.text.now r
    c.both_ends_agree.ensures.agreement told in
    record {
      answered = k.answered_is;
      short = k.short;
      header = k.header;
      nonce_size = k.nonce_size;
      failed = k.failed;
      size = c.answer_in.ensures.size;
      exchange = k.exchange;
    }

pub answer_in-requires-clause-cipher : goal.answer_in-requires-clause-cipher
answer_in-requires-clause-cipher g c =
    let ready = ready_by g.S.Params.set g.S.KemParams.ID c.args.id c.args.request.now
    c.args.nonce.now c.in_ok-suite.suite (sym c.suite_for.ensures ∙ c.in_ok-suite.was) in
    let is : HasCipher c.as_context.result.now =
    ap (λ (v : ContextView). encrypts v.suite.aead) (c.as_context.ensures ∙ c.in_ok-context.ensures)
    ∙ ready.encrypts_is in
    search (rules, is)
