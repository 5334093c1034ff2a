use Rattle.std.proofs.Common.{List, ℕ, Err, ap, inl, inr, refl, arith, subst}
use Rattle.library_calls.specs.Capsules.{IsAnswered}
use Rattle.library_calls.proofs.Answered.{malformed, unfit, without_memory}
use Rattle.library_calls.proofs.answers.put_answer.Goals as goal

pub returns-in_default : goal.returns-in_default
returns-in_default g c =
    let a = c.args in
    let short = c.in_default.ensures.none in
    unfit g.S.Params.set g.S.KemParams.ID a.secret.now a.key_id a.request.now a.nonce.now a.text.now a.question.now
    a.response.now _ (inr refl) ((λ e. short), (λ p. refl)) (λ fits. absurd (omega (arith, short, fits.1)))

pub returns-then-not-fits_answer : goal.returns-then-not-fits_answer
returns-then-not-fits_answer g c =
    let a = c.args in
    let size = c.in-Some.ensures.some in
    unfit g.S.Params.set g.S.KemParams.ID a.secret.now a.key_id a.request.now a.nonce.now a.text.now a.question.now
    a.response.now _ (inl refl) ((λ e. absurd (omega (arith, e))), (λ p. absurd (omega (arith, p, size))))
    (λ fits. let bad = c.if-not-fits_answer.ensures.1 (fits.0, omega (arith, size, fits.1), fits.2, fits.3) in cc)

pub returns-in-Err-OutOfMemory : goal.returns-in-Err-OutOfMemory
returns-in-Err-OutOfMemory g c =
    let a = c.args in
    let size = c.in-Some.ensures.some in
    without_memory g.S.Params.set g.S.KemParams.ID a.secret.now a.key_id a.request.now a.nonce.now a.text.now
    a.question.now a.response.now (λ p. absurd (omega (arith, p, size)))

pub returns-in-Err-Form : goal.returns-in-Err-Form
returns-in-Err-Form g c =
    let a = c.args in
    let size = c.in-Some.ensures.some in
    let fits = c.if-not-fits_answer.ensures.0 refl in
    let why = c.in-Err-Form.field-0-is in
    let form = c.in-Err-Form.ensures.form (λ x. let y = why in cc) in
    malformed g.S.Params.set g.S.KemParams.ID a.secret.now a.key_id a.request.now a.nonce.now a.text.now a.question.now
    a.response.now (fits.0, omega (arith, size, fits.1), fits.2, fits.3) (form.0 (ap (λ f. Err f) why)).1

pub returns : goal.returns
returns g c =
    let a = c.args in
    let told : List ℕ → Type 0 = λ sk. IsAnswered g.S.Params.set g.S.KemParams.ID sk a.key_id a.request.now a.nonce.now
    a.text.now a.question.now a.response.now c.response_status.new.question c.response_status.new.response
    c.response_status.result in
    subst told c.in-Ok.ensures.key c.response_status.ensures
