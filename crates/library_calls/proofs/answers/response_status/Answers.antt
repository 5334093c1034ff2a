use Rattle.std.proofs.Common.{◌∙◌, List, ℕ, Ok, length, ap, ap₂, sym, arith}
use Rattle.library_calls.proofs.Answered.{opened, refused_by}
use Rattle.library_calls.proofs.ClearSizes.{question_size}
use Rattle.library_calls.proofs.answers.response_status.Goals as goal

pub copy_from_slice-requires : goal.copy_from_slice-requires
copy_from_slice-requires g c =
    let a = c.args in
    let size = question_size g.S.Params.set g.S.KemParams.ID a.secret.now a.key_id a.request.now a.nonce.now a.text.now
    c.in-Ok.asked c.in-Ok.answer (sym (c.in-Ok.ensures.answered (λ e. cc))) in
    omega (arith, size, ap length c.as_slice.ensures.items, c.requires.can.0.1)

pub returns-in-Ok : goal.returns-in-Ok
returns-in-Ok g c =
    let a = c.args in
    let r = c.answer_by.ensures in
    let question = c.copy_from_slice.ensures.after ∙ c.as_slice.ensures.items in
    let response = c.copy_from_slice-in-Ok.ensures.after ∙ c.as_slice-in-Ok.ensures.items in
    opened g.S.Params.set g.S.KemParams.ID a.secret.now a.key_id a.request.now a.nonce.now a.text.now a.question.now
    a.response.now c.answer_by.result c.requires.can r.header r.nonce_size r.failed _ _ _ c.in-Ok.is
    (sym (c.in-Ok.ensures.answered (λ e. cc)) ∙ ap₂ (λ (q : List ℕ) (s : List ℕ). Ok (q, s)) (sym question) (sym response))

pub returns-in-Err : goal.returns-in-Err
returns-in-Err g c =
    let a = c.args in
    let r = c.answer_by.ensures in
    refused_by g.S.Params.set g.S.KemParams.ID a.secret.now a.key_id a.request.now a.nonce.now a.text.now a.question.now
    a.response.now c.answer_by.result c.requires.can r.header r.nonce_size r.failed c.in-Err.fault c.refusal_of.result
    c.in-Err.is c.refusal_of.ensures r.short r.answered
