use Rattle.std.proofs.Common.{ℤ, List, subst}
use Rattle.std.proofs.lemmas.Result.{IfOk-weaker}
use Rattle.ring_core.specs.Product.{IsCentred}
use Rattle.sntrup_kem.proofs.Generating.{gave_no_fault, fault_passed, gave_another, first_low, coded_by, form_by}
use Rattle.sntrup_kem.proofs.generation.coded_key.Goals as goal

pub returns-clause-key : goal.returns-clause-key
returns-clause-key g c =
    let set = g.S.Params.set in
    let word = g.R.Words.word c.args.words.now in
    let place = g.R.Words.place c.args.words.now in
    let k = c.in_ok-public.ensures.key in
    let H : List ℤ → Type 0 = λ a. IsCentred set.q set.p a in
    let h_centred : IsCentred set.q set.p c.in_ok-public.public.h = subst H c.drop-3.view_is c.drop-3.invariant in
    let G : List ℤ → Type 0 = λ a. IsCentred 3 set.p a in
    let ginv_small : IsCentred 3 set.p c.in_ok-public.secret.ginv = subst G c.drop-2.view_is c.drop-2.invariant in
    IfOk-weaker c.coded.result _ _
    (λ key codings. (
      k.0,
      k.1,
      first_low set word place k.0 k.1,
      c.in_ok-public.ensures.taken gave_no_fault k.0 k.1,
      coded_by set word place k.0 c.in_ok-public.public.h c.in_ok-public.secret.f c.in_ok-public.secret.ginv _ _ _ k.2 h_centred ginv_small codings.0 codings.1 codings.2,
    ))
    c.coded.ensures.codings

pub returns-clause-counts : goal.returns-clause-counts
returns-clause-counts g c = c.coded.ensures.counts

pub returns-clause-forms : goal.returns-clause-forms
returns-clause-forms g c =
    let p = g.S.Params.set.p in
    let P : List ℤ → Type 0 = λ a. IsCentred 3 p a in
    let f_small : IsCentred 3 p c.in_ok-public.secret.f = subst P c.drop.view_is c.drop.invariant in
    let ginv_small : IsCentred 3 p c.in_ok-public.secret.ginv = subst P c.drop-2.view_is c.drop-2.invariant in
    IfOk-weaker c.coded.result _ _
    (λ key codings. (form_by p c.in_ok-public.secret.f _ f_small codings.1, form_by p c.in_ok-public.secret.ginv _ ginv_small codings.2))
    c.coded.ensures.codings

pub returns-clause-exhausted : goal.returns-clause-exhausted
returns-clause-exhausted g c = fault_passed c.coded.result c.coded.ensures.fault c.in_ok-public.ensures.exhausted

pub returns-clause-no_inverse : goal.returns-clause-no_inverse
returns-clause-no_inverse g c = fault_passed c.coded.result c.coded.ensures.fault c.in_ok-public.ensures.no_inverse

pub returns-clause-taken : goal.returns-clause-taken
returns-clause-taken g c = λ _. c.in_ok-public.ensures.taken gave_no_fault

pub returns-clause-exhausted_taken : goal.returns-clause-exhausted_taken
returns-clause-exhausted_taken g c =
    λ fault. absurd (gave_another c.coded.result c.coded.ensures.fault (λ h. cc) fault)
