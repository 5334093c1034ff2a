use Rattle.std.proofs.Common.{◌∙◌, ap, arith, Err, refl, sym}
use Rattle.library_calls.specs.Texts.{IsNoBatch}
use Rattle.library_calls.proofs.Judging.{broken_is_not_bad, illegal, legal, legal_is_not_bad, legal_is_not_broken, no_batch}
use Rattle.library_calls.proofs.batch.check.Goals as goal

-- ---- the batch is bad

is_bad : (c : goal.In-Err-Bad) → IsNoBatch c.args.batch.now
is_bad c =
    let bad = c.in-Err-Bad.field-0-0 in
    no_batch c.args.batch.now bad.line bad.reason (c.in-Err-Bad.ensures.bad bad.line bad.reason (ap Err c.in-Err-Bad.field-0-is))

pub returns-in-Err-Bad-clause-legal : goal.returns-in-Err-Bad-clause-legal
returns-in-Err-Bad-clause-legal c _ _ =
    ((λ e. absurd (omega (arith, e))), (λ is. absurd (legal_is_not_bad c.args.batch.now c.args.reply.now is (is_bad c))))

pub returns-in-Err-Bad-clause-broken : goal.returns-in-Err-Bad-clause-broken
returns-in-Err-Bad-clause-broken c _ _ =
    ((λ e. absurd (omega (arith, e))), (λ is. absurd (broken_is_not_bad c.args.batch.now c.args.reply.now is (is_bad c))))

pub returns-in-Err-Bad-clause-bad : goal.returns-in-Err-Bad-clause-bad
returns-in-Err-Bad-clause-bad c _ _ = ((λ e. is_bad c), (λ is. refl))

-- ---- the reply is legal

pub returns-in-Ok-true-clause-broken : goal.returns-in-Ok-true-clause-broken
returns-in-Ok-true-clause-broken c _ _ =
    let is = legal c.args.batch.now c.args.reply.now c.in-Ok.plan c.in-Ok.ensures.plan (c.in-Ok-true.ensures.0 c.in-Ok-true.field-0-test) in
    ((λ e. absurd (omega (arith, e))), (λ also. absurd (legal_is_not_broken c.args.batch.now c.args.reply.now is also)))

pub returns-in-Ok-true-clause-bad : goal.returns-in-Ok-true-clause-bad
returns-in-Ok-true-clause-bad c _ _ =
    let is = legal c.args.batch.now c.args.reply.now c.in-Ok.plan c.in-Ok.ensures.plan (c.in-Ok-true.ensures.0 c.in-Ok-true.field-0-test) in
    ((λ e. absurd (omega (arith, e))), (λ also. absurd (legal_is_not_bad c.args.batch.now c.args.reply.now is also)))

-- ---- it isn't

pub returns-in-Ok-false-clause-legal : goal.returns-in-Ok-false-clause-legal
returns-in-Ok-false-clause-legal c _ _ =
    let is = illegal c.args.batch.now c.args.reply.now c.in-Ok.plan c.in-Ok.ensures.plan
    (λ reply. let e = sym c.in-Ok-false.field-0-test ∙ c.in-Ok-false.ensures.1 reply in cc) in
    ((λ e. absurd (omega (arith, e))), (λ also. absurd (legal_is_not_broken c.args.batch.now c.args.reply.now also is)))

pub returns-in-Ok-false-clause-bad : goal.returns-in-Ok-false-clause-bad
returns-in-Ok-false-clause-bad c _ _ =
    let is = illegal c.args.batch.now c.args.reply.now c.in-Ok.plan c.in-Ok.ensures.plan
    (λ reply. let e = sym c.in-Ok-false.field-0-test ∙ c.in-Ok-false.ensures.1 reply in cc) in
    ((λ e. absurd (omega (arith, e))), (λ also. absurd (broken_is_not_bad c.args.batch.now c.args.reply.now is also)))
