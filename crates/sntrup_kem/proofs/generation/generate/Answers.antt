use Rattle.std.proofs.Common.{◌∙◌, refl, arith}
use Rattle.std.proofs.lemmas.Result.{IfOk-weaker}
use Rattle.sntrup_kem.proofs.Generating.{generated_by, generated_as, fault_passed, gave_another}
use Rattle.sntrup_kem.proofs.generation.generate.Goals as goal

pub paired-requires-clause-counts : goal.paired-requires-clause-counts
paired-requires-clause-counts g c =
    let counts = c.in_ok-key.ensures.counts in (counts.0, counts.1, counts.2, c.in_ok-rho.ensures.count)

pub paired-requires-clause-forms : goal.paired-requires-clause-forms
paired-requires-clause-forms g c = c.in_ok-key.ensures.forms

pub returns-clause-keys : goal.returns-clause-keys
returns-clause-keys g c =
    let set = g.S.Params.set in
    let k = c.in_ok-key.ensures.key in
    let word = g.R.Words.word c.args.words.now in
    let place = g.R.Words.place c.args.words.now in
    let key = c.in_ok-key.key in
    IfOk-weaker c.paired.result _ _
    (λ pair are. (
      k.0,
      k.1,
      generated_as set word place k.0 key.public pair.1 pair.0 pair.1 are.0 refl
          (generated_by set word (g.R.Words.word c.coded_key.new.words) place (g.R.Words.place c.coded_key.new.words) k.0 key.public key.f key.ginv c.in_ok-rho.rho pair.1 k.4 c.in_ok-key.ensures.stays k.3 c.in_ok-rho.ensures.bytes are.1),
      omega (arith, c.in_ok-rho.ensures.taken, k.3),
    ))
    c.paired.ensures.keys

pub returns-clause-exhausted : goal.returns-clause-exhausted
returns-clause-exhausted g c = fault_passed c.paired.result c.paired.ensures.fault c.in_ok-key.ensures.exhausted

pub returns-clause-no_inverse : goal.returns-clause-no_inverse
returns-clause-no_inverse g c = fault_passed c.paired.result c.paired.ensures.fault c.in_ok-key.ensures.no_inverse

pub returns-clause-exhausted_taken : goal.returns-clause-exhausted_taken
returns-clause-exhausted_taken g c =
    λ fault. absurd (gave_another c.paired.result c.paired.ensures.fault (λ h. cc) fault)

pub returns-clause-no_inverse_taken : goal.returns-clause-no_inverse_taken
returns-clause-no_inverse_taken g c =
    λ fault. absurd (gave_another c.paired.result c.paired.ensures.fault (λ h. cc) fault)

pub returns-clause-stays : goal.returns-clause-stays
returns-clause-stays g c = c.in_ok-rho.ensures.stays ∙ c.in_ok-key.ensures.stays
