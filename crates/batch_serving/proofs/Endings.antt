-- Outcomes told apart, and what a bad line and a broken result tell.
use Rattle.std.proofs.Common.{◌≡◌, ◌∙◌, refl, sym, ap, subst, inl, inr, ◌⊎◌}
use Rattle.std.specs.Prelude.{◌≢◌}
use Rattle.field_text.specs.declared.faults.BadBatch.{BadBatch}
use Rattle.result_lines.specs.declared.verdicts.Verdict.{Verdict}
use Rattle.result_lines.specs.declared.verdicts.Verdict.TheVariants.{Legal, Form, Journal, Table, Stamps, Reply, Guess}
use Rattle.batch_serving.specs.declared.outcomes.Outcome.{Outcome}
use Rattle.batch_serving.specs.declared.outcomes.Outcome.TheVariants as outcomes
use Rattle.batch_serving.specs.Outcomes.{outcome_on}

-- those of an input: words outside the grammar and faults are none
abbrev pub OfInput : Outcome → Type 0
OfInput outcomes.Done = Unit {0}
OfInput outcomes.Usage = ⊥
OfInput (outcomes.BadBatch line reason) = Unit {0}
OfInput outcomes.ReadFault = ⊥
OfInput outcomes.WriteFault = ⊥
OfInput outcomes.OutOfMemory = ⊥
OfInput (outcomes.Broken verdict) = Unit {0}

pub on_verdict : (verdict : Verdict) → OfInput (outcome_on verdict)
on_verdict Legal = tt
on_verdict (Form line) = tt
on_verdict (Journal context) = tt
on_verdict Table = tt
on_verdict Stamps = tt
on_verdict (Reply line) = tt
on_verdict (Guess line) = tt

-- those of a written text: a fault of writing and want of memory are none
abbrev IsWritten : Outcome → Type 0
IsWritten outcomes.Done = Unit {0}
IsWritten outcomes.Usage = Unit {0}
IsWritten (outcomes.BadBatch line reason) = Unit {0}
IsWritten outcomes.ReadFault = Unit {0}
IsWritten outcomes.WriteFault = ⊥
IsWritten outcomes.OutOfMemory = ⊥
IsWritten (outcomes.Broken verdict) = Unit {0}

neither : (outcome : Outcome) → IsWritten outcome
    → (outcome ≢ outcomes.WriteFault) × (outcome ≢ outcomes.OutOfMemory)
neither outcome is = ((λ e. subst IsWritten e is), (λ e. subst IsWritten e is))

-- a fault of writing, want of memory, or neither
pub faults_or_not : (outcome : Outcome) → (outcome ≡ outcomes.WriteFault)
    ⊎ ((outcome ≡ outcomes.OutOfMemory) ⊎ ((outcome ≢ outcomes.WriteFault) × (outcome ≢ outcomes.OutOfMemory)))
faults_or_not outcomes.Done = inr (inr (neither outcomes.Done tt))
faults_or_not outcomes.Usage = inr (inr (neither outcomes.Usage tt))
faults_or_not (outcomes.BadBatch line reason) = inr (inr (neither (outcomes.BadBatch line reason) tt))
faults_or_not outcomes.ReadFault = inr (inr (neither outcomes.ReadFault tt))
faults_or_not outcomes.WriteFault = inl refl
faults_or_not outcomes.OutOfMemory = inr (inl refl)
faults_or_not (outcomes.Broken verdict) = inr (inr (neither (outcomes.Broken verdict) tt))

-- ---- a bad line

-- the bad line that an outcome tells, and any other where it tells none
abbrev pub told_bad : BadBatch → Outcome → BadBatch
told_bad other outcomes.Done = other
told_bad other outcomes.Usage = other
told_bad other (outcomes.BadBatch line reason) = record { line = line; reason = reason }
told_bad other outcomes.ReadFault = other
told_bad other outcomes.WriteFault = other
told_bad other outcomes.OutOfMemory = other
told_bad other (outcomes.Broken verdict) = other

-- an outcome that isn't a bad line
abbrev pub IsNoBadLine : Outcome → Type 0
IsNoBadLine outcomes.Done = Unit {0}
IsNoBadLine outcomes.Usage = Unit {0}
IsNoBadLine (outcomes.BadBatch line reason) = ⊥
IsNoBadLine outcomes.ReadFault = Unit {0}
IsNoBadLine outcomes.WriteFault = Unit {0}
IsNoBadLine outcomes.OutOfMemory = Unit {0}
IsNoBadLine (outcomes.Broken verdict) = Unit {0}

pub no_bad_verdict : (verdict : Verdict) → IsNoBadLine (outcome_on verdict)
no_bad_verdict Legal = tt
no_bad_verdict (Form line) = tt
no_bad_verdict (Journal context) = tt
no_bad_verdict Table = tt
no_bad_verdict Stamps = tt
no_bad_verdict (Reply line) = tt
no_bad_verdict (Guess line) = tt

-- ---- a broken result

-- an outcome that is a broken result
abbrev pub IsOfBroken : Outcome → Type 0
IsOfBroken outcomes.Done = ⊥
IsOfBroken outcomes.Usage = ⊥
IsOfBroken (outcomes.BadBatch line reason) = ⊥
IsOfBroken outcomes.ReadFault = ⊥
IsOfBroken outcomes.WriteFault = ⊥
IsOfBroken outcomes.OutOfMemory = ⊥
IsOfBroken (outcomes.Broken verdict) = Unit {0}

-- what is wrong with it, and any other verdict where it is none
abbrev told_verdict : Verdict → Outcome → Verdict
told_verdict other outcomes.Done = other
told_verdict other outcomes.Usage = other
told_verdict other (outcomes.BadBatch line reason) = other
told_verdict other outcomes.ReadFault = other
told_verdict other outcomes.WriteFault = other
told_verdict other outcomes.OutOfMemory = other
told_verdict other (outcomes.Broken verdict) = verdict

told_verdict-outcome_on : (verdict : Verdict) → told_verdict verdict (outcome_on verdict) ≡ verdict
told_verdict-outcome_on Legal = refl
told_verdict-outcome_on (Form line) = refl
told_verdict-outcome_on (Journal context) = refl
told_verdict-outcome_on Table = refl
told_verdict-outcome_on Stamps = refl
told_verdict-outcome_on (Reply line) = refl
told_verdict-outcome_on (Guess line) = refl

pub broken_by : (verdict told : Verdict) → outcomes.Broken told ≡ outcome_on verdict → (verdict ≡ told) × (verdict ≢ Legal)
broken_by verdict told e = (
  sym (ap (told_verdict verdict) e ∙ told_verdict-outcome_on verdict),
  (λ legal. subst IsOfBroken (e ∙ ap outcome_on legal) tt),
)
