-- A text that spells a plan is read as that plan.
use Rattle.std.proofs.Common.{◌≡◌, ◌⊎◌, inl, inr, Result, Ok, Err, sym, ◌∙◌}
use Rattle.field_text.specs.declared.faults.BadBatch.{BadBatch}
use Rattle.field_text.specs.declared.faults.ReadBatchFault.{ReadBatchFault}
use Rattle.field_text.specs.declared.faults.ReadBatchFault.TheVariants.{Bad, OutOfMemory}
use Rattle.batch_plans.specs.declared.plan.Plan.{Plan}
use Rattle.request_frames.specs.Batch.{no_memory}

pub read_as : (r : Result Plan ReadBatchFault) (made plan : Plan) → r ≡ Ok made → (r ≡ Ok plan) ⊎ (r ≡ no_memory) → plan ≡ made
read_as r made plan is e =
    elim e [
      | inl same ↦ (let both : ◌≡◌ {A = Result Plan ReadBatchFault} (Ok plan) (Ok made) = sym same ∙ is in cc)
      | inr none ↦ absurd (let both : ◌≡◌ {A = Result Plan ReadBatchFault} (Ok made) (Err OutOfMemory) = sym is ∙ none in cc)
    ]

pub not_bad : (r : Result Plan ReadBatchFault) (fault : ReadBatchFault) (bad : BadBatch) (plan : Plan) → r ≡ Err fault → fault ≡ Bad bad
    → (r ≡ Ok plan) ⊎ (r ≡ no_memory) → ⊥
not_bad r fault bad plan is kind e =
    elim e [
      | inl same ↦ (let both : ◌≡◌ {A = Result Plan ReadBatchFault} (Ok plan) (Err fault) = sym same ∙ is in cc)
      | inr none ↦
          (let both : ◌≡◌ {A = Result Plan ReadBatchFault} (Err fault) (Err OutOfMemory) = sym is ∙ none in
          let faults : fault ≡ OutOfMemory = cc in
          let kinds : Bad bad ≡ OutOfMemory = sym kind ∙ faults in
          cc)
    ]
