-- A refusal's status, by its cause.
use Rattle.std.proofs.Common.{◌≡◌, ◌∙◌, ℕ, Result, Err, inl, inr, ap, arith, refl, sym}
use Rattle.std.specs.Prelude.{◌≢◌, ◌⊎◌, ◌↔◌}
use Rattle.ohttp_capsule.specs.declared.faults.CapsuleFault.{CapsuleFault}
use Rattle.ohttp_capsule.specs.declared.faults.CapsuleFault.TheVariants.{Short, Header, NonceSize, Failed, OutOfMemory}
use Rattle.library_calls.specs.Capsules.{refusal_of}
use Rattle.library_calls.specs.Statuses.{done, wrong_usage, no_memory, refused_failed, refused_form, refused_short, refused_header, refused_noncesize}

pub never_done : (f : CapsuleFault) → refusal_of f ≢ done
never_done Short e = omega (arith, e)
never_done Header e = omega (arith, e)
never_done NonceSize e = omega (arith, e)
never_done Failed e = omega (arith, e)
never_done OutOfMemory e = omega (arith, e)

pub never_form : (f : CapsuleFault) → refusal_of f ≢ refused_form
never_form Short e = omega (arith, e)
never_form Header e = omega (arith, e)
never_form NonceSize e = omega (arith, e)
never_form Failed e = omega (arith, e)
never_form OutOfMemory e = omega (arith, e)

-- the refusals of an answer are among its statuses
pub of_answer : (f : CapsuleFault) (status : ℕ) → status ≡ refusal_of f
    → (status ≡ done) ⊎ (status ≡ wrong_usage) ⊎ (status ≡ no_memory) ⊎ (status ≡ refused_short)
    ⊎ (status ≡ refused_form) ⊎ (status ≡ refused_header) ⊎ (status ≡ refused_noncesize) ⊎ (status ≡ refused_failed)
of_answer Short status is = inr (inr (inr (inl is)))
of_answer Header status is = inr (inr (inr (inr (inr (inl is)))))
of_answer NonceSize status is = inr (inr (inr (inr (inr (inr (inl is))))))
of_answer Failed status is = inr (inr (inr (inr (inr (inr (inr is))))))
of_answer OutOfMemory status is = inr (inr (inl is))

-- ---- a status is that of one refusal

pub only_short : (f : CapsuleFault) → refusal_of f ≡ refusal_of Short → f ≡ Short
only_short Short e = refl
only_short Header e = absurd (omega (arith, e))
only_short NonceSize e = absurd (omega (arith, e))
only_short Failed e = absurd (omega (arith, e))
only_short OutOfMemory e = absurd (omega (arith, e))

pub only_header : (f : CapsuleFault) → refusal_of f ≡ refusal_of Header → f ≡ Header
only_header Short e = absurd (omega (arith, e))
only_header Header e = refl
only_header NonceSize e = absurd (omega (arith, e))
only_header Failed e = absurd (omega (arith, e))
only_header OutOfMemory e = absurd (omega (arith, e))

pub only_noncesize : (f : CapsuleFault) → refusal_of f ≡ refusal_of NonceSize → f ≡ NonceSize
only_noncesize Short e = absurd (omega (arith, e))
only_noncesize Header e = absurd (omega (arith, e))
only_noncesize NonceSize e = refl
only_noncesize Failed e = absurd (omega (arith, e))
only_noncesize OutOfMemory e = absurd (omega (arith, e))

pub only_failed : (f : CapsuleFault) → refusal_of f ≡ refusal_of Failed → f ≡ Failed
only_failed Short e = absurd (omega (arith, e))
only_failed Header e = absurd (omega (arith, e))
only_failed NonceSize e = absurd (omega (arith, e))
only_failed Failed e = refl
only_failed OutOfMemory e = absurd (omega (arith, e))

-- what comes for a cause comes for it where all fits
pub with_fit : {A Fits P : Type 0} → Fits → (A ↔ P) → (A ↔ (Fits × P))
with_fit fits told = ((λ a. (fits, told.0 a)), (λ p. told.1 p.1))

-- ---- of a call that was refused

module _ {X : Type 0} (r : Result X CapsuleFault) (f : CapsuleFault) where
  pub known_fault : (status : ℕ) → status ≡ refusal_of f → r ≡ Err f → status ≢ no_memory → r ≢ Err OutOfMemory
  known_fault status is r_is known e =
      let same : f ≡ OutOfMemory = (let x = sym r_is ∙ e in cc) in known (is ∙ ap refusal_of same)

  pub told_as : (g : CapsuleFault) (status : ℕ) (P : Type 0) → ((h : CapsuleFault) → refusal_of h ≡ refusal_of g → h ≡ g)
      → status ≡ refusal_of f → r ≡ Err f → ((r ≡ Err g) ↔ P) → ((status ≡ refusal_of g) ↔ P)
  told_as g status P one is r_is told = (
    (λ e. told.0 (r_is ∙ ap (λ h. Err h) (one f (sym is ∙ e)))),
    (λ p. let same : f ≡ g = (let x = sym r_is ∙ told.1 p in cc) in is ∙ ap refusal_of same),
  )
