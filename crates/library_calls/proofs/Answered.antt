-- What a whole answer tells, by how it ended.
use Rattle.std.proofs.Common.{◌≡◌, ◌∙◌, ℕ, List, Result, Ok, Err, inl, inr, arith, refl, sym, subst}
use Rattle.std.specs.Prelude.{◌≢◌, ◌⊎◌, ◌↔◌, IsOk}
use Rattle.ring_core.specs.Sets.{Set}
use Rattle.sntrup_kem.specs.Kem.{HasMalformedPart}
use Rattle.ohttp_capsule.specs.Replies.{answered}
use Rattle.ohttp_capsule.specs.Refusals.{IsShortRequest, HasOtherHeader, HasOtherNonce, DoesNotOpen}
use Rattle.ohttp_capsule.specs.declared.faults.CapsuleFault.{CapsuleFault}
use Rattle.ohttp_capsule.specs.declared.faults.CapsuleFault.TheVariants.{Short, Header, NonceSize, Failed, OutOfMemory}
use Rattle.library_calls.specs.Capsules.{refusal_of, FitsAnswer, CanAnswer, IsAnswered}
use Rattle.library_calls.specs.Statuses.{done, wrong_usage, no_memory, refused_form, refused_short}
use Rattle.library_calls.proofs.Refusals.{known_fault, never_done, never_form, of_answer, only_failed, only_header, only_noncesize, only_short, told_as, with_fit}

module _ (set : Set) (kem : ℕ) (sk : List ℕ) (key_id : ℕ) (request nonce text question response : List ℕ) where
  abbrev Tells : List ℕ → List ℕ → ℕ → Type 0
  Tells question_new response_new status =
      IsAnswered set kem sk key_id request nonce text question response question_new response_new status

  abbrev Fits : Type 0
  Fits = FitsAnswer set request question nonce text response

  abbrev Can : Type 0
  Can = CanAnswer set sk request question nonce text response

  -- the lengths don't fit
  pub unfit : (status : ℕ) → (status ≡ wrong_usage) ⊎ (status ≡ refused_short)
      → ((status ≡ refused_short) ↔ IsShortRequest set request) → ¬ Fits → Tells question response status
  unfit status which short none = record {
    ok = (λ known. ((λ e. absurd (omega (arith, which, e))), (λ p. absurd (none p.0.0))));
    short = short;
    form = (λ known. ((λ e. absurd (omega (arith, which, e))), (λ p. absurd (none p.0))));
    header = (λ known. ((λ e. absurd (omega (arith, which, e))), (λ p. absurd (none p.0.0))));
    noncesize = (λ known. ((λ e. absurd (omega (arith, which, e))), (λ p. absurd (none p.0.0))));
    failed = (λ known. ((λ e. absurd (omega (arith, which, e))), (λ p. absurd (none p.0.0))));
    statuses = elim which [
      | inl e ↦ inr (inl e)
      | inr e ↦ inr (inr (inr (inl e)))
    ];
    texts = (λ e. absurd (omega (arith, which, e)));
    refused = (λ e. (refl, refl));
  }

  -- there was no memory
  pub without_memory : ¬ IsShortRequest set request → Tells question response no_memory
  without_memory long = record {
    ok = (λ known. absurd (known refl));
    short = ((λ e. absurd (omega (arith, e))), (λ p. absurd (long p)));
    form = (λ known. absurd (known refl));
    header = (λ known. absurd (known refl));
    noncesize = (λ known. absurd (known refl));
    failed = (λ known. absurd (known refl));
    statuses = inr (inr (inl refl));
    texts = (λ e. absurd (omega (arith, e)));
    refused = (λ e. (refl, refl));
  }

  -- the bytes encode no key
  pub malformed : Fits → HasMalformedPart set sk → Tells question response refused_form
  malformed fits bad = record {
    ok = (λ known. ((λ e. absurd (omega (arith, e))), (λ p. absurd (p.0.1 bad))));
    short = ((λ e. absurd (omega (arith, e))), (λ p. absurd (omega (arith, p, fits.1))));
    form = (λ known. ((λ e. (fits, bad)), (λ p. refl)));
    header = (λ known. ((λ e. absurd (omega (arith, e))), (λ p. absurd (p.0.1 bad))));
    noncesize = (λ known. ((λ e. absurd (omega (arith, e))), (λ p. absurd (p.0.1 bad))));
    failed = (λ known. ((λ e. absurd (omega (arith, e))), (λ p. absurd (p.0.1 bad))));
    statuses = inr (inr (inr (inr (inl refl))));
    texts = (λ e. absurd (omega (arith, e)));
    refused = (λ e. (refl, refl));
  }

  -- ---- the request was opened, or refused

  module _ (r : Result (List ℕ × List ℕ) CapsuleFault) (can : Can)
      (header : (r ≡ Err Header) ↔ HasOtherHeader set kem key_id request)
      (nonce_size : (r ≡ Err NonceSize) ↔ HasOtherNonce set kem key_id request nonce)
      (failed : r ≢ Err OutOfMemory → ((r ≡ Err Failed) ↔ DoesNotOpen set kem sk key_id request nonce)) where
    pub opened : (question_new response_new : List ℕ) (x : List ℕ × List ℕ) → r ≡ Ok x
        → answered set kem sk key_id request nonce text ≡ Ok (question_new, response_new)
        → Tells question_new response_new done
    opened question_new response_new x is texts = record {
      ok = (λ known. ((λ e. (can, subst IsOk (sym texts) refl)), (λ p. refl)));
      short = ((λ e. absurd (omega (arith, e))), (λ p. absurd (omega (arith, p, can.0.1))));
      form = (λ known. ((λ e. absurd (omega (arith, e))), (λ p. absurd (can.1 p.1))));
      header = (λ known. ((λ e. absurd (omega (arith, e))), (λ p. let bad = sym is ∙ header.1 p.1 in cc)));
      noncesize = (λ known. ((λ e. absurd (omega (arith, e))), (λ p. let bad = sym is ∙ nonce_size.1 p.1 in cc)));
      failed = (λ known. (
        (λ e. absurd (omega (arith, e))),
        (λ p. let bad = sym is ∙ (failed (λ e. let none = sym is ∙ e in cc)).1 p.1 in cc),
      ));
      statuses = inl refl;
      texts = (λ e. texts);
      refused = (λ none. absurd (none refl));
    }

    pub refused_by : (f : CapsuleFault) (status : ℕ) → r ≡ Err f → status ≡ refusal_of f
        → ((r ≡ Err Short) ↔ IsShortRequest set request)
        → (r ≢ Err OutOfMemory → r ≡ answered set kem sk key_id request nonce text) → Tells question response status
    refused_by f status is status_is short told = record {
      ok = (λ known. (
        (λ e. absurd (never_done f (sym status_is ∙ e))),
        (λ p. let bad = subst IsOk (sym (told (known_fault r f status status_is is known)) ∙ is) p.1 in cc),
      ));
      short = told_as r f Short status _ only_short status_is is short;
      form = (λ known. ((λ e. absurd (never_form f (sym status_is ∙ e))), (λ p. absurd (can.1 p.1))));
      header = (λ known. with_fit can (told_as r f Header status _ only_header status_is is header));
      noncesize = (λ known. with_fit can (told_as r f NonceSize status _ only_noncesize status_is is nonce_size));
      failed = (λ known. with_fit can (told_as r f Failed status _ only_failed status_is is
          (failed (known_fault r f status status_is is known))));
      statuses = of_answer f status status_is;
      texts = (λ e. absurd (never_done f (sym status_is ∙ e)));
      refused = (λ e. (refl, refl));
    }
