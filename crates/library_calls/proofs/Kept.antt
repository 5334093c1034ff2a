-- What a client keeps says what was asked.
use Rattle.std.proofs.Common.{◌≡◌, ◌-◌, ◌∙◌, ℕ, IsTrue, inl, inr, List, length, take, replicate, ap}
use Rattle.std.proofs.lemmas.List.{take_at}
use Rattle.hkdf_labelled.specs.Hmac.{zero_padded}
use Rattle.key_schedule.specs.declared.modes.Role.TheVariants.{Sender}
use Rattle.ring_core.specs.Sets.{Set}
use Rattle.sntrup_kem.specs.Sizes.{enc_size}
use Rattle.hkdf_labelled.specs.Suites.{encrypts}
use Rattle.ohttp_capsule.specs.declared.asking.Asked.{Asked}
use Rattle.ohttp_capsule.specs.Requests.{context_of}
use Rattle.library_calls.specs.declared.asks.HpkeAsked.{HpkeAsked}
use Rattle.library_calls.specs.Contexts.{aead_named, suite_named}
use Rattle.library_calls.specs.Capsules.{IsAsked, set_named, asked_held, kept}

pub held_is : (set : Set) (key_id kem kdf aead : ℕ) (shared_secret enc : List ℕ) → set_named kem ≡ set
    → length enc ≡ enc_size set
    → asked_held (kept key_id kem kdf aead shared_secret enc)
    ≡ record { context = context_of Sender key_id (suite_named kem kdf aead) shared_secret; enc = enc }
held_is set key_id kem kdf aead shared_secret enc named size =
    let asked : List ℕ → Asked = λ e. record { context = context_of Sender key_id (suite_named kem kdf aead) shared_secret; enc = e } in
    ap (λ (s : Set). asked (take (enc_size s) (zero_padded 1184 enc))) named
    ∙ ap asked (take_at enc (replicate (1184 - length enc) 0) (enc_size set) size)

-- its AEAD encrypts
pub encrypts_held : (a : HpkeAsked) → IsAsked a → IsTrue (encrypts (asked_held a).context.suite.aead)
encrypts_held a is = elim is.2.1 [
  | inl e ↦ ap (λ n. encrypts (aead_named n)) e
  | inr e ↦ ap (λ n. encrypts (aead_named n)) e
]
