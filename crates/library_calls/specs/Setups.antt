-- Contexts that are set up (RFC 9180, 5.1).
use Rattle.std.specs.Prelude.{◌≡◌, ◌≤◌, ℕ, List, [], Ok}
use Rattle.key_schedule.specs.declared.modes.Mode.TheVariants.{Base, Psk}
use Rattle.key_schedule.specs.Psks.{IsGiven, verify_psk_inputs}
use Rattle.key_schedule.specs.Schedule.{secrets_of}
use Rattle.library_calls.specs.declared.contexts.HpkeContext.{HpkeContext}
use Rattle.library_calls.specs.Contexts.{NamesKdf, NamesAead, suite_named, mode_named, context_of}

-- of role, mode, KDF, AEAD and LIMIT: each names something, and there is a first number
abbrev pub CanSetUp : ℕ → ℕ → ℕ → ℕ → ℕ → Type 0
CanSetUp role mode kdf aead limit =
    (role ≤ 1) × (mode ≤ 1) × NamesKdf kdf × NamesAead aead × (1 ≤ limit)

-- VerifyPSKInputs raises no error
abbrev pub PskFits : ℕ → List ℕ → List ℕ → Type 0
PskFits mode psk psk_id = verify_psk_inputs (mode_named mode) psk psk_id ≡ Ok tt

-- both are given, and the mode takes none
abbrev pub IsExtra : ℕ → List ℕ → List ℕ → Type 0
IsExtra mode psk psk_id = (mode_named mode ≡ Base) × IsGiven psk × IsGiven psk_id

-- neither is given, and the mode needs both
abbrev pub IsMissing : ℕ → List ℕ → List ℕ → Type 0
IsMissing mode psk psk_id = (mode_named mode ≡ Psk) × (psk ≡ []) × (psk_id ≡ [])

-- the context that KeySchedule gives an end for a shared secret
unfoldable pub set_up : ℕ → ℕ → ℕ → ℕ → ℕ → ℕ → List ℕ → List ℕ → List ℕ → List ℕ → HpkeContext
set_up role mode kem kdf aead limit shared_secret info psk psk_id =
    let suite = suite_named kem kdf aead in
    context_of role limit suite
    (secrets_of suite (mode_named mode) shared_secret info psk psk_id)

-- kem_id of the two sets, of this project's own choice
abbrev pub kem_761 : ℕ
kem_761 = 0xf761

abbrev pub kem_857 : ℕ
kem_857 = 0xf857
