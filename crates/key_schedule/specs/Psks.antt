-- The psk inputs of a context (RFC 9180, 5.1). The RFC's default, the empty byte string, stands for
-- an input that isn't given.
use Rattle.std.specs.Prelude.{◌≡◌, ◌≢◌, ◌⊎◌, ℕ, List, [], ◌∷◌, Result, Ok, Err}
use Rattle.key_schedule.specs.declared.modes.Mode.{Mode}
use Rattle.key_schedule.specs.declared.modes.Mode.TheVariants.{Base, Psk}
use Rattle.key_schedule.specs.declared.psks.PskFault.{PskFault}
use Rattle.key_schedule.specs.declared.psks.PskFault.TheVariants.{Inconsistent, Unneeded, Missing}

-- got_psk, got_psk_id: the input is given
abbrev pub IsGiven : List ℕ → Type 0
IsGiven input = input ≢ []

-- one of psk and psk_id is given, and the other isn't
abbrev pub OneIsMissing : List ℕ → List ℕ → Type 0
OneIsMissing psk psk_id = (IsGiven psk × (psk_id ≡ [])) ⊎ ((psk ≡ []) × IsGiven psk_id)

-- VerifyPSKInputs(mode, psk, psk_id), by cases on what is given
abbrev pub verify_psk_inputs : Mode → List ℕ → List ℕ → Result (Unit {0}) PskFault
verify_psk_inputs Base [] [] = Ok tt
verify_psk_inputs Psk [] [] = Err Missing
verify_psk_inputs mode [] (_ ∷ _) = Err Inconsistent
verify_psk_inputs mode (_ ∷ _) [] = Err Inconsistent
verify_psk_inputs Base (_ ∷ _) (_ ∷ _) = Err Unneeded
verify_psk_inputs Psk (_ ∷ _) (_ ∷ _) = Ok tt
