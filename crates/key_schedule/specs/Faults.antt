-- The numbers and the texts of the faults, as users read them.
use Rattle.std.specs.Prelude.{ℕ, List, codes}
use Rattle.key_schedule.specs.declared.psks.PskFault.{PskFault}
use Rattle.key_schedule.specs.declared.psks.PskFault.TheVariants.{Inconsistent, Unneeded, Missing}

-- in the order in which they are tested
abbrev pub fault_number : PskFault → ℕ
fault_number Inconsistent = 1
fault_number Unneeded = 2
fault_number Missing = 3

abbrev pub fault_text : PskFault → List ℕ
fault_text Inconsistent = codes "one of psk and psk_id is missing"
fault_text Unneeded = codes "mode base takes no psk"
fault_text Missing = codes "mode psk needs a psk"
