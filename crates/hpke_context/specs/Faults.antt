-- The numbers and the texts of the faults, as users read them.
use Rattle.std.specs.Prelude.{ℕ, List, codes}
use Rattle.hpke_context.specs.declared.faults.CallFault.{CallFault}
use Rattle.hpke_context.specs.declared.faults.CallFault.TheVariants.{Role, NoCipher, Limit, Failed, ExportSize}

abbrev pub fault_number : CallFault → ℕ
fault_number Role = 1
fault_number NoCipher = 2
fault_number Limit = 3
fault_number Failed = 4
fault_number ExportSize = 5

abbrev pub fault_text : CallFault → List ℕ
fault_text Role = codes "the other role's call"
fault_text NoCipher = codes "the suite is export-only"
fault_text Limit = codes "the sequence number is at its limit"
fault_text Failed = codes "the tag does not hold"
fault_text ExportSize = codes "the export is too long"
