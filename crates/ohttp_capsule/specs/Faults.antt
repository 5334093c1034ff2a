-- The numbers and the texts of the faults, as users read them.
use Rattle.std.specs.Prelude.{ℕ, List, codes}
use Rattle.ohttp_capsule.specs.declared.faults.CapsuleFault.{CapsuleFault}
use Rattle.ohttp_capsule.specs.declared.faults.CapsuleFault.TheVariants.{Short, Header, NonceSize, Failed, OutOfMemory}

-- in the order in which they are tested
abbrev pub fault_number : CapsuleFault → ℕ
fault_number Short = 1
fault_number Header = 2
fault_number NonceSize = 3
fault_number Failed = 4
fault_number OutOfMemory = 5

abbrev pub fault_text : CapsuleFault → List ℕ
fault_text Short = codes "the message is too short"
fault_text Header = codes "the header is not that of the key"
fault_text NonceSize = codes "the nonce has another size"
fault_text Failed = codes "the tag does not hold"
fault_text OutOfMemory = codes "out of memory"
