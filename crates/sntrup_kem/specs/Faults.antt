-- The texts of the faults, as users read them.
use Rattle.std.specs.Prelude.{ℕ, List, codes}
use Rattle.sntrup_kem.specs.declared.keys.KeyBytesFault.{KeyBytesFault}
use Rattle.sntrup_kem.specs.declared.keys.KeyBytesFault.TheVariants.{Length, Form, OutOfMemory}

abbrev pub fault_text : KeyBytesFault → List ℕ
fault_text Length = codes "the key has another length"
fault_text Form = codes "the bytes encode no key"
fault_text OutOfMemory = codes "out of memory"
