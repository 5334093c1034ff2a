-- The texts of the faults, as users read them.
use Rattle.std.specs.Prelude.{ℕ, List, codes}
use Rattle.sntrup_core.specs.declared.keys.KeyFault.{KeyFault}
use Rattle.sntrup_core.specs.declared.keys.KeyFault.TheVariants.{Exhausted, NoInverse, OutOfMemory}

abbrev pub fault_text : KeyFault → List ℕ
fault_text Exhausted = codes "no polynomial drawn for g has an inverse"
fault_text NoInverse = codes "3f has no inverse"
fault_text OutOfMemory = codes "out of memory"
