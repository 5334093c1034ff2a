-- A key line is a parameter set and where the key comes from.
use Rattle.batch_plans.specs.declared.plan.KeyLine.{KeyLine}
use Rattle.batch_plans.specs.declared.plan.KeyLine.TheVariants as lines
use Rattle.batch_plans.specs.declared.plan.KeySource.{KeySource}
use Rattle.batch_plans.specs.declared.plan.KeySource.TheVariants.{Generate, Secret, Peer}
use Rattle.batch_plans.specs.declared.plan.KeySet.{KeySet}
use Rattle.batch_plans.specs.declared.plan.KeySet.TheVariants.{Sntrup761, Sntrup857}

-- the line of a key of this set, from this source
abbrev pub key_line : KeySet → KeySource → KeyLine
key_line Sntrup761 Generate = lines.Generate
key_line Sntrup761 (Secret bytes) = lines.Secret bytes
key_line Sntrup761 (Peer bytes) = lines.Peer bytes
key_line Sntrup857 Generate = lines.Generate857
key_line Sntrup857 (Secret bytes) = lines.Secret857 bytes
key_line Sntrup857 (Peer bytes) = lines.Peer857 bytes

-- the set of a line
abbrev pub set_of : KeyLine → KeySet
set_of lines.Generate857 = Sntrup857
set_of (lines.Secret857 bytes) = Sntrup857
set_of (lines.Peer857 bytes) = Sntrup857
set_of line = Sntrup761

-- its source
abbrev pub source_of : KeyLine → KeySource
source_of (lines.Secret bytes) = Secret bytes
source_of (lines.Secret857 bytes) = Secret bytes
source_of (lines.Peer bytes) = Peer bytes
source_of (lines.Peer857 bytes) = Peer bytes
source_of line = Generate
