use Rattle.std.proofs.Common.{◌≡◌, ◌==◌, take}
use Rattle.std.specs.List.{count_by}
use Rattle.field_text.specs.Cuts.{space}
use Rattle.field_text.proofs.pieces.spaces_of_few.Given as goal

abbrev pub invariant-loop-byte : goal.invariant-loop-byte
invariant-loop-byte l = l.count ≡ count_by (λ byte. byte == space) (take l.byte-index l.bytes)
