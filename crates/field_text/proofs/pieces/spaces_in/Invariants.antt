use Rattle.std.proofs.Common.{◌≡◌, ◌==◌, ◌+◌, length}
use Rattle.std.specs.List.{count_by}
use Rattle.field_text.specs.Cuts.{space}
use Rattle.field_text.proofs.pieces.spaces_in.Given as goal

abbrev pub invariant-few : goal.invariant-few
invariant-few l = l.count + count_by (λ byte. byte == space) l.rest ≡ count_by (λ byte. byte == space) l.text

abbrev pub decreases-few : goal.decreases-few
decreases-few l = length l.rest
