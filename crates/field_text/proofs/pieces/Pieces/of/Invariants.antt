use Rattle.std.proofs.Common.{◌≡◌, ◌≤◌, ◌-◌, ◌++◌, length, take}
use Rattle.field_text.specs.Cuts.{pieces_of, pieces_left, texts}
use Rattle.field_text.proofs.pieces.Pieces.of.Given as goal

abbrev pub invariant-ahead : goal.invariant-ahead
invariant-ahead l = record {
  cut : texts (take l.end l.found) ++ pieces_left l.rest ≡ pieces_of l.line;
  size : length l.found ≡ 12;
  within : l.end ≤ 12;
}

abbrev pub decreases-ahead : goal.decreases-ahead
decreases-ahead l = 12 - l.end
