use Rattle.std.proofs.Common.{◌++◌, sym, ap, arith}
use Rattle.std.proofs.lemmas.List.{length-append}
use Rattle.field_text.specs.HexLanes.{joined}
use Rattle.field_text.proofs.Lanes.{spelled}
use Rattle.field_text.proofs.hex_reading.joined.Goals as goal

pub returns : goal.returns
unfolding joined
returns c =
    let both = c.args.a ++ c.args.b in
    sym (ap joined (spelled both 32 (omega (arith, length-append c.args.a c.args.b))))
