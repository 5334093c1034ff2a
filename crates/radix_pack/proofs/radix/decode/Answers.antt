use Rattle.std.proofs.Common.{◌∙◌, length, subst, sym, arith}
use Rattle.radix_pack.specs.Radix.{decode, encoded_length, AreBelow}
use Rattle.radix_pack.proofs.PartSteps.{AreBelow-decode_in}
use Rattle.radix_pack.proofs.radix.decode.Goals as goal

pub decoded-requires-clause-count : goal.decoded-requires-clause-count
unfolding encoded_length
decoded-requires-clause-count c = (length c.args.radices.now, omega arith, c.requires.count)

pub returns-clause-digits : goal.returns-clause-digits
unfolding decode
returns-clause-digits c = c.from_vec.ensures.items ∙ c.in_ok-decoded.ensures (length c.args.radices.now) (omega arith)

pub returns-clause-below : goal.returns-clause-below
returns-clause-below c =
    let ms = c.args.radices.now in
    let is = c.from_vec.ensures.items ∙ c.in_ok-decoded.ensures (length ms) (omega arith) in
    subst (λ digits. AreBelow digits ms) (sym is) (AreBelow-decode_in (length ms) ms c.args.bytes.now (omega arith) c.requires.radices)
