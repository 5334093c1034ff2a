use Rattle.std.proofs.Common.{◌∙◌, ap, length}
use Rattle.radix_pack.specs.Codings.{small_length}
use Rattle.radix_pack.proofs.SmallLaws.{length-small_encode}
use Rattle.radix_pack.proofs.small.small_encode.Goals as goal

pub returns-clause-count : goal.returns-clause-count
returns-clause-count g c =
    let a = c.as_slice.result.now in
    ap length (c.from_vec.ensures.items ∙ c.in_ok-small_bytes.ensures)
    ∙ length-small_encode (length a) a
    ∙ ap small_length (ap length c.as_slice.ensures.list ∙ c.as_slice.ensures.centred.0)
