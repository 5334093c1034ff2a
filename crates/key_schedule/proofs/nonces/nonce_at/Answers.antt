use Rattle.std.proofs.Common.{take, drop, ap, ◌∙◌}
use Rattle.std.specs.Int.{bytes_high_first}
use Rattle.byte_strings.specs.Bytes.{xor_bytes}
use Rattle.key_schedule.proofs.nonces.nonce_at.Goals as goal

pub returns : goal.returns
returns c =
    c.xor_into.ensures
    ∙ ap (λ number. xor_bytes c.args.base_nonce.now (take 12 (drop 4 number)))
    (c.to_be_bytes-number.ensures ∙ ap (bytes_high_first 16) c.from.ensures)
