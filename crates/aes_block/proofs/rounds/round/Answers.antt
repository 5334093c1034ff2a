use Rattle.std.proofs.Common.{◌∙◌, ℕ, ap}
use Rattle.byte_strings.specs.Bytes.{xor_bytes}
use Rattle.aes_block.specs.Field.{s_box}
use Rattle.aes_block.specs.Cipher.{mix_columns}
use Rattle.aes_block.specs.Sliced.{gathered, row_place, next_place, half_place, mixed_byte, constant}
use Rattle.aes_block.proofs.Circuit.{gathered-lt, s_box-lt}
use Rattle.aes_block.proofs.States.{added_long_of, added_bytes, rows_bytes, mixed_bytes, rows_state, mixed_state, state_summed}
use Rattle.aes_block.proofs.rounds.round.Goals as goal

pub returns-clause-long : goal.returns-clause-long
returns-clause-long c = added_long_of c.mixed.result c.args.key c.added.result c.mixed.ensures.long c.requires.key c.added.ensures

pub returns-clause-states : goal.returns-clause-states
returns-clause-states c bytes is i I =
    let byte : ℕ → ℕ = λ l. s_box (gathered c.args.q (row_place l) i) in
    state_summed c.mixed.result c.args.key c.added.result bytes constant i I is
    (added_bytes c.mixed.result c.args.key c.added.result c.mixed.ensures.long c.requires.key c.added.ensures)
    (λ l. mixed_byte (byte l) (byte (next_place l)) (byte (half_place l)) (byte (next_place (half_place l))))
    (mixed_bytes c.rows_of.result c.mixed.result byte i I
    (λ l L. rows_bytes c.args.q c.sub_bytes.result c.rows_of.result c.sub_bytes.ensures.bytes c.rows_of.ensures l i L I) c.mixed.ensures.bytes)
    ∙ ap (λ zs. xor_bytes zs bytes)
    (mixed_state byte (λ l. s_box-lt (gathered c.args.q (row_place l) i) (gathered-lt c.args.q (row_place l) i)) ∙ ap mix_columns (rows_state c.args.q i))
