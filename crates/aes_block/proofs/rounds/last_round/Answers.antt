use Rattle.std.proofs.Common.{◌∙◌, ap}
use Rattle.byte_strings.specs.Bytes.{xor_bytes}
use Rattle.aes_block.specs.Field.{s_box}
use Rattle.aes_block.specs.Sliced.{gathered, row_place, constant}
use Rattle.aes_block.proofs.States.{added_long_of, added_bytes, moved_long, rows_bytes, rows_state, state_summed}
use Rattle.aes_block.proofs.rounds.last_round.Goals as goal

pub returns-clause-long : goal.returns-clause-long
returns-clause-long c =
    added_long_of c.rows_of.result c.args.key c.added.result (moved_long row_place c.sub_bytes.result c.rows_of.result c.rows_of.ensures) c.requires.key c.added.ensures

pub returns-clause-states : goal.returns-clause-states
returns-clause-states c bytes is i I =
    let rows = moved_long row_place c.sub_bytes.result c.rows_of.result c.rows_of.ensures in
    state_summed c.rows_of.result c.args.key c.added.result bytes constant i I is
    (added_bytes c.rows_of.result c.args.key c.added.result rows c.requires.key c.added.ensures)
    (λ l. s_box (gathered c.args.q (row_place l) i))
    (λ l L. rows_bytes c.args.q c.sub_bytes.result c.rows_of.result c.sub_bytes.ensures.bytes c.rows_of.ensures l i L I)
    ∙ ap (λ zs. xor_bytes zs bytes) (rows_state c.args.q i)
