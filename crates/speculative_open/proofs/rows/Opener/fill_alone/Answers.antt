use Rattle.std.proofs.Common.{◌≡◌, ◌<◌, ◌+◌, length, drop, arith, sym, length-take, slice_get, [], ◌∙◌, ap}
use Rattle.std.proofs.lemmas.List.{get_or_append_left}
use Rattle.std.proofs.lemmas.Option.{slice_get_within}
use Rattle.call_places.specs.Messages.{sealed_message}
use Rattle.speculative_open.proofs.Verdicts.{row_moved}
use Rattle.speculative_open.proofs.rows.Opener.fill_alone.Goals as goal

pub returns : goal.returns
returns c = λ i item h.
    let self = c.args.self.now in
    let items = c.args.items.now in
    let rows = c.args.rows.now in
    let there : i < length items = slice_get_within items i item h in
    let made = c.fill_piece.new.rows in
    let first : 0 + i ≡ i = omega arith in
    row_moved self.guess self.limit self.key.now self.base_nonce.now (0 + i) i (sealed_message self.pool.now item) _ _ first
    (sym (get_or_append_left made (drop (length items) rows) [] i (omega (arith, length-take (length items) rows))))
    (c.fill_piece.ensures i item (omega (arith, length-take (length items) rows)) (ap (slice_get items) first ∙ h))
