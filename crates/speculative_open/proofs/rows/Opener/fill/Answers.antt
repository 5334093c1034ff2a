use Rattle.std.proofs.Common.{◌<◌, length, drop, arith, refl, sym, length-take, []}
use Rattle.std.proofs.lemmas.List.{get_or_append_left}
use Rattle.std.proofs.lemmas.Option.{slice_get_within}
use Rattle.call_places.specs.Messages.{sealed_message}
use Rattle.speculative_open.proofs.Verdicts.{row_moved}
use Rattle.speculative_open.proofs.rows.Opener.fill.Goals as goal

pub returns : goal.returns
returns g c = λ i item h.
    let self = c.args.self.now in
    let items = c.args.items.now in
    let rows = c.args.rows.now in
    let there : i < length items = slice_get_within items i item h in
    let made = c.fill_pieces.new.rows in
    row_moved self.guess self.limit self.key.now self.base_nonce.now i i (sealed_message self.pool.now item) _ _ refl
    (sym (get_or_append_left made (drop (length items) rows) [] i (omega (arith, length-take (length items) rows))))
    (c.fill_pieces.ensures i item h)
