use Rattle.std.proofs.Common.{◌≡◌, ◌<◌, ◌+◌, length, slice_get, slice_index_or, [], Some, arith, rules, ◌∙◌, ap}
use Rattle.std.proofs.lemmas.Option.{slice_get_within}
use Rattle.call_places.specs.Messages.{sealed_message}
use Rattle.speculative_open.specs.Tables.{IsRow}
use Rattle.speculative_open.proofs.Verdicts.{row_moved}
use Rattle.speculative_open.proofs.rows.Opener.fill_pieces.Goals as goal

pub returns : goal.returns
returns g c = λ i item h.
    let self = c.args.self.now in
    let items = c.args.items.now in
    let within : i < length c.args.rows.now = omega (arith, slice_get_within items i item h) in
    let fact = (c.for_each_chunk_mut.ensures.by_index i [] within).1 in
    let here : slice_get items (fact.start + fact.offset) ≡ Some item = ap (slice_get items) fact.start_plus_offset ∙ h in
    let right : IsRow self.guess self.limit self.key.now self.base_nonce.now (fact.start + fact.offset) (sealed_message self.pool.now item)
    (slice_index_or fact.after_call.now fact.offset []) = search rules in
    row_moved self.guess self.limit self.key.now self.base_nonce.now (fact.start + fact.offset) i (sealed_message self.pool.now item)
    (slice_index_or fact.after_call.now fact.offset []) (slice_index_or c.for_each_chunk_mut.new.s i [])
    fact.start_plus_offset fact.new_element right
