use Rattle.radix_pack.proofs.parts.decoded.Goals as goal

pub decode_into-requires-clause-some : goal.decode_into-requires-clause-some
decode_into-requires-clause-some c = c.requires.some

pub decode_into-requires-clause-radices : goal.decode_into-requires-clause-radices
decode_into-requires-clause-radices c = c.requires.radices

pub decode_into-requires-clause-count : goal.decode_into-requires-clause-count
decode_into-requires-clause-count c = c.requires.count
