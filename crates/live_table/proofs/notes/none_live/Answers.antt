use Rattle.std.proofs.Common.{false}
use Rattle.std.proofs.lemmas.List.{get_or-replicate}
use Rattle.live_table.proofs.notes.none_live.Goals as goal

pub returns : goal.returns
returns c = λ name below. get_or-replicate 256 name false false below
