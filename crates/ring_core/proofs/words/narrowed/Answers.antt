use Rattle.std.proofs.Common.{arith, ◌∙◌}
use Rattle.std.proofs.lemmas.List.{take_at}
use Rattle.ring_core.proofs.words.narrowed.Goals as goal

pub returns : goal.returns
returns c =
    take_at c.write_narrowed.new.narrow _ c.in_ok-narrow.narrow.len (omega arith) ∙ c.write_narrowed.ensures
