use Rattle.std.proofs.Common.{[], ◌∷◌, ◌++◌, sym, ap, ◌∙◌}
use Rattle.call_places.specs.Notes.{note_entry, live_at}
use Rattle.call_places.proofs.Live.{added_one, retired_one}
use Rattle.batch_alone.proofs.tables.after.Goals as goal

pub returns-in-Add : goal.returns-in-Add
returns-in-Add c = λ es p stamp name told is. sym (ap (λ act. live_at (es ++ note_entry p stamp name act told ∷ []) name) c.in-Add.is ∙ added_one es p stamp name told)

pub returns-in-Retire : goal.returns-in-Retire
returns-in-Retire c = λ es p stamp name told is. sym (ap (λ act. live_at (es ++ note_entry p stamp name act told ∷ []) name) c.in-Retire.is ∙ retired_one es p stamp name told)
