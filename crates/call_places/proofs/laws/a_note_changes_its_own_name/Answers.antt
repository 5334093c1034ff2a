use Rattle.call_places.proofs.Live.{added_one, retired_one, looked_up, another}
use Rattle.call_places.proofs.laws.a_note_changes_its_own_name.Goals as goal

pub returns : goal.returns
returns c = record { added = added_one; retired = retired_one; looked = λ es p s n live. looked_up es p s n n live; others = another }
