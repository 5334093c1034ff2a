use Rattle.call_places.proofs.Live.{never_added, since_added, since_retired}
use Rattle.call_places.proofs.laws.a_name_is_live_until_it_is_retired.Goals as goal

pub returns : goal.returns
returns c = record { none = never_added; added = since_added; retired = since_retired }
