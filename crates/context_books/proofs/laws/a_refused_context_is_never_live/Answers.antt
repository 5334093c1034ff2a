use Rattle.context_books.proofs.NeverLive.{refused_never_live}
use Rattle.context_books.proofs.laws.a_refused_context_is_never_live.Goals as goal

pub returns : goal.returns
returns c = refused_never_live
