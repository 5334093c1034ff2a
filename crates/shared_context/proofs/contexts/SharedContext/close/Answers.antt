use Rattle.std.proofs.Common.{All, sym, subst}
use Rattle.turn_lock.specs.Passes.{IsShown}
use Rattle.context_books.specs.Books.{BookView}
use Rattle.shared_context.proofs.contexts.SharedContext.close.Goals as goal

pub returns-clause-shown : goal.returns-clause-shown
returns-clause-shown c = subst (λ (b : BookView). All (IsShown b.entries) c.args.passes.passes) (sym c.into_parts-book.ensures.parts.0) c.close.ensures.shown
