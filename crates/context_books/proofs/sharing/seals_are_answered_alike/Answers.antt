use Rattle.context_books.proofs.SealedAlike.{seals_alike}
use Rattle.context_books.proofs.sharing.seals_are_answered_alike.Goals as goal

pub returns : goal.returns
returns c plan contexts journals others guesses further plain count alone allowed also =
    seals_alike plan contexts plain count journals others guesses further allowed also alone
