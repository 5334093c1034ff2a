use Rattle.context_books.proofs.OneReply.{differ_in_guesses}
use Rattle.context_books.proofs.sharing.replies_differ_in_guesses.Goals as goal

pub returns : goal.returns
returns c plan contexts keys replies journals others guesses further version plain count alone
    allowed also =
    differ_in_guesses plan contexts plain count journals others guesses further allowed also alone
    keys replies version
