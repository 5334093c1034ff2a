use Rattle.context_books.proofs.Runs.{call_replies, call_numbers}
use Rattle.context_books.proofs.journals.a_call_is_answered_item_by_item.Goals as goal

pub returns-clause-answers : goal.returns-clause-answers
returns-clause-answers c = call_replies

pub returns-clause-numbers : goal.returns-clause-numbers
returns-clause-numbers c = λ batch context cipher journal lane call ask front after legal. call_numbers batch cipher journal lane call ask front after legal.once
