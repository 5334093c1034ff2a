use Rattle.context_books.proofs.Refused.{left_out, not_asked, twice, out_of_order, torn}
use Rattle.context_books.proofs.journals.some_journals_are_not_legal.Goals as goal

pub returns-clause-left_out : goal.returns-clause-left_out
returns-clause-left_out c = left_out

pub returns-clause-not_served : goal.returns-clause-not_served
returns-clause-not_served c = not_asked

pub returns-clause-twice : goal.returns-clause-twice
returns-clause-twice c = twice

pub returns-clause-out_of_order : goal.returns-clause-out_of_order
returns-clause-out_of_order c = out_of_order

pub returns-clause-torn : goal.returns-clause-torn
returns-clause-torn c = torn
