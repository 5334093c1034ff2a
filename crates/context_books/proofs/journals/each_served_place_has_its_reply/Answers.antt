use Rattle.context_books.proofs.Replies.{served_reply, unserved_reply}
use Rattle.context_books.proofs.journals.each_served_place_has_its_reply.Goals as goal

pub returns-clause-served : goal.returns-clause-served
returns-clause-served c = served_reply

pub returns-clause-others : goal.returns-clause-others
returns-clause-others c = unserved_reply
