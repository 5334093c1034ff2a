use Rattle.std.proofs.Common.{◌≡◌, take, map}
use Rattle.std.specs.Prelude.{sum_by}
use Rattle.hpke_context.specs.Answers.{run, due}
use Rattle.hpke_context.specs.Contexts.{cipher_of}
use Rattle.context_books.specs.Openings.{unseals}
use Rattle.batch_plans.specs.Room.{opened_room}
use Rattle.context_books.specs.Runs.{answer_line}
use Rattle.context_books.specs.Writing.{PutsReplies}
use Rattle.context_books.proofs.opening.finish_opening.Given as goal

-- the items so far are answered, and the number is the one that is due after them
abbrev pub invariant-items : goal.invariant-items
invariant-items l =
    PutsReplies l.initial.progress l.progress (sum_by opened_room (take l.i l.items))
    (map answer_line (run (cipher_of l.context) l.first (take l.i (unseals l.pool l.items))))
    × (l.number ≡ due (cipher_of l.context) l.first (take l.i (unseals l.pool l.items)))
