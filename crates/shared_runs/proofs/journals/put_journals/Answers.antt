use Rattle.std.proofs.Common.{◌∙◌}
use Rattle.shared_runs.proofs.Written.{has_room, journals_are}
use Rattle.shared_runs.proofs.journals.put_journals.Goals as goal

pub write_journals-requires-clause-room : goal.write_journals-requires-clause-room
write_journals-requires-clause-room c =
    has_room c.args.books.now c.args.journals.now c.cut_journals.new.journals c.requires.room
    c.cut_journals.ensures

pub returns : goal.returns
returns c =
    journals_are c.args.books.now c.args.journals.now c.cut_journals.new.journals c.requires.room
    c.cut_journals.ensures c.write_journals.new.journals
    (c.write_journals.auto.journals ∙ c.cut_journals.auto.journals ∙ c.requires.count)
    c.write_journals.ensures
