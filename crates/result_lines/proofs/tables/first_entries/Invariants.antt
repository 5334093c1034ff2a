use Rattle.std.proofs.Common.{◌≡◌, ◌-◌, ◌++◌, map, take}
use Rattle.result_lines.specs.Tables.{entry_of}
use Rattle.result_lines.proofs.tables.first_entries.Given as goal

abbrev pub invariant-notes : goal.invariant-notes
invariant-notes l =
    let entry = entry_of l.plan l.contexts in
    l.notes.items ++ map entry (take (l.most - l._note) l.left) ≡ map entry (take l.most l.initial.left)
