use Rattle.std.proofs.Common.{◌≡◌, take}
use Rattle.journal_check.proofs.links.linked_journals.Given as goal

abbrev pub invariant-journals : goal.invariant-journals
invariant-journals l = l.linked.items ≡ take l.marks-index l.journals
