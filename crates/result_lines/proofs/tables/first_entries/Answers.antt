use Rattle.std.proofs.Common.{◌≡◌, ◌++◌, ◌-◌, ◌+◌, ◌∷◌, ℕ, [], List, map, take, ap, ◌∙◌, arith}
use Rattle.std.proofs.lemmas.List.{take_all}
use Rattle.call_places.specs.declared.entries.Entry.{Entry}
use Rattle.result_lines.specs.declared.tables.NoteLine.{NoteLine}
use Rattle.result_lines.specs.Tables.{entry_of}
use Rattle.result_lines.proofs.Steps.{nothing_more}
use Rattle.result_lines.proofs.NoteLines.{note_goes_on}
use Rattle.result_lines.proofs.tables.first_entries.Goals as goal

pub notes-preserved : goal.notes-preserved
notes-preserved c =
    let entry = entry_of c.args.plan.now c.args.contexts.now in
    let rest = map entry (take (c.args.most - (c.notes._note + 1)) c.take.new.self) in
    ap (λ (xs : List Entry). xs ++ rest) c.in_ok-push-in-Some.ensures.items
    ∙ ap (λ (e : Entry). (c.notes.notes.items ++ e ∷ []) ++ rest) c.entry_of.ensures
    ∙ note_goes_on entry c.args.most c.notes._note c.notes.notes.items c.in-Some.note c.notes.left c.take.new.self _ c.notes-test.true c.in-Some.ensures.some c.notes.invariant

pub returns-in-None : goal.returns-in-None
returns-in-None c =
    let entry = entry_of c.args.plan.now c.args.contexts.now in
    let n = c.args.most - c.notes._note in
    nothing_more c.notes.notes.items (map entry (take n c.notes.left)) _
    (ap (λ (notes : List NoteLine). map entry (take n notes)) c.in-None.ensures.none ∙ ap (map entry) (take_all n [] (omega arith)))
    c.notes.invariant

pub returns : goal.returns
returns c =
    let entry = entry_of c.args.plan.now c.args.contexts.now in
    let end = c.notes-test.false in
    let left : c.args.most - c.notes._note ≡ 0 = omega arith in
    nothing_more c.notes.notes.items (map entry (take (c.args.most - c.notes._note) c.notes.left)) _ (ap (λ (n : ℕ). map entry (take n c.notes.left)) left) c.notes.invariant
