use Rattle.std.proofs.Common.{◌≡◌, ◌<◌, ◌+◌, ◌||◌, ◌&&◌, ℕ, Bool, false, List, length, take, get_or, sym, ap, ◌∙◌, arith}
use Rattle.std.specs.Prelude.{slice_index_or}
use Rattle.std.specs.List.{list_any}
use Rattle.std.proofs.lemmas.List.{with_items_is, take_all}
use Rattle.std.proofs.lemmas.List.Folds.{list_any_more}
use Rattle.call_places.specs.declared.entries.Entry.{Entry}
use Rattle.context_books.specs.Batches.{place}
use Rattle.context_books.specs.Legal.{is_same_place}
use Rattle.context_books.specs.Live.{was_live}
use Rattle.batch_plans.specs.LiveText.{tells_live}
use Rattle.result_lines.proofs.looking_up.live_calls.Goals as goal

-- what is told so far of a call, and what the next note tells of it
any_next : (test : Entry → Bool) (notes : List Entry) (n : ℕ) (d : Entry) (before : Bool) → n < length notes → before ≡ list_any test (take n notes)
    → (before || test (get_or notes n d)) ≡ list_any test (take (n + 1) notes)
any_next test notes n d before low is = ap (λ b. b || test (get_or notes n d)) is ∙ sym (list_any_more test notes n d low)

pub notes-preserved : goal.notes-preserved
notes-preserved c =
    let notes = c.args.notes.now in
    let n = c.notes.note-index in
    let old = c.deref_mut.result.now in
    let new = c.put_note.new.live in
    let many : length old ≡ c.args.count = ap length c.deref_mut.ensures.value ∙ c.notes.invariant.size in
    let size : length new ≡ c.notes.live.len = omega (arith, c.put_note.ensures.size, c.deref_mut.ensures.len) in
    let written = with_items_is c.notes.live new size in
    record {
      size = ap length written ∙ c.put_note.ensures.size ∙ many;
      each = λ i low.
          ap (λ (live : List Bool). slice_index_or live i false) written
          ∙ c.put_note.ensures.each i (omega (arith, low, many))
          ∙ any_next (λ (e : Entry). is_same_place e.place (place c.args.lane i 0) && tells_live e.step) notes n _ (slice_index_or old i false) c.notes-test.true
          (ap (λ (live : List Bool). slice_index_or live i false) c.deref_mut.ensures.value ∙ c.notes.invariant.each i low);
    }

pub returns-clause-each : goal.returns-clause-each
returns-clause-each c = λ i low.
    c.notes.invariant.each i low
    ∙ ap (λ (notes : List Entry). was_live notes (place c.args.lane i 0)) (take_all c.notes.note-index c.args.notes.now c.notes-test.false)
