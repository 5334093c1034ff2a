-- The text of what may be told of lanes that add and retire contexts is read back, step by step.
use Rattle.std.proofs.Common.{◌≡◌, ℕ, true, List, [], ◌∷◌, ◌++◌, length, map, take, drop, codes, decimal, Option, Ok, refl, sym, ap, ◌∙◌, subst, append_assoc, append-nil, arith}
use Rattle.std.specs.List.{concat, All}
use Rattle.std.proofs.lemmas.List.{length-drop, length-take-le, take-append-drop}
use Rattle.std.proofs.lemmas.List.Elements.{All-nil, All-cons, All-take, All-drop}
use Rattle.call_places.specs.declared.entries.Entry.{Entry}
use Rattle.call_places.specs.declared.entries.Mark.{Mark}
use Rattle.hpke_context.specs.Contexts.{ContextView}
use Rattle.field_text.specs.Cuts.{lines_of, pieces_of}
use Rattle.batch_plans.specs.Names.{line_count}
use Rattle.batch_plans.specs.declared.plan.Plan.{Plan}
use Rattle.batch_plans.specs.declared.plan.ContextLine.{ContextLine}
use Rattle.batch_plans.specs.declared.replies.Batch.{Batch}
use Rattle.batch_plans.specs.declared.replies.KeyReply.{KeyReply}
use Rattle.batch_plans.specs.declared.replies.ContextReply.{ContextReply}
use Rattle.batch_plans.specs.ReplyText.{all_lines, numbered, lane_lines, journal_lines}
use Rattle.batch_plans.specs.LiveText.{added_journal_lines, note_line, table_lines}
use Rattle.context_books.specs.Live.{looked_up_plan}
use Rattle.result_lines.specs.declared.told.GuessLine.{GuessLine}
use Rattle.result_lines.specs.declared.stamps.Stamps.TheVariants.{PlacesAndNotes}
use Rattle.result_lines.specs.Told.{ToldView, nothing_yet, with_lines, with_lanes, with_journals, with_setup}
use Rattle.result_lines.specs.ToldLive.{with_added_journal, with_added_journals, with_all_journals, told_live_by}
use Rattle.result_lines.specs.Printed.{told_lanes, lines_told, guesses_told, AreComplete, IsLine, IsGuessWithin, IsPlaceWithin}
use Rattle.result_lines.specs.PrintedLive.{told_live_text}
use Rattle.result_lines.proofs.FirstLines.{step_gives, IsLeft}
use Rattle.result_lines.proofs.Growing.{batches, GrewJournals, journals_more}
use Rattle.result_lines.proofs.NumberLines.{no_mark}
use Rattle.result_lines.proofs.NoteLines.{note_line_is}
use Rattle.result_lines.proofs.PlainLines.{tested}
use Rattle.result_lines.proofs.Took.{no_guesses}
use Rattle.result_lines.proofs.TookLive.{journals_text, setup, live_parts}
use Rattle.result_lines.proofs.Gave.{other_left, lines_gave, lanes_gave, EndsMarks, Heads, same_ends, behind_ends, GaveJournals, headed_gave, journals_gave, setup_gave, end_gave}

-- ---- journals of contexts that are added

table_ends : (rest : List ℕ) → EndsMarks PlacesAndNotes (codes "table\n" ++ rest)
table_ends rest =
    let no = no_mark PlacesAndNotes (codes "table") (codes "table") [] refl refl in
    record { body = codes "table"; rest = rest; parts = refl; one = tested (codes "table") refl; reason = no.0; none = no.1 }

added_heads : Heads PlacesAndNotes (codes "journal +")
added_heads =
    let no = λ (n : ℕ). no_mark PlacesAndNotes (codes "journal +" ++ decimal n) (codes "journal") (pieces_of (codes "+" ++ decimal n)) refl refl in
    record { plain = tested (codes "journal +") refl; reason = λ n. (no n).0; none = λ n. (no n).1 }

all_added_gave : (name : ℕ) (lines : List ContextLine) (journals : List (List Mark)) (told : ToldView) (after : List ℕ) → length journals ≡ length lines
    → All (All (IsPlaceWithin PlacesAndNotes)) journals → EndsMarks PlacesAndNotes after
    → IsLeft told.lines (concat (all_lines (numbered added_journal_lines name journals)) ++ after)
    → GaveJournals (with_added_journals name lines told) told after journals
unfolding with_added_journal
all_added_gave = headed_gave (codes "journal +") PlacesAndNotes added_heads with_added_journals (λ n told. refl) (λ n line lines told. refl)

-- ---- all journals

all_gave : (plan : Plan) (journals : List (List Mark)) (told : ToldView) (after : List ℕ) → length journals ≡ length plan.contexts
    → All (All (IsPlaceWithin PlacesAndNotes)) journals → EndsMarks PlacesAndNotes after
    → IsLeft told.lines (journals_text (line_count plan) journals ++ after) → GaveJournals (with_all_journals plan told) told after journals
unfolding with_all_journals
all_gave plan journals told after count within ends left =
    let lines = line_count plan in
    let first = take lines journals in
    let later = drop lines journals in
    let first_text = concat (all_lines (numbered (journal_lines true) 0 first)) in
    let later_text = concat (all_lines (numbered added_journal_lines 0 later)) in
    let short : length first ≡ length (take lines plan.contexts) =
    length-take-le lines journals (omega (arith, count)) ∙ sym (length-take-le lines plan.contexts (omega arith)) in
    let rest : length later ≡ length (drop lines plan.contexts) = omega (arith, count, length-drop lines journals, length-drop lines plan.contexts) in
    let a = journals_gave PlacesAndNotes 0 (take lines plan.contexts) first told (later_text ++ after) short
    (All-take (All (IsPlaceWithin PlacesAndNotes)) lines journals within) (behind_ends PlacesAndNotes (codes "journal +") added_heads 0 later after ends)
    (other_left (append_assoc first_text later_text after) left) in
    let b = all_added_gave 0 (drop lines plan.contexts) later a.new after rest (All-drop (All (IsPlaceWithin PlacesAndNotes)) lines journals within) ends a.grew.left in
    record {
      new = b.new;
      is = step_gives (with_journals PlacesAndNotes 0 (take lines plan.contexts) told) (with_added_journals 0 (drop lines plan.contexts)) a.new a.is ∙ b.is;
      grew = subst (λ (js : List (List Mark)). GrewJournals told b.new after js) (take-append-drop lines journals)
          (journals_more told a.new b.new (later_text ++ after) after first later a.grew b.grew);
    }

-- ---- the whole result

table_all : (notes : List Entry) → All IsLine (table_lines notes)
table_all notes =
    All-cons IsLine (codes "table\n") (map note_line notes) record { body = codes "table"; is = refl; one = tested (codes "table") refl } (notes_all notes)
  where
    notes_all : (notes : List Entry) → All IsLine (map note_line notes)
    notes_all [] = All-nil IsLine
    notes_all (e ∷ notes) = All-cons IsLine (note_line e) (map note_line notes) (note_line_is e) (notes_all notes)

pub record IsBack (plan : Plan) (keys : List KeyReply) (replies : List ContextReply) (contexts : List (Option ContextView)) (lines : List (List ℕ)) (guesses : List (List Batch))
    (journals : List (List Mark)) (notes : List Entry) : Type 0 where
  pub told : ToldView
  pub is : told_live_by plan keys replies contexts notes (told_live_text plan keys replies contexts lines guesses journals notes) ≡ Ok told
  pub lines_are : lines_told told ≡ lines
  pub guesses_are : guesses_told told ≡ guesses
  pub journals_are : told.journals ≡ journals

pub told_live_back : (plan : Plan) (keys : List KeyReply) (replies : List ContextReply) (contexts : List (Option ContextView)) (lines : List (List ℕ)) (guesses : List (List Batch))
    (journals : List (List Mark)) (notes : List Entry) → AreComplete (looked_up_plan plan notes) contexts lines guesses journals → All IsLine lines → All (All IsGuessWithin) guesses
    → All (All (IsPlaceWithin PlacesAndNotes)) journals → IsBack plan keys replies contexts lines guesses journals notes
unfolding told_live_by
told_live_back plan keys replies contexts lines guesses journals notes complete all within marks =
    let count = line_count plan in
    let calls = (looked_up_plan plan notes).lanes in
    let lanes = told_lanes contexts calls lines guesses in
    let lane_text = concat (all_lines (numbered lane_lines 0 lanes)) in
    let journal_text = journals_text count journals in
    let table = concat (table_lines notes) in
    let text = told_live_text plan keys replies contexts lines guesses journals notes in
    let parts : text ≡ setup keys (take count replies) ++ (lane_text ++ (journal_text ++ (table ++ codes "end\n"))) =
    live_parts count keys replies lanes journals notes in
    let start = nothing_yet text in
    let a = setup_gave 2 keys (take count replies) start (lane_text ++ (journal_text ++ (table ++ codes "end\n"))) (ap lines_of parts) in
    let b = lanes_gave contexts 0 calls lines guesses a.new (journal_text ++ (table ++ codes "end\n")) (no_guesses a.new.guesses a.grew.guesses)
    complete.count complete.kept all within a.grew.left in
    let ends : EndsMarks PlacesAndNotes (table ++ codes "end\n") =
    same_ends (append_assoc (codes "table\n") (concat (map note_line notes)) (codes "end\n")) (table_ends (concat (map note_line notes) ++ codes "end\n")) in
    let c = all_gave plan journals b.new (table ++ codes "end\n") complete.size marks ends b.grew.left in
    let d = lines_gave (table_lines notes) c.new (codes "end\n") (table_all notes) c.grew.left in
    let z = end_gave d.new d.grew.left in
    record {
      told = z.new;
      is =
          step_gives (with_setup 2 keys (take count replies) start) _ a.new a.is
          ∙ step_gives (with_lanes contexts 0 calls a.new) _ b.new b.is
          ∙ step_gives (with_all_journals plan b.new) _ c.new c.is
          ∙ step_gives (with_lines (table_lines notes) c.new) _ d.new d.is
          ∙ z.is;
      lines_are =
          z.grew.replies ∙ append-nil (lines_told d.new) ∙ d.grew.replies ∙ append-nil (lines_told c.new) ∙ c.grew.replies ∙ b.grew.replies
          ∙ ap (λ (ls : List (List ℕ)). ls ++ lines) a.grew.replies;
      guesses_are = ap (map batches) (z.grew.lanes ∙ d.grew.lanes) ∙ c.grew.lanes ∙ b.grew.lanes ∙ ap (λ (ls : List (List GuessLine)). map batches ls ++ guesses) a.grew.lanes;
      journals_are =
          z.grew.journals ∙ d.grew.journals ∙ c.grew.journals ∙ ap (λ (js : List (List Mark)). js ++ journals) (b.grew.journals ∙ a.grew.journals);
    }
