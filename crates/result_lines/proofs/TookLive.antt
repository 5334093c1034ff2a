-- What was read of a result whose lanes add and retire contexts is the text of what it tells.
use Rattle.std.proofs.Common.{◌≡◌, ℕ, true, List, [], ◌∷◌, ◌++◌, length, map, take, drop, codes, Option, Ok, refl, sym, ap, ◌∙◌, append_assoc, append-nil, length-append, arith}
use Rattle.std.specs.List.{concat}
use Rattle.std.proofs.lemmas.List.{take_at, drop_at, length-drop, length-take-le}
use Rattle.call_places.specs.declared.entries.Entry.{Entry}
use Rattle.call_places.specs.declared.entries.Mark.{Mark}
use Rattle.hpke_context.specs.Contexts.{ContextView}
use Rattle.batch_plans.specs.Names.{line_count}
use Rattle.batch_plans.specs.declared.plan.Plan.{Plan}
use Rattle.batch_plans.specs.declared.plan.ContextLine.{ContextLine}
use Rattle.batch_plans.specs.declared.replies.Batch.{Batch}
use Rattle.batch_plans.specs.declared.replies.KeyReply.{KeyReply}
use Rattle.batch_plans.specs.declared.replies.ContextReply.{ContextReply}
use Rattle.batch_plans.specs.Lines.{key_line, context_line}
use Rattle.batch_plans.specs.ReplyText.{all_lines, numbered, lane_lines, journal_lines, version_line}
use Rattle.batch_plans.specs.LiveText.{added_journal_lines, table_lines, live_lines}
use Rattle.context_books.specs.Live.{looked_up_plan}
use Rattle.result_lines.specs.declared.told.GuessLine.{GuessLine}
use Rattle.result_lines.specs.declared.stamps.Stamps.TheVariants.{PlacesAndNotes}
use Rattle.result_lines.specs.Told.{ToldView, nothing_yet, with_lines, with_lanes, with_journals, with_setup}
use Rattle.result_lines.specs.ToldLive.{with_added_journal, with_added_journals, with_all_journals, told_live_by}
use Rattle.result_lines.specs.Printed.{told_lanes, lines_told, guesses_told}
use Rattle.result_lines.specs.PrintedLive.{told_live_text, IsLiveTextOf}
use Rattle.result_lines.proofs.FirstLines.{step_ok, IsLeft}
use Rattle.result_lines.proofs.Growing.{concat-append, batches, GrewJournals, journals_more}
use Rattle.result_lines.proofs.Took.{lines_took, lanes_took, TookJournals, headed_took, journals_took, setup_took, end_took, no_guesses}

-- ---- journals of contexts that are added

added_took : (name : ℕ) (lines : List ContextLine) (told new : ToldView) (text : List ℕ) → IsLeft told.lines text
    → with_added_journals name lines told ≡ Ok new → TookJournals (codes "journal +") told new text PlacesAndNotes name (length lines)
unfolding with_added_journal
added_took = headed_took (codes "journal +") PlacesAndNotes with_added_journals (λ n told. refl) (λ n line lines told. refl)

-- ---- all journals

-- the text of all journals
abbrev pub journals_text : ℕ → List (List Mark) → List ℕ
journals_text lines journals =
    concat (all_lines (numbered (journal_lines true) 0 (take lines journals)))
    ++ concat (all_lines (numbered added_journal_lines 0 (drop lines journals)))

record TookAll (told new : ToldView) (text : List ℕ) (plan : Plan) : Type 0 where
  journals : List (List Mark)
  size : length journals ≡ length plan.contexts
  after : List ℕ
  parts : text ≡ journals_text (line_count plan) journals ++ after
  grew : GrewJournals told new after journals

all_took : (plan : Plan) (told new : ToldView) (text : List ℕ) → IsLeft told.lines text → with_all_journals plan told ≡ Ok new → TookAll told new text plan
unfolding with_all_journals
all_took plan told new text left e =
    let lines = line_count plan in
    let f1 = step_ok (with_journals PlacesAndNotes 0 (take lines plan.contexts) told) _ new e in
    let t1 : ToldView = f1.0 in
    let a = journals_took PlacesAndNotes 0 (take lines plan.contexts) told t1 text left f1.1 in
    let b = added_took 0 (drop lines plan.contexts) t1 new a.after a.grew.left f1.2 in
    let short : length a.journals ≡ lines = a.size ∙ length-take-le lines plan.contexts (omega arith) in
    let first = concat (all_lines (numbered (journal_lines true) 0 a.journals)) in
    let later = concat (all_lines (numbered added_journal_lines 0 b.journals)) in
    record {
      journals = a.journals ++ b.journals;
      size = omega (arith, length-append a.journals b.journals, short, b.size, length-drop lines plan.contexts);
      after = b.after;
      parts =
          a.parts ∙ ap (λ (bytes : List ℕ). first ++ bytes) b.parts
          ∙ sym (append_assoc first later b.after)
          ∙ (λ i. (concat (all_lines (numbered (journal_lines true) 0 (sym (take_at a.journals b.journals lines short) i)))
          ++ concat (all_lines (numbered added_journal_lines 0 (sym (drop_at a.journals b.journals lines short) i)))) ++ b.after);
      grew = journals_more told t1 new a.after b.after a.journals b.journals a.grew b.grew;
    }

-- ---- the whole result

-- the text of the set-up
abbrev pub setup : List KeyReply → List ContextReply → List ℕ
setup keys replies = version_line 2 ++ (concat (numbered key_line 0 keys) ++ concat (numbered context_line 0 replies))

-- the parts of a text of replies
pub live_parts : (lines : ℕ) (keys : List KeyReply) (replies : List ContextReply) (lanes : List (List (List ℕ))) (journals : List (List Mark)) (notes : List Entry)
    → concat (live_lines lines keys replies lanes journals notes)
    ≡ setup keys (take lines replies)
    ++ (concat (all_lines (numbered lane_lines 0 lanes)) ++ (journals_text lines journals ++ (concat (table_lines notes) ++ codes "end\n")))
unfolding live_lines
live_parts lines keys replies lanes journals notes =
    let v = version_line 2 in
    let ks = numbered key_line 0 keys in
    let cs = numbered context_line 0 (take lines replies) in
    let ls = all_lines (numbered lane_lines 0 lanes) in
    let js = all_lines (numbered (journal_lines true) 0 (take lines journals)) in
    let more = all_lines (numbered added_journal_lines 0 (drop lines journals)) in
    let ts = table_lines notes in
    let e = codes "end\n" ∷ [] in
    let s = v ++ (concat ks ++ concat cs) in
    concat-append (((((v ∷ (ks ++ cs)) ++ ls) ++ js) ++ more) ++ ts) e
    ∙ ap (λ (bytes : List ℕ). bytes ++ concat e) (concat-append ((((v ∷ (ks ++ cs)) ++ ls) ++ js) ++ more) ts
    ∙ ap (λ (bytes : List ℕ). bytes ++ concat ts) (concat-append (((v ∷ (ks ++ cs)) ++ ls) ++ js) more
    ∙ ap (λ (bytes : List ℕ). bytes ++ concat more) (concat-append ((v ∷ (ks ++ cs)) ++ ls) js
    ∙ ap (λ (bytes : List ℕ). bytes ++ concat js) (concat-append (v ∷ (ks ++ cs)) ls
    ∙ ap (λ (bytes : List ℕ). (v ++ bytes) ++ concat ls) (concat-append ks cs)))))
    ∙ parted s (concat ls) (concat js) (concat more) (concat ts) (concat e)
    ∙ ap (λ (bytes : List ℕ). s ++ (concat ls ++ ((concat js ++ concat more) ++ (concat ts ++ bytes)))) (append-nil (codes "end\n"))
  where
    parted : (s l j m t e : List ℕ) → ((((s ++ l) ++ j) ++ m) ++ t) ++ e ≡ s ++ (l ++ ((j ++ m) ++ (t ++ e)))
    parted s l j m t e = simp append_assoc

pub told_live_took : (plan : Plan) (keys : List KeyReply) (replies : List ContextReply) (contexts : List (Option ContextView)) (notes : List Entry) (text : List ℕ) (told : ToldView)
    → told_live_by plan keys replies contexts notes text ≡ Ok told → IsLiveTextOf plan keys replies contexts notes text told
unfolding told_live_by
told_live_took plan keys replies contexts notes text told e =
    let count = line_count plan in
    let calls = (looked_up_plan plan notes).lanes in
    let start = nothing_yet text in
    let f1 = step_ok (with_setup 2 keys (take count replies) start) _ told e in
    let t1 : ToldView = f1.0 in
    let a = setup_took 2 keys (take count replies) start t1 text refl f1.1 in
    let f2 = step_ok (with_lanes contexts 0 calls t1) _ told f1.2 in
    let t2 : ToldView = f2.0 in
    let b = lanes_took contexts 0 calls t1 t2 a.after a.grew.left (no_guesses t1.guesses a.grew.guesses) f2.1 in
    let f3 = step_ok (with_all_journals plan t2) _ told f2.2 in
    let t3 : ToldView = f3.0 in
    let c = all_took plan t2 t3 b.after b.grew.left f3.1 in
    let f4 = step_ok (with_lines (table_lines notes) t3) _ told f3.2 in
    let t4 : ToldView = f4.0 in
    let d = lines_took (table_lines notes) t3 t4 c.after c.grew.left f4.1 in
    let z = end_took t4 told d.after d.grew.left f4.2 in
    let lines_are : lines_told told ≡ b.lines =
    z.1.replies ∙ append-nil (lines_told t4) ∙ d.grew.replies ∙ append-nil (lines_told t3) ∙ c.grew.replies ∙ b.grew.replies
    ∙ ap (λ (ls : List (List ℕ)). ls ++ b.lines) a.grew.replies in
    let guesses_are : guesses_told told ≡ b.guesses =
    ap (map batches) (z.1.lanes ∙ d.grew.lanes) ∙ c.grew.lanes ∙ b.grew.lanes ∙ ap (λ (ls : List (List GuessLine)). map batches ls ++ b.guesses) a.grew.lanes in
    let journals_are : told.journals ≡ c.journals =
    z.1.journals ∙ d.grew.journals ∙ c.grew.journals ∙ ap (λ (js : List (List Mark)). js ++ c.journals) (b.grew.journals ∙ a.grew.journals) in
    let lanes = told_lanes contexts calls b.lines b.guesses in
    record {
      is =
          a.parts
          ∙ ap (λ (bytes : List ℕ). setup keys (take count replies) ++ bytes)
          (b.parts ∙ ap (λ (bytes : List ℕ). concat (all_lines (numbered lane_lines 0 lanes)) ++ bytes)
          (c.parts ∙ ap (λ (bytes : List ℕ). journals_text count c.journals ++ bytes)
          (d.parts ∙ ap (λ (bytes : List ℕ). concat (table_lines notes) ++ bytes) z.0)))
          ∙ sym (live_parts count keys replies lanes c.journals notes)
          ∙ (λ i. told_live_text plan keys replies contexts (sym lines_are i) (sym guesses_are i) (sym journals_are i) notes);
      complete = record {
        count = ap length lines_are ∙ b.count;
        kept = ap (map (length {A = Batch})) guesses_are ∙ b.kept;
        size = ap length journals_are ∙ c.size;
      };
    }
