-- A journal that is broken, and what the notes of a table say.
use Rattle.std.proofs.Common.{◌≡◌, ℕ, ◌+◌, ◌<◌, Bool, true, false, cond, List, [], ◌∷◌, length, map, Option, Some, None, refl, ap, ◌∙◌, eq-eqb, arith}
use Rattle.std.specs.List.{list_all}
use Rattle.call_places.specs.declared.entries.Act.{Act}
use Rattle.call_places.specs.declared.entries.Act.TheVariants as acts
use Rattle.call_places.specs.declared.entries.Mark.{Mark}
use Rattle.hpke_context.specs.Contexts.{ContextView}
use Rattle.context_books.proofs.Truths.{both_true}
use Rattle.batch_plans.specs.declared.plan.Plan.{Plan}
use Rattle.context_books.specs.Batches.{Batch}
use Rattle.context_books.specs.Live.{Noting}
use Rattle.context_books.specs.LiveChecks.{is_same_act, tells_noting, tells_act}
use Rattle.result_lines.specs.declared.tables.NoteLine.{NoteLine}
use Rattle.result_lines.specs.Tables.{entry_by, entry_of, noting_at, notes_told, table_told}
use Rattle.result_lines.specs.Journals.{is_journal, broken_journal}

-- ---- a journal that is broken is there

some_is : (a b : ℕ) → Some a ≡ Some b → a ≡ b
some_is a b e = cc

pub broken_low : (stamps : Bool) (batch : Batch) (context : ℕ) (journals : List (List Mark)) (at : ℕ) → broken_journal stamps batch context journals ≡ Some at → at < context + length journals
broken_low stamps batch context [] at is = absurd cc
broken_low stamps batch context (marks ∷ more) at is =
    go (is_journal stamps batch context marks) is (λ later. broken_low stamps batch (context + 1) more at later)
  where
    go : (b : Bool) → cond b (broken_journal stamps batch (context + 1) more) (Some context) ≡ Some at
        → (broken_journal stamps batch (context + 1) more ≡ Some at → at < context + 1 + length more) → at < context + length (marks ∷ more)
    go true is later = (let low = later is in omega arith)
    go false is later = (let here : context ≡ at = some_is context at is in omega arith)

-- ---- notes say what their calls do

act_same : (a : Act) → is_same_act a a ≡ true
act_same acts.Add = refl
act_same acts.Retire = refl
act_same acts.Look = refl

noting_told : (n : Option Noting) (note : NoteLine) → tells_noting n (entry_by n note).step ≡ true
noting_told None note = refl
noting_told (Some n) note = both_true _ (is_same_act n.act n.act) (eq-eqb n.name n.name refl) (act_same n.act)

all_told : (plan : Plan) (standing : List (Option ContextView)) (notes : List NoteLine) → list_all (tells_act plan standing) (map (entry_of plan standing) notes) ≡ true
all_told plan standing [] = refl
all_told plan standing (note ∷ notes) =
    both_true (tells_act plan standing (entry_of plan standing note)) (list_all (tells_act plan standing) (map (entry_of plan standing) notes))
    (entry_told (noting_at plan standing note.lane note.call) refl) (all_told plan standing notes)
  where
    entry_told : (n : Option Noting) → noting_at plan standing note.lane note.call ≡ n → tells_act plan standing (entry_by n note) ≡ true
    entry_told None is = ap (λ (o : Option Noting). tells_noting o (entry_by None note).step) is
    entry_told (Some n) is = ap (λ (o : Option Noting). tells_noting o (entry_by (Some n) note).step) is ∙ noting_told (Some n) note

pub table_acts : (plan : Plan) (standing : List (Option ContextView)) (text : List ℕ) → list_all (tells_act plan standing) (table_told plan standing text) ≡ true
table_acts plan standing text = all_told plan standing (notes_told text)
