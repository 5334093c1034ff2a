-- The journals of all contexts, run one after another.
use Rattle.std.proofs.Common.{◌≡◌, ℕ, zero, suc, ◌<◌, List, [], ◌∷◌, ◌++◌, length, slice_set, Option, Some, None, sym, ap, ◌∙◌, subst}
use Rattle.std.specs.Prelude.{slice_get}
use Rattle.std.proofs.lemmas.List.{set-get_or, set-set}
use Rattle.call_places.specs.declared.entries.Mark.{Mark}
use Rattle.hpke_context.specs.Contexts.{ContextView}
use Rattle.context_books.specs.Histories.{marks_at}
use Rattle.batch_plans.specs.declared.plan.Plan.{Plan}
use Rattle.context_books.specs.Standing.{standing_at}
use Rattle.journal_check.specs.declared.runs.JournalRun.{JournalRun}
use Rattle.journal_check.specs.Runs.{IsRunOf, AreRuns}

-- an element of a list with one more is one of the list, or the last
pub last_or_before : {X : Type 0} (P : ℕ → X → Type 0) (xs : List X) (x : X) → ((k : ℕ) (y : X) → slice_get xs k ≡ Some y → P k y) → P (length xs) x
    → (k : ℕ) (y : X) → slice_get (xs ++ x ∷ []) k ≡ Some y → P k y
last_or_before P [] x before last zero y at = let same : x ≡ y = cc in subst (P 0) same last
last_or_before {X} P [] x before last (suc k) y at = absurd (let none : None ≡ Some y = at in cc)
last_or_before {X} P (z ∷ xs) x before last zero y at = before 0 y at
last_or_before {X} P (z ∷ xs) x before last (suc k) y at =
    last_or_before (λ (j : ℕ) (w : X). P (suc j) w) xs x (λ j w. before (suc j) w) last k y at

pub runs_push : (plan : Plan) (contexts : List (Option ContextView)) (journals : List (List Mark)) (runs : List JournalRun) (done : JournalRun) (n : ℕ)
    → AreRuns plan contexts journals runs → length runs ≡ n
    → ((context : ContextView) → standing_at contexts n ≡ Some context → IsRunOf plan context (marks_at journals n) done)
    → AreRuns plan contexts journals (runs ++ done ∷ [])
runs_push plan contexts journals runs done n all size last = λ number context d stands at.
    last_or_before (λ (k : ℕ) (r : JournalRun). (context : ContextView) → standing_at contexts k ≡ Some context → IsRunOf plan context (marks_at journals k) r)
    runs done (λ k r at context stands. all k context r stands at)
    (λ context stands. subst (λ (k : ℕ). IsRunOf plan context (marks_at journals k) done) (sym size) (last context (ap (standing_at contexts) (sym size) ∙ stands)))
    number d at context stands

-- a context that was put back into its slot
pub back_again : (contexts taken new : List (Option ContextView)) (n : ℕ) (context same : ContextView) → n < length contexts
    → Some context ≡ standing_at contexts n → same ≡ context → taken ≡ slice_set contexts n None → new ≡ slice_set taken n (Some same) → new ≡ contexts
back_again contexts taken new n context same lt is kept out back =
    back ∙ ap (λ (cs : List (Option ContextView)). slice_set cs n (Some same)) out
    ∙ set-set contexts n None (Some same)
    ∙ ap (λ (v : ContextView). slice_set contexts n (Some v)) kept ∙ ap (slice_set contexts n) is ∙ set-get_or contexts n None
