-- Replies to calls, and to lanes, one after another.
use Rattle.std.proofs.Common.{◌≡◌, ℕ, ◌+◌, Bool, Option, Result, List, [], ◌∷◌, ◌++◌, ◌≤◌, length, drop, Ok, Err, Some, subst, sym, ap, ◌∙◌, append_assoc, append-nil}
use Rattle.std.proofs.lemmas.List.{drop_all}
use Rattle.batch_plans.specs.declared.plan.CallLine.{CallLine}
use Rattle.batch_plans.specs.ReplyText.{all_lines, numbered}
use Rattle.context_books.specs.Runs.{Run}
use Rattle.result_lines.specs.Told.{ReplyView}
use Rattle.result_lines.specs.declared.stop.Stop.{Stop}
use Rattle.result_lines.specs.declared.stop.Stop.TheVariants.{OutOfMemory, Wrong}
use Rattle.result_lines.specs.Replies.{wrong_reply}
use Rattle.journal_check.specs.declared.tables.Table.{Table}
use Rattle.journal_check.specs.Served.{due_by, due_lines, live_at}
use Rattle.journal_check.specs.Walks.{Holds}

module _ {A : Type 0} (f : ℕ → A → List (List ℕ)) (xs : List A) (i : ℕ) (x : A) (at : drop i xs ≡ x ∷ drop (i + 1) xs)
    (old now : List ReplyView) (lines : List (List ℕ))
    (so_far : (rest : List (List ℕ)) → wrong_reply old (lines ++ rest) ≡ wrong_reply now (all_lines (numbered f i (drop i xs)) ++ rest)) where
  -- those to this one come next
  next_lines : (rest : List (List ℕ)) → wrong_reply old (lines ++ rest) ≡ wrong_reply now (f i x ++ (all_lines (numbered f (i + 1) (drop (i + 1) xs)) ++ rest))
  next_lines rest =
      let more = all_lines (numbered f (i + 1) (drop (i + 1) xs)) in
      so_far rest
      ∙ ap (λ (ys : List A). wrong_reply now (all_lines (numbered f i ys) ++ rest)) at
      ∙ ap (wrong_reply now) (append_assoc (f i x) more rest)

  -- they are right
  pub go_on_lines : (new : List ReplyView) (done : Unit {0}) → Holds now new (f i x) (Ok done)
      → (rest : List (List ℕ)) → wrong_reply old (lines ++ rest) ≡ wrong_reply new (all_lines (numbered f (i + 1) (drop (i + 1) xs)) ++ rest)
  go_on_lines new done here rest = next_lines rest ∙ here (all_lines (numbered f (i + 1) (drop (i + 1) xs)) ++ rest)

  -- they halt
  pub halt_lines : (halt : Stop) (new last : List ReplyView) → Holds now new (f i x) (Err halt) → Holds old last lines (Err halt)
  halt_lines OutOfMemory new last here = tt
  halt_lines (Wrong number) new last here = λ rest. next_lines rest ∙ here (all_lines (numbered f (i + 1) (drop (i + 1) xs)) ++ rest)

-- all were right
pub end_lines : {A : Type 0} (f : ℕ → A → List (List ℕ)) (xs : List A) (i : ℕ) (old now : List ReplyView) (lines : List (List ℕ)) → length xs ≤ i
    → ((rest : List (List ℕ)) → wrong_reply old (lines ++ rest) ≡ wrong_reply now (all_lines (numbered f i (drop i xs)) ++ rest)) → Holds old now lines (Ok tt)
end_lines {A} f xs i old now lines le so_far = λ rest.
    so_far rest ∙ ap (λ (ys : List A). wrong_reply now (all_lines (numbered f i ys) ++ rest)) (drop_all i xs le)

-- all lines held, or one of them halts
pub all_held : (old new : List ReplyView) (lines : List (List ℕ)) (done : Unit {0}) → Holds old new lines (Ok done) → wrong_reply new [] ≡ wrong_reply old lines
all_held old new lines done held = sym (held []) ∙ ap (wrong_reply old) (append-nil lines)

pub wrong_early : (halt : Stop) (number : ℕ) (old new : List ReplyView) (lines : List (List ℕ)) → halt ≡ Wrong number → Holds old new lines (Err halt)
    → Some number ≡ wrong_reply old lines
wrong_early halt number old new lines is halts =
    let held : Holds old new lines (Err (Wrong number)) = subst (λ (h : Stop). Holds old new lines (Err h)) is halts in
    sym (held []) ∙ ap (wrong_reply old) (append-nil lines)

-- the lines of a call whose name was live or not, as a note tells
pub as_live : (table : Option Table) (run : Run) (lane number : ℕ) (call : CallLine) (live : Bool) → live ≡ live_at table lane number
    → (old new : List ReplyView) (held : Result (Unit {0}) Stop) → Holds old new (due_by table run live lane number call) held → Holds old new (due_lines table run lane number call) held
as_live table run lane number call live is old new held here =
    subst (λ (b : Bool). Holds old new (due_by table run b lane number call) held) is here
