-- Tests of the journals that a result tells, which compute.
use Rattle.std.specs.Prelude.{ℕ, ◌+◌, ◌&&◌, ◌||◌, not, nat_lt, Bool, true, List, [], ◌∷◌, Option, Some, None, if◌then◌else◌}
use Rattle.call_places.specs.declared.entries.Mark.{Mark}
use Rattle.context_books.specs.Batches.{Batch}
use Rattle.context_books.specs.Histories.{places}
use Rattle.context_books.specs.Checks.{is_legal, is_legal_history}

-- each stamp is below the next
abbrev pub stamps_rise : List Mark → Bool
stamps_rise [] = true
stamps_rise (m ∷ []) = true
stamps_rise (m ∷ k ∷ marks) = nat_lt m.stamp k.stamp && stamps_rise (k ∷ marks)

-- the journal of a context is legal, and where there are stamps they rise
abbrev pub is_journal : Bool → Batch → ℕ → List Mark → Bool
is_journal stamps batch context marks =
    is_legal batch context (places marks) && (not stamps || stamps_rise marks)

-- the first context, from this number on, whose journal is not
abbrev pub broken_journal : Bool → Batch → ℕ → List (List Mark) → Option ℕ
broken_journal stamps batch context [] = None
broken_journal stamps batch context (marks ∷ more) =
    if is_journal stamps batch context marks
    then broken_journal stamps batch (context + 1) more
    else Some context

-- where there are stamps, they make one history of all journals
abbrev pub is_one_history : Bool → Batch → List (List Mark) → Bool
is_one_history stamps batch journals = not stamps || is_legal_history batch journals
