-- ---- for the proofs: what a draw and an opening change of the books.
use Rattle.std.specs.Prelude.{ℕ, ◌≡◌, ◌↔◌, ◌+◌, ◌<◌, ◌≤◌, List, [], ◌∷◌, ◌++◌, length, slice_index, slice_index_or, slice_set, Option, Some, None}
use Rattle.call_places.specs.declared.entries.Place.{Place}
use Rattle.call_places.specs.declared.entries.Step.{Step}
use Rattle.call_places.specs.declared.spans.Item.{Item}
use Rattle.call_places.specs.Entries.{own, seq_of, StampsBelow}
use Rattle.hpke_context.specs.Contexts.{ContextView}
use Rattle.context_books.specs.Entries.{entry, entries_from}
use Rattle.context_books.specs.declared.book.Draw.{Draw}
use Rattle.context_books.specs.declared.book.Draw.TheVariants.{Number, Limit}
use Rattle.context_books.specs.Books.{BookView, SameTerms, drawn_step}
use Rattle.context_books.specs.Openings.{opening_steps, opening_misses}
use Rattle.context_core.specs.declared.books.Books.{Books}

-- the book of this number
abbrev pub book_at : Books → ℕ → Option BookView
book_at books number = slice_index_or books.books.items number None

-- a lane may add so many entries to the book of this number, with the next stamps
pub record MayAdd (books : Books) (number lane count : ℕ) : Type 0 where
  pub book : BookView
  pub is : book_at books number ≡ Some book
  pub lane_there : lane < length book.quotas
  pub room : length (own lane book.entries) + count ≤ slice_index book.quotas lane
  pub stamps : StampsBelow books.places book.entries
  pub few : books.places ≤ 65536
  pub checks : books.checks ≤ books.places

-- one book has more entries
pub record Adds (old new : Books) (number count : ℕ) (book after : BookView) : Type 0 where
  pub books : new.books.items ≡ slice_set old.books.items number (Some after)
  pub terms : SameTerms book after
  pub places : new.places ≡ old.places + count
  pub checks : new.checks ≤ old.checks + count

-- a number is drawn from it
pub record Draws (old new : Books) (number : ℕ) (place : Place) (book : BookView) (drawn : Draw)
    : Type 0 where
  pub after : BookView
  pub adds : Adds old new number 1 book after
  pub entries : after.entries ≡ book.entries ++ entry place old.places (drawn_step drawn) ∷ []
  pub limit : (drawn ≡ Limit) ↔ (seq_of book.entries ≡ book.limit)
  pub number_is : (n : ℕ) → drawn ≡ Number n → (n ≡ seq_of book.entries) × (n < book.limit)

-- the items of an opening are settled in it
pub record Settles (old new : Books) (number : ℕ) (book : BookView) (context : ContextView)
    (pool : List ℕ) (items : List Item) (lane call guess first missed : ℕ) (steps : List Step)
    : Type 0 where
  pub after : BookView
  pub adds : Adds old new number (length items) book after
  pub entries : after.entries ≡ book.entries ++ entries_from lane call 0 old.places steps
  pub first_is : first ≡ seq_of book.entries
  pub steps_are : steps ≡ opening_steps context first pool items
  pub missed_is : missed ≡ opening_misses context first pool items guess
