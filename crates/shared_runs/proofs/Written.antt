-- Journals that are cut to the entries of their books, and the room that there is for them.
use Rattle.std.proofs.Common.{◌≡◌, ℕ, ◌<◌, ◌≤◌, List, [], length, map, take, Option, Some, None, sym, refl, ap, ◌∙◌, subst, arith}
use Rattle.std.specs.Prelude.{slice_index_or}
use Rattle.std.specs.List.{range_with_len}
use Rattle.std.proofs.Math.ListN.{get_or-map}
use Rattle.std.proofs.lemmas.List.{length-map, length-replicate, length-take, ext_get_or}
use Rattle.std.proofs.lemmas.List.FromFn.{get_or-map-range_with_len}
use Rattle.call_places.specs.declared.entries.Mark.{Mark}
use Rattle.call_places.specs.Entries.{mark_of}
use Rattle.context_books.specs.Books.{BookView}
use Rattle.batch_plans.specs.declared.plan.CallLine.{CallLine}
use Rattle.batch_plans.specs.declared.plan.ContextLine.{ContextLine}
use Rattle.batch_plans.specs.Room.{all_items_on, journal_room, blank_mark}
use Rattle.context_books.specs.Journals.{written, HasRoom}
use Rattle.shared_runs.specs.Closing.{entries_of}
use Rattle.shared_runs.proofs.Closed.{book_at, entries_at}

-- what is left of a journal's room has a place for each entry
cut_has_room : (book : Option BookView) (room : List Mark)
    → length (entries_of book) ≤ length room
    → HasRoom book (take (length (entries_of book)) room)
    × (written book (take (length (entries_of book)) room) ≡ map mark_of (entries_of book))
cut_has_room None room few = (refl, refl)
cut_has_room (Some b) room few =
    ((let size = length-take (length b.entries) room in omega arith), refl)

module _ (books : List (Option BookView)) (rooms cut : List (List Mark))
    (few : (n : ℕ) → n < length books
    → length (entries_of (book_at books n)) ≤ length (slice_index_or rooms n []))
    (cut_is : (n : ℕ) → n < length books → slice_index_or cut n []
    ≡ take (length (entries_of (book_at books n))) (slice_index_or rooms n [])) where
  cut_at : (n : ℕ) → n < length books → HasRoom (book_at books n) (slice_index_or cut n [])
      × (written (book_at books n) (slice_index_or cut n []) ≡ map mark_of (entries_of (book_at books n)))
  cut_at n low =
      subst (λ (j : List Mark). HasRoom (book_at books n) j
      × (written (book_at books n) j ≡ map mark_of (entries_of (book_at books n))))
      (sym (cut_is n low))
      (cut_has_room (book_at books n) (slice_index_or rooms n []) (few n low))

  pub has_room : (n : ℕ) → n < length books → HasRoom (book_at books n) (slice_index_or cut n [])
  has_room n low = (cut_at n low).0

  pub journals_are : (journals : List (List Mark)) → length journals ≡ length books
      → ((n : ℕ) → n < length books
      → slice_index_or journals n [] ≡ written (book_at books n) (slice_index_or cut n []))
      → journals ≡ map (map mark_of) (map entries_of books)
  journals_are journals size each =
      let marks = map (map mark_of) (map entries_of books) in
      let marks_count : length marks ≡ length books =
      length-map (map entries_of books) (map mark_of) ∙ length-map books entries_of in
      sym (ext_get_or [] marks journals (marks_count ∙ sym size)
      (λ n low.
      let there : n < length books = omega (arith, marks_count) in
      get_or-map (map mark_of) (map entries_of books) n []
      ∙ ap (map mark_of) (entries_at books n)
      ∙ sym (each n there ∙ (cut_at n there).1)))

-- a journal's room has a place for each item that its context may serve
pub room_size : (lines : List ContextLine) (limits : List ℕ) (lanes : List (List CallLine))
    (rooms : List (List Mark))
    → rooms ≡ map (journal_room lines limits lanes) (range_with_len 0 (length lines)) → (n : ℕ)
    → n < length lines → length (slice_index_or rooms n []) ≡ all_items_on lines limits n lanes
room_size lines limits lanes rooms is n low =
    ap length (ap (λ (js : List (List Mark)). slice_index_or js n []) is
    ∙ get_or-map-range_with_len (journal_room lines limits lanes) 0 (length lines) n n [] low
    (omega arith))
    ∙ length-replicate (all_items_on lines limits n lanes) blank_mark
