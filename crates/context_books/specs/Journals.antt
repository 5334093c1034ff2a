-- The journal of a context: the marks of its book's entries.
use Rattle.std.specs.Prelude.{◌≡◌, List, length, map, Option, Some, None}
use Rattle.call_places.specs.declared.entries.Mark.{Mark}
use Rattle.call_places.specs.Entries.{mark_of}
use Rattle.context_books.specs.Books.{BookView}

-- the journal of a context, where it has a book
abbrev pub written : Option BookView → List Mark → List Mark
written None journal = journal
written (Some book) journal = map mark_of book.entries

-- there is room for a mark of each entry, and for no more
abbrev pub HasRoom : Option BookView → List Mark → Type 0
HasRoom None journal = length journal ≡ length journal
HasRoom (Some book) journal = length journal ≡ length book.entries
