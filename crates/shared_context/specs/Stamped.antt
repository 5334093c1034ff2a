-- A book with the seat that its stamps are drawn from.
use Rattle.call_places.specs.declared.listed.Terms.{Terms}
use Rattle.stamp_counter.specs.Seats.{SeatView}
use Rattle.context_books.specs.Books.{BookView}
pub use Rattle.stamp_counter.specs.Stamps.{IsNote, ComesAfter}

-- what is under the lock of a context
pub record StampedView : Type 0 where
  pub book : BookView
  pub seat : SeatView

-- the book's terms, with the counter that the seat draws from
abbrev pub terms_of : StampedView → Terms
terms_of s =
    record { limit = s.book.limit; quotas = s.book.quotas; counter = s.seat.counter }
