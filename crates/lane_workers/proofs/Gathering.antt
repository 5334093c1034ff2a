-- From what all lanes and contexts show, with the stamps of all books, to legal journals and to one history.
use Rattle.std.proofs.Common.{◌≡◌, ℕ, ◌<◌, length, sym, subst, Some}
use Rattle.std.specs.Prelude.{Contains, flat_map}
use Rattle.call_places.specs.declared.entries.Place.{Place}
use Rattle.call_places.specs.Entries.{stamps_of}
use Rattle.hpke_context.specs.Answers.{Cipher}
use Rattle.context_books.specs.Batches.{Batch, lane_of}
use Rattle.context_books.specs.Legal.{OpensOn, Legal, reply_of}
use Rattle.context_books.specs.Guesses.{AllGuessed, guess_at, missed_in}
use Rattle.context_books.specs.Histories.{AreAllFrom0, LegalHistory}
use Rattle.context_books.specs.Entries.{Fits}
use Rattle.lane_workers.specs.Showing.{Showing, book, journal, stamped_journals, AllShown}
use Rattle.lane_workers.proofs.Shown as shown_by
use Rattle.lane_workers.proofs.Shown.{all_stamps-books, all_from_0}

module _ (batch : Batch) (ciphers : ℕ → Cipher) (s : Showing) (shown : AllShown batch ciphers s) where
  pub fits : (context : ℕ) → Fits batch context (ciphers context) (book s context)
  fits = shown_by.fits batch ciphers s shown.lanes shown.closes

  pub replies_are : (context : ℕ) (p : Place) → Contains (journal s context) p → reply_of batch (ciphers context) (journal s context) p ≡ Some (s.replies p)
  replies_are = shown_by.replies_are batch ciphers s shown.lanes shown.closes

  pub legal_journal : (context : ℕ) → Legal batch context (journal s context)
  legal_journal = shown_by.legal_journal batch ciphers s shown.lanes shown.closes

  pub guessed : (l : ℕ) → l < length batch → AllGuessed batch ciphers (journal s) l (s.guesses l)
  guessed = shown_by.guessed batch ciphers s shown.lanes shown.closes

  pub missed_is : (l : ℕ) → l < length batch → (context call n : ℕ) → OpensOn batch context l call n
      → missed_in batch (ciphers context) (journal s context) l call n (guess_at (lane_of batch l) (s.guesses l) call) ≡ guess_at (lane_of batch l) (s.misses l) call
  missed_is = shown_by.missed_is batch ciphers s shown.lanes shown.closes

  pub one_history : LegalHistory batch (stamped_journals s)
  one_history = record {
    each = shown_by.marks_legal batch ciphers s shown.lanes shown.closes;
    stamped = subst AreAllFrom0 (sym (all_stamps-books s.books)) (all_from_0 (flat_map stamps_of s.books) shown.count shown.given);
    in_order = shown_by.marks_in_order batch ciphers s shown.lanes shown.closes;
  }
