-- Openings of several messages in a journal.
use Rattle.std.specs.Prelude.{ℕ, ◌≡◌, ◌+◌, List, ◌++◌, length, map}
use Rattle.call_places.specs.declared.entries.Place.{Place}
use Rattle.hpke_context.specs.Answers.{Cipher, run}
use Rattle.call_places.specs.Messages.{SealedMessage}
use Rattle.context_books.specs.Batches.{Batch, unseal, block, items_of}
use Rattle.context_books.specs.Legal.{due_after, replies}

-- in the journal these messages are answered one after another, in one block, from the number on
-- that is due before it
pub record OpensInTurn (batch : Batch) (c : Cipher) (journal : List Place) (lane call : ℕ)
    (messages : List SealedMessage) : Type 0 where
  pub front : List Place
  pub after : List Place
  pub stands : journal ≡ front ++ (block lane call 0 (length messages) ++ after)
  pub answers : replies batch c journal ≡ replies batch c front
      ++ (run c (due_after batch c front) (map unseal messages)
      ++ run c (due_after batch c (front ++ block lane call 0 (length messages)))
      (items_of batch after))
