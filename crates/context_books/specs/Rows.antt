-- A small batch to try the definitions on. Context 0 seals, and context 1 opens. Lane 0 seals a
-- text, and then it opens two messages together; lane 1 seals a text and opens one message.
use Rattle.std.specs.Prelude.{ℕ, ◌==◌, List, [], ◌∷◌, slice_index}
use Rattle.call_places.specs.declared.entries.Place.{Place}
use Rattle.call_places.specs.declared.entries.Mark.{Mark}
use Rattle.hpke_context.specs.Answers.{Cipher, Item, Unseal}
use Rattle.call_places.specs.Messages.{SealedMessage}
use Rattle.context_books.specs.Batches.{Batch, ToSeal, ToOpen, ToOpenAll, place}
use Rattle.context_books.specs.Histories.{mark}

-- A toy in place of an AEAD: a ciphertext is the list of the one number at which it opens, and its
-- text is empty. It has 9 numbers.
abbrev pub toy : Cipher
toy = record {
  limit = 9;
  sealed = λ n aad text. n ∷ [];
  holds = λ n aad ct. slice_index ct 0 == n;
  clear = λ n aad ct. [];
}

-- the message that opens at this number
abbrev pub message : ℕ → SealedMessage
message n = record { aad = []; ct = n ∷ [] }

-- its item
abbrev pub opening : ℕ → Item
opening n = Unseal [] (n ∷ [])

abbrev pub two_lanes : Batch
two_lanes =
    (ToSeal 0 [] [] ∷ ToOpenAll 1 (message 1 ∷ message 2 ∷ []) ∷ [])
    ∷ (ToSeal 0 [] [] ∷ ToOpen 1 [] (0 ∷ []) ∷ [])
    ∷ []

-- a lane that opens two messages and then a third one, on context 1
abbrev pub two_openings : Batch
two_openings =
    (ToOpenAll 1 (message 0 ∷ message 1 ∷ []) ∷ ToOpenAll 1 (message 2 ∷ []) ∷ []) ∷ []

-- ---- journals of context 1

-- lane 1 comes first, and each message stands at the number at which it opens
abbrev pub in_time : List Place
in_time = place 1 1 0 ∷ place 0 1 0 ∷ place 0 1 1 ∷ []

-- lane 0 comes first, too early for its messages
abbrev pub too_early : List Place
too_early = place 0 1 0 ∷ place 0 1 1 ∷ place 1 1 0 ∷ []

-- the opening of two messages with the other one between them
abbrev pub torn : List Place
torn = place 0 1 0 ∷ place 1 1 0 ∷ place 0 1 1 ∷ []

-- all of the lane with two openings
abbrev pub all_three : List Place
all_three = place 0 0 0 ∷ place 0 0 1 ∷ place 0 1 0 ∷ []

-- ---- journals of both contexts

-- with these stamps of the two seals, and of lane 0's opening and lane 1's
abbrev pub stamped : ℕ → ℕ → ℕ → ℕ → ℕ → List (List Mark)
stamped seal_0 seal_1 first second other =
    (mark (place 0 0 0) seal_0 ∷ mark (place 1 0 0) seal_1 ∷ [])
    ∷ (mark (place 0 1 0) first ∷ mark (place 0 1 1) second ∷ mark (place 1 1 0) other ∷ [])
    ∷ []
