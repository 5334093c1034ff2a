-- Messages that are to be opened (RFC 9180, 5.2): ciphertexts with their associated data. A byte
-- string is a list of numbers below 256.
use Rattle.std.specs.Prelude.{ℕ, List, map}
use Rattle.call_places.specs.declared.spans.Item.{Item}
use Rattle.call_places.specs.Spans.{span_bytes}

-- a ciphertext with its associated data
pub record SealedMessage : Type 0 where
  pub aad : List ℕ
  pub ct : List ℕ

-- the bytes of the pool that an item names
abbrev pub sealed_message : List ℕ → Item → SealedMessage
sealed_message pool item =
    record { aad = span_bytes pool item.aad; ct = span_bytes pool item.text }

abbrev pub sealed_messages : List ℕ → List Item → List SealedMessage
sealed_messages pool items = map (sealed_message pool) items
