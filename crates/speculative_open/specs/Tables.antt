-- Tables of verdicts: whether each of several ciphertexts opens at the sequence numbers that a guess
-- makes likely. A byte string is a list of numbers below 256.
use Rattle.std.specs.Prelude.{ℕ, ◌≡◌, ◌+◌, ◌-◌, ◌≤◌, ◌↔◌, min, Bool, false, IsTrue, List, [], length, slice_get, slice_index_or, Some}
use Rattle.hpke_aead.specs.declared.keys.AeadKey.{AeadKey}
use Rattle.hpke_aead.specs.Aeads.{Holds}
use Rattle.key_schedule.specs.Nonces.{compute_nonce}
use Rattle.call_places.specs.Messages.{SealedMessage}

-- ---- verdicts

-- the AEAD opens the ciphertext under the nonce of sequence number n: Open of RFC 9180, 5.2, doesn't fail
abbrev pub OpensAt : AeadKey → List ℕ → ℕ → SealedMessage → Type 0
OpensAt key base_nonce n x = Holds key (compute_nonce base_nonce n) x.aad x.ct

-- ---- the table

-- A table has at most `room` rows. Each is a list of verdicts: verdict k of row i is that of item i
-- at the number guess + i - k.
pub record TableView : Type 0 where
  pub room : ℕ
  pub guess : ℕ
  pub limit : ℕ
  pub rows : List (List Bool)

-- Item i is checked at the numbers guess + i - k, for k from 0 to min(i, 3), that are at most LIMIT.
-- One of them is due where the guess is right and at most 3 of the items before it don't open.
abbrev pub IsChecked : ℕ → ℕ → ℕ → ℕ → Type 0
IsChecked guess limit i n = (n ≤ guess + i) × (guess + i ≤ n + min i 3) × (n ≤ limit)

-- the verdict of a row at number n: verdict k, where n is guess + i - k
abbrev pub verdict_at : ℕ → ℕ → List Bool → ℕ → Bool
verdict_at guess i row n = slice_index_or row (guess + i - n) false

-- row i tells whether item i opens, at each number at which the item is checked
abbrev pub IsRow : ℕ → ℕ → AeadKey → List ℕ → ℕ → SealedMessage → List Bool → Type 0
IsRow guess limit key base_nonce i x row =
    (n : ℕ) → IsChecked guess limit i n
    → IsTrue (verdict_at guess i row n) ↔ OpensAt key base_nonce n x

abbrev pub row_of : TableView → ℕ → List Bool
row_of t i = slice_index_or t.rows i []

-- the table is one of these items, under this key and base_nonce
pub record Fits (t : TableView) (key : AeadKey) (base_nonce : List ℕ) (items : List SealedMessage)
    : Type 0 where
  pub count : length t.rows ≡ length items
  pub each : (i : ℕ) (x : SealedMessage) → slice_get items i ≡ Some x
      → IsRow t.guess t.limit key base_nonce i x (row_of t i)
