-- Rows of four verdicts, and tables that grow row by row.
use Rattle.std.proofs.Common.{◌≡◌, ℕ, ◌+◌, ◌-◌, ◌<◌, ◌≤◌, ◌↔◌, min, Bool, false, IsTrue, List, length, get_or, arith, sym, subst, ◌∙◌, take, slice_index_or, slice_get, [], ◌++◌, Some, get_or-take, length-take, length-append, Option, None, refl}
use Rattle.std.proofs.lemmas.List.{get_or_append_left, length-take-le, length-map}
use Rattle.std.proofs.lemmas.Option.{slice_get-map, slice_get_within, none-some, same_Some}
use Rattle.std.specs.Option.{option_map}
use Rattle.hpke_aead.specs.declared.keys.AeadKey.{AeadKey}
use Rattle.hpke_aead.specs.Aeads.{Holds}
use Rattle.key_schedule.specs.Nonces.{compute_nonce}
use Rattle.call_places.specs.declared.spans.Item.{Item}
use Rattle.call_places.specs.Messages.{SealedMessage, sealed_message, sealed_messages}
use Rattle.speculative_open.specs.Tables.{OpensAt, IsRow, Fits}

-- verdict k of a row is right: it is that at the number guess + i - k, if the item is checked there
abbrev pub IsRight : ℕ → ℕ → AeadKey → List ℕ → ℕ → SealedMessage → List Bool → ℕ → Type 0
IsRight guess limit key base_nonce i x row k =
    (n : ℕ) → n + k ≡ guess + i → k ≤ i → n ≤ limit
    → IsTrue (get_or row k false) ↔ OpensAt key base_nonce n x

-- a row of four right verdicts is one of the item
pub row_of_four : (guess limit : ℕ) (key : AeadKey) (base_nonce : List ℕ) (i : ℕ) (x : SealedMessage) (row : List Bool)
    → ((k : ℕ) → k < 4 → IsRight guess limit key base_nonce i x row k) → IsRow guess limit key base_nonce i x row
row_of_four guess limit key base_nonce i x row right n c =
    let most : n ≤ guess + i = c.0 in
    let least : guess + i ≤ n + min i 3 = c.1 in
    right (guess + i - n) (omega arith) n (omega arith) (omega arith) c.2

-- what the check of a ciphertext tells
pub opens_is : (key : AeadKey) (base_nonce : List ℕ) (n : ℕ) (x : SealedMessage) (aad ct nonce : List ℕ) (v : Bool)
    → aad ≡ x.aad → ct ≡ x.ct → nonce ≡ compute_nonce base_nonce n
    → IsTrue v ↔ Holds key nonce aad ct → IsTrue v ↔ OpensAt key base_nonce n x
opens_is key base_nonce n x aad ct nonce v is_aad is_ct is_nonce told =
    subst (λ p. IsTrue v ↔ Holds key p x.aad x.ct) is_nonce
    (subst (λ a. IsTrue v ↔ Holds key nonce a x.ct) is_aad
    (subst (λ t. IsTrue v ↔ Holds key nonce aad t) is_ct told))

item_of : (f : Item → SealedMessage) (o : Option Item) (x : SealedMessage) → option_map f o ≡ Some x
    → (item : Item) × (o ≡ Some item) × (f item ≡ x)
item_of f None x is = absurd (none-some x is)
item_of f (Some item) x is = (item, refl, same_Some (f item) x is)

-- rows in their places at the front of a longer list make a table that fits
pub fits_taken : (room guess limit n : ℕ) (key : AeadKey) (base_nonce pool : List ℕ) (items : List Item) (made rest : List (List Bool))
    → length items ≤ length made → length items ≤ n
    → ((i : ℕ) (item : Item) → slice_get items i ≡ Some item
    → IsRow guess limit key base_nonce i (sealed_message pool item) (slice_index_or made i []))
    → Fits (record { room = room; guess = guess; limit = limit; rows = take (length items) (take n (made ++ rest)) }) key base_nonce
    (sealed_messages pool items)
fits_taken room guess limit n key base_nonce pool items made rest size within right =
    let rows = take (length items) (take n (made ++ rest)) in
    let is_made : (i : ℕ) → i < length items → slice_index_or rows i [] ≡ slice_index_or made i [] =
    λ i h.
    get_or-take (length items) (take n (made ++ rest)) i [] h
    ∙ get_or-take n (made ++ rest) i [] (omega arith)
    ∙ get_or_append_left made rest [] i (omega arith) in
    let long : length items ≤ length (take n (made ++ rest)) = omega (arith, length-take n (made ++ rest), length-append made rest) in
    record {
      count = omega (arith, length-take-le (length items) (take n (made ++ rest)) long, length-map items (sealed_message pool));
      each = λ i x is.
          let item = item_of (sealed_message pool) (slice_get items i) x (sym (slice_get-map (sealed_message pool) items i) ∙ is) in
          let there : i < length items = slice_get_within items i item.0 item.1 in
          subst (λ y. IsRow guess limit key base_nonce i y (slice_index_or rows i [])) item.2
          (subst (IsRow guess limit key base_nonce i (sealed_message pool item.0)) (sym (is_made i there)) (right i item.0 item.1));
    }

-- a row that is told under another name for its place
pub row_moved : (guess limit : ℕ) (key : AeadKey) (base_nonce : List ℕ) (from to : ℕ) (x : SealedMessage) (row moved : List Bool)
    → from ≡ to → row ≡ moved → IsRow guess limit key base_nonce from x row → IsRow guess limit key base_nonce to x moved
row_moved guess limit key base_nonce from to x row moved place same right =
    subst (λ i. IsRow guess limit key base_nonce i x moved) place (subst (IsRow guess limit key base_nonce from x) same right)

-- a verdict that is read at its place
pub verdict_read : (row same : List Bool) (j k : ℕ) (P : Type 0) → row ≡ same → j ≡ k
    → IsTrue (slice_index_or row j false) ↔ P → IsTrue (slice_index_or same k false) ↔ P
verdict_read row same j k P rows places told =
    subst (λ n. IsTrue (slice_index_or same n false) ↔ P) places (subst (λ r. IsTrue (slice_index_or r j false) ↔ P) rows told)
