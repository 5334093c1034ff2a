-- Many messages in one call: message i has the number that is due, plus i. Each list is one of
-- references; its items are the byte strings behind them.
use Rattle.std.specs.Prelude.{◌≡◌, ◌<◌, ◌≤◌, ◌+◌, ◌-◌, ◌^◌, ℕ, zero, suc, List, [], ◌++◌, length, map, slice_index_or}
use Rattle.std.specs.Borrow.{Bor}
use Rattle.hpke_aead.specs.declared.keys.AeadKey.{AeadKey}
use Rattle.hpke_aead.specs.Aeads.{seal, Holds, clear}
use Rattle.key_schedule.specs.Nonces.{compute_nonce}
use Rattle.library_calls.specs.declared.contexts.HpkeContext.{HpkeContext}
use Rattle.library_calls.specs.Contexts.{key_held}

-- item i
abbrev pub item : List (Bor (List ℕ)) → ℕ → List ℕ
item references i = slice_index_or (map (λ r. r.now) references) i []

-- the first k of these numbers, added
unfoldable pub added : (ℕ → ℕ) → ℕ → ℕ
added number zero = 0
added number (suc k) = added number k + number k

-- the first k of these byte strings, joined
unfoldable pub joined : (ℕ → List ℕ) → ℕ → List ℕ
joined bytes zero = []
joined bytes (suc k) = joined bytes k ++ bytes k

-- the nonce of message i
abbrev pub nonce_of : List ℕ → ℕ → ℕ → List ℕ
nonce_of base_nonce number i = compute_nonce base_nonce (number + i)

-- ---- sealing

-- the size of ciphertext i, with its tag
abbrev pub sealed_size : List (Bor (List ℕ)) → ℕ → ℕ
sealed_size texts i = length (item texts i) + 16

-- as many additional data as texts, each of a length that can be sealed, and room for all
-- ciphertexts, one behind another
pub record FitsSealAll (aads texts : List (Bor (List ℕ))) (room : ℕ) : Type 0 where
  pub count : length aads ≡ length texts
  pub aad : (k : ℕ) → k < length texts → length (item aads k) < 2 ^ 61
  pub text : (k : ℕ) → k < length texts → length (item texts k) ≤ 2 ^ 36 - 32
  pub room_is : room ≡ added (sealed_size texts) (length texts)

-- the ciphertexts of k texts, joined, where this number is that of the first
abbrev pub sealed_by : AeadKey → List ℕ → ℕ → List (Bor (List ℕ)) → List (Bor (List ℕ)) → ℕ → List ℕ
sealed_by key base_nonce number aads texts k =
    joined (λ i. seal key (nonce_of base_nonce number i) (item aads i) (item texts i)) k

abbrev pub sealed_all : HpkeContext → List (Bor (List ℕ)) → List (Bor (List ℕ)) → List ℕ
sealed_all c aads texts =
    sealed_by (key_held c) c.base_nonce c.number aads texts (length texts)

-- ---- opening

-- the size of text i, without its tag: 0 where there is none
abbrev pub opened_size : List (Bor (List ℕ)) → ℕ → ℕ
opened_size cts i = length (item cts i) - 16

-- as many additional data as ciphertexts, each of a length that can be opened, and room for all
-- texts, one behind another
pub record FitsOpenAll (aads cts : List (Bor (List ℕ))) (room : ℕ) : Type 0 where
  pub count : length aads ≡ length cts
  pub aad : (k : ℕ) → k < length cts → length (item aads k) < 2 ^ 61
  pub most : (k : ℕ) → k < length cts → length (item cts k) ≤ 2 ^ 36 - 16
  pub room_is : room ≡ added (opened_size cts) (length cts)

-- each of k tags holds, where this number is that of the first
abbrev pub EachHolds : AeadKey → List ℕ → ℕ → List (Bor (List ℕ)) → List (Bor (List ℕ)) → ℕ → Type 0
EachHolds key base_nonce number aads cts n =
    (k : ℕ) → k < n → Holds key (nonce_of base_nonce number k) (item aads k) (item cts k)

abbrev pub AllHold : HpkeContext → List (Bor (List ℕ)) → List (Bor (List ℕ)) → Type 0
AllHold c aads cts = EachHolds (key_held c) c.base_nonce c.number aads cts (length cts)

-- the texts of k ciphertexts, joined
abbrev pub opened_by : AeadKey → List ℕ → ℕ → List (Bor (List ℕ)) → ℕ → List ℕ
opened_by key base_nonce number cts k =
    joined (λ i. clear key (nonce_of base_nonce number i) (item cts i)) k

abbrev pub opened_all : HpkeContext → List (Bor (List ℕ)) → List ℕ
opened_all c cts = opened_by (key_held c) c.base_nonce c.number cts (length cts)
