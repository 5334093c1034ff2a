-- What a context answers to seals and unseals, one after another (RFC 9180, 5.2). Byte strings are
-- lists of numbers. The RFC raises an error at the overflow of the nonce; here LIMIT stands in its
-- place.
use Rattle.std.specs.Prelude.{ℕ, ◌+◌, Bool, true, false, if◌then◌else◌, nat_lt, List, [], ◌∷◌}

-- what a context is asked: to seal a text, or to open a ciphertext
pub data Item : Type 0 where
  Seal : (aad text : List ℕ) → Item
  Unseal : (aad ct : List ℕ) → Item

-- what a context can do: LIMIT, and at each number the AEAD with its key and ComputeNonce(number)
pub record Cipher : Type 0 where
  pub limit : ℕ
  -- number, aad and text: the ciphertext with its tag
  pub sealed : ℕ → List ℕ → List ℕ → List ℕ
  -- number, aad and ciphertext: the tag is right
  pub holds : ℕ → List ℕ → List ℕ → Bool
  -- number, aad and ciphertext: the text
  pub clear : ℕ → List ℕ → List ℕ → List ℕ

-- what it answers: each number is the sequence number that was due
pub data Answer : Type 0 where
  Sealed_at : (number : ℕ) (ct : List ℕ) → Answer
  Opened_at : (number : ℕ) (text : List ℕ) → Answer
  Failed_at : (number : ℕ) → Answer
  At_limit : Answer

-- the answer to an item where n is due: ContextS.Seal and ContextR.Open. The numbers below LIMIT
-- are used. A tag is tested at LIMIT too: the RFC's Open decrypts before IncrementSeq raises.
abbrev pub answer : Cipher → ℕ → Item → Answer
answer c n (Seal aad text) =
    if nat_lt n c.limit then Sealed_at n (c.sealed n aad text) else At_limit
answer c n (Unseal aad ct) =
    if c.holds n aad ct
    then (if nat_lt n c.limit then Opened_at n (c.clear n aad ct) else At_limit)
    else Failed_at n

-- the answers after which the sequence number rises
abbrev pub advances : Answer → Bool
advances (Sealed_at _ _) = true
advances (Opened_at _ _) = true
advances (Failed_at _) = false
advances At_limit = false

-- the number that is due after this answer, where n was due: IncrementSeq
abbrev pub next : ℕ → Answer → ℕ
next n a = if advances a then n + 1 else n

-- the answers to these items in their order, where n is due before the first
abbrev pub run : Cipher → ℕ → List Item → List Answer
run c n [] = []
run c n (x ∷ xs) = answer c n x ∷ run c (next n (answer c n x)) xs

-- the number that is due after these items, where n is due before the first
abbrev pub due : Cipher → ℕ → List Item → ℕ
due c n [] = n
due c n (x ∷ xs) = due c (next n (answer c n x)) xs
