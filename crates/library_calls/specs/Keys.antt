-- Keys and encapsulations that are made from a stream of a seed.
use Rattle.std.specs.Prelude.{ℕ, List}
use Rattle.ring_core.specs.Sets.{Set}
use Rattle.rand_words.specs.Words.{stream_word}
use Rattle.sntrup_core.specs.Keys.{FindsG}
use Rattle.sntrup_kem.specs.Kem.{IsGenerated, drawn_r, enc_of, session_of}

-- the pair is that of KeyGen on these words from the first on, with the first g that has an inverse
unfoldable pub IsPair : Set → (ℕ → ℕ) → List ℕ → List ℕ → Type 0
IsPair set word pk sk = (j : ℕ) × FindsG set word 0 j × IsGenerated set word 0 j pk sk

-- what Encap to a public key gives on the words of a stream from the first on: the encapsulation,
-- and the session key
abbrev pub enc_by : Set → List ℕ → ℕ → List ℕ → List ℕ
enc_by set seed stream pk = enc_of set pk (drawn_r set (stream_word seed stream) 0)

abbrev pub session_by : Set → List ℕ → ℕ → List ℕ → List ℕ
session_by set seed stream pk = session_of set pk (drawn_r set (stream_word seed stream) 0)
