-- ChaCha20 (RFC 8439, 2.3 and 2.4). A byte string is a list of numbers below 256, a word is a number
-- below 2^32. The quarter round and the rounds (2.1 to 2.3) are those of the kit's rand_chacha.
use Rattle.std.specs.Prelude.{ℕ, zero, suc, ◌+◌, List, [], ◌∷◌, ◌++◌, length}
use Rattle.std.specs.Int.{w32, div_ceil, to_le_bytes}
use Rattle.std.specs.Simd.Lanes.{zip2}
use Rattle.byte_strings.specs.Bytes.{xor_bytes}
use Rattle.rand_core.specs.Steps.{u32_at}
use Rattle.rand_chacha.specs.Block.{add32, double_rounds}

-- the state before the rounds: the constants, the key, the block counter and the nonce, in words whose
-- bytes go from low to high (2.3)
unfoldable pub initial : List ℕ → ℕ → List ℕ → List ℕ
initial key counter nonce =
    0x61707865 ∷ 0x3320646e ∷ 0x79622d32 ∷ 0x6b206574
    ∷ u32_at key 0 ∷ u32_at key 1 ∷ u32_at key 2 ∷ u32_at key 3
    ∷ u32_at key 4 ∷ u32_at key 5 ∷ u32_at key 6 ∷ u32_at key 7
    ∷ counter ∷ u32_at nonce 0 ∷ u32_at nonce 1 ∷ u32_at nonce 2 ∷ []

-- the bytes of words, each from low to high
unfoldable pub serialized : List ℕ → List ℕ
serialized [] = []
serialized (w ∷ ws) = to_le_bytes w32 w ++ serialized ws

-- a state after twenty rounds, and the state itself added, word by word (2.3)
unfoldable pub stirred : List ℕ → List ℕ
stirred x = zip2 add32 (double_rounds 10 x) x

-- the block function (2.3)
unfoldable pub block : List ℕ → ℕ → List ℕ → List ℕ
block key counter nonce = serialized (stirred (initial key counter nonce))

-- n blocks, from a block counter on. The RFC has no block whose counter is 2^32 or more.
unfoldable pub key_stream : List ℕ → ℕ → List ℕ → ℕ → List ℕ
key_stream key counter nonce zero = []
key_stream key counter nonce (suc n) =
    block key counter nonce ++ key_stream key (counter + 1) nonce n

-- the encryption, which is the decryption: the text XOR the key stream, which is cut to the text's
-- end (2.4)
unfoldable pub encrypt : List ℕ → ℕ → List ℕ → List ℕ → List ℕ
encrypt key counter nonce text =
    xor_bytes text (key_stream key counter nonce (div_ceil (length text) 64))
