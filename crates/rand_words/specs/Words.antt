-- Random words and where they come from. A word is a number below 2^32.
use Rattle.std.specs.Prelude.{ℕ, ◌+◌, ◌≤◌, List, map}
use Rattle.std.specs.List.{range_with_len}
use Rattle.rand_chacha.specs.ChaCha.{key_of, word_at}

-- word i of a stream of a seed, by ChaCha20 as `rand_chacha` states it: 20 rounds are 10 double
-- rounds, the key is the seed, and the stream's number is the nonce of 64 bits
abbrev pub stream_word : List ℕ → ℕ → ℕ → ℕ
stream_word seed stream i = word_at 10 (key_of seed) stream i

-- so many words from a place on
abbrev pub words_from : (ℕ → ℕ) → ℕ → ℕ → List ℕ
words_from word place count = map word (range_with_len place count)

-- from the old place to the new one so many words were taken, or fewer
abbrev pub TakesAtMost : ℕ → ℕ → ℕ → Type 0
TakesAtMost most old new = (old ≤ new) × (new ≤ old + most)
