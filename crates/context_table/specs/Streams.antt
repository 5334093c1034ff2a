-- The random words of a batch. A word is a number below 2^32.
use Rattle.std.specs.Prelude.{ℕ, ◌+◌, ◌*◌, [], unwrap_or}
use Rattle.rand_words.specs.Words.{stream_word}
use Rattle.batch_plans.specs.declared.plan.Plan.{Plan}

-- word i of a stream of the plan's seed. In a plan without a seed no line draws words
abbrev pub word_of : Plan → ℕ → ℕ → ℕ
word_of plan stream i = stream_word (unwrap_or plan.seed []) stream i

-- the words of key number k and those of context number c, each from word 0 on. Key lines of all
-- kinds are counted, and so are context lines of all kinds
abbrev pub key_words : Plan → ℕ → ℕ → ℕ
key_words plan k = word_of plan (2 * k)

abbrev pub context_words : Plan → ℕ → ℕ → ℕ
context_words plan c = word_of plan (2 * c + 1)
