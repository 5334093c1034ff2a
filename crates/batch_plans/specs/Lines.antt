-- The lines of keys, contexts and replies, a format of this program's own. Each line ends with a
-- line feed. Numbers are decimal without leading zeros, bytes are lower-case hex digits, and `-`
-- stands for no bytes.
use Rattle.std.specs.Prelude.{ℕ, List, ◌++◌, codes, decimal}
use Rattle.field_text.specs.Printing.{hex_text}
use Rattle.batch_plans.specs.declared.replies.KeyReply.{KeyReply}
use Rattle.batch_plans.specs.declared.replies.KeyReply.TheVariants as keys
use Rattle.batch_plans.specs.declared.replies.ContextReply.{ContextReply}
use Rattle.batch_plans.specs.declared.replies.ContextReply.TheVariants as contexts
use Rattle.batch_plans.specs.declared.replies.CallRefusal.{CallRefusal}
use Rattle.batch_plans.specs.declared.replies.Reply.TheVariants.{Refused}
use Rattle.batch_plans.specs.Words.{key_refusal_word, context_refusal_word, call_refusal_word}

-- ---- keys and contexts

-- what follows `key K`: `generated PK SK`, `secret PK`, `peer` or `refused WORD`
abbrev pub key_words : KeyReply → List ℕ
key_words (keys.Generated public secret) =
    codes "generated " ++ hex_text public ++ codes " " ++ hex_text secret
key_words (keys.Secret public) = codes "secret " ++ hex_text public
key_words keys.Peer = codes "peer"
key_words (keys.Refused refusal) = codes "refused " ++ key_refusal_word refusal

-- the line of key number K
abbrev pub key_line : ℕ → KeyReply → List ℕ
key_line number reply =
    codes "key " ++ decimal number ++ codes " " ++ key_words reply ++ codes "\n"

-- what follows `context C`: `shared`, `sender ENC`, `recipient` or `refused WORD`
abbrev pub context_words : ContextReply → List ℕ
context_words contexts.Shared = codes "shared"
context_words (contexts.Sender enc) = codes "sender " ++ hex_text enc
context_words contexts.Recipient = codes "recipient"
context_words (contexts.Refused refusal) = codes "refused " ++ context_refusal_word refusal

-- the line of context number C
abbrev pub context_line : ℕ → ContextReply → List ℕ
context_line number reply =
    codes "context " ++ decimal number ++ codes " " ++ context_words reply ++ codes "\n"

-- ---- replies

-- `sealed N CT` or `opened N PT`
abbrev pub served_line : List ℕ → ℕ → List ℕ → List ℕ
served_line word number text = word ++ decimal number ++ codes " " ++ hex_text text ++ codes "\n"

-- `failed N`
abbrev pub failed_line : ℕ → List ℕ
failed_line number = codes "failed " ++ decimal number ++ codes "\n"

-- `limit`
abbrev pub limit_line : List ℕ
limit_line = codes "limit\n"

-- `exported` and bytes
abbrev pub exported_line : List ℕ → List ℕ
exported_line bytes = codes "exported " ++ hex_text bytes ++ codes "\n"

-- `refused` and a word
abbrev pub refused_line : CallRefusal → List ℕ
refused_line refusal = codes "refused " ++ call_refusal_word refusal ++ codes "\n"

-- `added` and `retired`
abbrev pub added_line : List ℕ
added_line = codes "added\n"

abbrev pub retired_line : List ℕ
retired_line = codes "retired\n"

-- `batch G M`: what an opening of several messages guessed, and how many of them it missed
abbrev pub batch_line : ℕ → ℕ → List ℕ
batch_line guess missed =
    codes "batch " ++ decimal guess ++ codes " " ++ decimal missed ++ codes "\n"
