-- What opening several items asks of a context, and what the sequential context does there
-- (RFC 9180, 5.2). A byte string is a list of numbers below 256.
use Rattle.std.specs.Prelude.{ℕ, ◌≡◌, List, map}
use Rattle.call_places.specs.declared.entries.Step.{Step}
use Rattle.call_places.specs.declared.spans.Item as spans
use Rattle.hpke_context.specs.Answers.{Item, Unseal}
use Rattle.key_schedule.specs.Secrets.{base_nonce_in}
use Rattle.hpke_context.specs.Contexts.{ContextView, key_in, cipher_of}
use Rattle.context_books.specs.Entries.{steps_from, numbers_from}
use Rattle.context_books.specs.Guesses.{missed}
use Rattle.call_places.specs.Messages.{SealedMessage, sealed_messages}
use Rattle.speculative_open.specs.Tables.{TableView, Fits, OpensAt}

-- to open these items, one after another
abbrev pub unseals : List ℕ → List spans.Item → List Item
unseals pool items = map (λ x. Unseal x.aad x.ct) (sealed_messages pool items)

-- their steps, where n is due before the first
abbrev pub opening_steps : ContextView → ℕ → List ℕ → List spans.Item → List Step
opening_steps c n pool items = steps_from (cipher_of c) n (unseals pool items)

-- how many of their numbers a guess missed
abbrev pub opening_misses : ContextView → ℕ → List ℕ → List spans.Item → ℕ → ℕ
opening_misses c n pool items guess =
    missed guess 0 (numbers_from (cipher_of c) n (unseals pool items))

-- the context opens this ciphertext where n is due: its tag holds there
abbrev pub OpensIn : ContextView → ℕ → SealedMessage → Type 0
OpensIn c n x = OpensAt (key_in c.secrets.cipher) (base_nonce_in c.secrets.cipher) n x

-- the table has verdicts on these items, by the context's key and base_nonce, up to its LIMIT
pub record IsTableFor (c : ContextView) (pool : List ℕ) (items : List spans.Item) (t : TableView)
    : Type 0 where
  pub limit : t.limit ≡ c.limit
  pub fits : Fits t (key_in c.secrets.cipher) (base_nonce_in c.secrets.cipher) (sealed_messages pool items)
