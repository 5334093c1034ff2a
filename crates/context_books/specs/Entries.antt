-- Entries of a context, each a place with the step that was taken there, and the steps that the
-- sequential context takes (RFC 9180, 5.2). The number of an entry is the sequence number that is
-- due after the entries before it.
use Rattle.std.specs.Prelude.{ℕ, ◌≡◌, ◌+◌, cond, List, [], ◌∷◌, slice_get, Some}
use Rattle.call_places.specs.declared.entries.Place.{Place}
use Rattle.call_places.specs.declared.entries.Step.{Step}
use Rattle.call_places.specs.declared.entries.Step.TheVariants.{Sealed, SealLimit, Opened, Failed, OpenLimit}
use Rattle.call_places.specs.declared.entries.Entry.{Entry}
use Rattle.call_places.specs.Entries.{advances, number_at}
use Rattle.hpke_context.specs.Answers.{Item, Seal, Unseal, Cipher, Answer, Sealed_at, Opened_at, Failed_at, At_limit, answer, next}
use Rattle.context_books.specs.Batches.{Batch, place, item_of}

-- ---- the steps of the sequential context

-- the step that stands for an answer to an item
abbrev pub step_for : Item → Answer → Step
step_for x (Sealed_at number ct) = Sealed
step_for x (Opened_at number text) = Opened
step_for x (Failed_at number) = Failed
step_for (Seal aad text) At_limit = SealLimit
step_for (Unseal aad ct) At_limit = OpenLimit

-- the steps for these items, where n is due before the first
abbrev pub steps_from : Cipher → ℕ → List Item → List Step
steps_from c n [] = []
steps_from c n (x ∷ xs) = step_for x (answer c n x) ∷ steps_from c (next n (answer c n x)) xs

-- the numbers at which these steps are taken
abbrev pub numbers_from : Cipher → ℕ → List Item → List ℕ
numbers_from c n [] = []
numbers_from c n (x ∷ xs) = n ∷ numbers_from c (next n (answer c n x)) xs

-- the number that is due after a step, where n was due
abbrev pub number_after : ℕ → Step → ℕ
number_after n step = cond (advances step) (n + 1) n

-- ---- the entries that a call adds

abbrev pub entry : Place → ℕ → Step → Entry
entry p stamp step = record { place = p; stamp = stamp; step = step }

-- the entries of a call with these steps, from this item and this stamp on
abbrev pub entries_from : ℕ → ℕ → ℕ → ℕ → List Step → List Entry
entries_from lane call item stamp [] = []
entries_from lane call item stamp (step ∷ steps) =
    entry (place lane call item) stamp step ∷ entries_from lane call (item + 1) (stamp + 1) steps

-- ---- entry by entry

-- of each entry by itself: P holds of its number and it
abbrev pub AtNumbers : (ℕ → Entry → Type 0) → List Entry → Type 0
AtNumbers P entries =
    (i : ℕ) (e : Entry) → slice_get entries i ≡ Some e → P (number_at i entries) e

-- the entry's step is that of the sequential context at this number, for the item of its place
abbrev pub FitsAt : Batch → ℕ → Cipher → ℕ → Entry → Type 0
FitsAt batch context c n e =
    (x : Item) × (item_of batch e.place ≡ Some (context, x)) × (e.step ≡ step_for x (answer c n x))

-- each entry fits at its number
abbrev pub Fits : Batch → ℕ → Cipher → List Entry → Type 0
Fits batch context c entries = AtNumbers (FitsAt batch context c) entries

-- each entry of one lane fits at its number
abbrev pub LaneFits : Batch → ℕ → Cipher → ℕ → List Entry → Type 0
LaneFits batch context c lane entries =
    AtNumbers (λ n e. e.place.lane ≡ lane → FitsAt batch context c n e) entries

-- ---- numbers of answers

-- the sequence numbers at which a list of answers sealed or opened, in its order
abbrev pub numbers_used : List Answer → List ℕ
numbers_used [] = []
numbers_used (Sealed_at number ct ∷ answers) = number ∷ numbers_used answers
numbers_used (Opened_at number text ∷ answers) = number ∷ numbers_used answers
numbers_used (Failed_at number ∷ answers) = numbers_used answers
numbers_used (At_limit ∷ answers) = numbers_used answers
