-- A batch as its lanes of calls, each reduced to what it asks of a context, and the places of what
-- is asked.
use Rattle.std.specs.Prelude.{ℕ, zero, suc, ◌≡◌, ◌+◌, ◌==◌, cond, List, [], ◌∷◌, length, map, filter, slice_get, slice_index_or, Option, Some, None}
use Rattle.call_places.specs.declared.entries.Place.{Place}
use Rattle.call_places.specs.Messages.{SealedMessage}
use Rattle.hpke_context.specs.Answers.{Item, Seal, Unseal}

-- What a call asks: to seal a text, to open a ciphertext, or to open several, one after another. An
-- export asks nothing that changes a context, and so does a call that is refused before a context
-- is reached.
pub data Ask : Type 0 where
  Nothing : Ask
  ToSeal : (context : ℕ) (aad text : List ℕ) → Ask
  ToOpen : (context : ℕ) (aad ct : List ℕ) → Ask
  ToOpenAll : (context : ℕ) (messages : List SealedMessage) → Ask

-- the calls of each lane
abbrev pub Batch : Type 0
Batch = List (List Ask)

abbrev pub lane_of : Batch → ℕ → List Ask
lane_of batch lane = slice_index_or batch lane []

-- ---- the items of a call

abbrev pub unseal : SealedMessage → Item
unseal m = Unseal m.aad m.ct

-- what is asked of a context, item by item
abbrev pub items_in : Ask → List Item
items_in Nothing = []
items_in (ToSeal context aad text) = Seal aad text ∷ []
items_in (ToOpen context aad ct) = Unseal aad ct ∷ []
items_in (ToOpenAll context messages) = map unseal messages

-- the context that is asked; a call that asks nothing has no items, so there the 0 says nothing
abbrev pub context_in : Ask → ℕ
context_in Nothing = 0
context_in (ToSeal context aad text) = context
context_in (ToOpen context aad ct) = context
context_in (ToOpenAll context messages) = context

abbrev pub with_context : ℕ → Option Item → Option (ℕ × Item)
with_context context None = None
with_context context (Some x) = Some (context, x)

-- the item of this number in a call, with its context
abbrev pub item_in : Ask → ℕ → Option (ℕ × Item)
item_in ask i = with_context (context_in ask) (slice_get (items_in ask) i)

abbrev pub item_in_call : Option Ask → ℕ → Option (ℕ × Item)
item_in_call None i = None
item_in_call (Some ask) i = item_in ask i

-- the item of a place, with its context
abbrev pub item_of : Batch → Place → Option (ℕ × Item)
item_of batch p = item_in_call (slice_get (lane_of batch p.lane) p.call) p.item

abbrev pub item_or_none : Option (ℕ × Item) → List Item → List Item
item_or_none None xs = xs
item_or_none (Some x) xs = x.1 ∷ xs

-- the items of places, in order
abbrev pub items_of : Batch → List Place → List Item
items_of batch [] = []
items_of batch (p ∷ ps) = item_or_none (item_of batch p) (items_of batch ps)

-- the place is one of an item that a context is asked for
abbrev pub IsServed : Batch → ℕ → Place → Type 0
IsServed batch context p = (x : Item) × (item_of batch p ≡ Some (context, x))

-- ---- the places that a lane asks for

abbrev pub place : ℕ → ℕ → ℕ → Place
place lane call item = record { lane = lane; call = call; item = item }

-- so many places of one call, from this item on
abbrev pub block : ℕ → ℕ → ℕ → ℕ → List Place
block lane call item zero = []
block lane call item (suc n) = place lane call item ∷ block lane call (item + 1) n

-- a place in the journal of a context
pub record Spot : Type 0 where
  pub context : ℕ
  pub place : Place

abbrev pub spots : ℕ → List Place → List Spot
spots context [] = []
spots context (p ∷ ps) = record { context = context; place = p } ∷ spots context ps

-- the places that a call of a lane asks for
abbrev pub asked : ℕ → ℕ → Ask → List Spot
asked lane call ask = spots (context_in ask) (block lane call 0 (length (items_in ask)))

-- the places on one context
abbrev pub on : ℕ → List Spot → List Place
on context [] = []
on context (s ∷ ss) = cond (s.context == context) (s.place ∷ on context ss) (on context ss)

-- the places of one lane, in their order
abbrev pub own_places : ℕ → List Place → List Place
own_places lane ps = filter (λ p. p.lane == lane) ps
