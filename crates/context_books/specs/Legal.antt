-- Which lists of places may be the journal of a context, and the replies of a journal (RFC 9180,
-- 5.2: each item is answered at the number that is due after those before it).
use Rattle.std.specs.Prelude.{ℕ, ◌≡◌, ◌≢◌, ◌==◌, ◌&&◌, ◌↔◌, cond, Bool, List, [], ◌∷◌, ◌++◌, length, Contains, slice_get, Option, Some, None}
use Rattle.std.specs.List.{AllPairs}
use Rattle.call_places.specs.declared.entries.Place.{Place}
use Rattle.call_places.specs.Orders.{IsBefore}
use Rattle.hpke_context.specs.Answers.{Cipher, Answer, run, due}
use Rattle.call_places.specs.Messages.{SealedMessage}
use Rattle.context_books.specs.Batches.{Batch, ToOpenAll, block, lane_of, items_of, IsServed}

-- ---- the order of a journal

-- two places of one lane stand in the order of their calls, and in a call in that of its items
abbrev pub IsInLaneOrder : Place → Place → Type 0
IsInLaneOrder p q = p.lane ≡ q.lane → IsBefore p q

-- the call opens so many messages on this context, one after another
abbrev pub OpensOn : Batch → ℕ → ℕ → ℕ → ℕ → Type 0
OpensOn batch context lane call n =
    (messages : List SealedMessage)
    × (slice_get (lane_of batch lane) call ≡ Some (ToOpenAll context messages))
    × (length messages ≡ n)

-- these places stand next to one another
abbrev pub StandTogether : List Place → List Place → Type 0
StandTogether journal places =
    (front after : List Place) × (journal ≡ front ++ (places ++ after))

pub record Legal (batch : Batch) (context : ℕ) (journal : List Place) : Type 0 where
  -- it holds each served place, and nothing else
  pub served : (p : Place) → Contains journal p ↔ IsServed batch context p
  -- it holds each once
  pub once : AllPairs (λ p q. p ≢ q) journal
  -- of two places of one lane the one with the lower call stands first; within one call the one
  -- with the lower item
  pub in_order : AllPairs IsInLaneOrder journal
  -- the places of one opening of several messages stand next to one another
  pub together : (lane call n : ℕ) → OpensOn batch context lane call n
      → StandTogether journal (block lane call 0 n)

-- ---- the replies of a journal

-- the number that is due in a context after these places
abbrev pub due_after : Batch → Cipher → List Place → ℕ
due_after batch c places = due c 0 (items_of batch places)

-- the answers to the items of a journal, in its order, the first at number 0
abbrev pub replies : Batch → Cipher → List Place → List Answer
replies batch c journal = run c 0 (items_of batch journal)

abbrev pub is_same_place : Place → Place → Bool
is_same_place p q = (p.lane == q.lane) && (p.call == q.call) && (p.item == q.item)

abbrev pub reply_in : List Place → List Answer → Place → Option Answer
reply_in [] answers p = None
reply_in (q ∷ qs) [] p = None
reply_in (q ∷ qs) (a ∷ answers) p = cond (is_same_place q p) (Some a) (reply_in qs answers p)

-- the reply of a place in a journal
abbrev pub reply_of : Batch → Cipher → List Place → Place → Option Answer
reply_of batch c journal p = reply_in journal (replies batch c journal) p

-- the places of a journal that stand before this one
abbrev pub before : Place → List Place → List Place
before p [] = []
before p (q ∷ qs) = cond (is_same_place q p) [] (q ∷ before p qs)

-- the number that is due at a place: the one after those that stand before it
abbrev pub number_of : Batch → Cipher → List Place → Place → ℕ
number_of batch c journal p = due_after batch c (before p journal)
