-- ---- for the proofs: what the reply lines of both batches are, and where ciphertexts go
use Rattle.std.specs.Prelude.{◌≡◌, ℕ, ◌<◌, ◌≤◌, List, [], ◌∷◌, length, map, take, codes, slice_set}
use Rattle.std.specs.List.{range_with_len, flat_map}
use Rattle.hpke_context.specs.Contexts.{ContextView}
use Rattle.context_books.specs.Lists.{In}
use Rattle.batch_plans.specs.declared.plan.CallLine.{CallLine}
use Rattle.batch_plans.specs.declared.replies.Reply.{Reply}
use Rattle.batch_plans.specs.declared.replies.LaneAnswers.{LaneAnswers}
use Rattle.batch_plans.specs.Replies.{IsInRange, IsPrintable}
use Rattle.batch_plans.specs.Lines.{served_line}
use Rattle.batch_plans.specs.AnswersText.{reply_line}
use Rattle.demo_runs.specs.Demo.{sealed_at, sealed_text}

-- ---- the first batch

abbrev pub sealed_line : ContextView → ℕ → List ℕ
sealed_line context n = served_line (codes "sealed ") n (sealed_at context n)

-- the reply is the ciphertext at some number below this one
pub record IsSealedReply (count : ℕ) (pool : List ℕ) (reply : Reply) : Type 0 where
  pub context : ContextView
  pub number : ℕ
  pub low : number < count
  pub line : reply_line pool reply ≡ sealed_line context number
  pub size : length (sealed_at context number) ≡ 80
  pub range : IsInRange (length pool) reply

-- the calls of a lane have the lines of these numbers
pub record SealedLane (context : ContextView) (calls : List CallLine) (lane : LaneAnswers)
    (numbers : List ℕ) : Type 0 where
  pub count : length numbers ≡ length calls
  pub lines : map (reply_line lane.pool) (take (length calls) lane.replies)
      ≡ map (sealed_line context) numbers
  pub printable : IsPrintable lane

abbrev pub SealedLanes : ContextView → List (List CallLine) → List LaneAnswers
    → List (List ℕ) → Type 0
SealedLanes context [] [] [] = Unit {0}
SealedLanes context (calls ∷ lanes) (lane ∷ answers) (numbers ∷ more) =
    SealedLane context calls lane numbers × SealedLanes context lanes answers more
SealedLanes context _ _ _ = ⊥

-- each of these numbers is below the count, and so long is its ciphertext
pub record AreLow (count : ℕ) (context : ContextView) (numbers : List ℕ) : Type 0 where
  pub few : count ≤ 65536
  pub low : (n : ℕ) → In n numbers → n < count
  pub size : (n : ℕ) → length (sealed_at context n) ≡ 80

pub record IsSealedLane (count : ℕ) (calls : List CallLine) (lane : LaneAnswers) : Type 0 where
  pub context : ContextView
  pub numbers : List ℕ
  pub lane_is : SealedLane context calls lane numbers
  pub are_low : AreLow count context numbers

pub record AreSealedLanes (count : ℕ) (lanes : List (List CallLine)) (answers : List LaneAnswers)
    : Type 0 where
  pub context : ContextView
  pub numbers : List (List ℕ)
  pub lanes_are : SealedLanes context lanes answers numbers
  pub are_low : AreLow count context (flat_map (λ (ns : List ℕ). ns) numbers)

-- each ciphertext goes to the place of its number
abbrev pub put_all : ContextView → List (List ℕ) → List ℕ → List (List ℕ)
put_all context cts [] = cts
put_all context cts (n ∷ numbers) =
    put_all context (slice_set cts n (sealed_at context n)) numbers

-- ---- the second batch

abbrev pub opened_line : ℕ → List ℕ
opened_line n = served_line (codes "opened ") n sealed_text

-- the first replies of a lane open T at the numbers from 0 on
pub record IsOpenedLane (messages : ℕ) (lane : LaneAnswers) : Type 0 where
  pub few : messages ≤ 65536
  pub lines : map (reply_line lane.pool) (take messages lane.replies)
      ≡ map opened_line (range_with_len 0 messages)
  pub printable : IsPrintable lane
