-- The last stages of the calls that are done, and the steps of their items, while a lane goes on.
use Rattle.std.proofs.Common.{◌≡◌, ◌<◌, ◌≤◌, ℕ, zero, suc, ◌+◌, ◌-◌, List, [], ◌∷◌, ◌++◌, length, take, drop, sym, refl, ap, ◌∙◌, arith, append_assoc, length-append, Option, Some, None}
use Rattle.std.specs.Prelude.{slice_get, slice_set, slice_index_or, sum_by}
use Rattle.std.proofs.lemmas.List.{drop-take, take_rest, take_all, take-append-le, length-take-le, length-drop, get_or-set_same, get_or-set_other}
use Rattle.std.proofs.Math.Seq.{drop-append_seam}
use Rattle.std.proofs.lemmas.List.Sums.{sum_by-cons}
use Rattle.call_places.specs.declared.entries.Step.{Step}
use Rattle.hpke_context.specs.Contexts.{ContextView}
use Rattle.context_books.specs.Batches.{Spot}
use Rattle.context_core.specs.Core.{Core}
use Rattle.batch_plans.specs.declared.plan.Plan.{Plan}
use Rattle.batch_plans.specs.declared.plan.CallLine.{CallLine}
use Rattle.context_books.specs.Asks.{asked_by}
use Rattle.context_books.specs.LaneCalls.{opening_items}
use Rattle.context_core.specs.declared.lanes.Stage.{Stage}
use Rattle.context_core.specs.declared.lanes.Stage.TheVariants.{Fresh, Drawn, Guessed, Tested, Settled}
use Rattle.context_core.specs.Following.{opened_count, unsettled, IsSettled, IsDone}
use Rattle.context_core.proofs.Runs.{stands_stay}

-- ---- the steps that are settled

takes : {X : Type 0} (n m : ℕ) (xs : List X) → n ≤ m → take n (take m xs) ≡ take n xs
takes zero m xs low = refl
takes (suc n) zero xs low = absurd (omega arith)
takes (suc n) (suc m) [] low = refl
takes (suc n) (suc m) (x ∷ xs) low = ap (λ ys. x ∷ ys) (takes n m xs (omega arith))

-- steps that lie among the first m are the same in a list that begins with the same m
pub same_steps : {X : Type 0} (n start m : ℕ) (xs ys : List X) → take m ys ≡ take m xs
    → start + n ≤ m → take n (drop start ys) ≡ take n (drop start xs)
same_steps n start m xs ys same low =
    sym (drop-take start n ys)
    ∙ ap (drop start) (sym (takes (start + n) m ys low) ∙ ap (take (start + n)) same
    ∙ takes (start + n) m xs low)
    ∙ drop-take start n xs

-- ---- steps that are written behind those that are settled

module _ {X : Type 0} (old new behind rest : List X) (at size : ℕ) (size_is : length old ≡ size)
    (low : at ≤ size) (same : length new ≡ length (take (length old - at) (drop at old))) where
  front_size : length (take at old) ≡ at
  front_size = length-take-le at old (omega arith)

  new_size : at + length new ≡ size
  new_size = let rest_is = ap length (take_rest old at) in let e = length-drop at old in omega arith

  whole_size : length (take at old ++ new) ≡ size
  whole_size = length-append (take at old) new ∙ (λ i. front_size i + length new) ∙ new_size

  -- the list is the settled part and the new one
  pub written : take size ((take at old ++ (new ++ behind)) ++ rest) ≡ take at old ++ new
  written =
      ap (take size) (ap (λ xs. xs ++ rest) (sym (append_assoc (take at old) new behind))
      ∙ append_assoc (take at old ++ new) behind rest)
      ∙ take-append-le size (take at old ++ new) (behind ++ rest) (let e = whole_size in omega arith)
      ∙ take_all size (take at old ++ new) (let e = whole_size in omega arith)

  pub written_size : length (take size ((take at old ++ (new ++ behind)) ++ rest)) ≡ length old
  written_size = ap length written ∙ whole_size ∙ sym size_is

  pub written_front : take at (take size ((take at old ++ (new ++ behind)) ++ rest)) ≡ take at old
  written_front = ap (take at) written
      ∙ take-append-le at (take at old) new (let e = front_size in omega arith)
      ∙ take_all at (take at old) (let e = front_size in omega arith)

  pub written_back : drop at (take size ((take at old ++ (new ++ behind)) ++ rest)) ≡ new
  written_back = ap (drop at) written ∙ ap (λ n. drop n (take at old ++ new)) (sym front_size)
      ∙ drop-append_seam (take at old) new

-- ---- the calls whose items aren't settled

drop_next : {X : Type 0} (xs : List X) (k : ℕ) (x : X) → slice_get xs k ≡ Some x
    → drop k xs ≡ x ∷ drop (k + 1) xs
drop_next [] k x at = absurd (let f : None ≡ Some x = at in cc)
drop_next (y ∷ xs) zero x at = ap (λ z. z ∷ xs) (let f : Some y ≡ Some x = at in cc)
drop_next (y ∷ xs) (suc k) x at = drop_next xs k x at
    ∙ ap (λ n. x ∷ drop n (y ∷ xs)) (let e : suc (k + 1) ≡ suc k + 1 = omega arith in e)

-- the call's items, and those of the calls behind it
pub to_settle : (calls : List CallLine) (k : ℕ) (call : CallLine) → slice_get calls k ≡ Some call
    → sum_by opened_count (drop k calls)
    ≡ opened_count call + sum_by opened_count (drop (k + 1) calls)
to_settle calls k call at =
    ap (sum_by opened_count) (drop_next calls k call at)
    ∙ sum_by-cons opened_count call (drop (k + 1) calls)

-- the items of the call are settled
pub call_settled : (calls : List CallLine) (k : ℕ) (call : CallLine) → slice_get calls k ≡ Some call
    → drop 1 (drop k calls) ≡ drop (k + 1) calls
call_settled calls k call at = ap (drop 1) (drop_next calls k call at)

-- when the call is done no more items are to come
pub fewer_to_settle : (calls : List CallLine) (k : ℕ) (call : CallLine) (stage : Stage)
    → slice_get calls k ≡ Some call
    → sum_by opened_count (drop (k + 1) calls) ≤ sum_by opened_count (unsettled stage (drop k calls))
fewer_to_settle calls k call stage at = step stage
  where
    all : sum_by opened_count (drop (k + 1) calls) ≤ sum_by opened_count (drop k calls)
    all = let e = to_settle calls k call at in omega arith

    step : (stage : Stage) → sum_by opened_count (drop (k + 1) calls)
        ≤ sum_by opened_count (unsettled stage (drop k calls))
    step Fresh = all
    step (Drawn drawn) = all
    step (Guessed guess) = all
    step Tested = all
    step (Settled guess first missed start) =
        let e = ap (sum_by opened_count) (call_settled calls k call at) in omega arith

-- ---- calls that are done stay so

module _ (plan : Plan) (contexts : List (Option ContextView)) where
  pub settled_stays : (w later : Core) (more : List Spot) (l k : ℕ) (call : CallLine)
      (xs ys : List Step) (m n g first missed start : ℕ) → later.history ≡ w.history ++ more
      → take m ys ≡ take m xs → m ≤ n
      → IsSettled plan contexts w l k call xs m g first missed start
      → IsSettled plan contexts later l k call ys n g first missed start
  settled_stays w later more l k call xs ys m n g first missed start is same grown t =
      record {
        has = record {
          opens = t.has.opens;
          front = t.has.front;
          stands = stands_stay plan contexts w later more l k (asked_by plan call) t.has.front is
              t.has.stands;
          due = t.has.due;
          steps = same_steps (length (opening_items plan call)) start m xs ys same t.low
              ∙ t.has.steps;
          missed_is = t.has.missed_is;
        };
        low = (let low = t.low in omega arith);
      }

  pub done_stays : (w later : Core) (more : List Spot) (l k : ℕ) (call : CallLine)
      (guesses rest : List ℕ) (xs ys : List Step) (m n : ℕ) (stage : Stage)
      → later.history ≡ w.history ++ more → take m ys ≡ take m xs → m ≤ n
      → IsDone plan contexts w l guesses k call xs m stage
      → IsDone plan contexts later l (guesses ++ rest) k call ys n stage
  done_stays w later more l k call guesses rest xs ys m n Fresh is same grown t = t
  done_stays w later more l k call guesses rest xs ys m n (Drawn drawn) is same grown t = record {
    seal = t.seal;
    free = t.free;
    front = t.front;
    stands = stands_stay plan contexts w later more l k (asked_by plan call) t.front is t.stands;
    due = t.due;
    below = t.below;
  }
  done_stays w later more l k call guesses rest xs ys m n (Guessed g) is same grown t = t
  done_stays w later more l k call guesses rest xs ys m n Tested is same grown t = t
  done_stays w later more l k call guesses rest xs ys m n (Settled g first missed start) is same
      grown t = (
        settled_stays w later more l k call xs ys m n g first missed start is same grown t.0,
        record {
          before = t.1.before;
          behind = t.1.behind ++ rest;
          stands = ap (λ gs. gs ++ rest) t.1.stands ∙ append_assoc t.1.before _ rest
              ∙ ap (λ gs. t.1.before ++ gs) (append_assoc _ t.1.behind rest);
          count = t.1.count;
        },
      )

-- ---- one note more

pub noted_before : (notes : List Stage) (k i : ℕ) (stage : Stage) → i < k
    → slice_index_or (slice_set notes k stage) i Fresh ≡ slice_index_or notes i Fresh
noted_before notes k i stage low =
    get_or-set_other notes k i stage Fresh (λ e. absurd (let f : i ≡ k = e in omega arith))

pub noted_now : (notes : List Stage) (k : ℕ) (stage : Stage) → k < length notes
    → slice_index_or (slice_set notes k stage) k Fresh ≡ stage
noted_now notes k stage low = get_or-set_same notes k stage Fresh low
