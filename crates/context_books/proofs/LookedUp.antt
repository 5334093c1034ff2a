-- The calls of a lane as they are served follow from the lane's own notes.
use Rattle.std.proofs.Common.{◌≡◌, ◌==◌, ◌&&◌, ◌||◌, ℕ, zero, suc, ◌+◌, Bool, true, false, cond, List, [], ◌∷◌, Some, sym, refl, ap, ◌∙◌, arith, if◌then◌else◌}
use Rattle.std.specs.Prelude.{slice_get, slice_index_or, option_map, nat_lt}
use Rattle.call_places.specs.declared.entries.Entry.{Entry}
use Rattle.call_places.specs.declared.entries.Place.{Place}
use Rattle.call_places.specs.Entries.{own}
use Rattle.context_books.specs.Batches.{place}
use Rattle.context_books.specs.Legal.{is_same_place}
use Rattle.batch_plans.specs.declared.plan.Plan.{Plan}
use Rattle.batch_plans.specs.declared.plan.CallLine.{CallLine}
use Rattle.batch_plans.specs.Calls.{context_of}
use Rattle.batch_plans.specs.Limits.{first_name}
use Rattle.batch_plans.specs.Names.{at_position}
use Rattle.batch_plans.specs.LiveText.{tells_live}
use Rattle.batch_plans.specs.ReplyText.{numbered}
use Rattle.context_books.specs.Live.{was_live, looked_up, looked_up_plan}

-- ---- lists by their numbers

numbered_get : {X Y : Type 0} (f : ℕ → X → Y) (start : ℕ) (xs : List X) (k : ℕ)
    → slice_get (numbered f start xs) k ≡ option_map (f (start + k)) (slice_get xs k)
numbered_get f start [] k = refl
numbered_get f start (x ∷ xs) zero =
    ap (λ n. Some (f n x)) (let e : start ≡ start + 0 = omega arith in e)
numbered_get f start (x ∷ xs) (suc k) =
    numbered_get f (start + 1) xs k
    ∙ ap (λ n. option_map (f n) (slice_get xs k))
    (let e : start + 1 + k ≡ start + suc k = omega arith in e)

numbered_at : (f : ℕ → List CallLine → List CallLine) → ((n : ℕ) → f n [] ≡ []) → (start : ℕ)
    (lanes : List (List CallLine)) (lane : ℕ)
    → slice_index_or (numbered f start lanes) lane [] ≡ f (start + lane)
    (slice_index_or lanes lane [])
numbered_at f none start [] lane = sym (none (start + lane))
numbered_at f none start (calls ∷ lanes) zero =
    ap (λ n. f n calls) (let e : start ≡ start + 0 = omega arith in e)
numbered_at f none start (calls ∷ lanes) (suc lane) =
    numbered_at f none (start + 1) lanes lane
    ∙ ap (λ n. f n (slice_index_or lanes lane []))
    (let e : start + 1 + lane ≡ start + suc lane = omega arith in e)

-- ---- what a lane's own notes tell

live_own : (notes : List Entry) (p : Place) → was_live notes p ≡ was_live (own p.lane notes) p
live_own [] p = refl
live_own (e ∷ notes) p = step (e.place.lane == p.lane) refl (live_own notes p)
  where
    step : (b : Bool) → (e.place.lane == p.lane) ≡ b
        → was_live notes p ≡ was_live (own p.lane notes) p
        → was_live (e ∷ notes) p
        ≡ was_live (cond b (e ∷ own p.lane notes) (own p.lane notes)) p
    step true is rest = ap (λ r. (is_same_place e.place p && tells_live e.step) || r) rest
    step false is rest = ap (λ b. (b && (e.place.call == p.call) && (e.place.item == p.item)
        && tells_live e.step) || was_live notes p) is ∙ rest

-- two tables that have the same notes of a lane tell the same of its calls
module _ (plan : Plan) (n m : List Entry) (lane : ℕ) (same : own lane n ≡ own lane m) where
  pub live_same : (number : ℕ) → was_live n (place lane number 0) ≡ was_live m (place lane number 0)
  live_same number =
      let p = place lane number 0 in
      live_own n p ∙ ap (λ notes. was_live notes p) same ∙ sym (live_own m p)

  pub looked_same : (number : ℕ) (call : CallLine)
      → looked_up plan n lane number call ≡ looked_up plan m lane number call
  looked_same number call = ap (λ live. if nat_lt (context_of call) first_name || live
      then at_position plan call else call) (live_same number)

-- ---- the calls as they are served

pub calls_looked : (plan : Plan) (notes : List Entry) (lane : ℕ)
    → slice_index_or (looked_up_plan plan notes).lanes lane []
    ≡ numbered (looked_up plan notes lane) 0 (slice_index_or plan.lanes lane [])
calls_looked plan notes lane =
    numbered_at (λ l calls. numbered (looked_up plan notes l) 0 calls) (λ l. refl) 0 plan.lanes lane
    ∙ ap (λ l. numbered (looked_up plan notes l) 0 (slice_index_or plan.lanes lane []))
    (let e : 0 + lane ≡ lane = omega arith in e)

pub call_looked : (plan : Plan) (notes : List Entry) (lane k : ℕ)
    → slice_get (slice_index_or (looked_up_plan plan notes).lanes lane []) k
    ≡ option_map (looked_up plan notes lane k) (slice_get (slice_index_or plan.lanes lane []) k)
call_looked plan notes lane k =
    let calls = slice_index_or plan.lanes lane [] in
    ap (λ cs. slice_get cs k) (calls_looked plan notes lane)
    ∙ numbered_get (looked_up plan notes lane) 0 calls k
    ∙ ap (λ i. option_map (looked_up plan notes lane i) (slice_get calls k))
    (let e : 0 + k ≡ k = omega arith in e)
