-- A lane that has done some of its calls: one more call adds its own lines.
use Rattle.std.proofs.Common.{◌≡◌, ℕ, zero, suc, ◌+◌, ◌<◌, ◌≤◌, List, [], ◌∷◌, ◌++◌, length, map, take, drop, refl, sym, ap, ◌∙◌, arith, Some, None, inl, inr}
use Rattle.std.specs.Prelude.{slice_get, slice_index_or, option_map, flat_map}
use Rattle.std.proofs.lemmas.Bool.{cases_lt}
use Rattle.std.proofs.lemmas.List.{length-map, length-take, length-take-le, length-drop}
use Rattle.std.proofs.lemmas.List.Concat.{flat_map-append}
use Rattle.std.proofs.lemmas.Option.{slice_get-map, slice_get_past}
use Rattle.call_places.specs.declared.spans.Item.{Item as ItemSpans}
use Rattle.call_places.specs.Messages.{sealed_message, sealed_messages}
use Rattle.hpke_context.specs.Answers.{Item}
use Rattle.context_books.specs.Batches.{Ask, unseal, item_in_call, lane_of}
use Rattle.context_books.proofs.OneLane.{taken_more, few_taken}
use Rattle.context_books.proofs.Lists.{append-nil}
use Rattle.batch_plans.specs.declared.plan.CallLine.{CallLine}
use Rattle.batch_plans.specs.declared.plan.CallLine.TheVariants as calls
use Rattle.batch_plans.specs.Limits.{items_from}
use Rattle.batch_plans.specs.ReplyText.{numbered}
use Rattle.context_books.specs.Standing.{call_refusal}
use Rattle.context_books.specs.Asks.{asked_by, ask_unless, ask_of}
use Rattle.context_books.specs.Runs.{Run, asks_of, call_lines, lane_call_lines}
use Rattle.context_books.specs.Lanes.{calls_of, done_lines}

-- ---- what the calls of a lane ask

lane_asks_in : (ask : CallLine → Ask) (lanes : List (List CallLine)) (lane : ℕ)
    → slice_index_or (map (map ask) lanes) lane [] ≡ map ask (slice_index_or lanes lane [])
lane_asks_in ask [] lane = refl
lane_asks_in ask (calls ∷ lanes) zero = refl
lane_asks_in ask (calls ∷ lanes) (suc lane) = lane_asks_in ask lanes lane

pub lane_asks : (run : Run) (lane : ℕ)
    → lane_of (asks_of run) lane ≡ map (ask_of run.plan run.contexts) (calls_of run lane)
lane_asks run lane = lane_asks_in (ask_of run.plan run.contexts) run.plan.lanes lane

pub ask_at : (run : Run) (lane number : ℕ) (call : CallLine)
    → slice_get (calls_of run lane) number ≡ Some call
    → slice_get (lane_of (asks_of run) lane) number ≡ Some (ask_of run.plan run.contexts call)
ask_at run lane number call at =
    ap (λ asks. slice_get asks number) (lane_asks run lane)
    ∙ slice_get-map (ask_of run.plan run.contexts) (calls_of run lane) number
    ∙ ap (option_map (ask_of run.plan run.contexts)) at

pub ask_served : (run : Run) (lane number : ℕ) (call : CallLine)
    → slice_get (calls_of run lane) number ≡ Some call → call_refusal run.contexts call ≡ None
    → slice_get (lane_of (asks_of run) lane) number ≡ Some (asked_by run.plan call)
ask_served run lane number call at free = ask_at run lane number call at
    ∙ ap (λ r. Some (ask_unless r (asked_by run.plan call))) free

-- an opening asks for as many messages as it names items
pub length-messages : (items : List ItemSpans) (pool : List ℕ) (first count : ℕ)
    → first + count ≤ length items
    → length (map unseal (sealed_messages pool (items_from items first count))) ≡ count
length-messages items pool first count within =
    length-map (sealed_messages pool (items_from items first count)) unseal
    ∙ length-map (items_from items first count) (sealed_message pool)
    ∙ (let size = length-drop first items in length-take-le count (drop first items) (omega arith))

-- ---- the first elements of a list

-- ---- the first calls

-- a call among the first ones, which asks for an item
pub within_taken : (n : ℕ) (asks : List Ask) (i item context : ℕ) (x : Item)
    → item_in_call (slice_get (take n asks) i) item ≡ Some (context, x) → i < n
within_taken n asks i item context x e = elim (cases_lt i n) [
  | inl low ↦ low
  | inr far ↦
      (let short : length (take n asks) ≤ i = omega (arith, length-take n asks) in
      let none = ap (λ o. item_in_call o item) (slice_get_past (take n asks) i short) in
      absurd (let f : None ≡ Some (context, x) = sym none ∙ e in cc))
]

-- ---- the lines of the calls that are done

numbered-append : {X Y : Type 0} (f : ℕ → X → Y) (start : ℕ) (xs ys : List X)
    → numbered f start (xs ++ ys) ≡ numbered f start xs ++ numbered f (start + length xs) ys
numbered-append f start [] ys =
    ap (λ n. numbered f n ys) (let e : start ≡ start + 0 = omega arith in e)
numbered-append f start (x ∷ xs) ys =
    ap (λ l. f start x ∷ l) (numbered-append f (start + 1) xs ys
    ∙ ap (λ n. numbered f (start + 1) xs ++ numbered f n ys)
    (let e : start + 1 + length xs ≡ start + suc (length xs) = omega arith in e))

-- one more call adds its own
pub done_lines_more : (run : Run) (lane number : ℕ) (call : CallLine)
    → slice_get (calls_of run lane) number ≡ Some call
    → done_lines run lane (number + 1) ≡ done_lines run lane number
    ++ call_lines run lane number call
done_lines_more run lane number call at =
    let front = take number (calls_of run lane) in
    let f = call_lines run lane in
    let n : 0 + length front ≡ number = (let e = few_taken (calls_of run lane) number call at in
    omega arith) in
    ap (lane_call_lines run lane) (taken_more (calls_of run lane) number call at)
    ∙ ap (flat_map (λ lines. lines)) (numbered-append f 0 front (call ∷ [])
    ∙ ap (λ k. numbered f 0 front ++ f k call ∷ []) n)
    ∙ flat_map-append (λ (lines : List (List ℕ)). lines) (numbered f 0 front) (f number call ∷ [])
    ∙ ap (λ l. lane_call_lines run lane front ++ l) (append-nil (f number call))
