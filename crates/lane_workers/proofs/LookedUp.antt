-- Two tables that have the same notes of a lane make the same calls of it: what the lane shows and
-- tells of them by the one it shows and tells by the other.
use Rattle.std.proofs.Common.{◌≡◌, ◌||◌, ℕ, ◌+◌, Bool, true, false, List, [], ◌∷◌, ◌++◌, map, Option, Some, sym, refl, ap, ◌∙◌, subst, if◌then◌else◌}
use Rattle.std.specs.Prelude.{slice_get, option_map, nat_lt}
use Rattle.call_places.specs.declared.entries.Entry.{Entry}
use Rattle.call_places.specs.declared.entries.Place.{Place}
use Rattle.call_places.specs.Entries.{own}
use Rattle.hpke_context.specs.Answers.{Answer, Cipher}
use Rattle.hpke_context.specs.Contexts.{ContextView}
use Rattle.context_books.specs.Batches.{Batch, Ask, block, place, unseal, item_in_call, item_of, lane_of}
use Rattle.context_books.specs.Merging.{lane_places}
use Rattle.context_books.specs.Guesses.{guess_at, guess_count}
use Rattle.lane_workers.specs.Showing.{LaneShows, OpeningShows, OpeningsShow}
use Rattle.batch_plans.specs.declared.plan.Plan.{Plan}
use Rattle.batch_plans.specs.declared.plan.CallLine.{CallLine}
use Rattle.batch_plans.specs.declared.plan.CallLine.TheVariants as calls
use Rattle.batch_plans.specs.Calls.{context_of}
use Rattle.batch_plans.specs.Limits.{first_name}
use Rattle.batch_plans.specs.Names.{at_position}
use Rattle.batch_plans.specs.Lines.{batch_line}
use Rattle.context_books.specs.Asks.{ask_of, ask_unless, asked_by, batch_of}
use Rattle.context_books.specs.Live.{was_live, looked_up, looked_up_plan}
use Rattle.context_books.specs.Runs.{answer_line, lines_unless}
use Rattle.context_books.specs.Standing.{call_refusal}
use Rattle.context_books.proofs.Done.{lane_asks}
use Rattle.context_books.proofs.LookedUp.{looked_same, calls_looked, call_looked}
use Rattle.context_books.specs.LaneCalls.{lane_calls}
use Rattle.lane_workers.specs.Served.{Told, told_lines}
use Rattle.lane_workers.proofs.Showing.{HasItems, numbered_same}

-- ---- the calls as they are served

pub line_looked : (plan : Plan) (notes : List Entry) (lane k : ℕ) (call : CallLine)
    → slice_get (lane_calls plan lane) k ≡ Some call
    → slice_get (lane_calls (looked_up_plan plan notes) lane) k
    ≡ Some (looked_up plan notes lane k call)
line_looked plan notes lane k call at = call_looked plan notes lane k
    ∙ ap (option_map (looked_up plan notes lane k)) at

at_position_items : (plan : Plan) (items : ℕ) (call : CallLine) → HasItems items call
    → HasItems items (at_position plan call)
at_position_items plan items (calls.UnsealAll context first count) has = has
at_position_items plan items call has = tt

pub looked_items : (plan : Plan) (notes : List Entry) (items lane k : ℕ) (call : CallLine)
    → HasItems items call → HasItems items (looked_up plan notes lane k call)
looked_items plan notes items lane k call has =
    step (nat_lt (context_of call) first_name || was_live notes (place lane k 0))
  where
    step : (b : Bool) → HasItems items (if b then at_position plan call else call)
    step true = at_position_items plan items call has
    step false = has

-- ---- what they ask

asked_same : (plan : Plan) (n m : List Entry) (call : CallLine)
    → asked_by (looked_up_plan plan n) call ≡ asked_by (looked_up_plan plan m) call
asked_same plan n m (calls.Add name) = refl
asked_same plan n m call = refl

lane_of_batch : (plan : Plan) (contexts : List (Option ContextView)) (lane : ℕ)
    → lane_of (batch_of plan contexts) lane ≡ map (ask_of plan contexts) (lane_calls plan lane)
lane_of_batch plan contexts lane =
    lane_asks (record { plan = plan; contexts = contexts; journals = []; guesses = [] }) lane

pub lane_same : (plan : Plan) (contexts : List (Option ContextView)) (n m : List Entry) (lane : ℕ)
    → own lane n ≡ own lane m → lane_of (batch_of (looked_up_plan plan n) contexts) lane
    ≡ lane_of (batch_of (looked_up_plan plan m) contexts) lane
lane_same plan contexts n m lane same =
    let p = looked_up_plan plan n in
    let q = looked_up_plan plan m in
    let lines : lane_calls p lane ≡ lane_calls q lane = calls_looked plan n lane
    ∙ numbered_same (looked_up plan n lane) (looked_up plan m lane) 0 (lane_calls plan lane)
    (λ k call at. looked_same plan n m lane same (0 + k) call)
    ∙ sym (calls_looked plan m lane) in
    lane_of_batch p contexts lane
    ∙ (λ i. map (λ call. ap (ask_unless (call_refusal contexts call)) (asked_same plan n m call) i)
    (lane_calls p lane))
    ∙ ap (map (ask_of q contexts)) lines ∙ sym (lane_of_batch q contexts lane)

-- ---- what a lane shows of them

module _ (b d : Batch) (lane : ℕ) (same : lane_of b lane ≡ lane_of d lane) where
  pub shows_same : (context : ℕ) (c : Cipher) (replies : Place → Answer) (seen : List Entry)
      → LaneShows b context c lane replies seen → LaneShows d context c lane replies seen
  shows_same context c replies seen t = record {
    places = t.places ∙ ap (lane_places context lane) same;
    answered = λ i e at mine.
        let r = t.answered i e at mine in
        let here : item_of b e.place ≡ item_of d e.place =
        ap (λ asks. item_in_call (slice_get asks e.place.call) e.place.item)
        (subst (λ l. lane_of b l ≡ lane_of d l) (sym mine) same) in
        record {
          item = r.item;
          of_place = sym here ∙ r.of_place;
          step = r.step;
          reply = r.reply;
        };
  }

  pub openings_same : (ciphers : ℕ → Cipher) (seen : ℕ → List Entry) (guesses misses : List ℕ)
      → OpeningsShow b ciphers lane seen guesses misses
      → OpeningsShow d ciphers lane seen guesses misses
  openings_same ciphers seen guesses misses t = record {
    count = t.count ∙ ap guess_count same;
    each = λ context call messages at.
        subst (λ (asks : List Ask). OpeningShows (ciphers context) (seen context) lane call
        (map unseal messages) (guess_at asks guesses call) (guess_at asks misses call)) same
        (t.each context call messages (ap (λ asks. slice_get asks call) same ∙ at));
  }

-- ---- what a lane tells of them

pub told_same : (plan : Plan) (contexts : List (Option ContextView)) (told : Told)
    (n m : List Entry) (lane k : ℕ) → lane_of (batch_of (looked_up_plan plan n) contexts) lane
    ≡ lane_of (batch_of (looked_up_plan plan m) contexts) lane
    → (call : CallLine) → told_lines (looked_up_plan plan n) contexts told lane k call
    ≡ told_lines (looked_up_plan plan m) contexts told lane k call
told_same plan contexts told n m lane k same (calls.UnsealAll context first count) =
    ap (λ asks. lines_unless (call_refusal contexts (calls.UnsealAll context first count))
    (map (λ p. answer_line (told.replies p)) (block lane k 0 count)
    ++ batch_line (guess_at asks told.guesses k) (guess_at asks told.misses k) ∷ [])) same
told_same plan contexts told n m lane k same call = refl
