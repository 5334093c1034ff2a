-- Lanes and books before the first step follow the start of the core.
use Rattle.std.proofs.Common.{◌≡◌, ◌<◌, ◌≤◌, ◌^◌, ℕ, List, [], ◌∷◌, ◌++◌, length, map, take, drop, get_or, sym, refl, ap, ◌∙◌, subst, arith, Option, Some, None, inl, inr}
use Rattle.std.specs.Prelude.{slice_get, slice_index_or, sum_by, option_map}
use Rattle.std.specs.List.{All, range_with_len}
use Rattle.std.proofs.lemmas.Bool.{cases_lt}
use Rattle.std.proofs.lemmas.List.{length-map, length-replicate, get_or_past, get_or-map}
use Rattle.std.proofs.lemmas.List.FromFn.{get_or-map-range_with_len, length-map-range_with_len}
use Rattle.std.proofs.lemmas.Option.{slice_get-map, slice_get_within, slice_get-get_or, get_or_from_slice_get}
use Rattle.hpke_context.specs.Contexts.{ContextView}
use Rattle.context_books.specs.Batches.{Batch, Ask, lane_of}
use Rattle.context_books.specs.Merging.{all_asked}
use Rattle.context_core.specs.Core as core
use Rattle.context_core.specs.Core.{Core, all_tasks, at_first, start}
use Rattle.context_core.specs.CoreStages as core_steps
use Rattle.context_core.specs.CoreStages.{tasks_at, placed, lane_at}
use Rattle.context_books.specs.Books.{BookView}
use Rattle.batch_plans.specs.declared.plan.Plan.{Plan}
use Rattle.batch_plans.specs.declared.replies.LaneAnswers.{LaneAnswers}
use Rattle.batch_plans.specs.Within.{IsWithinLimits}
use Rattle.batch_plans.specs.Room.{lane_room, call_room}
use Rattle.batch_plans.specs.Progress.{begun}
use Rattle.batch_plans.proofs.Rooms.{lane_within, lane_is_small}
use Rattle.context_books.specs.ContextLines.{export_limits, AreOfLines}
use Rattle.context_books.specs.Asks.{ask_of, batch_of}
use Rattle.context_core.specs.declared.books.Books.{Books}
use Rattle.context_core.specs.declared.lanes.Lane.{Lane}
use Rattle.context_core.specs.Books.{book_at}
use Rattle.context_books.specs.LaneCalls.{lane_calls}
use Rattle.context_core.specs.Following.{core_stage, opened_count, unsettled, AreBooks, IsLane, IsAt, IsRehearsal}
use Rattle.context_books.specs.Quotas.{lane_quota}
use Rattle.context_core.specs.Preparing.{fresh_in, fresh_at, IsFresh, AreFresh, with_answers}
use Rattle.context_core.proofs.Allowed.{within_contexts}
use Rattle.context_core.proofs.Adding.{nothing_placed}
use Rattle.context_books.proofs.ItemPlaces.{quota_is}

-- ---- the start

module _ (plan : Plan) (contexts : List (Option ContextView)) (within : IsWithinLimits plan)
    (standing : AreOfLines plan.contexts contexts) where
  abbrev batch : Batch
  batch = batch_of plan contexts

  abbrev first : Core
  first = start batch

  -- ---- books

  module _ (books : Books)
      (is : books.books.items ≡ map (fresh_at plan contexts) (range_with_len 0 (length contexts)))
      (places : books.places ≡ 0) (checks : books.checks ≤ 0) where
    fresh_there : (n : ℕ) → n < length contexts → book_at books n ≡ fresh_at plan contexts n
    fresh_there n low = ap (λ bs. slice_index_or bs n None) is
        ∙ get_or-map-range_with_len (fresh_at plan contexts) 0 (length contexts) n n None low
        (omega arith)

    size : length books.books.items ≡ length contexts
    size = ap length is ∙ length-map-range_with_len (fresh_at plan contexts) 0 (length contexts)

    fresh_books : AreBooks plan contexts [] books
    fresh_books = record {
      count = size;
      each = λ n view at.
          let book : BookView = record {
            limit = view.limit;
            quotas = map (lane_quota plan contexts n) plan.lanes;
            entries = [];
          } in (
            book,
            fresh_there n (within_contexts contexts n view at) ∙ ap (fresh_in plan contexts n) at,
            record {
              limit = refl;
              lanes = length-map plan.lanes (lane_quota plan contexts n);
              quotas = λ l low. get_or-map (lane_quota plan contexts n) plan.lanes l [] 0 low
                  ∙ sym (quota_is plan contexts standing n within l low);
              marks = refl;
              fits = λ i e here. absurd (no_entry i e here);
            },
          );
      none = λ n at. elim (cases_lt n (length contexts)) [
        | inl low ↦ fresh_there n low ∙ ap (fresh_in plan contexts n) at
        | inr high ↦ get_or_past books.books.items n None (omega (arith, size))
      ];
      absent = λ n at. refl;
      places = places;
      checks = omega arith;
    }
      where
        no_entry : {X : Type 0} (i : ℕ) (e : X) → slice_get [] i ≡ Some e → ⊥
        no_entry i e here = (let f : None ≡ Some e = here in cc)

  -- ---- lanes

  fresh_tasks : (asks : List Ask) → all_tasks 0 asks ≡ tasks_at core_steps.Fresh 0 asks
  fresh_tasks [] = refl
  fresh_tasks (a ∷ asks) = refl

  first_lane : (l : ℕ) → l < length plan.lanes
      → slice_get first.lanes l ≡ Some (lane_at (lane_of batch l) 0 core_steps.Fresh 0 [])
  first_lane l low =
      let size : length batch ≡ length plan.lanes = length-map plan.lanes (map (ask_of plan contexts)) in
      slice_get-map at_first batch l
      ∙ ap (option_map at_first) (slice_get-get_or batch l [] (omega arith))
      ∙ ap (λ ts. let s : core.Lane = record { to_come = ts; guess = 0; guesses = [] } in Some s)
      (fresh_tasks (lane_of batch l))

  begins : (l : ℕ) (lane : Lane) → l < length plan.lanes → IsFresh (lane_calls plan l) lane
      → lane.progress ≡ begun (lane_room plan (export_limits contexts) (lane_calls plan l))
      → IsLane plan contexts first l lane
  begins l lane low fresh progress =
      let asks = lane_of batch l in
      let calls = lane_calls plan l in
      let call = fresh.call in
      let stage = fresh.stage in
      record {
        guess = 0;
        guesses = [];
        at = first_lane l low
            ∙ (λ i. Some (lane_at asks (sym call i) (core_stage (sym stage i)) 0 []));
        own = sym (nothing_placed l 0 (drop 0 asks))
            ∙ (λ i. all_asked l 0 (take (sym call i) asks)
            ++ placed (core_stage (sym stage i)) l (sym call i) (drop (sym call i) asks));
        count = ap (λ n. Rattle.context_books.specs.Guesses.guess_count (take n asks)) (sym call);
        within = omega arith;
        progress = progress;
        tools = record {
          rows = fresh.rows;
          steps_room =
              let all : unsettled lane.stage (drop lane.call calls) ≡ calls =
              (λ i. unsettled (stage i) (drop (call i) calls)) in
              let sum = ap (sum_by opened_count) all in
              let none = fresh.settled in
              let room = fresh.steps in
              omega arith;
        };
        stage = λ other at. subst (IsAt plan contexts first l lane other 0) (sym stage) tt;
        notes = fresh.notes;
        done = λ k other less at. absurd (omega arith);
      }

  -- ---- all of them

  pub begun_follows : (books : Books) (fresh lanes : List Lane) (answers : List LaneAnswers)
      → books.books.items ≡ map (fresh_at plan contexts) (range_with_len 0 (length contexts))
      → books.places ≡ 0 → books.checks ≤ 0
      → length fresh ≡ length plan.lanes → AreFresh plan.lanes fresh
      → answers ≡ map (lane_room plan (export_limits contexts)) plan.lanes
      → length lanes ≡ length fresh
      → ((l : ℕ) (lane : Lane) (given : LaneAnswers) → l < length fresh
      → get_or lanes l lane ≡ with_answers (get_or fresh l lane) (get_or answers l given))
      → IsRehearsal plan contexts first lanes books
  begun_follows books fresh lanes answers books_are places checks count are_fresh answers_are same
      given =
      record {
        books_follow = fresh_books books books_are places checks;
        count = same ∙ count;
        core_count = length-map batch at_first
            ∙ length-map plan.lanes (map (ask_of plan contexts));
        each = λ l lane at.
            let low : l < length plan.lanes = (let a = slice_get_within lanes l lane at in omega arith) in
            let blank : LaneAnswers = record { pool = []; replies = []; batches = [] } in
            let one = are_fresh l [] lane low in
            let lane_is : lane ≡ with_answers (get_or fresh l lane) (get_or answers l blank) =
            sym (get_or_from_slice_get lanes l lane lane at) ∙ given l lane blank (omega arith) in
            let room : get_or answers l blank
            ≡ lane_room plan (export_limits contexts) (lane_calls plan l) =
            ap (λ xs. get_or xs l blank) answers_are
            ∙ get_or-map (lane_room plan (export_limits contexts)) plan.lanes l [] blank low in
            subst (IsLane plan contexts first l) (sym lane_is)
            (begins l (with_answers (get_or fresh l lane) (get_or answers l blank)) low
            (record {
              call = one.call;
              stage = one.stage;
              notes = one.notes;
              rows = one.rows;
              settled = one.settled;
              steps = one.steps;
            })
            (ap begun room));
        others = λ l high. refl;
      }

-- the room of each lane is small
pub pools_small : (plan : Plan) (limits : List ℕ) (answers : List LaneAnswers)
    → IsWithinLimits plan → answers ≡ map (lane_room plan limits) plan.lanes
    → All (λ (given : LaneAnswers). length given.pool < 2 ^ 32) answers
pools_small plan limits answers within is =
    subst (All (λ (given : LaneAnswers). length given.pool < 2 ^ 32)) (sym is)
    (λ k d low.
    let count = length-map plan.lanes (lane_room plan limits) in
    let there : k < length plan.lanes = omega arith in
    let calls = get_or plan.lanes k [] in
    let room = get_or-map (lane_room plan limits) plan.lanes k [] d there in
    let small = (lane_is_small plan limits calls (lane_within plan within k [] there)).room in
    let size = length-replicate {A = ℕ} (sum_by (call_room plan limits) calls) 0 in
    subst (λ (given : LaneAnswers). length given.pool < 2 ^ 32) (sym room) (omega (arith, small, size)))
