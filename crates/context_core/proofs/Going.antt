-- A lane that goes on with the core, and the others meanwhile.
use Rattle.std.proofs.Common.{◌≡◌, ◌<◌, ◌≤◌, ℕ, ◌+◌, List, [], ◌++◌, length, take, drop, sym, refl, ap, ◌∙◌, subst, arith, Option, Some, None, inl, inr}
use Rattle.std.specs.Prelude.{slice_get, slice_set, slice_index_or, sum_by}
use Rattle.std.specs.List.{All}
use Rattle.std.proofs.lemmas.Bool.{cases_lt}
use Rattle.std.proofs.lemmas.List.{length-set}
use Rattle.std.proofs.lemmas.Option.{slice_get_within}
use Rattle.hpke_context.specs.Answers.{Cipher}
use Rattle.hpke_context.specs.Contexts.{ContextView, cipher_of}
use Rattle.context_books.specs.Batches.{Batch, Ask, Spot, asked, lane_of, on}
use Rattle.context_books.specs.Merging.{all_asked, own_spots}
use Rattle.context_books.specs.Guesses.{guess_of, guess_count}
use Rattle.context_books.proofs.Lists.{own_spots-append, append-nil}
use Rattle.context_core.specs.Core as core
use Rattle.context_core.specs.Core.{Core, Moved, step, due_in, with_moved, happens_at, happens}
use Rattle.context_core.proofs.ScheduleLists.{one_value, slice_get-set_same}
use Rattle.context_core.specs.CoreStages as core_steps
use Rattle.context_core.specs.CoreStages.{placed, lane_at}
use Rattle.context_core.proofs.Matching.{moved_to}
use Rattle.batch_plans.specs.declared.plan.Plan.{Plan}
use Rattle.batch_plans.specs.declared.plan.CallLine.{CallLine}
use Rattle.batch_plans.specs.Limits.{items_of}
use Rattle.batch_plans.specs.Within.{IsWithinLimits}
use Rattle.speculative_open.specs.Tables.{TableView}
use Rattle.context_books.specs.Standing.{standing_at}
use Rattle.context_books.specs.ContextLines.{AreOfLines}
use Rattle.context_books.specs.Asks.{asked_by, ask_of, batch_of, cipher_at}
use Rattle.context_books.specs.Lanes.{AllServed}
use Rattle.context_books.proofs.Placed.{fitting_places_are_served}
use Rattle.context_books.proofs.Done.{ask_at}
use Rattle.context_books.proofs.KeptGuesses.{guesses_more}
use Rattle.context_core.specs.declared.books.Books.{Books}
use Rattle.context_core.specs.declared.lanes.Lane.{Lane}
use Rattle.context_core.specs.declared.lanes.Stage.{Stage}
use Rattle.context_core.specs.declared.lanes.Stage.TheVariants.{Fresh, Drawn, Guessed, Tested, Settled}
use Rattle.context_books.specs.LaneCalls.{lane_calls}
use Rattle.context_core.specs.Following.{run_of, core_stage, opened_count, unsettled, Finishes, AreBooks, IsBookOf, IsAt, IsDone, IsLane}
use Rattle.context_core.proofs.Histories.{places_are}
use Rattle.context_core.proofs.Runs.{stands_stay}
use Rattle.context_core.proofs.Notes.{settled_stays, done_stays, fewer_to_settle, noted_before, noted_now}
use Rattle.context_core.proofs.Adding.{all_asked_more, nothing_placed}

module _ (plan : Plan) (contexts : List (Option ContextView)) where
  abbrev batch : Batch
  batch = batch_of plan contexts

  abbrev ciphers : ℕ → Cipher
  ciphers = cipher_at contexts

  -- ---- the core's next state

  -- a lane is in another state, and these places are given
  abbrev pub gone : Core → ℕ → core.Lane → List Spot → Core
  gone w l s given = record { history = w.history ++ given; lanes = slice_set w.lanes l s }

  pub happens_is : (w : Core) (l : ℕ) (s s' : core.Lane) (given : List Spot)
      → slice_get w.lanes l ≡ Some s
      → step (due_in batch ciphers w.history) l s s.to_come ≡ moved_to s' given
      → happens batch ciphers w l ≡ gone w l s' given
  happens_is w l s s' given at moves =
      ap (happens_at batch ciphers w l) at ∙ ap (λ (m : Moved). with_moved w l m) moves

  -- ---- another lane stays as it is

  at_stays : (w later : Core) (more : List Spot) (k : ℕ) (lane : Lane) (call : CallLine)
      (guess : ℕ) (stage : Stage) → later.history ≡ w.history ++ more
      → IsAt plan contexts w k lane call guess stage
      → IsAt plan contexts later k lane call guess stage
  at_stays w later more k lane call guess Fresh is t = tt
  at_stays w later more k lane call guess (Drawn drawn) is t = record {
    seal = t.seal;
    free = t.free;
    front = t.front;
    stands = stands_stay plan contexts w later more k lane.call (asked_by plan call) t.front is
        t.stands;
    due = t.due;
    below = t.below;
  }
  at_stays w later more k lane call guess (Guessed g) is t = t
  at_stays w later more k lane call guess Tested is t = t
  at_stays w later more k lane call guess (Settled g first missed start) is t = (
    settled_stays plan contexts w later more k lane.call call lane.steps.items lane.steps.items
        lane.settled lane.settled g first missed start is refl (omega arith) t.0,
    t.1,
  )

  pub lane_stays : (w later : Core) (more : List Spot) (k : ℕ) (lane : Lane)
      → later.history ≡ w.history ++ more → own_spots k more ≡ []
      → slice_get later.lanes k ≡ slice_get w.lanes k
      → IsLane plan contexts w k lane → IsLane plan contexts later k lane
  lane_stays w later more k lane is none same t = record {
    guess = t.guess;
    guesses = t.guesses;
    at = same ∙ t.at;
    own = ap (own_spots k) is ∙ own_spots-append k w.history more
        ∙ (λ i. t.own i ++ none i) ∙ append-nil _;
    count = t.count;
    within = t.within;
    progress = t.progress;
    tools = t.tools;
    stage = λ call at. at_stays w later more k lane call t.guess lane.stage is (t.stage call at);
    notes = t.notes;
    done = λ j call low at. subst (λ gs. IsDone plan contexts later k gs j call lane.steps.items
        lane.settled (slice_index_or lane.done.items j Fresh)) (append-nil t.guesses)
        (done_stays plan contexts w later more k j call t.guesses [] lane.steps.items lane.steps.items
        lane.settled lane.settled (slice_index_or lane.done.items j Fresh) is refl (omega arith)
        (t.done j call low at));
  }

  -- ---- journals of books

  pub served_on : (h : List Spot) (books : Books) → AreBooks plan contexts h books
      → (c : ℕ) → AllServed batch c (on c h)
  served_on h books t c = from (standing_at contexts c) refl
    where
      from : (o : Option ContextView) → standing_at contexts c ≡ o → AllServed batch c (on c h)
      from None is = subst (AllServed batch c) (sym (t.absent c is)) (λ p has. absurd has)
      from (Some view) is =
          let b = t.each c view is in
          let of : IsBookOf plan contexts h c view b.0 = b.2 in
          subst (AllServed batch c) (places_are c h b.0.entries of.marks)
          (fitting_places_are_served batch c (cipher_of view) b.0.entries of.fits)

  pub books_same : (h : List Spot) (books : Books) → AreBooks plan contexts h books
      → AreBooks plan contexts (h ++ []) books
  books_same h books t =
      subst (λ (ss : List Spot). AreBooks plan contexts ss books) (sym (append-nil h)) t

  -- ---- the call is done

  module _ (within : IsWithinLimits plan) (standing : AreOfLines plan.contexts contexts)
      (w : Core) (l : ℕ) (lane : Lane) (books : Books) (follows : AreBooks plan contexts w.history books)
      (t : IsLane plan contexts w l lane) (call : CallLine)
      (call_is : slice_get (lane_calls plan l) lane.call ≡ Some call) where
    abbrev asks : List Ask
    asks = lane_of batch l

    abbrev a : Ask
    a = ask_of plan contexts call

    pub asks_at : slice_get asks lane.call ≡ Some a
    asks_at = ask_at (run_of plan contexts w) l lane.call call call_is

    -- the core's state when the call is done
    abbrev pub after : Core
    after =
        gone w l (lane_at asks (lane.call + 1) core_steps.Fresh t.guess (t.guesses ++ guess_of a t.guess))
        []

    lane_after : slice_get after.lanes l ≡ Some
        (lane_at asks (lane.call + 1) core_steps.Fresh t.guess (t.guesses ++ guess_of a t.guess))
    lane_after = slice_get-set_same w.lanes l _ _ t.at

    pub finished : (new : Lane) → Finishes lane new
        → own_spots l w.history ≡ all_asked l 0 (take lane.call asks) ++ asked l lane.call a
        → IsDone plan contexts w l (t.guesses ++ guess_of a t.guess) lane.call call lane.steps.items
        lane.settled lane.stage
        → IsLane plan contexts after l new
    finished new f own done_now =
        let next = lane.call + 1 in
        let calls = lane_calls plan l in
        let low : lane.call < length calls = slice_get_within calls lane.call call call_is in
        let history : w.history ++ [] ≡ w.history = append-nil w.history in
        let own_all : own_spots l (w.history ++ []) ≡ all_asked l 0 (take next asks) =
        ap (own_spots l) history ∙ own ∙ sym (all_asked_more l lane.call asks a asks_at) in
        let size = guesses_more asks lane.call a t.guesses t.guess asks_at t.count in
        let gs : List ℕ = t.guesses ++ guess_of a t.guess in
        let one_done = λ (k : ℕ) (other : CallLine) (stage : Stage).
        IsDone plan contexts after l gs k other lane.steps.items lane.settled stage in
        let before : (k : ℕ) (other : CallLine) → k < lane.call → slice_get calls k ≡ Some other
        → one_done k other (slice_index_or new.done.items k Fresh) = λ k other low at.
        subst (one_done k other) (sym (ap (λ ss. slice_index_or ss k Fresh) f.done
        ∙ noted_before lane.done.items lane.call k lane.stage low))
        (done_stays plan contexts w after [] l k other t.guesses (guess_of a t.guess) lane.steps.items
        lane.steps.items lane.settled lane.settled (slice_index_or lane.done.items k Fresh) refl refl
        (omega arith) (t.done k other low at)) in
        let here : (k : ℕ) (other : CallLine) → k ≡ lane.call → slice_get calls k ≡ Some other
        → one_done k other (slice_index_or new.done.items k Fresh) = λ k other same at.
        let call_same : call ≡ other = one_value call other
        (sym call_is ∙ ap (slice_get calls) (sym same) ∙ at) in
        subst (one_done k other) (sym (ap (λ ss. slice_index_or ss k Fresh) f.done
        ∙ ap (λ n. slice_index_or (slice_set lane.done.items lane.call lane.stage) n Fresh) same
        ∙ noted_now lane.done.items lane.call lane.stage (let n = t.notes in omega arith)))
        (subst (λ n. one_done n other lane.stage) (sym same)
        (subst (λ (x : CallLine). one_done lane.call x lane.stage) call_same
        (subst (λ xs. IsDone plan contexts after l xs lane.call call lane.steps.items lane.settled
        lane.stage) (append-nil gs)
        (done_stays plan contexts w after [] l lane.call call gs [] lane.steps.items lane.steps.items
        lane.settled lane.settled lane.stage refl refl (omega arith) done_now)))) in
        record {
          guess = t.guess;
          guesses = gs;
          at = lane_after ∙ (λ i. Some (lane_at asks (sym f.call i) (core_stage (sym f.stage i))
              t.guess gs));
          own = own_all ∙ sym (append-nil (all_asked l 0 (take next asks)))
              ∙ (λ i. all_asked l 0 (take next asks)
              ++ sym (nothing_placed l next (drop next asks)) i)
              ∙ (λ i. all_asked l 0 (take (sym f.call i) asks)
              ++ placed (core_stage (sym f.stage i)) l (sym f.call i) (drop (sym f.call i) asks));
          count = size ∙ ap (λ n. guess_count (take n asks)) (sym f.call);
          within = (let c = f.call in omega arith);
          progress = f.progress ∙ t.progress;
          tools = record {
            rows = subst (λ (v : TableView). All (λ c. items_of c ≤ v.room) calls) (sym f.table)
                t.tools.rows;
            steps_room =
                let room = t.tools.steps_room in
                let fewer = fewer_to_settle calls lane.call call lane.stage call_is in
                let left : sum_by opened_count (unsettled new.stage (drop new.call calls))
                ≡ sum_by opened_count (drop next calls) =
                (λ i. sum_by opened_count (unsettled (f.stage i) (drop (f.call i) calls))) in
                let size_is = ap length f.steps in
                let settled_is = f.settled in
                omega arith;
          };
          stage = λ other at. subst (IsAt plan contexts after l new other t.guess) (sym f.stage) tt;
          notes = ap length f.done ∙ length-set lane.done.items lane.call lane.stage ∙ t.notes;
          done = λ k other less at.
              subst (λ n. IsDone plan contexts after l gs k other new.steps.items n
              (slice_index_or new.done.items k Fresh)) (sym f.settled)
              (subst (λ xs. IsDone plan contexts after l gs k other xs lane.settled
              (slice_index_or new.done.items k Fresh)) (sym f.steps)
              (elim (cases_lt k lane.call) [
                | inl low ↦ before k other low at
                | inr high ↦ here k other (let c = f.call in let e : k ≡ lane.call = omega arith in e)
                    at
              ]));
        }
