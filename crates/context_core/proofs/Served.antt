-- Each step of a call that is served, and the finish of one that is refused.
use Rattle.std.proofs.Common.{◌≡◌, ◌<◌, ◌≤◌, ℕ, ◌+◌, List, [], ◌∷◌, ◌++◌, length, take, drop, sym, refl, ap, ◌∙◌, subst, arith, is_some, true, false, Option, Some, None}
use Rattle.std.specs.Prelude.{slice_get, slice_index_or, sum_by, ◌↔◌}
use Rattle.std.specs.List.{All}
use Rattle.call_places.specs.declared.entries.Step.{Step}
use Rattle.call_places.specs.declared.spans.Item.{Item as Spans}
use Rattle.call_places.specs.declared.spans.Span.{Span}
use Rattle.call_places.specs.Spans.{span_bytes}
use Rattle.call_places.specs.Entries.{seq_of}
use Rattle.hpke_context.specs.Answers.{Cipher}
use Rattle.hpke_context.specs.Contexts.{ContextView, cipher_of}
use Rattle.context_books.specs.Batches.{Batch, Ask, Nothing, ToSeal, Spot, asked, block, place, items_in, context_in, lane_of, on}
use Rattle.context_books.specs.Merging.{all_asked, own_spots}
use Rattle.context_books.specs.Legal.{due_after}
use Rattle.context_books.specs.Guesses.{guess_of, guess_count, missed}
use Rattle.context_books.specs.Entries.{steps_from, numbers_from}
use Rattle.context_books.proofs.Lists.{own_spots-append, own_spots-asked, own_places-on, on-append, on-spots_same, append-nil}
use Rattle.context_core.specs.Core.{Core, step, due_in, happens}
use Rattle.context_core.proofs.ScheduleLists.{one_value, slice_get-set_same}
use Rattle.context_core.specs.CoreStages as core_steps
use Rattle.context_core.specs.CoreStages.{placed, lane_at}
use Rattle.context_core.proofs.Matching.{moved_to, nothing_asked, draws, guesses_one, guesses_all, checks, commits, finishes}
use Rattle.context_books.specs.declared.book.Draw.{Draw}
use Rattle.context_books.specs.declared.book.Draw.TheVariants.{Number, Limit}
use Rattle.context_books.specs.Books.{BookView, drawn_step}
use Rattle.context_books.specs.Openings.{unseals, IsTableFor}
use Rattle.batch_plans.specs.declared.plan.Plan.{Plan}
use Rattle.batch_plans.specs.declared.plan.CallLine.{CallLine}
use Rattle.batch_plans.specs.declared.plan.CallLine.TheVariants as calls
use Rattle.batch_plans.specs.declared.replies.CallRefusal.{CallRefusal}
use Rattle.batch_plans.specs.Limits.{items_of}
use Rattle.batch_plans.specs.Within.{IsWithinLimits}
use Rattle.batch_plans.specs.Calls.{context_of}
use Rattle.speculative_open.specs.Tables.{TableView}
use Rattle.context_books.specs.Standing.{standing_at, call_refusal}
use Rattle.context_books.specs.ContextLines.{AreOfLines}
use Rattle.context_books.specs.Asks.{asked_by, ask_unless, ask_of, batch_of, cipher_at, cipher_in}
use Rattle.context_books.proofs.CallLines.{not_yet}
use Rattle.context_books.specs.Lanes.{StandsBehind}
use Rattle.context_books.specs.Writing.{due_at}
use Rattle.context_books.proofs.Items.{length-unseals}
use Rattle.context_core.specs.declared.books.Books.{Books}
use Rattle.context_core.specs.declared.lanes.Lane.{Lane}
use Rattle.context_core.specs.declared.lanes.Stage.{Stage}
use Rattle.context_core.specs.declared.lanes.Stage.TheVariants.{Fresh, Drawn, Guessed, Tested, Settled}
use Rattle.context_core.specs.Books.{book_at, MayAdd, Adds, Draws, Settles}
use Rattle.context_books.specs.LaneCalls.{lane_calls, opening_items, IsOpening}
use Rattle.context_core.specs.Following.{run_of, core_stage, opened_count, steps_at, unsettled, Finishes, IsBookOf, IsAt, IsDone, HasDrawn, HasTested, HasSettled, Opens, HasTools, IsLane, Follows}
use Rattle.context_books.proofs.Draws.{due_at-drawn, drawn_steps}
use Rattle.context_core.proofs.Histories.{due_is}
use Rattle.context_core.proofs.Runs.{journal_there}
use Rattle.context_core.proofs.Allowed.{within_contexts}
use Rattle.context_core.proofs.Adding.{nothing_placed, places_placed, may_add, books_more}
use Rattle.context_books.proofs.Within.{opening_count, opening_asks, opening_context, line_within}
use Rattle.context_core.proofs.Notes.{done_stays, to_settle, call_settled}
use Rattle.context_core.proofs.Going.{gone, happens_is, served_on, books_same, asks_at, after, finished}

pub some_of : {X : Type 0} (o : Option X) → is_some o ≡ true → (x : X) × (o ≡ Some x)
some_of None is = absurd (let f : false ≡ true = is in cc)
some_of (Some x) is = (x, refl)

pub none_of : {X : Type 0} (o : Option X) → is_some o ≡ false → o ≡ None
none_of None is = refl
none_of (Some x) is = absurd (let f : true ≡ false = is in cc)

opened_items : (call : CallLine) → IsOpening call → items_of call ≡ opened_count call
opened_items (calls.Unseal context item) opening = refl
opened_items (calls.UnsealAll context first count) opening = refl
opened_items call opening = absurd opening

module _ (plan : Plan) (contexts : List (Option ContextView)) (within : IsWithinLimits plan)
    (standing : AreOfLines plan.contexts contexts) (l : ℕ) (lane : Lane) (books : Books)
    (call : CallLine) (call_is : slice_get (lane_calls plan l) lane.call ≡ Some call)
    (there : l < length plan.lanes) (w : Core) (t : Follows plan contexts w l lane books) where
  abbrev batch : Batch
  batch = batch_of plan contexts

  abbrev ciphers : ℕ → Cipher
  ciphers = cipher_at contexts

  abbrev asks : List Ask
  asks = lane_of batch l

  abbrev k : ℕ
  k = lane.call

  abbrev a : Ask
  a = ask_of plan contexts call

  abbrev of : IsLane plan contexts w l lane
  of = t.lane_follows

  here : slice_get asks k ≡ Some a
  here = asks_at plan contexts within standing w l lane books t.books_follow of call call_is

  -- the core's lane at a stage that is known
  at_stage : (stage : Stage) → lane.stage ≡ stage
      → slice_get w.lanes l ≡ Some (lane_at asks k (core_stage stage) of.guess of.guesses)
  at_stage stage is = of.at ∙ ap (λ s. Some (lane_at asks k (core_stage s) of.guess of.guesses)) is

  own_at : (stage : Stage) → lane.stage ≡ stage
      → own_spots l w.history
      ≡ all_asked l 0 (take k asks) ++ placed (core_stage stage) l k (drop k asks)
  own_at stage is = of.own
      ∙ ap (λ s. all_asked l 0 (take k asks) ++ placed (core_stage s) l k (drop k asks)) is

  own_fresh : lane.stage ≡ Fresh → own_spots l w.history ≡ all_asked l 0 (take k asks)
  own_fresh is = own_at Fresh is
      ∙ ap (λ ss. all_asked l 0 (take k asks) ++ ss) (nothing_placed l k (drop k asks))
      ∙ append-nil (all_asked l 0 (take k asks))

  -- ---- the call is done

  abbrev done : Core
  done = after plan contexts within standing w l lane books t.books_follow of call call_is

  follows_done : (new : Lane) → happens batch ciphers w l ≡ done → IsLane plan contexts done l new
      → Follows plan contexts (happens batch ciphers w l) l new books
  follows_done new is new_of =
      subst (λ (v : Core). Follows plan contexts v l new books) (sym is)
      (record {
        lane_follows = new_of;
        books_follow = books_same plan contexts w.history books t.books_follow;
      })

  -- it asked nothing
  done_nothing : a ≡ Nothing → lane.stage ≡ Fresh → happens batch ciphers w l ≡ done
  done_nothing none fresh =
      happens_is plan contexts w l _ _ [] (at_stage Fresh fresh)
      (nothing_asked (due_in batch ciphers w.history) l asks k of.guess of.guesses
      (here ∙ ap Some none)
      ∙ ap (λ b. moved_to (lane_at asks (k + 1) core_steps.Fresh of.guess
      (of.guesses ++ guess_of b of.guess)) []) (sym none))

  own_nothing : a ≡ Nothing → lane.stage ≡ Fresh
      → own_spots l w.history ≡ all_asked l 0 (take k asks) ++ asked l k a
  own_nothing none fresh = own_fresh fresh ∙ sym (append-nil (all_asked l 0 (take k asks)))
      ∙ ap (λ b. all_asked l 0 (take k asks) ++ asked l k b) (sym none)

  -- its places stand
  done_placed : (stage : Stage) → lane.stage ≡ stage → core_stage stage ≡ core_steps.HasPlaces
      → happens batch ciphers w l ≡ done
  done_placed stage is has =
      happens_is plan contexts w l _ _ [] (at_stage stage is
      ∙ ap (λ s. Some (lane_at asks k s of.guess of.guesses)) has)
      (finishes (due_in batch ciphers w.history) l asks k of.guess of.guesses a here)

  own_placed : (stage : Stage) → lane.stage ≡ stage → core_stage stage ≡ core_steps.HasPlaces
      → own_spots l w.history ≡ all_asked l 0 (take k asks) ++ asked l k a
  own_placed stage is has = own_at stage is
      ∙ ap (λ s. all_asked l 0 (take k asks) ++ placed s l k (drop k asks)) has
      ∙ ap (λ ss. all_asked l 0 (take k asks) ++ ss) (places_placed l k asks a here)

  -- by its last stage
  abbrev is_done : Stage → Type 0
  is_done stage = IsDone plan contexts w l (of.guesses ++ guess_of a of.guess) k call lane.steps.items
      lane.settled stage

  follows_finish : (new : Lane) (stage : Stage) → lane.stage ≡ stage → Finishes lane new
      → happens batch ciphers w l ≡ done
      → own_spots l w.history ≡ all_asked l 0 (take k asks) ++ asked l k a → is_done stage
      → Follows plan contexts (happens batch ciphers w l) l new books
  follows_finish new stage is f happens_done own now =
      follows_done new happens_done
      (finished plan contexts within standing w l lane books t.books_follow of call call_is new f own
      (subst is_done (sym is) now))

  pub done_fresh : (new : Lane) → lane.stage ≡ Fresh → a ≡ Nothing → Finishes lane new
      → Follows plan contexts (happens batch ciphers w l) l new books
  done_fresh new fresh none f =
      follows_finish new Fresh fresh f (done_nothing none fresh) (own_nothing none fresh) none

  pub done_drawn : (new : Lane) (drawn : Draw) → lane.stage ≡ Drawn drawn → Finishes lane new
      → Follows plan contexts (happens batch ciphers w l) l new books
  done_drawn new drawn is f =
      follows_finish new (Drawn drawn) is f (done_placed (Drawn drawn) is refl)
      (own_placed (Drawn drawn) is refl)
      (subst (IsAt plan contexts w l lane call of.guess) is (of.stage call call_is))

  pub done_settled : (new : Lane) (guess first misses start : ℕ)
      → lane.stage ≡ Settled guess first misses start → Finishes lane new
      → Follows plan contexts (happens batch ciphers w l) l new books
  done_settled new guess first misses start is f =
      let now = subst (IsAt plan contexts w l lane call of.guess) is (of.stage call call_is) in
      follows_finish new (Settled guess first misses start) is f
      (done_placed (Settled guess first misses start) is refl)
      (own_placed (Settled guess first misses start) is refl) (
        now.0,
        record {
          before = of.guesses;
          behind = [];
          stands = ap (λ gs. of.guesses ++ gs) (ap (guess_of a) (sym now.1)
              ∙ sym (append-nil (guess_of a guess)));
          count = of.count;
        },
      )

  pub refused_nothing : (why : CallRefusal) → call_refusal contexts call ≡ Some why → a ≡ Nothing
  refused_nothing why refused = ap (λ r. ask_unless r (asked_by plan call)) refused

  pub export_nothing : (context : ℕ) (exporter : Span) (size : ℕ)
      → call ≡ calls.Export context exporter size → call_refusal contexts call ≡ None → a ≡ Nothing
  export_nothing context exporter size is free =
      ap (λ r. ask_unless r (asked_by plan call)) free ∙ ap (asked_by plan) is

  -- ---- a step in the midst of a call

  -- what stays of the lane
  pub record GoesOn (new : Lane) : Type 0 where
    pub same : new.call ≡ k
    pub progress : new.progress ≡ lane.progress
    pub notes : new.done.items ≡ lane.done.items
    pub kept : take lane.settled new.steps.items ≡ take lane.settled lane.steps.items
    pub grown : lane.settled ≤ new.settled
    pub tools : HasTools plan contexts (lane_calls plan l) new

  moved : (new : Lane) (stage : core_steps.Stage) (guess : ℕ) (given : List Spot)
      → GoesOn new → core_stage new.stage ≡ stage
      → own_spots l (w.history ++ given)
      ≡ all_asked l 0 (take k asks) ++ placed stage l k (drop k asks)
      → IsAt plan contexts (gone plan contexts w l (lane_at asks k stage guess of.guesses) given) l
      new call guess new.stage
      → IsLane plan contexts (gone plan contexts w l (lane_at asks k stage guess of.guesses) given)
      l new
  moved new stage guess given g stage_is own is_at =
      let v = gone plan contexts w l (lane_at asks k stage guess of.guesses) given in
      let calls = lane_calls plan l in
      let same = g.same in
      record {
        guess = guess;
        guesses = of.guesses;
        at = slice_get-set_same w.lanes l _ _ of.at
            ∙ (λ i. Some (lane_at asks (sym same i) (sym stage_is i) guess of.guesses));
        own = own ∙ (λ i. all_asked l 0 (take (sym same i) asks)
            ++ placed (sym stage_is i) l (sym same i) (drop (sym same i) asks));
        count = of.count ∙ ap (λ n. guess_count (take n asks)) (sym same);
        within = subst (λ n. n ≤ length calls) (sym same) of.within;
        progress = g.progress ∙ of.progress;
        tools = g.tools;
        stage = λ other at.
            let call_same : call ≡ other = one_value call other
            (sym call_is ∙ ap (slice_get calls) (sym same) ∙ at) in
            subst (λ (x : CallLine). IsAt plan contexts v l new x guess new.stage) call_same is_at;
        notes = ap length g.notes ∙ of.notes;
        done = λ j other low at.
            subst (λ ss. IsDone plan contexts v l of.guesses j other new.steps.items new.settled
            (slice_index_or ss j Fresh)) (sym g.notes)
            (subst (λ gs. IsDone plan contexts v l gs j other new.steps.items new.settled
            (slice_index_or lane.done.items j Fresh)) (append-nil of.guesses)
            (done_stays plan contexts w v given l j other of.guesses [] lane.steps.items
            new.steps.items lane.settled new.settled (slice_index_or lane.done.items j Fresh) refl
            g.kept g.grown (of.done j other (let c = g.same in omega arith) at)));
      }

  -- nothing but its stage and its table is new
  pub record IsNext (new : Lane) (now : Stage) : Type 0 where
    pub same : new.call ≡ k
    pub stage : new.stage ≡ now
    pub progress : new.progress ≡ lane.progress
    pub notes : new.done.items ≡ lane.done.items
    pub rows : new.table.room ≡ lane.table.room
    pub steps : new.steps.items ≡ lane.steps.items
    pub settled : new.settled ≡ lane.settled

  goes_on : (new : Lane) (before stage : Stage) → lane.stage ≡ before → IsNext new stage
      → unsettled before (drop k (lane_calls plan l)) ≡ drop k (lane_calls plan l)
      → unsettled stage (drop k (lane_calls plan l)) ≡ drop k (lane_calls plan l) → GoesOn new
  goes_on new before stage is n none_before none_now =
      let calls = lane_calls plan l in
      let then : unsettled lane.stage (drop k calls) ≡ drop k calls =
      ap (λ s. unsettled s (drop k calls)) is ∙ none_before in
      let now : unsettled new.stage (drop new.call calls) ≡ drop k calls =
      (λ i. unsettled (n.stage i) (drop (n.same i) calls)) ∙ none_now in
      record {
        same = n.same;
        progress = n.progress;
        notes = n.notes;
        kept = ap (take lane.settled) n.steps;
        grown = (let e = n.settled in omega arith);
        tools = record {
          rows = subst (λ room. All (λ c. items_of c ≤ room) calls) (sym n.rows) of.tools.rows;
          steps_room =
              let room = of.tools.steps_room in
              let a_is = ap (sum_by opened_count) then in
              let b_is = ap (sum_by opened_count) now in
              let size = ap length n.steps in
              let settled_is = n.settled in
              omega arith;
        };
      }

  -- no place is given
  own_still : (stage : Stage) → lane.stage ≡ stage
      → own_spots l (w.history ++ [])
      ≡ all_asked l 0 (take k asks) ++ placed (core_stage stage) l k (drop k asks)
  own_still stage is = ap (own_spots l) (append-nil w.history) ∙ own_at stage is

  -- the call's places are given
  own_given : own_spots l w.history ≡ all_asked l 0 (take k asks)
      → own_spots l (w.history ++ asked l k a)
      ≡ all_asked l 0 (take k asks) ++ placed core_steps.HasPlaces l k (drop k asks)
  own_given own =
      own_spots-append l w.history (asked l k a)
      ∙ (λ i. own i ++ own_spots-asked l k a i)
      ∙ ap (λ ss. all_asked l 0 (take k asks) ++ ss) (sym (places_placed l k asks a here))

  -- ---- the places of a call that is served

  ask_is_free : call_refusal contexts call ≡ None → a ≡ asked_by plan call
  ask_is_free free = ap (λ r. ask_unless r (asked_by plan call)) free

  module _ (free : call_refusal contexts call ≡ None) (view : ContextView)
      (stands : standing_at contexts (context_in a) ≡ Some view) where
    abbrev c : ℕ
    c = context_in a

    cipher_is : ciphers c ≡ cipher_of view
    cipher_is = ap cipher_in stands

    due_now : (book : BookView) → book_at books c ≡ Some book
        → due_after batch (ciphers c) (on c w.history) ≡ seq_of book.entries
    due_now book is =
        let b = t.books_follow.each c view stands in
        let book_of : IsBookOf plan contexts w.history c view b.0 = b.2 in
        let same : b.0 ≡ book = one_value b.0 book (sym b.1 ∙ is) in
        ap (λ (x : Cipher). due_after batch x (on c w.history)) cipher_is
        ∙ due_is batch c (cipher_of view) w.history b.0.entries book_of.marks book_of.fits
        ∙ ap (λ (o : BookView). seq_of o.entries) same

    stands_now : (v : Core) → v.history ≡ w.history ++ asked l k a
        → own_spots l w.history ≡ all_asked l 0 (take k asks)
        → StandsBehind (run_of plan contexts v) l k a (on c w.history)
    stands_now v is own =
        let low : c < length plan.contexts = (let x = within_contexts contexts c view stands in
        let y = standing.count in omega arith) in
        let b = block l k 0 (length (items_in a)) in
        record {
          after = [];
          stands = journal_there plan contexts v c low ∙ ap (on c) is
              ∙ on-append c w.history (asked l k a)
              ∙ ap (λ ps. on c w.history ++ ps) (on-spots_same c b ∙ sym (append-nil b));
          served = served_on plan contexts w.history books t.books_follow c;
          fresh = not_yet (run_of plan contexts v) l k c (on c w.history)
              (own_places-on l c w.history ∙ ap (on c) own);
        }

  -- ---- a seal

  module _ (number : ℕ) (item : Spans) (is : call ≡ calls.Seal number item)
      (free : call_refusal contexts call ≡ None) (view : ContextView)
      (stands : standing_at contexts number ≡ Some view) where
    abbrev aad : List ℕ
    aad = span_bytes plan.pool item.aad

    abbrev text : List ℕ
    text = span_bytes plan.pool item.text

    seal_ask : a ≡ ToSeal number aad text
    seal_ask = ask_is_free free ∙ ap (asked_by plan) is

    seal_stands : standing_at contexts (context_in a) ≡ Some view
    seal_stands = ap (λ b. standing_at contexts (context_in b)) seal_ask ∙ stands

    pub may_draw : lane.stage ≡ Fresh → books.places ≤ 65536 → MayAdd books number l 1
    may_draw fresh few =
        subst (λ b. MayAdd books (context_in b) l (length (items_in b))) seal_ask
        (may_add plan contexts w.history books t.books_follow l k a here view seal_stands there few
        (own_fresh fresh))

    drawn_lane : (new : Lane) (drawn : Draw) → lane.stage ≡ Fresh → IsNext new (Drawn drawn)
        → (book : BookView) → book_at books number ≡ Some book
        → seq_of book.entries ≡ due_at view.limit drawn
        → ((n : ℕ) → drawn ≡ Number n → n < view.limit)
        → IsLane plan contexts (gone plan contexts w l (lane_at asks k core_steps.HasPlaces of.guess
        of.guesses) (asked l k a)) l new
    drawn_lane new drawn fresh n book book_is due below =
        let v = gone plan contexts w l (lane_at asks k core_steps.HasPlaces of.guess of.guesses)
        (asked l k a) in
        let cipher : ciphers number ≡ cipher_of view = ap cipher_in stands in
        let context_is : context_in a ≡ number = ap context_in seal_ask in
        let limit_is : view.limit ≡ (ciphers number).limit = sym (ap (λ (x : Cipher). x.limit) cipher) in
        let is_at : HasDrawn plan contexts v l new.call (calls.Seal number item) drawn = record {
          seal = tt;
          free = ap (call_refusal contexts) (sym is) ∙ free;
          front = on (context_in a) w.history;
          stands = subst (λ j. StandsBehind (run_of plan contexts v) l j
              (asked_by plan (calls.Seal number item)) (on (context_in a) w.history)) (sym n.same)
              (subst (λ b. StandsBehind (run_of plan contexts v) l k b (on (context_in a) w.history))
              seal_ask (stands_now free view seal_stands v refl (own_fresh fresh)));
          due = ap (λ j. due_after batch (ciphers j) (on (context_in a) w.history)) (sym context_is)
              ∙ due_now free view seal_stands book (ap (book_at books) context_is ∙ book_is)
              ∙ due ∙ ap (λ j. due_at j drawn) limit_is;
          below = λ j e. subst (λ m. j < m) limit_is (below j e);
        } in
        moved new core_steps.HasPlaces of.guess (asked l k a)
        (goes_on new Fresh (Drawn drawn) fresh n refl refl)
        (ap core_stage n.stage) (own_given (own_fresh fresh))
        (subst (IsAt plan contexts v l new call of.guess) (sym n.stage)
        (subst (λ (x : CallLine). HasDrawn plan contexts v l new.call x drawn) (sym is) is_at))

    pub drawn_follows : (new : Lane) (new_books : Books) (drawn : Draw) → lane.stage ≡ Fresh
        → IsNext new (Drawn drawn)
        → ((book : BookView) → book_at books number ≡ Some book
        → Draws books new_books number (place l k 0) book drawn)
        → Follows plan contexts (happens batch ciphers w l) l new new_books
    drawn_follows new new_books drawn fresh next drawing =
        let b = t.books_follow.each number view stands in
        let book_of : IsBookOf plan contexts w.history number view b.0 = b.2 in
        let d = drawing b.0 b.1 in
        let view_limit : b.0.limit ≡ view.limit = book_of.limit in
        let full = subst (λ n. (drawn ≡ Limit) ↔ (seq_of b.0.entries ≡ n)) view_limit d.limit in
        let number_is = subst (λ m. (n : ℕ) → drawn ≡ Number n → (n ≡ seq_of b.0.entries) × (n < m))
        view_limit d.number_is in
        let step_is : drawn_step drawn ∷ [] ≡ steps_from (cipher_of view) (seq_of b.0.entries)
        (items_in a) =
        ap (λ s. s ∷ []) (drawn_steps (cipher_of view) (seq_of b.0.entries) aad text drawn full
        number_is)
        ∙ ap (λ b'. steps_from (cipher_of view) (seq_of b.0.entries) (items_in b')) (sym seal_ask) in
        let context_is : number ≡ context_in a = sym (ap context_in seal_ask) in
        let count : 1 ≡ length (items_in a) = sym (ap (λ b'. length (items_in b')) seal_ask) in
        let adds = subst (λ n. Adds books new_books (context_in a) n b.0 d.after) count
        (subst (λ n. Adds books new_books n 1 b.0 d.after) context_is d.adds) in
        let events = happens_is plan contexts w l _ _ (asked l k a) (at_stage Fresh fresh)
        (subst (λ b'. step (due_in batch ciphers w.history) l
        (lane_at asks k core_steps.Fresh of.guess of.guesses)
        (lane_at asks k core_steps.Fresh of.guess of.guesses).to_come
        ≡ moved_to (lane_at asks k core_steps.HasPlaces of.guess of.guesses) (asked l k b'))
        (sym seal_ask)
        (draws (due_in batch ciphers w.history) l asks k of.guess of.guesses number aad text
        (here ∙ ap Some seal_ask))) in
        subst (λ (v : Core). Follows plan contexts v l new new_books) (sym events) (record {
          lane_follows = drawn_lane new drawn fresh next b.0 b.1
              (sym (due_at-drawn view.limit (seq_of b.0.entries) drawn full number_is))
              (λ n e. (number_is n e).1);
          books_follow = books_more plan contexts w.history books t.books_follow l k a here view
              seal_stands new_books b.0 d.after (drawn_step drawn ∷ [])
              (ap (book_at books) (sym context_is) ∙ b.1) adds d.entries step_is;
        })

  -- ---- an opening

  module _ (opening : IsOpening call) (free : call_refusal contexts call ≡ None)
      (view : ContextView) (stands : standing_at contexts (context_of call) ≡ Some view) where
    abbrev items : List Spans
    items = opening_items plan call

    ask_opens : a ≡ asked_by plan call
    ask_opens = ask_is_free free

    context_is : context_in a ≡ context_of call
    context_is = ap context_in ask_opens ∙ opening_context plan call opening

    items_are : items_in a ≡ unseals plan.pool items
    items_are = ap items_in ask_opens ∙ opening_asks plan call opening

    opening_stands : standing_at contexts (context_in a) ≡ Some view
    opening_stands = ap (standing_at contexts) context_is ∙ stands

    cipher_of_call : ciphers (context_of call) ≡ cipher_of view
    cipher_of_call = ap cipher_in stands

    items_count : length (items_in a) ≡ length items
    items_count = ap length items_are ∙ length-unseals plan.pool items

    -- Guess
    guess_step : (due : ℕ → ℕ)
        → step due l (lane_at asks k core_steps.Fresh of.guess of.guesses)
        (lane_at asks k core_steps.Fresh of.guess of.guesses).to_come
        ≡ moved_to (lane_at asks k core_steps.HasGuess (due (context_in a)) of.guesses) []
    guess_step due = from call opening (here ∙ ap Some ask_opens) (ap context_in (sym ask_opens))
      where
        from : (x : CallLine) → IsOpening x → slice_get asks k ≡ Some (asked_by plan x)
            → context_in (asked_by plan x) ≡ context_in a
            → step due l (lane_at asks k core_steps.Fresh of.guess of.guesses)
            (lane_at asks k core_steps.Fresh of.guess of.guesses).to_come
            ≡ moved_to (lane_at asks k core_steps.HasGuess (due (context_in a)) of.guesses) []
        from (calls.Unseal c item) o at same =
            guesses_one due l asks k of.guess of.guesses c _ _ at
            ∙ ap (λ n. moved_to (lane_at asks k core_steps.HasGuess (due n) of.guesses) []) same
        from (calls.UnsealAll c first count) o at same =
            guesses_all due l asks k of.guess of.guesses c _ at
            ∙ ap (λ n. moved_to (lane_at asks k core_steps.HasGuess (due n) of.guesses) []) same
        from call o at same = absurd o

    pub guessed_follows : (new : Lane) (guess : ℕ) → lane.stage ≡ Fresh
        → IsNext new (Guessed guess)
        → ((book : BookView) → book_at books (context_of call) ≡ Some book
        → guess ≡ seq_of book.entries)
        → Follows plan contexts (happens batch ciphers w l) l new books
    guessed_follows new guess fresh next due =
        let b = t.books_follow.each (context_of call) view stands in
        let now : ℕ = due_in batch ciphers w.history (context_in a) in
        let guess_is : guess ≡ now = due b.0 b.1
        ∙ sym (due_now free view opening_stands b.0 (ap (book_at books) context_is ∙ b.1)) in
        let v = gone plan contexts w l (lane_at asks k core_steps.HasGuess now of.guesses) [] in
        let is_at : IsAt plan contexts v l new call now (Guessed guess) =
        (record { opening = opening; free = free }, guess_is) in
        subst (λ (u : Core). Follows plan contexts u l new books)
        (sym (happens_is plan contexts w l _ _ [] (at_stage Fresh fresh)
        (guess_step (due_in batch ciphers w.history)))) (record {
          lane_follows = moved new core_steps.HasGuess now []
              (goes_on new Fresh (Guessed guess) fresh next refl refl) (ap core_stage next.stage)
              (own_still Fresh fresh ∙ ap (λ ss. all_asked l 0 (take k asks) ++ ss)
              (nothing_placed l k (drop k asks) ∙ sym (none_guessed l k (drop k asks))))
              (subst (IsAt plan contexts v l new call now) (sym next.stage) is_at);
          books_follow = books_same plan contexts w.history books t.books_follow;
        })
      where
        none_guessed : (l k : ℕ) (asks : List Ask) → placed core_steps.HasGuess l k asks ≡ []
        none_guessed l k [] = refl
        none_guessed l k (x ∷ _) = refl

    -- Check
    pub tested_follows : (new : Lane) (guess : ℕ) → lane.stage ≡ Guessed guess
        → IsNext new Tested
        → new.table.guess ≡ guess → IsTableFor view plan.pool items new.table
        → Follows plan contexts (happens batch ciphers w l) l new books
    tested_follows new guess stage next table_guess table =
        let old = subst (IsAt plan contexts w l lane call of.guess) stage (of.stage call call_is) in
        let v = gone plan contexts w l (lane_at asks k core_steps.HasTests of.guess of.guesses) [] in
        let is_at : IsAt plan contexts v l new call of.guess Tested = record {
          opens = old.0;
          guess_is = table_guess ∙ old.1;
          table = λ other at. subst (λ (x : ContextView). IsTableFor x plan.pool items new.table)
              (one_value view other (sym stands ∙ at)) table;
        } in
        subst (λ (u : Core). Follows plan contexts u l new books)
        (sym (happens_is plan contexts w l _ _ [] (at_stage (Guessed guess) stage)
        (checks (due_in batch ciphers w.history) l asks k of.guess of.guesses a here))) (record {
          lane_follows = moved new core_steps.HasTests of.guess []
              (goes_on new (Guessed guess) Tested stage next refl refl) (ap core_stage next.stage)
              (own_still (Guessed guess) stage
              ∙ ap (λ ss. all_asked l 0 (take k asks) ++ ss) (same_placed l k (drop k asks)))
              (subst (IsAt plan contexts v l new call of.guess) (sym next.stage) is_at);
          books_follow = books_same plan contexts w.history books t.books_follow;
        })
      where
        same_placed : (l k : ℕ) (asks : List Ask)
            → placed core_steps.HasGuess l k asks ≡ placed core_steps.HasTests l k asks
        same_placed l k [] = refl
        same_placed l k (x ∷ _) = refl

    -- Commit
    own_tested : lane.stage ≡ Tested → own_spots l w.history ≡ all_asked l 0 (take k asks)
    own_tested stage = own_at Tested stage
        ∙ ap (λ ss. all_asked l 0 (take k asks) ++ ss) (none_tested l k (drop k asks))
        ∙ append-nil (all_asked l 0 (take k asks))
      where
        none_tested : (l k : ℕ) (asks : List Ask) → placed core_steps.HasTests l k asks ≡ []
        none_tested l k [] = refl
        none_tested l k (x ∷ _) = refl

    pub may_settle : lane.stage ≡ Tested → books.places ≤ 65536
        → MayAdd books (context_of call) l (length items)
    may_settle stage few =
        subst (λ n. MayAdd books (context_of call) l n) items_count
        (subst (λ n. MayAdd books n l (length (items_in a))) context_is
        (may_add plan contexts w.history books t.books_follow l k a here view opening_stands there
        few (own_tested stage)))

    -- the lane has these steps more
    pub record IsSettledNext (new : Lane) (first misses : ℕ) : Type 0 where
      pub same : new.call ≡ k
      pub stage : new.stage ≡ Settled lane.table.guess first misses lane.settled
      pub progress : new.progress ≡ lane.progress
      pub notes : new.done.items ≡ lane.done.items
      pub table : new.table ≡ lane.table
      pub kept : take lane.settled new.steps.items ≡ take lane.settled lane.steps.items
      pub size : length new.steps.items ≡ length lane.steps.items
      pub settled : new.settled ≡ lane.settled + length items

    settles_on : (new : Lane) (first misses : ℕ) → lane.stage ≡ Tested
        → IsSettledNext new first misses → GoesOn new
    settles_on new first misses stage n =
        let calls = lane_calls plan l in
        let count : length items ≡ opened_count call =
        opening_count plan call opening (line_within plan l k call within there call_is)
        ∙ opened_items call opening in
        let now : unsettled new.stage (drop new.call calls) ≡ drop (k + 1) calls =
        (λ i. unsettled (n.stage i) (drop (n.same i) calls)) ∙ call_settled calls k call call_is in
        record {
          same = n.same;
          progress = n.progress;
          notes = n.notes;
          kept = n.kept;
          grown = (let e = n.settled in omega arith);
          tools = record {
            rows = subst (λ (x : TableView). All (λ c. items_of c ≤ x.room) calls) (sym n.table)
                of.tools.rows;
            steps_room =
                let room = of.tools.steps_room in
                let before = ap (λ s. sum_by opened_count (unsettled s (drop k calls))) stage in
                let parts = to_settle calls k call call_is in
                let after = ap (sum_by opened_count) now in
                let size_is = n.size in
                let settled_is = n.settled in
                omega arith;
          };
        }

    pub settled_follows : (new : Lane) (new_books : Books) (first misses : ℕ) → lane.stage ≡ Tested
        → IsSettledNext new first misses
        → (settled : List Step) → steps_at plan call new.steps.items lane.settled ≡ settled
        → ((book : BookView) → book_at books (context_of call) ≡ Some book
        → Settles books new_books (context_of call) book view plan.pool items l k
        lane.table.guess first misses settled)
        → Follows plan contexts (happens batch ciphers w l) l new new_books
    settled_follows new new_books first misses stage next settled settled_are settling =
        let b = t.books_follow.each (context_of call) view stands in
        let s = settling b.0 b.1 in
        let old : HasTested plan contexts lane call of.guess =
        subst (IsAt plan contexts w l lane call of.guess) stage (of.stage call call_is) in
        let v = gone plan contexts w l (lane_at asks k core_steps.HasPlaces of.guess of.guesses)
        (asked l k a) in
        let book_here : book_at books (context_in a) ≡ Some b.0 =
        ap (book_at books) context_is ∙ b.1 in
        let steps_are : settled ≡ steps_from (cipher_of view) first (unseals plan.pool items) =
        s.steps_are in
        let has : HasSettled plan contexts v l new.call call
        (steps_at plan call new.steps.items lane.settled) lane.table.guess first misses = record {
          opens = old.opens;
          front = on (context_in a) w.history;
          stands = subst (λ n. StandsBehind (run_of plan contexts v) l n (asked_by plan call)
              (on (context_in a) w.history)) (sym next.same)
              (subst (λ x. StandsBehind (run_of plan contexts v) l k x
              (on (context_in a) w.history)) ask_opens
              (stands_now free view opening_stands v refl (own_tested stage)));
          due = ap (λ n. due_after batch (ciphers n) (on (context_in a) w.history)) (sym context_is)
              ∙ due_now free view opening_stands b.0 book_here ∙ sym s.first_is;
          steps = settled_are ∙ steps_are
              ∙ ap (λ (x : Cipher). steps_from x first (unseals plan.pool items))
              (sym cipher_of_call);
          missed_is = s.missed_is
              ∙ ap (λ (x : Cipher). missed lane.table.guess 0 (numbers_from x first
              (unseals plan.pool items))) (sym cipher_of_call);
        } in
        let is_at : IsAt plan contexts v l new call of.guess
        (Settled lane.table.guess first misses lane.settled) =
        (record { has = has; low = (let e = next.settled in omega arith) }, old.guess_is) in
        let adds = subst (λ n. Adds books new_books (context_in a) n b.0 s.after) (sym items_count)
        (subst (λ n. Adds books new_books n (length items) b.0 s.after) (sym context_is) s.adds) in
        let steps_here : settled ≡ steps_from (cipher_of view) (seq_of b.0.entries) (items_in a) =
        steps_are ∙ ap (λ n. steps_from (cipher_of view) n (unseals plan.pool items)) s.first_is
        ∙ ap (steps_from (cipher_of view) (seq_of b.0.entries)) (sym items_are) in
        subst (λ (u : Core). Follows plan contexts u l new new_books)
        (sym (happens_is plan contexts w l _ _ (asked l k a) (at_stage Tested stage)
        (commits (due_in batch ciphers w.history) l asks k of.guess of.guesses a here))) (record {
          lane_follows = moved new core_steps.HasPlaces of.guess (asked l k a)
              (settles_on new first misses stage next)
              (ap core_stage next.stage) (own_given (own_tested stage))
              (subst (IsAt plan contexts v l new call of.guess) (sym next.stage) is_at);
          books_follow = books_more plan contexts w.history books t.books_follow l k a here view
              opening_stands new_books b.0 s.after settled book_here adds s.entries steps_here;
        })

  -- ---- what is known at each stage

  pub guessed_opens : (guess : ℕ) → lane.stage ≡ Guessed guess → Opens plan contexts call
  guessed_opens guess is =
      (subst (IsAt plan contexts w l lane call of.guess) is (of.stage call call_is)).0

  pub tested_opens : lane.stage ≡ Tested → Opens plan contexts call
  tested_opens is =
      let d : HasTested plan contexts lane call of.guess =
      subst (IsAt plan contexts w l lane call of.guess) is (of.stage call call_is) in
      d.opens

  -- there is room for the steps of its items
  pub steps_left : IsOpening call → lane.stage ≡ Tested
      → lane.settled + length (opening_items plan call) ≤ length lane.steps.items
  steps_left opening stage =
      let calls = lane_calls plan l in
      let count : length (opening_items plan call) ≡ opened_count call =
      opening_count plan call opening (line_within plan l k call within there call_is)
      ∙ opened_items call opening in
      let room = of.tools.steps_room in
      let before = ap (λ s. sum_by opened_count (unsettled s (drop k calls))) stage in
      let parts = to_settle calls k call call_is in
      omega arith
