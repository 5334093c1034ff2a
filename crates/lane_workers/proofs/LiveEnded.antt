-- A lane whose calls add and retire contexts, after its last.
use Rattle.std.proofs.Common.{◌≡◌, ◌+◌, ℕ, zero, suc, Bool, true, false, cond, List, [], ◌∷◌, ◌++◌, length, filter, Option, Some, None, sym, refl, ap, ◌∙◌, subst, if◌then◌else◌, append-nil}
use Rattle.std.specs.Prelude.{replicate, slice_index_or}
use Rattle.std.specs.List.{All}
use Rattle.std.proofs.Math.Seq.{take-length}
use Rattle.std.proofs.lemmas.List.Elements.{All-head, All-tail, All-nil, All-cons, All-append, filter-append}
use Rattle.call_places.specs.declared.entries.Entry.{Entry}
use Rattle.turn_lock.specs.Passes.{PassView}
use Rattle.stamp_counter.specs.Seats.{SeatView}
use Rattle.context_books.specs.Batches.{place}
use Rattle.batch_plans.specs.declared.plan.Plan.{Plan}
use Rattle.batch_plans.specs.declared.plan.CallLine.{CallLine}
use Rattle.batch_plans.specs.declared.plan.CallLine.TheVariants as calls
use Rattle.batch_plans.specs.declared.replies.Batch.{Batch}
use Rattle.batch_plans.specs.declared.replies.CallRefusal.{CallRefusal}
use Rattle.batch_plans.specs.declared.replies.CallRefusal.TheVariants.{NoContext}
use Rattle.batch_plans.specs.declared.replies.ContextReply.{ContextReply}
use Rattle.batch_plans.specs.declared.replies.LaneAnswers.{LaneAnswers}
use Rattle.batch_plans.specs.declared.replies.Reply.{Reply}
use Rattle.batch_plans.specs.declared.replies.Reply.TheVariants.{Blank, Refused}
use Rattle.batch_plans.specs.Progress.{Progress}
use Rattle.batch_plans.specs.Replies.{IsInRange, IsPrintable}
use Rattle.batch_plans.specs.Room.{blank_batch}
use Rattle.batch_plans.specs.AnswersText.{is_given, given_lines, calls_lines}
use Rattle.batch_plans.specs.ReplyText.{numbered, all_lines}
use Rattle.batch_plans.proofs.Numbering.{length-numbered}
use Rattle.context_books.specs.Live.{was_live, looked_up, looked_up_plan}
use Rattle.context_books.proofs.LookedUp.{calls_looked}
use Rattle.context_books.specs.LaneCalls.{lane_calls}
use Rattle.lane_workers.specs.declared.live_lane.LiveLane.{LiveLane}
use Rattle.lane_workers.specs.declared.works.LaneWork.{LaneWork}
use Rattle.lane_workers.specs.Groups.{answers_in}
use Rattle.lane_workers.specs.Lanes.{LaneIsAt}
use Rattle.lane_workers.specs.LiveLanes.{LiveView, standing, AreSharedLive, AddsAre, AddsOneOf, Chunk, all_given, all_heard, all_guesses, add_refusal, add_reply, retire_reply, finds, own_reply, IsHeardAs, AreHeard, ReadsAs}
use Rattle.lane_workers.specs.LiveReturned.{IsDoneLive, IsReturnedLive, MayReturnLive}
use Rattle.lane_workers.specs.LiveServed.{noted_from, live_told_lines, LiveLaneIsServed}
use Rattle.lane_workers.specs.Readings.{hears}
use Rattle.lane_workers.specs.Returned.{IsReturned}
use Rattle.lane_workers.specs.Served.{told_lines}
use Rattle.lane_workers.specs.Turns.{with_progress}
use Rattle.lane_workers.proofs.Ended.{ends}
use Rattle.lane_workers.proofs.LiveLines.{some_else, live_lines}

-- ---- the replies that were given

given_all : (replies : List Reply) → All (λ reply. is_given reply ≡ true) replies
    → filter is_given replies ≡ replies
given_all [] all = refl
given_all (reply ∷ replies) all =
    let IsGiven = λ (r : Reply). is_given r ≡ true in
    ap (λ b. cond b (reply ∷ filter is_given replies) (filter is_given replies))
    (All-head IsGiven reply replies all)
    ∙ ap (λ rs. reply ∷ rs) (given_all replies (All-tail IsGiven reply replies all))

no_blanks : (count : ℕ) → filter is_given (replicate count Blank) ≡ []
no_blanks zero = refl
no_blanks (suc count) = no_blanks count

added_given : (refusal : Option CallRefusal) → is_given (add_reply refusal) ≡ true
added_given None = refl
added_given (Some refusal) = refl

retired_given : (live : Bool) → is_given (retire_reply live) ≡ true
retired_given true = refl
retired_given false = refl

added_range : (size : ℕ) (refusal : Option CallRefusal) → IsInRange size (add_reply refusal)
added_range size None = tt
added_range size (Some refusal) = tt

retired_range : (size : ℕ) (live : Bool) → IsInRange size (retire_reply live)
retired_range size true = tt
retired_range size false = tt

All-parts : {X : Type 0} (P : X → Type 0) (xs ys : List X) → All P (xs ++ ys) → All P xs × All P ys
All-parts P [] ys all = (All-nil P, all)
All-parts P (x ∷ xs) ys all =
    let rest = All-parts P xs ys (All-tail P x (xs ++ ys) all) in
    (All-cons P x xs (All-head P x (xs ++ ys) all) rest.0, rest.1)

module _ (v : LiveView) (notes : List Entry) (lane : ℕ) where
  missed_given : (number : ℕ) (call : CallLine) (reply : Reply)
      → (if finds notes lane number call then None else Some (Refused NoContext)) ≡ Some reply
      → is_given reply ≡ true
  missed_given number call reply is =
      ap is_given (some_else (finds notes lane number call) (Refused NoContext) reply is).1

  -- a call's own reply is no blank
  own_given : (number : ℕ) (call : CallLine) (reply : Reply)
      → own_reply v.plan notes lane number call ≡ Some reply → is_given reply ≡ true
  own_given number (calls.Add name) reply is =
      let some : Some (add_reply (add_refusal v.plan name)) ≡ Some reply = is in
      let same : reply ≡ add_reply (add_refusal v.plan name) = cc in
      ap is_given same ∙ added_given (add_refusal v.plan name)
  own_given number (calls.Retire name) reply is =
      let live = was_live notes (place lane number 0) in
      let some : Some (retire_reply live) ≡ Some reply = is in
      let same : reply ≡ retire_reply live = cc in
      ap is_given same ∙ retired_given live
  own_given number call reply is =
      missed_given number call reply is

  chunk_given : (number : ℕ) (call : CallLine) (c : Chunk) (own : Option Reply)
      → own_reply v.plan notes lane number call ≡ own → IsHeardAs v call own c
      → filter is_given c.given ≡ c.given
  chunk_given number call c None is t = given_all c.given t.given
  chunk_given number call c (Some reply) is t =
      subst (λ (d : Chunk). filter is_given d.given ≡ d.given) (sym t)
      (ap (λ b. cond b (reply ∷ []) []) (own_given number call reply is))

  chunks_given : (number : ℕ) (calls : List CallLine) (chunks : List Chunk)
      → AreHeard v notes lane number calls chunks
      → filter is_given (all_given chunks) ≡ all_given chunks
  chunks_given number [] [] heard = refl
  chunks_given number [] (c ∷ chunks) heard = absurd heard
  chunks_given number (call ∷ calls) [] heard = absurd heard
  chunks_given number (call ∷ calls) (c ∷ chunks) heard =
      let first = chunk_given number call c (own_reply v.plan notes lane number call) refl heard.0 in
      let rest = chunks_given (number + 1) calls chunks heard.1 in
      filter-append is_given c.given (all_given chunks) ∙ (λ i. first i ++ rest i)

  -- the blanks behind them are left out
  given_replies : (number : ℕ) (calls : List CallLine) (chunks : List Chunk) (blanks : ℕ)
      → AreHeard v notes lane number calls chunks
      → filter is_given (all_given chunks ++ replicate blanks Blank) ≡ all_given chunks
  given_replies number calls chunks blanks heard =
      filter-append is_given (all_given chunks) (replicate blanks Blank)
      ∙ (λ i. chunks_given number calls chunks heard i ++ no_blanks blanks i)
      ∙ append-nil (all_given chunks)

  -- ---- the bytes that they name

  own_range : (size number : ℕ) (call : CallLine) (reply : Reply)
      → own_reply v.plan notes lane number call ≡ Some reply → IsInRange size reply
  own_range size number (calls.Add name) reply is =
      let some : Some (add_reply (add_refusal v.plan name)) ≡ Some reply = is in
      let same : add_reply (add_refusal v.plan name) ≡ reply = cc in
      subst (IsInRange size) same (added_range size (add_refusal v.plan name))
  own_range size number (calls.Retire name) reply is =
      let live = was_live notes (place lane number 0) in
      let some : Some (retire_reply live) ≡ Some reply = is in
      let same : retire_reply live ≡ reply = cc in
      subst (IsInRange size) same (retired_range size live)
  own_range size number call reply is =
      subst (IsInRange size)
      (sym (some_else (finds notes lane number call) (Refused NoContext) reply is).1) tt

  chunk_range : (size number : ℕ) (call : CallLine) (c : Chunk) (own : Option Reply)
      → own_reply v.plan notes lane number call ≡ own → IsHeardAs v call own c
      → All (IsInRange size) c.heard → All (IsInRange size) c.given
  chunk_range size number call c None is t all = subst (All (IsInRange size)) t.heard all
  chunk_range size number call c (Some reply) is t all =
      subst (λ (d : Chunk). All (IsInRange size) d.given) (sym t)
      (All-cons (IsInRange size) reply [] (own_range size number call reply is)
      (All-nil (IsInRange size)))

  -- as far as those lie in the pool that are heard
  chunks_range : (size number : ℕ) (calls : List CallLine) (chunks : List Chunk)
      → AreHeard v notes lane number calls chunks → All (IsInRange size) (all_heard chunks)
      → All (IsInRange size) (all_given chunks)
  chunks_range size number [] [] heard all = all
  chunks_range size number [] (c ∷ chunks) heard all = absurd heard
  chunks_range size number (call ∷ calls) [] heard all = absurd heard
  chunks_range size number (call ∷ calls) (c ∷ chunks) heard all =
      let parts = All-parts (IsInRange size) c.heard (all_heard chunks) all in
      All-append (IsInRange size) c.given (all_given chunks)
      (chunk_range size number call c (own_reply v.plan notes lane number call) refl heard.0 parts.0)
      (chunks_range size (number + 1) calls chunks heard.1 parts.1)

-- ---- the lane

-- the calls of a lane add contexts of the plan
adds_named : (v : LiveView) → AreSharedLive v → (lane : ℕ)
    → All (AddsOneOf v.plan.added) (lane_calls v.plan lane)
adds_named v shared lane = named_in v.plan.lanes lane shared.named
  where
    named_in : (lanes : List (List CallLine)) (lane : ℕ) → All (All (AddsOneOf v.plan.added)) lanes
        → All (AddsOneOf v.plan.added) (slice_index_or lanes lane [])
    named_in [] lane all = All-nil (AddsOneOf v.plan.added)
    named_in (cs ∷ lanes) zero all = All-head (All (AddsOneOf v.plan.added)) cs lanes all
    named_in (cs ∷ lanes) (suc lane) all =
        named_in lanes lane (All-tail (All (AddsOneOf v.plan.added)) cs lanes all)

module _ (v : LiveView) (shared : AreSharedLive v) (l : LiveLane) (t : IsDoneLive v l) where
  abbrev lane : ℕ
  lane = l.work.lane

  abbrev seen : List Entry
  seen = t.pass.seen

  abbrev plan : Plan
  plan = looked_up_plan v.plan seen

  abbrev lines : List CallLine
  lines = lane_calls v.plan lane

  abbrev p : Progress
  p = l.work.progress

  reads : ReadsAs v lane (length lines) t.chunks l.work seen
  reads = t.reads seen (λ call low. refl)

  -- the lane, as one of the plan that its own notes make
  abbrev heard_work : LaneWork
  heard_work = hears (record {
    plan = plan;
    replies = all_heard t.chunks;
    blanks = reads.blanks;
    spare = reads.spare;
  }) l.work

  same_count : length lines ≡ length (lane_calls plan lane)
  same_count = sym (ap length (calls_looked v.plan seen lane)
      ∙ length-numbered (looked_up v.plan seen lane) 0 lines)

  at_end : LaneIsAt plan v.contexts v.counter lane (length (lane_calls plan lane)) heard_work
  at_end = subst (λ n. LaneIsAt plan v.contexts v.counter lane n heard_work) same_count reads.is_at

  heard_returned : IsReturned plan v.contexts v.counter lane l.work.passes.items l.work.seat
      (answers_in heard_work)
  heard_returned = ends plan v.contexts v.counter lane heard_work at_end (answers_in heard_work) refl

  are_heard : AreHeard v seen lane 0 lines t.chunks
  are_heard = subst (λ cs. AreHeard v seen lane 0 cs t.chunks) (take-length lines) reads.are_heard

  own_lines : (replies : List ContextReply) → AddsAre v.plan replies → (answers : LaneAnswers)
      (blanks : ℕ) (spare : List Batch) → answers.pool ≡ p.pool
      → answers.replies ≡ p.replies ++ replicate blanks Blank → answers.batches ≡ p.batches ++ spare
      → given_lines lines answers ≡ all_lines (numbered (live_told_lines v.plan replies (standing v)
      seen heard_returned.served.told lane) 0 lines)
  own_lines replies adds answers blanks spare pool given guesses =
      let told = heard_returned.served.told in
      let looked = numbered (looked_up v.plan seen lane) 0 lines in
      let served : calls_lines p.pool looked (all_heard t.chunks) (all_guesses t.chunks)
      ≡ all_lines (numbered (told_lines plan (standing v) told lane) 0 looked) =
      ap (calls_lines p.pool looked (all_heard t.chunks)) (sym t.guesses)
      ∙ subst (λ cs. calls_lines p.pool cs (all_heard t.chunks) p.batches
      ≡ all_lines (numbered (told_lines plan (standing v) told lane) 0 cs))
      (calls_looked v.plan seen lane) heard_returned.served.lines in
      let kept = ap (filter is_given) (given ∙ ap (λ rs. rs ++ replicate blanks Blank) t.given)
      ∙ given_replies v seen lane 0 lines t.chunks blanks are_heard in
      let kept_guesses = guesses ∙ ap (λ bs. bs ++ spare) t.guesses in
      (λ i. calls_lines (pool i) lines (kept i) (kept_guesses i))
      ∙ live_lines v shared replies adds seen lane told p.pool 0 lines t.chunks spare
      (adds_named v shared lane) are_heard served

  -- what the lane shows, with so many blanks and guesses behind its answers
  shows : (answers : LaneAnswers) (blanks : ℕ) (spare : List Batch) → answers.pool ≡ p.pool
      → answers.replies ≡ p.replies ++ replicate blanks Blank → answers.batches ≡ p.batches ++ spare
      → IsPrintable answers → (replies : List ContextReply) → AddsAre v.plan replies
      → LiveLaneIsServed v.plan replies (standing v) lane seen l.work.passes.items answers
  shows answers blanks spare pool given guesses printable replies adds = record {
    told = heard_returned.served.told;
    places = t.places ∙ ap (noted_from v.plan (standing v) lane 0) (take-length lines);
    acts = t.acts;
    shows = heard_returned.served.shows;
    openings = heard_returned.served.openings;
    in_order = heard_returned.served.in_order;
    noted_in_order = t.noted;
    lines = own_lines replies adds answers blanks spare pool given guesses;
    printable = printable;
  }

  -- what it shows as it stands
  pub is_served : (replies : List ContextReply) → AddsAre v.plan replies
      → LiveLaneIsServed v.plan replies (standing v) lane seen l.work.passes.items (answers_in l.work)
  is_served = shows (answers_in l.work) 0 [] refl (sym (append-nil p.replies))
      (sym (append-nil p.batches))
      (subst (All (IsInRange (length p.pool))) (sym t.given)
      (chunks_range v seen lane (length p.pool) 0 lines t.chunks are_heard
      heard_returned.served.printable))

  -- the lane's parts, with blanks behind its answers, are what it gives back
  pub returns : (progress : Progress)
      → progress ≡ record p {
        replies = p.replies ++ replicate p.left Blank;
        left = 0;
        batches = p.batches ++ replicate p.batches_left blank_batch;
        batches_left = 0;
      }
      → MayReturnLive v lane (with_progress l.work progress) t.pass
  returns progress is = record {
    lane_is = t.lane_is;
    all = record {
      replies = ap (λ (q : Progress). q.left) is;
      batches = ap (λ (q : Progress). q.batches_left) is;
    };
    returns = λ passes seat answers g.
        let back : IsReturnedLive v lane t.pass l.work.passes.items l.work.seat answers = record {
          served = shows answers p.left (replicate p.batches_left blank_batch)
              (g.pool ∙ ap (λ (q : Progress). q.pool) is)
              (g.replies ∙ ap (λ (q : Progress). q.replies) is)
              (g.batches ∙ ap (λ (q : Progress). q.batches) is) g.printable;
          of = t.of;
          number = t.number;
          count = heard_returned.count;
          passes_are = heard_returned.passes_are;
          absent = heard_returned.absent;
          seat_is = heard_returned.seat_is;
        } in
        subst (λ (ps : List (Option PassView)). IsReturnedLive v lane t.pass ps seat answers)
        (sym g.passes_are)
        (subst (λ (s : Option SeatView). IsReturnedLive v lane t.pass l.work.passes.items s answers)
        (sym g.seat_is) back);
  }
