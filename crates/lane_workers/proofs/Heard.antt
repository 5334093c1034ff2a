-- What is known of a lane as it is read, of the lane as it is, and the other way.
use Rattle.std.proofs.Common.{◌≡◌, ℕ, ◌-◌, ◌<◌, ◌≤◌, List, [], ◌∷◌, ◌++◌, length, map, sum_by, All, Option, refl, sym, ap, ◌∙◌, subst, arith, Bor}
use Rattle.call_places.specs.declared.spans.Item.{Item as Spans}
use Rattle.call_places.specs.Spans.{ItemIsInPool}
use Rattle.stamp_counter.specs.Seats.{CounterView}
use Rattle.hpke_context.specs.Answers.{run}
use Rattle.hpke_context.specs.Contexts.{ContextView, cipher_of}
use Rattle.context_books.specs.declared.book.Draw.{Draw}
use Rattle.context_books.specs.Openings.{unseals}
use Rattle.shared_context.specs.Calls.{SharedView}
use Rattle.speculative_open.specs.Tables.{TableView}
use Rattle.batch_plans.specs.declared.plan.Plan.{Plan}
use Rattle.batch_plans.specs.declared.plan.CallLine.{CallLine}
use Rattle.batch_plans.specs.declared.plan.CallLine.TheVariants as calls
use Rattle.batch_plans.specs.declared.replies.Batch.{Batch}
use Rattle.batch_plans.specs.declared.replies.Reply.{Reply}
use Rattle.batch_plans.specs.Limits.{items_from}
use Rattle.batch_plans.specs.Within.{IsCallWithin}
use Rattle.batch_plans.specs.Calls.{context_of}
use Rattle.batch_plans.specs.Room.{opened_room}
use Rattle.batch_plans.specs.Progress.{Progress, with_reply, with_batch}
use Rattle.context_books.specs.Runs.{answer_line}
use Rattle.context_books.specs.LaneCalls.{opening_items}
use Rattle.context_books.specs.Writing.{PutsReplies}
use Rattle.lane_workers.specs.declared.works.LaneWork.{LaneWork}
use Rattle.lane_workers.specs.Turns.{pass_at, with_table, with_progress, CanTurn, IsSame, Draws, Guesses, Commits, Opens}
use Rattle.lane_workers.specs.Readings.{Reading, heard, hears, with_more, HasBytesOf}
use Rattle.turn_lock.specs.Passes.{PassView}

-- ---- answers

less_one : (n less : ℕ) → n - 1 - less ≡ n - less - 1
less_one n less = omega arith

pub heard_batch : (r : Reading) (p : Progress) (batch : Batch)
    → heard r (with_batch p batch) ≡ with_batch (heard r p) batch
heard_batch r p batch =
    ap (λ n. record {
      pool = p.pool;
      taken = p.taken;
      replies = r.replies;
      left = p.left - r.blanks;
      batches = p.batches ++ batch ∷ [];
      batches_left = n;
    }) (less_one p.batches_left r.spare)

pub heard_reply : (r : Reading) (p : Progress) (reply : Reply)
    → heard (with_more r (reply ∷ [])) (with_reply p reply) ≡ with_reply (heard r p) reply
heard_reply r p reply =
    ap (λ n. record {
      pool = p.pool;
      taken = p.taken;
      replies = r.replies ++ reply ∷ [];
      left = n;
      batches = p.batches;
      batches_left = p.batches_left - r.spare;
    }) (less_one p.left r.blanks)

-- the replies that are none of the plan's are still to come
pub enough_left : (r : Reading) (old new : Progress) (size : ℕ) (lines : List (List ℕ))
    → PutsReplies old new size lines → r.blanks ≤ old.left → length lines ≤ old.left - r.blanks
    → r.blanks ≤ new.left
enough_left r old new size lines w enough room = let left = w.left in omega arith

pub puts_heard : (r : Reading) (old new : Progress) (size : ℕ) (lines : List (List ℕ))
    → (w : PutsReplies old new size lines) → r.blanks ≤ new.left
    → PutsReplies (heard r old) (heard (with_more r w.more) new) size lines
puts_heard r old new size lines w enough = record {
  more = w.more;
  replies = refl;
  left = (let left = w.left in omega arith);
  lines_are = w.lines_are;
  served = w.served;
  taken = w.taken;
  range = w.range;
  pool = w.pool;
  kept = w.kept;
  batches = w.batches;
  batches_left = ap (λ n. n - r.spare) w.batches_left;
}

-- ---- turns

-- a lane with the same passes and the same seat may take the same turn
pub turn_of : {s : SharedView} {counter : Option (Bor CounterView)} {number call count : ℕ}
    (old new : LaneWork) → new.passes.items ≡ old.passes.items → new.seat ≡ old.seat
    → CanTurn old s counter number call count → CanTurn new s counter number call count
turn_of {number = number} old new passes seat t = record {
  pass = t.pass;
  holds = ap (λ ps. pass_at ps number) passes ∙ t.holds;
  low = subst (λ (ps : List (Option PassView)). number < length ps) (sym passes) t.low;
  may = t.may;
  turns = t.turns;
  seat = t.seat;
  has = seat ∙ t.has;
  stamps = t.stamps;
  counter_is = t.counter_is;
  same = t.same;
  note = t.note;
}

same_heard : (r : Reading) (old new : LaneWork) → IsSame old new → IsSame (hears r old) (hears r new)
same_heard r old new s = record {
  lane = s.lane;
  table = s.table;
  progress = ap (heard r) s.progress;
}

pub draws_heard : (r : Reading) (old new : LaneWork) (number call : ℕ) (drawn : Draw)
    → Draws old new number call drawn → Draws (hears r old) (hears r new) number call drawn
draws_heard r old new number call drawn d = record {
  pass = d.pass;
  was = d.was;
  after = d.after;
  seat = d.seat;
  had = d.had;
  back = d.back;
  has_drawn = d.has_drawn;
  passes = d.passes;
  seat_is = d.seat_is;
  same = same_heard r old new d.same;
  steps = d.steps;
  checks = d.checks;
}

pub guesses_heard : (r : Reading) (old new : LaneWork) (line : CallLine) (number guess : ℕ)
    → Guesses old new line number guess → Guesses (hears r old) (hears r new) line number guess
guesses_heard r old new line number guess d = record {
  pass = d.pass;
  was = d.was;
  after = d.after;
  has_guessed = d.has_guessed;
  passes = d.passes;
  seat = d.seat;
  same = same_heard r old new d.same;
  steps = d.steps;
  checks = d.checks;
}

pub commits_heard : (r : Reading) (old new : LaneWork) (table : TableView) (view : ContextView)
    (number call : ℕ) (pool : List ℕ) (items : List Spans) (first missed : ℕ)
    → Commits (with_table old table) new view number call pool items first missed
    → Commits (with_table (hears r old) table) (hears r new) view number call pool items first missed
commits_heard r old new table view number call pool items first missed d = record {
  pass = d.pass;
  was = d.was;
  after = d.after;
  seat = d.seat;
  had = d.had;
  back = d.back;
  has_committed = d.has_committed;
  passes = d.passes;
  seat_is = d.seat_is;
  same = same_heard r (with_table old table) new d.same;
  steps = d.steps;
  room = d.room;
  missed_is = d.missed_is;
  checks = d.checks;
}

-- ---- the items of an opening

pub items_same : (plan other : Plan) (call : CallLine) → HasBytesOf plan other
    → opening_items plan call ≡ opening_items other call
items_same plan other (calls.UnsealAll context first count) bytes =
    ap (λ items. items_from items first count) bytes.items
items_same plan other call bytes = refl

pub spans_here : (plan other : Plan) (call : CallLine) → HasBytesOf plan other
    → All (ItemIsInPool (length plan.pool)) (opening_items plan call)
    → All (ItemIsInPool (length other.pool)) (opening_items other call)
spans_here plan other call bytes spans =
    subst (λ (items : List Spans). All (ItemIsInPool (length other.pool)) items)
    (items_same plan other call bytes)
    (subst (λ (pool : List ℕ). All (ItemIsInPool (length pool)) (opening_items plan call)) bytes.pool
    spans)

-- the call is one of the plan whose bytes are served
pub call_here : (plan other : Plan) (call : CallLine) → HasBytesOf plan other
    → IsCallWithin (length plan.items) (length plan.pool) call
    → IsCallWithin (length other.items) (length other.pool) call
call_here plan other call bytes within =
    subst (λ (items : List Spans). IsCallWithin (length items) (length other.pool) call) bytes.items
    (subst (λ (pool : List ℕ). IsCallWithin (length plan.items) (length pool) call) bytes.pool within)

-- ---- an opening

pub opens_of : (plan other : Plan) → HasBytesOf plan other → (s : SharedView) (old new : LaneWork)
    (call : ℕ) (line : CallLine) (guess missed : ℕ)
    → Opens other s old new call line guess missed → Opens plan s old new call line guess missed
opens_of plan other bytes s old new call line guess missed o =
    let items = sym (items_same plan other line bytes) in
    let pool = sym bytes.pool in
    record {
      guessed = o.guessed;
      table = o.table;
      committed = o.committed;
      first = o.first;
      guesses = o.guesses;
      guess_is = o.guess_is;
      rows = o.rows;
      commits = subst (λ (xs : List Spans). Commits (with_table o.guessed o.table) o.committed s.context
          (context_of line) call plan.pool xs o.first missed) items
          (subst (λ (bs : List ℕ). Commits (with_table o.guessed o.table) o.committed s.context
          (context_of line) call bs (opening_items other line) o.first missed) pool o.commits);
      progress = o.progress;
      puts = subst (λ (xs : List Spans). PutsReplies old.progress o.progress (sum_by opened_room xs)
          (map answer_line (run (cipher_of s.context) o.first (unseals plan.pool xs)))) items
          (subst (λ (bs : List ℕ). PutsReplies old.progress o.progress
          (sum_by opened_room (opening_items other line))
          (map answer_line (run (cipher_of s.context) o.first
          (unseals bs (opening_items other line))))) pool o.puts);
      new_is = o.new_is;
    }

abbrev pub opens_heard : (r : Reading) (s : SharedView) (old new : LaneWork) (call : ℕ) (line : CallLine)
    (guess missed : ℕ) → (o : Opens r.plan s old new call line guess missed)
    → r.blanks ≤ o.progress.left
    → Opens r.plan s (hears r old) (hears (with_more r o.puts.more) new) call line guess missed
opens_heard r s old new call line guess missed o enough =
    let later = with_more r o.puts.more in
    record {
      guessed = hears r o.guessed;
      table = o.table;
      committed = hears r o.committed;
      first = o.first;
      guesses = guesses_heard r old o.guessed line (context_of line) guess o.guesses;
      guess_is = o.guess_is;
      rows = o.rows;
      commits = commits_heard r o.guessed o.committed o.table s.context (context_of line) call
          r.plan.pool (opening_items r.plan line) o.first missed o.commits;
      progress = heard later o.progress;
      puts = puts_heard r old.progress o.progress (sum_by opened_room (opening_items r.plan line))
          (map answer_line (run (cipher_of s.context) o.first
          (unseals r.plan.pool (opening_items r.plan line)))) o.puts enough;
      new_is = ap (hears later) o.new_is;
    }

-- ---- the lane as it is

abbrev pub as_it_is : Plan → LaneWork → Reading
as_it_is plan w = record { plan = plan; replies = w.progress.replies; blanks = 0; spare = 0 }

pub is_as_it_is : (plan : Plan) (w : LaneWork) → hears (as_it_is plan w) w ≡ w
is_as_it_is plan w = (λ i. with_progress w (record w.progress {
  left = none_less w.progress.left i;
  batches_left = none_less w.progress.batches_left i;
}))
  where
    none_less : (n : ℕ) → n - 0 ≡ n
    none_less n = omega arith

pub is_as_it_was : (plan : Plan) (old new : LaneWork) (more : List Reply)
    → new.progress.replies ≡ old.progress.replies ++ more
    → hears (with_more (as_it_is plan old) more) new ≡ new
is_as_it_was plan old new more is =
    ap (λ (rs : List Reply). hears (record { plan = plan; replies = rs; blanks = 0; spare = 0 }) new)
    (sym is)
    ∙ is_as_it_is plan new
