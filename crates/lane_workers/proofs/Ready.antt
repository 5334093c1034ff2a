-- A call that is served: its context serves it.
use Rattle.std.proofs.Common.{◌≡◌, ℕ, ◌+◌, ◌++◌, ◌<◌, ◌≤◌, List, [], length, Option, Some, None, sym, refl, ap, ◌∙◌, subst, arith, IsTrue, Bor}
use Rattle.hkdf_labelled.specs.declared.suites.Aead.{Aead}
use Rattle.hkdf_labelled.specs.declared.suites.Aead.TheVariants.{Aes128, Aes256, ExportOnly}
use Rattle.key_schedule.specs.declared.modes.Role.{Role}
use Rattle.key_schedule.specs.declared.modes.Role.TheVariants.{Sender, Recipient}
use Rattle.call_places.specs.declared.spans.Item.{Item as Spans}
use Rattle.stamp_counter.specs.Seats.{CounterView}
use Rattle.std.specs.Prelude.{slice_index}
use Rattle.std.proofs.lemmas.List.{length-set}
use Rattle.call_places.specs.Entries.{own}
use Rattle.turn_lock.specs.Passes.{LockId, PassView}
use Rattle.speculative_open.specs.Tables.{TableView}
use Rattle.context_books.proofs.Lists.{append-nil}
use Rattle.lane_workers.proofs.ShowingEntries.{own-append}
use Rattle.hpke_context.specs.Contexts.{ContextView}
use Rattle.hkdf_labelled.specs.Suites.{encrypts}
use Rattle.hpke_context.specs.Calls.{CanSeal, CanOpen}
use Rattle.context_books.specs.Batches.{Ask, items_in, context_in}
use Rattle.context_books.specs.declared.book.Draw.{Draw}
use Rattle.context_books.specs.declared.book.Draw.TheVariants.{Number}
use Rattle.shared_context.specs.Calls.{SharedView}
use Rattle.batch_plans.specs.declared.plan.Plan.{Plan}
use Rattle.batch_plans.specs.declared.plan.CallLine.{CallLine}
use Rattle.batch_plans.specs.declared.plan.CallLine.TheVariants as calls
use Rattle.batch_plans.specs.declared.replies.CallRefusal.{CallRefusal}
use Rattle.batch_plans.specs.Calls.{context_of, refusal_by, seal_refusal, open_refusal}
use Rattle.context_books.specs.Standing.{refusal_on}
use Rattle.context_books.specs.Asks.{ask_of, asked_by}
use Rattle.lane_workers.specs.declared.works.LaneWork.{LaneWork}
use Rattle.context_books.specs.LaneCalls.{opening_items, IsOpening}
use Rattle.lane_workers.specs.Turns.{shared_at, pass_at, views, with_table, CanTurn, Draws, Guesses}
use Rattle.lane_workers.specs.Lanes.{MayServe}
use Rattle.lane_workers.proofs.Answering as answering
use Rattle.lane_workers.proofs.Answering.{standing_is}
use Rattle.lane_workers.proofs.Onward.{pass_same}
use Rattle.context_books.proofs.Within.{opening_asks, opening_context}
use Rattle.lane_workers.proofs.Found.{one_of}

pub no_refusal : (why : CallRefusal) → Some why ≡ None → ⊥
no_refusal why e = cc

seal_free : (r : Role) (x : Aead) → seal_refusal r x ≡ None → (r ≡ Sender) × IsTrue (encrypts x)
seal_free Sender Aes128 e = (refl, refl)
seal_free Sender Aes256 e = (refl, refl)
seal_free Sender ExportOnly e = absurd (no_refusal _ e)
seal_free Recipient x e = absurd (no_refusal _ e)

open_free : (r : Role) (x : Aead) → open_refusal r x ≡ None → (r ≡ Recipient) × IsTrue (encrypts x)
open_free Recipient Aes128 e = (refl, refl)
open_free Recipient Aes256 e = (refl, refl)
open_free Recipient ExportOnly e = absurd (no_refusal _ e)
open_free Sender x e = absurd (no_refusal _ e)

opens_by : (r : Role) (x : Aead) (limit : ℕ) (call : CallLine) → IsOpening call
    → refusal_by r x limit call ≡ None → open_refusal r x ≡ None
opens_by r x limit (calls.Unseal context item) opening e = e
opens_by r x limit (calls.UnsealAll context first count) opening e = e
opens_by r x limit call opening e = absurd opening

module _ (plan : Plan) (contexts : List (Option SharedView)) (counter : Option (Bor CounterView))
    (k : ℕ) (call : CallLine) (s : SharedView) (w : LaneWork)
    (m : MayServe plan contexts counter k call s w) where
  abbrev stand : List (Option ContextView)
  stand = views contexts

  abbrev a : Ask
  a = ask_of plan stand call

  abbrev n : ℕ
  n = context_in a

  ask_is : a ≡ asked_by plan call
  ask_is = answering.ask_is plan contexts counter k call w m.may m.free

  pub not_refused : refusal_on (Some s.context) call ≡ None
  not_refused = sym (ap (λ o. refusal_on o call) (standing_is contexts (context_of call) s m.stands))
      ∙ m.free

  pub stands_at : n ≡ context_of call → shared_at contexts n ≡ Some s
  stands_at is = ap (shared_at contexts) is ∙ m.stands

  turn_at : n ≡ context_of call → (count : ℕ) → count ≤ length (items_in a)
      → CanTurn w s counter (context_of call) k count
  turn_at is count few = subst (λ j. CanTurn w s counter j k count) is
      (answering.may_turn plan contexts counter k call w m.may m.free s (stands_at is) count few)

  -- ---- a seal

  module _ (number : ℕ) (item : Spans) (is : call ≡ calls.Seal number item) where
    pub seal_context : n ≡ context_of call
    seal_context = ap context_in (ask_is ∙ ap (asked_by plan) is) ∙ sym (ap context_of is)

    pub can_seal : CanSeal s.context
    can_seal = seal_free s.context.role s.context.suite.aead
        (sym (ap (refusal_on (Some s.context)) is) ∙ not_refused)

    pub seal_turn : CanTurn w s counter number k 1
    seal_turn = subst (λ j. CanTurn w s counter j k 1) (ap context_of is)
        (turn_at seal_context 1
        (let e = ap (λ x. length (items_in x)) (ask_is ∙ ap (asked_by plan) is) in omega arith))

    pub drawn_below : (mid : LaneWork) (drawn : Draw) → Draws w mid number k drawn
        → (i : ℕ) → drawn ≡ Number i → i < s.context.limit
    drawn_below mid drawn d = λ i e.
        let was = ap (pass_at w.passes.items) (seal_context ∙ ap context_of is) ∙ d.was in
        let of = answering.pass_known plan contexts counter k call w m.may m.free s
        (stands_at seal_context) d.pass was in
        let limit : d.pass.lock.terms.limit ≡ s.context.limit =
        ap (λ (l : LockId). l.terms.limit) of.of
        ∙ (m.may.shared.each n s (stands_at seal_context)).limit in
        subst (λ j. i < j) limit (d.has_drawn.number i e).1

  -- ---- an opening

  module _ (opening : IsOpening call) where
    pub open_context : n ≡ context_of call
    open_context = ap context_in ask_is ∙ opening_context plan call opening

    pub can_open : CanOpen s.context
    can_open = open_free s.context.role s.context.suite.aead
        (opens_by s.context.role s.context.suite.aead _ call opening not_refused)

    pub open_turn : CanTurn w s counter (context_of call) k (length (opening_items plan call))
    open_turn = turn_at open_context (length (opening_items plan call))
        (let one = ap length (ap items_in ask_is ∙ opening_asks plan call opening) in
        let two = Rattle.context_books.proofs.Items.length-unseals plan.pool (opening_items plan call) in
        omega arith)

    pub look_turn : CanTurn w s counter (context_of call) k 0
    look_turn = turn_at open_context 0 (omega arith)

    -- after the guess
    pub commit_turn : (mid : LaneWork) (guess : ℕ) (table : TableView)
        → Guesses w mid call (context_of call) guess
        → CanTurn (with_table mid table) s counter (context_of call) k
        (length (opening_items plan call))
    commit_turn mid guess table d =
        let number = context_of call in
        let many = length (opening_items plan call) in
        let t = open_turn in
        let was = ap (pass_at w.passes.items) open_context ∙ d.was in
        let of = answering.pass_known plan contexts counter k call w m.may m.free s
        (stands_at open_context) d.pass was in
        let same : t.pass ≡ d.pass = one_of t.pass d.pass (sym t.holds ∙ d.was) in
        let h = d.has_guessed in
        let may = t.may in
        let own_same : own w.lane d.after.seen ≡ own w.lane d.pass.seen =
        ap (own w.lane) h.others.1 ∙ own-append w.lane d.pass.seen h.others.0
        ∙ ap (λ es. own w.lane d.pass.seen ++ es)
        (subst (λ i. own i h.others.0 ≡ []) of.number h.others.2)
        ∙ append-nil (own w.lane d.pass.seen) in
        let left : length (own w.lane d.pass.seen) + many ≤ slice_index s.lock.terms.quotas w.lane =
        subst (λ i. length (own i d.pass.seen) + many ≤ slice_index s.lock.terms.quotas i) of.number
        (subst (λ (x : PassView). length (own x.number x.seen) + many
        ≤ slice_index s.lock.terms.quotas x.number) same may.room) in
        let there : w.lane < length s.lock.terms.quotas =
        subst (λ i. i < length s.lock.terms.quotas) of.number
        (subst (λ (x : PassView). x.number < length s.lock.terms.quotas) same may.lane) in
        let number_is : d.after.number ≡ w.lane = h.after.number ∙ of.number in
        let size = ap length d.passes ∙ length-set w.passes.items number (Some d.after) in
        let turns = h.after.turns in
        let before = of.turns in
        let few = answering.low_call plan contexts counter k call w m.may in
        let low = t.low in
        record {
          pass = d.after;
          holds = ap (λ ps. pass_at ps number) d.passes
              ∙ pass_same w.passes.items number d.after low;
          low = omega (arith, size, low);
          may = record {
            of = h.after.lock ∙ of.of;
            turns = omega arith;
            late = (let x = h.next_call in let y = of.next in omega arith);
            call_fits = omega arith;
            lane = subst (λ i. i < length s.lock.terms.quotas) (sym number_is) there;
            room = subst (λ i. length (own i d.after.seen) + many
                ≤ slice_index s.lock.terms.quotas i) (sym number_is)
                (let e = ap length own_same in omega arith);
          };
          turns = omega arith;
          seat = t.seat;
          has = d.seat ∙ t.has;
          stamps = t.stamps;
          counter_is = t.counter_is;
          same = t.same;
          note = t.note;
        }
