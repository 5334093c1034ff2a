-- Where no two lanes seal on one context, nor one seals on a context that another adds or retires, each
-- seal has one answer whatever the table and the journals.
use Rattle.std.proofs.Common.{◌≡◌, ◌||◌, ℕ, zero, suc, ◌+◌, ◌-◌, ◌*◌, ◌<◌, Bool, true, false, List, [], ◌∷◌, length, Option, Some, None, sym, refl, ap, ◌∙◌, arith, eq-eqb, if◌then◌else◌, inl, inr}
use Rattle.std.specs.Prelude.{slice_get, slice_index_or, option_map, nat_lt, flat_map, map, Contains}
use Rattle.std.proofs.lemmas.Bool.Decides.{nat_tests}
use Rattle.call_places.specs.declared.entries.Act.TheVariants as acts
use Rattle.call_places.specs.declared.entries.Entry.{Entry}
use Rattle.call_places.specs.declared.entries.Mark.{Mark}
use Rattle.call_places.specs.declared.entries.Place.{Place}
use Rattle.call_places.specs.declared.spans.Item.{Item as Spans}
use Rattle.hpke_context.specs.Answers.{Item}
use Rattle.hpke_context.specs.Contexts.{ContextView}
use Rattle.batch_plans.specs.declared.plan.Plan.{Plan}
use Rattle.batch_plans.specs.declared.plan.CallLine.{CallLine}
use Rattle.batch_plans.specs.declared.plan.CallLine.TheVariants as calls
use Rattle.batch_plans.specs.declared.plan.CallKind.TheVariants as kinds
use Rattle.batch_plans.specs.declared.replies.CallRefusal.{CallRefusal}
use Rattle.batch_plans.specs.declared.replies.ContextReply.{ContextReply}
use Rattle.batch_plans.specs.Calls.{context_of, kind_of}
use Rattle.batch_plans.specs.Limits.{first_name}
use Rattle.batch_plans.specs.Names.{line_count, position, at_position}
use Rattle.batch_plans.specs.Within.{IsWithinLimits}
use Rattle.context_books.specs.Batches.{Batch, item_of, item_in_call, place}
use Rattle.context_books.specs.Histories.{marks_at, places}
use Rattle.context_books.specs.LaneCalls.{lane_calls}
use Rattle.context_books.specs.Legal.{Legal}
use Rattle.context_books.specs.Lists.{In}
use Rattle.context_books.specs.Asks.{cipher_at}
use Rattle.context_books.specs.Standing.{call_refusal}
use Rattle.context_books.specs.Runs.{Run, run_along, asks_of, journal_of, call_lines, served_lines, lines_unless, place_line, answer_line_of}
use Rattle.context_books.specs.Live.{noting_in, IsNoted, LegalTable, LiveHistory, was_live, looked_up, looked_up_plan, LiveRun, live_run_along, run_of, live_call_lines, IsAllowedLive, events, note_mark, call_mark}
use Rattle.context_books.specs.Sharing.{seals_on, Seals, NoTwoLanesSeal, IsOfOneLane, SealsAlike}
use Rattle.context_books.proofs.Done.{ask_at}
use Rattle.context_books.proofs.LookedUp.{call_looked}
use Rattle.context_books.proofs.Marks.{marks_alone}
use Rattle.context_books.proofs.Members.{In-left, In-right, contains_in, in_contains, in_map}
use Rattle.context_books.proofs.OneLanePlaces.{same_replies}
use Rattle.context_books.proofs.OwnNames.{InLaneOrder, same_look, not_noted}
use Rattle.context_books.proofs.SealedAlike.{any_at, serving_call, sealing_call, stands}

-- the stamps of a history have the notes of a lane in order
pub in_lane_order : (batch : Batch) (journals : List (List Mark)) (notes : List Entry)
    → LiveHistory batch journals notes → InLaneOrder notes
in_lane_order batch journals notes history e f has also lanes before =
    history.in_order (note_mark e) (note_mark f) (there e has) (there f also) lanes (elim before [
      | inl low ↦ inl (omega arith)
      | inr t ↦ inr (ap (λ n. 2 * n) t.0, t.1)
    ])
  where
    there : (g : Entry) → In g notes → Contains (events journals notes) (note_mark g)
    there g i =
        contains_in (events journals notes) (note_mark g)
        (In-right (note_mark g) (flat_map (map call_mark) journals) (map note_mark notes)
        (in_map note_mark g notes i))

kind_looked : (plan : Plan) (call : CallLine) (b : Bool)
    → kind_of (if b then at_position plan call else call) ≡ kind_of call
kind_looked plan call false = refl
kind_looked plan (calls.Seal context item) true = refl
kind_looked plan (calls.Unseal context item) true = refl
kind_looked plan (calls.UnsealAll context first count) true = refl
kind_looked plan (calls.Export context exporter size) true = refl
kind_looked plan (calls.Add name) true = refl
kind_looked plan (calls.Retire name) true = refl

or_left : (a b : Bool) → (a || b) ≡ false → a ≡ false
or_left true b e = e
or_left false b e = refl

module _ (plan : Plan) (standing : List (Option ContextView)) (within : IsWithinLimits plan)
    (count : length standing ≡ length plan.contexts) (alone : NoTwoLanesSeal plan) where
  -- ---- a seal as it is looked up

  -- the context that a call on this one is looked up as
  abbrev found : List Entry → ℕ → ℕ → ℕ → ℕ
  found notes lane number context =
      if nat_lt context first_name || was_live notes (place lane number 0)
      then position plan context else context

  looked_is : (notes : List Entry) (lane number context : ℕ) (item : Spans)
      → looked_up plan notes lane number (calls.Seal context item)
      ≡ calls.Seal (found notes lane number context) item
  looked_is notes lane number context item =
      either (nat_lt context first_name || was_live notes (place lane number 0))
    where
      either : (b : Bool)
          → (if b then at_position plan (calls.Seal context item) else calls.Seal context item)
          ≡ calls.Seal (if b then position plan context else context) item
      either true = refl
      either false = refl

  module _ (notes remarks : List Entry) (table : LegalTable plan standing notes)
      (also : LegalTable plan standing remarks) (ordered : InLaneOrder notes)
      (further : InLaneOrder remarks) where
    same_live : (lane number context : ℕ) (item : Spans)
        → slice_get (lane_calls plan lane) number ≡ Some (calls.Seal context item)
        → nat_lt context first_name ≡ false
        → was_live notes (place lane number 0) ≡ was_live remarks (place lane number 0)
    same_live lane number context item at high = named (nat_lt (context - first_name) plan.added) refl
      where
        named : (b : Bool) → nat_lt (context - first_name) plan.added ≡ b
            → was_live notes (place lane number 0) ≡ was_live remarks (place lane number 0)
        named true low =
            let name = context - first_name in
            let few = within.contexts in
            let most = within.added in
            let there : position plan context ≡ line_count plan + name = grind (arith, nat_tests) in
            let seals : Seals plan (line_count plan + name) lane =
            any_at (seals_on plan (line_count plan + name)) (lane_calls plan lane) number
            (calls.Seal context item) at
            (eq-eqb (position plan context) (line_count plan + name) there) in
            let noted : IsNoted plan standing (place lane number 0)
            (record { act = acts.Look; name = name }) = record {
              first = refl;
              noting_is = ap (noting_in plan standing) at
                  ∙ (λ i. if high i then None else if low i then Some (record { act = acts.Look; name = name }) else None);
            } in
            same_look plan standing notes remarks name lane number table also ordered further
            (λ other changes. alone (line_count plan + name) lane (grind (arith, nat_tests)) seals other
            (inr changes)) noted
        named false high_name =
            let none : noting_in plan standing (slice_get (lane_calls plan lane) number) ≡ None =
            ap (noting_in plan standing) at
            ∙ (λ i. if high i then None else if high_name i then Some (record { act = acts.Look; name = context - first_name }) else None) in
            not_noted plan standing notes (place lane number 0) table none
            ∙ sym (not_noted plan standing remarks (place lane number 0) also none)

    same_found : (lane number context : ℕ) (item : Spans)
        → slice_get (lane_calls plan lane) number ≡ Some (calls.Seal context item)
        → found notes lane number context ≡ found remarks lane number context
    same_found lane number context item at = either (nat_lt context first_name) refl
      where
        either : (b : Bool) → nat_lt context first_name ≡ b
            → (if b || was_live notes (place lane number 0) then position plan context else context)
            ≡ (if b || was_live remarks (place lane number 0) then position plan context else context)
        either true is = refl
        either false is = ap (λ live. if live then position plan context else context)
            (same_live lane number context item at is)

    -- ---- what a context is asked that serves a seal

    -- the seal of a place, as its lane's line has it
    record LineOf (c : ℕ) (p : Place) : Type 0 where
      context : ℕ
      item : Spans
      at : slice_get (lane_calls plan p.lane) p.call ≡ Some (calls.Seal context item)
      is : found notes p.lane p.call context ≡ c

    call_of : Option CallLine → CallLine → CallLine
    call_of None call = call
    call_of (Some call) other = call

    other_kind : {X : Type 0} (call : CallLine) (c : ℕ) (item : Spans) (b : Bool)
        → (if b then at_position plan call else call) ≡ calls.Seal c item
        → (kind_of call ≡ kinds.Seal → ⊥) → X
    other_kind call c item b is ne = absurd (ne (sym (kind_looked plan call b) ∙ ap kind_of is))

    of_call : (c : ℕ) (p : Place) (item : Spans) (call : CallLine)
        → slice_get (lane_calls plan p.lane) p.call ≡ Some call
        → looked_up plan notes p.lane p.call call ≡ calls.Seal c item → LineOf c p
    of_call c p item (calls.Seal context own) at is = record {
      context = context;
      item = own;
      at = at;
      is = ap context_of (sym (looked_is notes p.lane p.call context own) ∙ is);
    }
    of_call c p item (calls.Unseal context own) at is =
        other_kind (calls.Unseal context own) c item _ is (λ e. let f : kinds.Open ≡ kinds.Seal = e in cc)
    of_call c p item (calls.UnsealAll context first n) at is =
        other_kind (calls.UnsealAll context first n) c item _ is (λ e. let f : kinds.Open ≡ kinds.Seal = e in cc)
    of_call c p item (calls.Export context exporter size) at is =
        other_kind (calls.Export context exporter size) c item _ is (λ e. let f : kinds.Export ≡ kinds.Seal = e in cc)
    of_call c p item (calls.Add name) at is =
        other_kind (calls.Add name) c item _ is (λ e. let f : kinds.Add ≡ kinds.Seal = e in cc)
    of_call c p item (calls.Retire name) at is =
        other_kind (calls.Retire name) c item _ is (λ e. let f : kinds.Retire ≡ kinds.Seal = e in cc)

    looked : (c : ℕ) (p : Place) (item : Spans)
        → slice_get (slice_index_or (looked_up_plan plan notes).lanes p.lane []) p.call
        ≡ Some (calls.Seal c item) → LineOf c p
    looked c p item at =
        of_line (slice_get (lane_calls plan p.lane) p.call) refl
        (sym (call_looked plan notes p.lane p.call) ∙ at)
      where
        of_line : (o : Option CallLine) → slice_get (lane_calls plan p.lane) p.call ≡ o
            → option_map (looked_up plan notes p.lane p.call) o ≡ Some (calls.Seal c item)
            → LineOf c p
        of_line None at is = absurd (let f : None ≡ Some (calls.Seal c item) = is in cc)
        of_line (Some call) at is =
            of_call c p item call at
            (let f : Some (looked_up plan notes p.lane p.call call) ≡ Some (calls.Seal c item) = is in cc)

    -- it seals on the place of a context that stands
    placed : (c : ℕ) (p : Place) → c < length standing → (t : LineOf c p)
        → position plan t.context ≡ c
    placed c p low t =
        either (nat_lt t.context first_name || was_live notes (place p.lane p.call 0)) refl t.is
      where
        either : (b : Bool)
            → (nat_lt t.context first_name || was_live notes (place p.lane p.call 0)) ≡ b
            → (if b then position plan t.context else t.context) ≡ c → position plan t.context ≡ c
        either true e is = is
        either false e is = absurd (
            let few = within.contexts in
            let high : nat_lt t.context first_name ≡ false = or_left _ _ e in grind (arith, nat_tests))

    sealing : (c : ℕ) (p : Place) → c < length standing → LineOf c p → Seals plan c p.lane
    sealing c p low t =
        any_at (seals_on plan c) (lane_calls plan p.lane) p.call (calls.Seal t.context t.item) t.at
        (eq-eqb (position plan t.context) c (placed c p low t))

    -- the other table looks it up as the same call
    also_looked : (c : ℕ) (p : Place) (item : Spans)
        → slice_get (slice_index_or (looked_up_plan plan notes).lanes p.lane []) p.call
        ≡ Some (calls.Seal c item)
        → slice_get (slice_index_or (looked_up_plan plan remarks).lanes p.lane []) p.call
        ≡ Some (calls.Seal c item)
    also_looked c p item at =
        let t = looked c p item at in
        let own : calls.Seal (found notes p.lane p.call t.context) t.item ≡ calls.Seal c item =
        (let f : Some (looked_up plan notes p.lane p.call (calls.Seal t.context t.item)) ≡ Some (calls.Seal c item) =
        sym (call_looked plan notes p.lane p.call ∙ ap (option_map (looked_up plan notes p.lane p.call)) t.at) ∙ at in
        let g : looked_up plan notes p.lane p.call (calls.Seal t.context t.item) ≡ calls.Seal c item = cc in
        sym (looked_is notes p.lane p.call t.context t.item) ∙ g) in
        call_looked plan remarks p.lane p.call
        ∙ ap (option_map (looked_up plan remarks p.lane p.call)) t.at
        ∙ ap Some (looked_is remarks p.lane p.call t.context t.item
        ∙ ap (λ context. calls.Seal context t.item)
        (sym (same_found p.lane p.call t.context t.item t.at)) ∙ own)

    -- the run of the calls as a table leaves them; what they ask depends on nothing else
    abbrev with_table : List Entry → Run
    with_table table = run_along (looked_up_plan plan table) standing [] []

    pub to_other : (c : ℕ) (item : Spans) → call_refusal standing (calls.Seal c item) ≡ None
        → (p : Place) (x : Item) → item_of (asks_of (with_table notes)) p ≡ Some (c, x)
        → item_of (asks_of (with_table remarks)) p ≡ Some (c, x)
    to_other c item seals p x is =
        let s = sealing_call (with_table notes) c item seals p x
        (serving_call (with_table notes) c p x is) in
        ap (λ o. item_in_call o p.item)
        (ask_at (with_table remarks) p.lane p.call (calls.Seal c s.item)
        (also_looked c p s.item s.at))
        ∙ sym (ap (λ o. item_in_call o p.item)
        (ask_at (with_table notes) p.lane p.call (calls.Seal c s.item) s.at)) ∙ is

    pub one_lane : (c : ℕ) (item : Spans) → call_refusal standing (calls.Seal c item) ≡ None
        → IsOfOneLane (asks_of (with_table notes)) c
    one_lane c item seals p q a b =
        let low = stands standing c (calls.Seal c item) seals in
        let s = sealing_call (with_table notes) c item seals p a.0
        (serving_call (with_table notes) c p a.0 a.1) in
        let t = sealing_call (with_table notes) c item seals q b.0
        (serving_call (with_table notes) c q b.0 b.1) in
        alone c q.lane (omega arith) (sealing c q low (looked c q t.item t.at)) p.lane
        (inl (sealing c p low (looked c p s.item s.at)))

-- ---- two live runs

in_flat : (journals : List (List Mark)) (c : ℕ) (m : Mark) → In m (marks_at journals c)
    → In (call_mark m) (flat_map (map call_mark) journals)
in_flat [] c m i = absurd i
in_flat (marks ∷ journals) zero m i =
    In-left (call_mark m) (map call_mark marks) (flat_map (map call_mark) journals)
    (in_map call_mark m marks i)
in_flat (marks ∷ journals) (suc c) m i =
    In-right (call_mark m) (map call_mark marks) (flat_map (map call_mark) journals)
    (in_flat journals c m i)

-- each journal of a live history is legal by itself
live_alone : (batch : Batch) (journals : List (List Mark)) (notes : List Entry) (c : ℕ)
    → LiveHistory batch journals notes → Legal batch c (places (marks_at journals c))
live_alone batch journals notes c history =
    marks_alone batch c (marks_at journals c) (history.each c)
    (λ m k a b lanes before. history.in_order (call_mark m) (call_mark k) (there m a) (there k b) lanes
    (elim before [
      | inl low ↦ inl (omega arith)
      | inr t ↦ inr (ap (λ n. 2 * n + 1) t.0, t.1)
    ]))
  where
    there : (m : Mark) → Contains (marks_at journals c) m
        → Contains (events journals notes) (call_mark m)
    there m has =
        contains_in (events journals notes) (call_mark m)
        (In-left (call_mark m) (flat_map (map call_mark) journals) (map note_mark notes)
        (in_flat journals c m (in_contains (marks_at journals c) m has)))

module _ (plan : Plan) (replies : List ContextReply) (standing : List (Option ContextView))
    (within : IsWithinLimits plan) (count : length standing ≡ length plan.contexts)
    (alone : NoTwoLanesSeal plan) (journals further : List (List Mark))
    (guesses others : List (List ℕ)) (notes remarks : List Entry)
    (allowed : IsAllowedLive (live_run_along plan replies standing journals guesses notes))
    (also : IsAllowedLive (live_run_along plan replies standing further others remarks)) where
  abbrev live : LiveRun
  live = live_run_along plan replies standing journals guesses notes

  abbrev other : LiveRun
  other = live_run_along plan replies standing further others remarks

  ordered : InLaneOrder notes
  ordered = in_lane_order (asks_of (run_of live)) journals notes allowed.history

  reordered : InLaneOrder remarks
  reordered = in_lane_order (asks_of (run_of other)) further remarks also.history

  same_line : (c : ℕ) (item : Spans) → call_refusal standing (calls.Seal c item) ≡ None
      → (p : Place) → place_line (run_of live) c p ≡ place_line (run_of other) c p
  same_line c item seals p =
      ap answer_line_of
      (same_replies (asks_of (run_of live)) (asks_of (run_of other)) c
      (λ q x. (
        to_other plan standing within count alone notes remarks allowed.table also.table ordered reordered c item seals q x,
        to_other plan standing within count alone remarks notes also.table allowed.table reordered ordered c item seals q x,
      ))
      (one_lane plan standing within count alone notes remarks allowed.table also.table ordered reordered c item seals)
      (cipher_at standing c) (journal_of (run_of live) c) (journal_of (run_of other) c) p
      (live_alone (asks_of (run_of live)) journals notes c allowed.history)
      (live_alone (asks_of (run_of other)) further remarks c also.history))

  same_call : (lane number c : ℕ) (item : Spans)
      → call_lines (run_of live) lane number (calls.Seal c item)
      ≡ call_lines (run_of other) lane number (calls.Seal c item)
  same_call lane number c item = unless (call_refusal standing (calls.Seal c item)) refl
    where
      unless : (r : Option CallRefusal) → call_refusal standing (calls.Seal c item) ≡ r
          → lines_unless r (served_lines (run_of live) lane number (calls.Seal c item))
          ≡ lines_unless r (served_lines (run_of other) lane number (calls.Seal c item))
      unless (Some why) refused = refl
      unless None free = ap (λ (line : List ℕ). line ∷ []) (same_line c item free (place lane number 0))

  pub live_seals_alike : SealsAlike plan (live_call_lines live) (live_call_lines other)
  live_seals_alike lane number context item at =
      ap (call_lines (run_of live) lane number)
      (looked_is plan standing within count alone notes lane number context item)
      ∙ same_call lane number (found plan standing within count alone notes lane number context) item
      ∙ ap (λ c. call_lines (run_of other) lane number (calls.Seal c item))
      (same_found plan standing within count alone notes remarks allowed.table also.table ordered reordered lane number context item at)
      ∙ ap (call_lines (run_of other) lane number)
      (sym (looked_is plan standing within count alone remarks lane number context item))
