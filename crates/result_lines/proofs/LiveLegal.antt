-- The journals of a live history are legal, each by itself, and its numbers fit their fields.
use Rattle.std.proofs.Common.{◌≡◌, ◌*◌, ℕ, zero, suc, ◌+◌, ◌<◌, ◌≤◌, ◌&&◌, Bool, true, List, [], ◌∷◌, ◌++◌, length, map, Option, Some, None, sym, refl, ap, ◌∙◌, subst, arith, inl, inr, length-append}
use Rattle.std.specs.Prelude.{slice_get, slice_index_or, sum_by}
use Rattle.std.specs.List.{All, list_all, range_with_len}
use Rattle.std.proofs.lemmas.Bool.{cases_lt}
use Rattle.std.proofs.lemmas.List.{get_or_past}
use Rattle.std.proofs.lemmas.List.Elements.{All-nil, All-cons, All-head, All-tail}
use Rattle.std.proofs.lemmas.List.Sums.{sum_by-cons}
use Rattle.std.proofs.lemmas.Option.{slice_get_within}
use Rattle.call_places.specs.declared.entries.Entry.{Entry}
use Rattle.call_places.specs.declared.entries.Mark.{Mark}
use Rattle.call_places.specs.declared.entries.Step.TheVariants.{Note}
use Rattle.context_books.specs.Batches.{Ask, Batch, Spot, items_in, place, lane_of, asked}
use Rattle.context_books.specs.Merging.{all_asked, own_spots}
use Rattle.context_books.specs.Legal.{Legal}
use Rattle.context_books.specs.Checks.{is_legal_history}
use Rattle.context_books.specs.Histories.{entry_places, places, marks_at, LegalHistory}
use Rattle.context_books.proofs.CheckingHistory.{legal_history_iff}
use Rattle.context_books.proofs.Marks.{marks_alone}
use Rattle.context_books.proofs.Members.{contains_in, in_map, value_at}
use Rattle.context_books.specs.Lists.{In}
use Rattle.context_books.proofs.OneHistory.{all, below_total, one_history}
use Rattle.context_books.proofs.Places.{same_place}
use Rattle.context_books.proofs.Spots.{spot_own}
use Rattle.context_books.proofs.Truths.{and_left}
use Rattle.batch_plans.specs.declared.plan.Plan.{Plan}
use Rattle.batch_plans.specs.declared.plan.CallLine.{CallLine}
use Rattle.batch_plans.specs.Limits as limits
use Rattle.batch_plans.specs.Within.{IsWithinLimits}
use Rattle.batch_plans.proofs.Rooms.{has_item}
use Rattle.batch_plans.specs.ReplyText.{numbered}
use Rattle.batch_plans.specs.LiveText.{tells_live}
use Rattle.context_books.specs.Asks.{ask_of}
use Rattle.context_books.specs.Live.{Noting, noting, noting_in, IsNoted, looked_up, looked_up_plan, LiveRun, run_of, LegalTable, LiveHistory}
use Rattle.context_books.specs.LiveChecks.{note_ask, pairs, asks_with_notes, note_mark, call_mark, with_table, tells_act, tells_live_at, is_live_history}
use Rattle.context_books.specs.Standing.{call_refusal}
use Rattle.context_books.specs.Runs.{asks_of}
use Rattle.context_books.proofs.LiveParts.{parts_of}
use Rattle.context_books.proofs.LiveChecked.{live_history_iff}
use Rattle.context_books.proofs.OneLiveHistory.{at_table}
use Rattle.context_books.proofs.LookedUp.{calls_looked}
use Rattle.result_lines.specs.PrintedLive.{note_told, IsNoteWithin}
use Rattle.result_lines.specs.Printed.{IsPlaceWithin}
use Rattle.result_lines.specs.Tables.{noting_at, entry_by, entry_of}
use Rattle.result_lines.specs.declared.stamps.Stamps.TheVariants.{PlacesAndNotes}
use Rattle.result_lines.proofs.Counting.{counted, served_low, one_size, length-asked}
use Rattle.result_lines.proofs.Limited.{IsLine, calls_few}
use Rattle.result_lines.proofs.LookedLimits.{own, looked_within, looked_lanes}

-- each journal of a live history is legal
pub live_alone : (batch : Batch) (journals : List (List Mark)) (notes : List Entry) (context : ℕ) → LiveHistory batch journals notes → Legal batch context (places (marks_at journals context))
live_alone batch journals notes context t =
    marks_alone batch context (marks_at journals context) (t.each context)
    ((parts_of batch journals notes t).in_order context context)

-- ---- how many places and notes there are

note_few : (table : ℕ) (n : Option Noting) → length (items_in (note_ask table n)) ≤ 1
note_few table None = omega arith
note_few table (Some n) = omega arith

lane_numbered : (f : ℕ → List CallLine → List Ask) → ((n : ℕ) → f n [] ≡ []) → (start : ℕ) (lanes : List (List CallLine)) (lane : ℕ)
    → lane_of (numbered f start lanes) lane ≡ f (start + lane) (slice_index_or lanes lane [])
lane_numbered f none start [] lane = sym (none (start + lane))
lane_numbered f none start (calls ∷ lanes) zero = ap (λ n. f n calls) (let e : start ≡ start + 0 = omega arith in e)
lane_numbered f none start (calls ∷ lanes) (suc lane) =
    lane_numbered f none (start + 1) lanes lane
    ∙ ap (λ n. f n (slice_index_or lanes lane [])) (let e : start + 1 + lane ≡ start + suc lane = omega arith in e)

double_sum : {X : Type 0} (f : X → ℕ) (xs : List X) → sum_by (λ x. 2 * f x) xs ≡ 2 * sum_by f xs
double_sum f [] = refl
double_sum f (x ∷ xs) = omega (arith, sum_by-cons (λ x. 2 * f x) x xs, sum_by-cons f x xs, double_sum f xs)

module _ (live : LiveRun) (within : IsWithinLimits live.plan) where
  abbrev served_plan : Plan
  served_plan = looked_up_plan live.plan live.notes

  abbrev both : Batch
  both = asks_with_notes live

  abbrev table : ℕ
  table = length live.journals

  abbrev note : CallLine → Ask
  note call = note_ask table (noting live.plan live.standing call)

  abbrev ask : ℕ → ℕ → CallLine → Ask
  ask lane number call = ask_of served_plan live.standing (looked_up live.plan live.notes lane number call)

  -- what a call and its note ask is at most twice as much as its items
  pair_few : (lane number at : ℕ) (calls : List CallLine) → All (IsLine live.plan) calls → All (IsLine served_plan) (own live.plan live.notes lane number calls)
      → length (all_asked lane at (pairs note (ask lane) number calls)) ≤ 2 * sum_by limits.items_of (own live.plan live.notes lane number calls)
  pair_few lane number at [] fits looked = omega arith
  pair_few lane number at (call ∷ calls) fits looked =
      let here = looked_up live.plan live.notes lane number call in
      let later = own live.plan live.notes lane (number + 1) calls in
      let fit = All-head (IsLine served_plan) here later looked in
      let rest = pair_few lane (number + 1) (at + 1 + 1) calls (All-tail (IsLine live.plan) call calls fits) (All-tail (IsLine served_plan) here later looked) in
      let first = asked lane at (note call) in
      let second = asked lane (at + 1) (ask lane number call) in
      let third = all_asked lane (at + 1 + 1) (pairs note (ask lane) (number + 1) calls) in
      omega (
        arith,
        length-append first (second ++ third),
        length-append second third,
        length-asked lane at (note call),
        length-asked lane (at + 1) (ask lane number call),
        note_few table (noting live.plan live.standing call),
        one_size served_plan (call_refusal live.standing here) here fit,
        has_item (length served_plan.items) (length served_plan.pool) here fit,
        sum_by-cons limits.items_of here later,
        rest,
      )

  asks_at : (lane : ℕ) → lane_of both lane ≡ pairs note (ask lane) 0 (slice_index_or live.plan.lanes lane [])
  asks_at lane =
      lane_numbered (λ l cs. pairs note (ask l) 0 cs) (λ l. refl) 0 live.plan.lanes lane
      ∙ ap (λ l. pairs note (ask l) 0 (slice_index_or live.plan.lanes lane [])) (let e : 0 + lane ≡ lane = omega arith in e)

  own_at : (lane : ℕ) → slice_index_or served_plan.lanes lane [] ≡ own live.plan live.notes lane 0 (slice_index_or live.plan.lanes lane [])
  own_at lane = calls_looked live.plan live.notes lane

  within_served : IsWithinLimits served_plan
  within_served = looked_within live.plan live.notes within

  lane_few : (lane : ℕ) (calls : List CallLine) → slice_get served_plan.lanes lane ≡ Some calls → length (all_asked lane 0 (lane_of both lane)) ≤ 2 * sum_by limits.items_of calls
  lane_few lane calls at =
      let mine : slice_index_or served_plan.lanes lane [] ≡ calls = value_at served_plan.lanes lane calls [] at in
      let low : lane < length served_plan.lanes = slice_get_within served_plan.lanes lane calls at in
      let few : lane < length live.plan.lanes = (let size = looked_lanes live.plan live.notes within in omega arith) in
      let is : own live.plan live.notes lane 0 (slice_index_or live.plan.lanes lane []) ≡ calls = sym (own_at lane) ∙ mine in
      subst (λ (asks : List Ask). length (all_asked lane 0 asks) ≤ 2 * sum_by limits.items_of calls) (sym (asks_at lane))
      (subst (λ (cs : List CallLine). length (all_asked lane 0 (pairs note (ask lane) 0 (slice_index_or live.plan.lanes lane []))) ≤ 2 * sum_by limits.items_of cs) is
      (pair_few lane 0 0 (slice_index_or live.plan.lanes lane []) (within.call_lines lane [] few)
      (subst (All (IsLine served_plan)) (own_at lane) (within_served.call_lines lane [] low))))

  lane_there : (lane : ℕ) (s : Spot) → In s (all_asked lane 0 (lane_of both lane)) → lane < length served_plan.lanes
  lane_there lane s here = elim (cases_lt lane (length served_plan.lanes)) [
    | inl low ↦ low
    | inr high ↦ absurd (
        let size = looked_lanes live.plan live.notes within in
        let none : slice_index_or live.plan.lanes lane [] ≡ [] = get_or_past live.plan.lanes lane [] (omega arith) in
        subst (λ (asks : List Ask). In s (all_asked lane 0 asks)) (asks_at lane ∙ ap (λ (cs : List CallLine). pairs note (ask lane) 0 cs) none) here)
  ]

  history_few : (history : List Spot) → ((lane : ℕ) → own_spots lane history ≡ all_asked lane 0 (lane_of both lane)) → length history ≤ 131072
  history_few history lanes =
      let all = counted (λ (s : Spot). s.place.lane) (λ (cs : List CallLine). 2 * sum_by limits.items_of cs) served_plan.lanes 0 history
      (λ s here.
      let mine = subst (In s) (lanes s.place.lane) (spot_own s.place.lane s history here refl) in
      let low = lane_there s.place.lane s mine in
      (omega arith, omega arith))
      (λ i calls at.
      let few = lane_few i calls at in
      let z : i ≡ 0 + i = omega arith in
      subst (λ (l : ℕ). length (own_spots l history) ≤ 2 * sum_by limits.items_of calls) z (omega (arith, ap length (lanes i), few))) in
      let most = within_served.items in
      omega (arith, all, most, double_sum (λ (cs : List CallLine). sum_by limits.items_of cs) served_plan.lanes)

  module _ (t : LegalHistory both (with_table live)) where
    stamp_few : (c : ℕ) (m : Mark) → In m (marks_at (with_table live) c) → m.stamp ≤ 131071
    stamp_few c m here =
        let low = below_total both (with_table live) t c m here in
        let h = all both (with_table live) t in
        let few = history_few h.0 (one_history both (with_table live) t).lanes in
        omega (arith, low, few, h.1)

  -- ---- what a live history prints

  pub one_list : LegalTable live.plan live.standing live.notes → LiveHistory (asks_of (run_of live)) live.journals live.notes → LegalHistory both (with_table live)
  one_list legal history =
      let passes : is_live_history live ≡ true = (live_history_iff live).1 (legal, history) in
      let acts = list_all (tells_act live.plan live.standing) live.notes in
      let lives = list_all (λ i. tells_live_at live.notes i (slice_get live.notes i)) (range_with_len 0 (length live.notes)) in
      let test = is_legal_history both (with_table live) in
      (legal_history_iff both (with_table live)).0 (and_left test acts (and_left (test && acts) lives passes))

  journal_at : (js rest : List (List Mark)) (c : ℕ) (m : Mark) → In m (marks_at js c) → In (call_mark m) (marks_at (map (map call_mark) js ++ rest) c)
  journal_at [] rest c m here = absurd here
  journal_at (own ∷ js) rest zero m here = in_map call_mark m own here
  journal_at (own ∷ js) rest (suc c) m here = journal_at js rest c m here

  all_marks : (P : Mark → Type 0) (marks : List Mark) → ((m : Mark) → In m marks → P m) → All P marks
  all_marks P [] each = All-nil P
  all_marks P (m ∷ marks) each = All-cons P m marks (each m (inl refl)) (all_marks P marks (λ k here. each k (inr here)))

  all_journals : (P : Mark → Type 0) (journals : List (List Mark)) → ((c : ℕ) (m : Mark) → In m (marks_at journals c) → P m) → All (All P) journals
  all_journals P [] each = All-nil (All P)
  all_journals P (marks ∷ journals) each = All-cons (All P) marks journals (all_marks P marks (each 0)) (all_journals P journals (λ c m here. each (suc c) m here))

  module _ (legal : LegalTable live.plan live.standing live.notes) (history : LiveHistory (asks_of (run_of live)) live.journals live.notes) where
    -- the numbers of places fit their fields
    pub live_marks_fit : All (All (IsPlaceWithin PlacesAndNotes)) live.journals
    live_marks_fit = all_journals (IsPlaceWithin PlacesAndNotes) live.journals (λ c m here.
        let low = served_low served_plan live.standing within_served c m.place
        (((history.each c).served m.place).0 (contains_in (places (marks_at live.journals c)) m.place (in_map (λ (k : Mark). k.place) m (marks_at live.journals c) here))) in
        record {
          lane = low.0;
          call = low.1;
          item = low.2;
          stamp = stamp_few (one_list legal history) c (call_mark m) (journal_at live.journals (map note_mark live.notes ∷ []) c m here);
        })

    call_low : (lane call : ℕ) (line : CallLine) → slice_get (slice_index_or live.plan.lanes lane []) call ≡ Some line → (lane ≤ 65535) × (call ≤ 65535)
    call_low lane call line at = elim (cases_lt lane (length live.plan.lanes)) [
      | inl low ↦
          let few = calls_few live.plan lane [] within low in
          let index = slice_get_within (slice_index_or live.plan.lanes lane []) call line at in
          let lanes = within.lanes in
          (omega arith, omega arith)
      | inr high ↦ absurd (
          let none : slice_index_or live.plan.lanes lane [] ≡ [] = get_or_past live.plan.lanes lane [] high in
          let clash : None ≡ Some line = sym (ap (λ (cs : List CallLine). slice_get cs call) none) ∙ at in cc)
    ]

    noted_low : (lane call : ℕ) (n : Noting) → noting_at live.plan live.standing lane call ≡ Some n → (lane ≤ 65535) × (call ≤ 65535)
    noted_low lane call n is = go (slice_get (slice_index_or live.plan.lanes lane []) call) refl is
      where
        go : (o : Option CallLine) → slice_get (slice_index_or live.plan.lanes lane []) call ≡ o
            → noting_in live.plan live.standing o ≡ Some n → (lane ≤ 65535) × (call ≤ 65535)
        go None at none = absurd cc
        go (Some line) at some = call_low lane call line at

    -- a note is what its line and its call say
    note_own : (e : Entry) (n : Noting) → IsNoted live.plan live.standing e.place n → (told : (bit : Bool) × (e.step ≡ Note n.name n.act bit))
        → entry_of live.plan live.standing (note_told e) ≡ e
    note_own e n noted told =
        let here : place e.place.lane e.place.call 0 ≡ e.place = same_place (place e.place.lane e.place.call 0) e.place refl refl (sym noted.first) in
        let bit : tells_live e.step ≡ told.0 = ap tells_live told.1 in
        ap (λ (o : Option Noting). entry_by o (note_told e)) noted.noting_is
        ∙ (λ i. record { place = here i; stamp = e.stamp; step = Note n.name n.act (bit i) })
        ∙ (λ i. record { place = e.place; stamp = e.stamp; step = sym told.1 i })

    -- and its numbers fit their fields
    pub live_notes_fit : All (IsNoteWithin live.plan live.standing) live.notes
    live_notes_fit = all_notes live.notes (λ e here.
        let noted = (legal.noted e.place).0 (contains_in (entry_places live.notes) e.place (in_map (λ (f : Entry). f.place) e live.notes here)) in
        let low = noted_low e.place.lane e.place.call noted.0 noted.1.noting_is in
        record {
          lane = low.0;
          call = low.1;
          stamp = stamp_few (one_list legal history) table (note_mark e)
              (subst (In (note_mark e)) (sym (at_table live.journals live.notes)) (in_map note_mark e live.notes here));
          own = note_own e noted.0 noted.1 (legal.acts e noted.0 (contains_in live.notes e here) noted.1);
        })
      where
        all_notes : (notes : List Entry) → ((e : Entry) → In e notes → IsNoteWithin live.plan live.standing e) → All (IsNoteWithin live.plan live.standing) notes
        all_notes [] each = All-nil (IsNoteWithin live.plan live.standing)
        all_notes (e ∷ notes) each = All-cons (IsNoteWithin live.plan live.standing) e notes (each e (inl refl)) (all_notes notes (λ f here. each f (inr here)))
