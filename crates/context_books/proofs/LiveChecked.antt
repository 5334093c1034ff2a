-- The tables and journals of a run are one list of notes and places, and the test passes exactly
-- where they are.
use Rattle.std.proofs.Common.{◌≡◌, ◌==◌, ◌&&◌, ℕ, zero, suc, ◌+◌, ◌*◌, Bool, true, false, List, [], ◌∷◌, length, map, take, Option, Some, None, sym, refl, ap, ◌∙◌, subst, arith, eqb-true, eq-eqb, inl, inr}
use Rattle.std.specs.Prelude.{slice_get, slice_index_or, option_map, Contains, IsTrue, ◌↔◌}
use Rattle.std.specs.List.{AllPairs, list_all, range_with_len}
use Rattle.std.proofs.lemmas.List.{length-append, length-map}
use Rattle.std.proofs.lemmas.Option.{slice_get-map, slice_get_within}
use Rattle.call_places.specs.declared.entries.Act.{Act}
use Rattle.call_places.specs.declared.entries.Act.TheVariants as acts
use Rattle.call_places.specs.declared.entries.Entry.{Entry}
use Rattle.call_places.specs.declared.entries.Place.{Place}
use Rattle.call_places.specs.declared.entries.Step.{Step}
use Rattle.call_places.specs.declared.entries.Step.TheVariants.{Sealed, SealLimit, Opened, Failed, OpenLimit, Note}
use Rattle.call_places.specs.Notes.{live_at, TellsLive, AreLive}
use Rattle.context_books.specs.Batches.{Ask, Spot, lane_of, IsServed}
use Rattle.context_books.specs.Checks.{is_legal_history}
use Rattle.context_books.specs.Histories.{HasLowerStamp, LegalHistory, places, journals_of, entry_places}
use Rattle.context_books.specs.Merging.{IsHistory}
use Rattle.context_books.specs.Legal.{IsInLaneOrder, Legal}
use Rattle.context_books.proofs.CheckingHistory.{legal_history_iff}
use Rattle.context_books.proofs.Members.{contains_in, in_contains, in_range, in_map}
use Rattle.context_books.proofs.OneHistory.{history_iff}
use Rattle.context_books.proofs.Truths.{and_left, and_right, both_true, all_true, true_all}
use Rattle.batch_plans.specs.declared.plan.CallLine.{CallLine}
use Rattle.batch_plans.specs.ReplyText.{numbered}
use Rattle.context_books.specs.Asks.{ask_of}
use Rattle.context_books.specs.Live.{Noting, noting, noting_in, IsNoted, looked_up, looked_up_plan, LiveRun, run_of, LegalTable, LiveHistory}
use Rattle.context_books.specs.LiveChecks.{note_ask, pairs, note_mark, call_mark, asks_with_notes, with_table, TellActs, is_same_act, notes_act, tells_noting, tells_act, is_same_truth, tells_live_after, tells_live_at, is_live_history}
use Rattle.context_books.specs.Runs.{asks_of}
use Rattle.context_books.proofs.Done.{lane_asks}
use Rattle.context_books.proofs.LookedUp.{call_looked}
use Rattle.context_books.proofs.OneLiveHistory.{AsksNote, forth, marks_legal, marks_rise, legal_marked, rise_marked, noted_back, once_back, rise_back, history_back}

-- ---- each call as two

module _ (note : CallLine → Ask) (ask : ℕ → CallLine → Ask) where
  pairs_even : (start : ℕ) (calls : List CallLine) (k : ℕ)
      → slice_get (pairs note ask start calls) (2 * k) ≡ option_map note (slice_get calls k)
  pairs_even start [] k = refl
  pairs_even start (call ∷ calls) zero = refl
  pairs_even start (call ∷ calls) (suc k) =
      ap (slice_get (pairs note ask start (call ∷ calls)))
      (let e : 2 * suc k ≡ suc (suc (2 * k)) = omega arith in e)
      ∙ pairs_even (start + 1) calls k

  pairs_odd : (start : ℕ) (calls : List CallLine) (k : ℕ)
      → slice_get (pairs note ask start calls) (2 * k + 1)
      ≡ option_map (ask (start + k)) (slice_get calls k)
  pairs_odd start [] k = refl
  pairs_odd start (call ∷ calls) zero =
      ap (λ n. Some (ask n call)) (let e : start ≡ start + 0 = omega arith in e)
  pairs_odd start (call ∷ calls) (suc k) =
      ap (slice_get (pairs note ask start (call ∷ calls)))
      (let e : 2 * suc k + 1 ≡ suc (suc (2 * k + 1)) = omega arith in e)
      ∙ pairs_odd (start + 1) calls k
      ∙ ap (λ n. option_map (ask n) (slice_get calls k))
      (let e : start + 1 + k ≡ start + suc k = omega arith in e)

lane_numbered : (f : ℕ → List CallLine → List Ask) → ((n : ℕ) → f n [] ≡ []) → (start : ℕ)
    (lanes : List (List CallLine)) (lane : ℕ)
    → lane_of (numbered f start lanes) lane ≡ f (start + lane) (slice_index_or lanes lane [])
lane_numbered f none start [] lane = sym (none (start + lane))
lane_numbered f none start (calls ∷ lanes) zero =
    ap (λ n. f n calls) (let e : start ≡ start + 0 = omega arith in e)
lane_numbered f none start (calls ∷ lanes) (suc lane) =
    lane_numbered f none (start + 1) lanes lane
    ∙ ap (λ n. f n (slice_index_or lanes lane []))
    (let e : start + 1 + lane ≡ start + suc lane = omega arith in e)

module _ (live : LiveRun) where
  abbrev table : ℕ
  table = length live.journals

  abbrev calls : ℕ → List CallLine
  calls lane = slice_index_or live.plan.lanes lane []

  abbrev note : CallLine → Ask
  note call = note_ask table (noting live.plan live.standing call)

  abbrev served : ℕ → ℕ → CallLine → Ask
  served lane number call = ask_of (looked_up_plan live.plan live.notes) live.standing
      (looked_up live.plan live.notes lane number call)

  lane_is : (lane : ℕ)
      → lane_of (asks_with_notes live) lane ≡ pairs note (served lane) 0 (calls lane)
  lane_is lane =
      lane_numbered (λ l cs. pairs note (served l) 0 cs) (λ l. refl) 0 live.plan.lanes lane
      ∙ ap (λ l. pairs note (served l) 0 (calls lane)) (let e : 0 + lane ≡ lane = omega arith in e)

  evens : (lane k : ℕ) → AsksNote table (slice_get (lane_of (asks_with_notes live) lane) (2 * k))
      (noting_in live.plan live.standing (slice_get (calls lane) k))
  evens lane k = subst (λ o. AsksNote table o (noting_in live.plan live.standing (slice_get (calls lane) k)))
      (sym (ap (λ asks. slice_get asks (2 * k)) (lane_is lane) ∙ pairs_even note (served lane) 0 (calls lane) k))
      (here (slice_get (calls lane) k))
    where
      here : (o : Option CallLine)
          → AsksNote table (option_map note o) (noting_in live.plan live.standing o)
      here None = inl (refl, refl)
      here (Some call) = inr refl

  odds : (lane k : ℕ) → slice_get (lane_of (asks_with_notes live) lane) (2 * k + 1)
      ≡ slice_get (lane_of (asks_of (run_of live)) lane) k
  odds lane k =
      ap (λ asks. slice_get asks (2 * k + 1)) (lane_is lane)
      ∙ pairs_odd note (served lane) 0 (calls lane) k
      ∙ ap (λ n. option_map (served lane n) (slice_get (calls lane) k))
      (let e : 0 + k ≡ k = omega arith in e)
      ∙ sym (ap (λ asks. slice_get asks k) (lane_asks (run_of live) lane)
      ∙ slice_get-map (ask_of (looked_up_plan live.plan live.notes) live.standing)
      (slice_index_or (looked_up_plan live.plan live.notes).lanes lane []) k
      ∙ ap (option_map (ask_of (looked_up_plan live.plan live.notes) live.standing))
      (call_looked live.plan live.notes lane k)
      ∙ both_maps (slice_get (calls lane) k))
    where
      both_maps : (o : Option CallLine)
          → option_map (ask_of (looked_up_plan live.plan live.notes) live.standing)
          (option_map (looked_up live.plan live.notes lane k) o) ≡ option_map (served lane k) o
      both_maps None = refl
      both_maps (Some call) = refl

  -- ---- one history

  abbrev IsOne : Type 0
  IsOne = LegalHistory (asks_with_notes live) (with_table live)
      × TellActs live.plan live.standing live.notes × AreLive live.notes

  abbrev IsLegal : Type 0
  IsLegal = LegalTable live.plan live.standing live.notes
      × LiveHistory (asks_of (run_of live)) live.journals live.notes

  legal_one : IsLegal → IsOne
  legal_one t = (
    forth live.plan live.standing (asks_of (run_of live)) (asks_with_notes live) live.journals
        live.notes evens odds t.0.noted t.0.once t.0.rise t.1,
    t.0.acts,
    t.0.live,
  )

  one_legal : IsOne → IsLegal
  one_legal t =
      let plan = live.plan in
      let standing = live.standing in
      let batch = asks_of (run_of live) in
      let both = asks_with_notes live in
      let journals = live.journals in
      let notes = live.notes in (
        record {
          noted = noted_back plan standing batch both journals notes evens odds t.0;
          once = once_back plan standing batch both journals notes evens odds t.0;
          acts = t.1;
          live = t.2;
          rise = rise_back plan standing batch both journals notes evens odds t.0;
        },
        history_back plan standing batch both journals notes evens odds t.0,
      )

  length_table : length (with_table live) ≡ length live.journals + 1
  length_table =
      let called : length (map (map call_mark) live.journals) ≡ length live.journals =
      length-map live.journals (map call_mark) in
      length-append (map (map call_mark) live.journals) (map note_mark live.notes ∷ [])
      ∙ (let e : length (map (map call_mark) live.journals) + 1 ≡ length live.journals + 1 = omega arith in e)

pub live_history_is_one_list : (live : LiveRun)
    → (LegalTable live.plan live.standing live.notes
    × LiveHistory (asks_of (run_of live)) live.journals live.notes)
    ↔ ((history : List Spot)
    × IsHistory (asks_with_notes live) (length live.journals + 1) history
    × (with_table live ≡ journals_of (length live.journals + 1) history)
    × TellActs live.plan live.standing live.notes × AreLive live.notes)
live_history_is_one_list live = (
  λ t.
      let one = legal_one live t in
      let n : length (with_table live) ≡ length live.journals + 1 = length_table live in
      let h = (history_iff (asks_with_notes live) (with_table live)).0 one.0 in (
        h.0,
        subst (λ k. IsHistory (asks_with_notes live) k h.0) n h.1,
        subst (λ k. with_table live ≡ journals_of k h.0) n h.2,
        one.1,
        one.2,
      ),
  λ t.
      let n : length (with_table live) ≡ length live.journals + 1 = length_table live in
      one_legal live (
        (history_iff (asks_with_notes live) (with_table live)).1 (
          t.0,
          subst (λ k. IsHistory (asks_with_notes live) k t.0) (sym n) t.1,
          subst (λ k. with_table live ≡ journals_of k t.0) (sym n) t.2,
        ),
        t.3,
        t.4,
      ),
)

-- ---- what the notes say

same_act : (a b : Act) → is_same_act a b ≡ true → a ≡ b
same_act acts.Add acts.Add e = refl
same_act acts.Retire acts.Retire e = refl
same_act acts.Look acts.Look e = refl
same_act acts.Add acts.Retire e = absurd (let f : false ≡ true = e in cc)
same_act acts.Add acts.Look e = absurd (let f : false ≡ true = e in cc)
same_act acts.Retire acts.Add e = absurd (let f : false ≡ true = e in cc)
same_act acts.Retire acts.Look e = absurd (let f : false ≡ true = e in cc)
same_act acts.Look acts.Add e = absurd (let f : false ≡ true = e in cc)
same_act acts.Look acts.Retire e = absurd (let f : false ≡ true = e in cc)

act_same : (a : Act) → is_same_act a a ≡ true
act_same acts.Add = refl
act_same acts.Retire = refl
act_same acts.Look = refl

noting_told : (n : Noting) (step : Step) → notes_act n.act n.name step ≡ true
    → (live : Bool) × (step ≡ Note n.name n.act live)
noting_told n Sealed e = absurd (let f : false ≡ true = e in cc)
noting_told n SealLimit e = absurd (let f : false ≡ true = e in cc)
noting_told n Opened e = absurd (let f : false ≡ true = e in cc)
noting_told n Failed e = absurd (let f : false ≡ true = e in cc)
noting_told n OpenLimit e = absurd (let f : false ≡ true = e in cc)
noting_told n (Note name act live) e =
    let a = eqb-true name n.name (and_left (name == n.name) (is_same_act act n.act) e) in
    let b = same_act act n.act (and_right (name == n.name) (is_same_act act n.act) e) in
    (live, (λ i. Note (a i) (b i) live))

told_noting : (n : Noting) (step : Step) → (live : Bool) × (step ≡ Note n.name n.act live)
    → notes_act n.act n.name step ≡ true
told_noting n step t =
    ap (notes_act n.act n.name) t.1
    ∙ both_true (n.name == n.name) (is_same_act n.act n.act) (eq-eqb n.name n.name refl) (act_same n.act)

same_truth : (a b : Bool) → is_same_truth a b ≡ true → a ≡ b
same_truth true true e = refl
same_truth true false e = absurd (let f : false ≡ true = e in cc)
same_truth false true e = absurd (let f : false ≡ true = e in cc)
same_truth false false e = refl

truth_same : (a : Bool) → is_same_truth a a ≡ true
truth_same true = refl
truth_same false = refl

live_told : (before : List Entry) (step : Step) → tells_live_after before step ≡ true
    → TellsLive before step
live_told before Sealed e = absurd (let f : false ≡ true = e in cc)
live_told before SealLimit e = absurd (let f : false ≡ true = e in cc)
live_told before Opened e = absurd (let f : false ≡ true = e in cc)
live_told before Failed e = absurd (let f : false ≡ true = e in cc)
live_told before OpenLimit e = absurd (let f : false ≡ true = e in cc)
live_told before (Note name act live) e = same_truth live (live_at before name) e

told_live : (before : List Entry) (step : Step) → TellsLive before step
    → tells_live_after before step ≡ true
told_live before Sealed t = absurd t
told_live before SealLimit t = absurd t
told_live before Opened t = absurd t
told_live before Failed t = absurd t
told_live before OpenLimit t = absurd t
told_live before (Note name act live) t =
    ap (λ b. is_same_truth b (live_at before name)) t ∙ truth_same (live_at before name)

module _ (live : LiveRun) where
  abbrev acts_test : Entry → Bool
  acts_test e = tells_act live.plan live.standing e

  abbrev live_test : ℕ → Bool
  live_test i = tells_live_at live.notes i (slice_get live.notes i)

  abbrev numbers : List ℕ
  numbers = range_with_len 0 (length live.notes)

  acts_told : list_all acts_test live.notes ≡ true → TellActs live.plan live.standing live.notes
  acts_told passes e n has r =
      noting_told n e.step (ap (λ o. tells_noting o e.step) (sym r.noting_is)
      ∙ all_true acts_test live.notes passes e (in_contains live.notes e has))

  told_acts : ((e : Entry) → Contains live.notes e
      → (n : Noting) × IsNoted live.plan live.standing e.place n)
      → TellActs live.plan live.standing live.notes → list_all acts_test live.notes ≡ true
  told_acts noted t = true_all acts_test live.notes (λ e i.
      let n = noted e (contains_in live.notes e i) in
      ap (λ o. tells_noting o e.step) n.1.noting_is
      ∙ told_noting n.0 e.step (t e n.0 (contains_in live.notes e i) n.1))

  all_live : list_all live_test numbers ≡ true → AreLive live.notes
  all_live passes i e at =
      live_told (take i live.notes) e.step (ap (tells_live_at live.notes i) (sym at)
      ∙ all_true live_test numbers passes i
      (in_range (length live.notes) 0 i (omega arith)
      (let low = slice_get_within live.notes i e at in omega arith)))

  live_all : AreLive live.notes → list_all live_test numbers ≡ true
  live_all t = true_all live_test numbers (λ i has. here i (slice_get live.notes i) refl)
    where
      here : (i : ℕ) (o : Option Entry) → slice_get live.notes i ≡ o
          → tells_live_at live.notes i (slice_get live.notes i) ≡ true
      here i None is = ap (tells_live_at live.notes i) is
      here i (Some e) is =
          ap (tells_live_at live.notes i) is ∙ told_live (take i live.notes) e.step (t i e is)

placed : (notes : List Entry) (e : Entry) → Contains notes e → Contains (entry_places notes) e.place
placed notes e has = contains_in (entry_places notes) e.place
    (in_map (λ (f : Entry). f.place) e notes (in_contains notes e has))

pub live_history_iff : (live : LiveRun) → IsTrue (is_live_history live)
    ↔ (LegalTable live.plan live.standing live.notes
    × LiveHistory (asks_of (run_of live)) live.journals live.notes)
live_history_iff live =
    let history_test = is_legal_history (asks_with_notes live) (with_table live) in
    let acts_tests = list_all (acts_test live) live.notes in
    let live_tests = list_all (live_test live) (numbers live) in (
      λ passes.
          let front = and_left (history_test && acts_tests) live_tests passes in
          one_legal live (
            (legal_history_iff (asks_with_notes live) (with_table live)).0
                (and_left history_test acts_tests front),
            acts_told live (and_right history_test acts_tests front),
            all_live live (and_right (history_test && acts_tests) live_tests passes),
          ),
      λ t.
          let one = legal_one live t in
          both_true (history_test && acts_tests) live_tests
          (both_true history_test acts_tests
          ((legal_history_iff (asks_with_notes live) (with_table live)).1 one.0)
          (told_acts live (λ e has. (t.0.noted e.place).0 (placed live.notes e has)) one.1))
          (live_all live one.2),
    )

-- the same of the table by itself, where no call is served on the context behind all others
pub legal_table_iff : (live : LiveRun)
    → ((p : Place) → IsServed (asks_of (run_of live)) (length live.journals) p → ⊥)
    → (LegalTable live.plan live.standing live.notes × AllPairs IsInLaneOrder (entry_places live.notes))
    ↔ (Legal (asks_with_notes live) (length live.journals) (places (map note_mark live.notes))
    × AllPairs HasLowerStamp (map note_mark live.notes)
    × (list_all (tells_act live.plan live.standing) live.notes ≡ true)
    × (list_all (λ i. tells_live_at live.notes i (slice_get live.notes i))
    (range_with_len 0 (length live.notes)) ≡ true))
legal_table_iff live nothing =
    let plan = live.plan in
    let standing = live.standing in
    let batch = asks_of (run_of live) in
    let both = asks_with_notes live in
    let journals = live.journals in
    let notes = live.notes in (
      λ t. (
        marks_legal plan standing batch both journals notes (evens live) (odds live) nothing
            t.0.noted t.0.once t.1,
        marks_rise plan standing batch both journals notes (evens live) (odds live) t.0.rise,
        told_acts live (λ e has. (t.0.noted e.place).0 (placed notes e has)) t.0.acts,
        live_all live t.0.live,
      ),
      λ t.
          let own = legal_marked plan standing batch both journals notes (evens live) (odds live) t.0 in (
            record {
              noted = own.0;
              once = own.1;
              acts = acts_told live t.2;
              live = all_live live t.3;
              rise = rise_marked plan standing batch both journals notes (evens live) (odds live) t.1;
            },
            own.2,
          ),
    )
