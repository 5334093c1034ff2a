-- The run of a state of the core: its journals, its guesses, and later states.
use Rattle.std.proofs.Common.{◌≡◌, ◌<◌, ◌≤◌, ℕ, zero, suc, List, [], ◌∷◌, ◌++◌, length, map, sym, ap, ◌∙◌, arith, Option, Some, None, inl, inr, append_assoc}
use Rattle.std.specs.Prelude.{slice_get, slice_index_or}
use Rattle.std.proofs.lemmas.Bool.{cases_lt}
use Rattle.std.proofs.lemmas.List.{get_or_past}
use Rattle.std.proofs.lemmas.List.FromFn.{get_or-map-range_with_len, length-map-range_with_len}
use Rattle.call_places.specs.declared.entries.Place.{Place}
use Rattle.hpke_context.specs.Contexts.{ContextView}
use Rattle.context_books.specs.Batches.{Ask, Spot, block, items_in, context_in, on}
use Rattle.context_books.specs.Histories.{places, marks_at, journals_of, stamped_on}
use Rattle.context_books.proofs.Lists.{on-append}
use Rattle.context_books.proofs.HistoryJournals.{places-stamped_on}
use Rattle.context_core.specs.Core.{Core}
use Rattle.context_core.specs.Core as core
use Rattle.batch_plans.specs.declared.plan.Plan.{Plan}
use Rattle.context_books.specs.Runs.{journal_of, guesses_of}
use Rattle.context_books.specs.Lanes.{StandsBehind}
use Rattle.context_core.specs.Following.{run_of}

marks_there : (n c : ℕ) (h : List Spot) → c < n → marks_at (journals_of n h) c ≡ stamped_on c 0 h
marks_there n c h low =
    get_or-map-range_with_len (λ context. stamped_on context 0 h) 0 n c c [] low
    (omega arith)

marks_past : (n c : ℕ) (h : List Spot) → n ≤ c → marks_at (journals_of n h) c ≡ []
marks_past n c h high =
    let size = length-map-range_with_len (λ context. stamped_on context 0 h) 0 n in
    get_or_past (journals_of n h) c [] (omega arith)

module _ (plan : Plan) (contexts : List (Option ContextView)) where
  -- the journal of a context is its part of the history
  pub journal_there : (w : Core) (c : ℕ) → c < length plan.contexts
      → journal_of (run_of plan contexts w) c ≡ on c w.history
  journal_there w c low =
      ap places (marks_there (length plan.contexts) c w.history low)
      ∙ places-stamped_on c 0 w.history

  pub journal_past : (w : Core) (c : ℕ) → length plan.contexts ≤ c
      → journal_of (run_of plan contexts w) c ≡ []
  journal_past w c high = ap places (marks_past (length plan.contexts) c w.history high)

  -- it grows at its end
  pub journal_more : (w later : Core) (more : List Spot) → later.history ≡ w.history ++ more
      → (c : ℕ) → (rest : List Place)
      × (journal_of (run_of plan contexts later) c ≡ journal_of (run_of plan contexts w) c ++ rest)
  journal_more w later more is c = elim (cases_lt c (length plan.contexts)) [
    | inl low ↦ (
      on c more,
      journal_there later c low ∙ ap (on c) is ∙ on-append c w.history more
          ∙ ap (λ ps. ps ++ on c more) (sym (journal_there w c low)),
    )
    | inr high ↦ (
      [],
      journal_past later c high
          ∙ ap (λ ps. ps ++ []) (sym (journal_past w c high)),
    )
  ]

  pub guesses_are : (w : Core) (l : ℕ) (s : core.Lane) → slice_get w.lanes l ≡ Some s
      → guesses_of (run_of plan contexts w) l ≡ s.guesses
  guesses_are w l s at = from w.lanes l at
    where
      from : (lanes : List core.Lane) (l : ℕ) → slice_get lanes l ≡ Some s
          → slice_index_or (map (λ (lane : core.Lane). lane.guesses) lanes) l [] ≡ s.guesses
      from [] l at = absurd (let f : None ≡ Some s = at in cc)
      from (x ∷ lanes) zero at =
          ap (λ (lane : core.Lane). lane.guesses)
          (let f : Some x ≡ Some s = at in let g : x ≡ s = cc in g)
      from (x ∷ lanes) (suc l) at = from lanes l at

  -- the places of a call stay where they stand
  pub stands_stay : (w later : Core) (more : List Spot) (l number : ℕ) (ask : Ask)
      (front : List Place) → later.history ≡ w.history ++ more
      → StandsBehind (run_of plan contexts w) l number ask front
      → StandsBehind (run_of plan contexts later) l number ask front
  stands_stay w later more l number ask front is t =
      let j = journal_more w later more is (context_in ask) in
      let b = block l number 0 (length (items_in ask)) in
      record {
        after = t.after ++ j.0;
        stands = j.1 ∙ ap (λ ps. ps ++ j.0) t.stands ∙ append_assoc front (b ++ t.after) j.0
            ∙ ap (λ ps. front ++ ps) (append_assoc b t.after j.0);
        served = t.served;
        fresh = t.fresh;
      }
