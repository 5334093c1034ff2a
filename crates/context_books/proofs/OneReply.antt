-- Where no two lanes meet on a context, the replies of version 1 differ in lines `batch G M` alone.
use Rattle.std.proofs.Common.{◌≡◌, ℕ, suc, ◌+◌, ◌<◌, true, false, List, [], ◌∷◌, ◌++◌, length, map, Option, Some, None, sym, refl, ap, ◌∙◌, subst, arith, ◌⊎◌, inl, inr}
use Rattle.std.specs.Prelude.{slice_get, codes}
use Rattle.call_places.specs.declared.entries.Mark.{Mark}
use Rattle.call_places.specs.declared.entries.Place.{Place}
use Rattle.hpke_context.specs.Answers.{Item}
use Rattle.hpke_context.specs.Contexts.{ContextView}
use Rattle.batch_plans.specs.declared.plan.Plan.{Plan}
use Rattle.batch_plans.specs.declared.plan.CallLine.{CallLine}
use Rattle.batch_plans.specs.declared.plan.CallLine.TheVariants as calls
use Rattle.batch_plans.specs.declared.replies.KeyReply.{KeyReply}
use Rattle.batch_plans.specs.declared.replies.ContextReply.{ContextReply}
use Rattle.batch_plans.specs.declared.replies.CallRefusal.{CallRefusal}
use Rattle.batch_plans.specs.Within.{IsPlain}
use Rattle.batch_plans.specs.ReplyText.{all_lines, numbered, has_stamps, setup_lines, lane_lines, mark_line, journal_lines, reply_lines}
use Rattle.context_books.specs.Batches.{items_in, item_in}
use Rattle.context_books.specs.Histories.{mark, marks_at, places}
use Rattle.context_books.specs.LaneCalls.{lane_calls}
use Rattle.context_books.specs.Asks.{asked_by}
use Rattle.context_books.specs.Standing.{call_refusal}
use Rattle.context_books.specs.Runs.{Run, run_along, asks_of, journal_of, IsAllowed, place_line, guessed_line, item_lines, lines_of_items, guess_lines, served_lines, lines_unless, call_lines, lane_call_lines, run_lines}
use Rattle.context_books.specs.Sharing.{opens_on, Seals, Opens, NoTwoLanesMeet, IsOfOneLane, DifferInGuesses}
use Rattle.context_books.proofs.OneLanePlaces.{same_batch, same_journal}
use Rattle.context_books.proofs.SealedAlike.{any_at, serving_call, asks_it, no_item, stands, legal_of, is_on, sealed_in, same_line}

-- ---- lines that differ in guesses

alike : (lines : List (List ℕ)) → DifferInGuesses lines lines
alike [] = tt
alike (line ∷ lines) = (inl refl, alike lines)

the_same : (lines others : List (List ℕ)) → lines ≡ others → DifferInGuesses lines others
the_same lines others is = subst (DifferInGuesses lines) is (alike lines)

both : (a b c d : List (List ℕ)) → DifferInGuesses a b → DifferInGuesses c d
    → DifferInGuesses (a ++ c) (b ++ d)
both [] [] c d s t = t
both [] (y ∷ b) c d s t = absurd s
both (x ∷ a) [] c d s t = absurd s
both (x ∷ a) (y ∷ b) c d s t = (s.0, both a b c d s.1 t)

-- what is made of each element by two functions
each : {X : Type 0} (f g : ℕ → X → List (List ℕ))
    → ((n : ℕ) (x : X) → DifferInGuesses (f n x) (g n x)) → (start : ℕ) (xs : List X)
    → DifferInGuesses (all_lines (numbered f start xs)) (all_lines (numbered g start xs))
each f g same start [] = tt
each f g same start (x ∷ xs) =
    both (f start x) (g start x) (all_lines (numbered f (start + 1) xs))
    (all_lines (numbered g (start + 1) xs)) (same start x) (each f g same (start + 1) xs)

lanes : (f g : ℕ → List CallLine → List (List ℕ))
    → ((n : ℕ) (calls : List CallLine) → DifferInGuesses (f n calls) (g n calls))
    → (start first : ℕ) (all : List (List CallLine))
    → DifferInGuesses (all_lines (numbered lane_lines start (numbered f first all)))
    (all_lines (numbered lane_lines start (numbered g first all)))
lanes f g same start first [] = tt
lanes f g same start first (calls ∷ all) = (
  inl refl,
  both (f first calls) (g first calls)
      (all_lines (numbered lane_lines (start + 1) (numbered f (first + 1) all)))
      (all_lines (numbered lane_lines (start + 1) (numbered g (first + 1) all)))
      (same first calls) (lanes f g same (start + 1) (first + 1) all),
)

-- ---- journals whose stamps aren't printed

abbrev bare_line : Place → List ℕ
bare_line p = mark_line false (mark p 0)

bare_lines : (marks : List Mark) → map (mark_line false) marks ≡ map bare_line (places marks)
bare_lines [] = refl
bare_lines (m ∷ marks) = ap (λ (l : List (List ℕ)). mark_line false m ∷ l) (bare_lines marks)

same_marks : (marks others : List Mark) → places marks ≡ places others
    → map (mark_line false) marks ≡ map (mark_line false) others
same_marks marks others is =
    bare_lines marks ∙ ap (map bare_line) is ∙ sym (bare_lines others)

journals_same : (start : ℕ) (journals further : List (List Mark))
    → length journals ≡ length further
    → ((c : ℕ) → places (marks_at journals c) ≡ places (marks_at further c))
    → all_lines (numbered (journal_lines false) start journals)
    ≡ all_lines (numbered (journal_lines false) start further)
journals_same start [] [] count same = refl
journals_same start [] (m ∷ further) count same = absurd (omega arith)
journals_same start (m ∷ journals) [] count same = absurd (omega arith)
journals_same start (m ∷ journals) (k ∷ further) count same =
    (λ i. ((codes "journal " ++ Rattle.std.specs.Prelude.decimal start ++ codes "\n")
    ∷ same_marks m k (same 0) i)
    ++ journals_same (start + 1) journals further (omega arith) (λ c. same (suc c)) i)

-- ---- where no two lanes meet

module _ (plan : Plan) (contexts : List (Option ContextView)) (plain : IsPlain plan)
    (count : length contexts ≡ length plan.contexts) (journals further : List (List Mark))
    (guesses others : List (List ℕ))
    (allowed : IsAllowed (run_along plan contexts journals guesses))
    (also : IsAllowed (run_along plan contexts further others))
    (alone : NoTwoLanesMeet plan) where
  abbrev run : Run
  run = run_along plan contexts journals guesses

  abbrev other : Run
  other = run_along plan contexts further others

  -- what a call does that a context serves
  abbrev Uses : ℕ → ℕ → Type 0
  Uses c lane = (Seals plan c lane ⊎ Opens plan c lane) × (c < length contexts)

  opened_in : (lane number c : ℕ) (call : CallLine) → opens_on plan c call ≡ true
      → slice_get (lane_calls plan lane) number ≡ Some call → Opens plan c lane
  opened_in lane number c call opens at =
      any_at (opens_on plan c) (lane_calls plan lane) number call at opens

  low_at : (c d : ℕ) (call : CallLine) → d ≡ c
      → Rattle.context_books.specs.Standing.refusal_on
      (Rattle.context_books.specs.Standing.standing_at contexts d) call ≡ None
      → c < length contexts
  low_at c d call is free =
      subst (λ k. k < length contexts) is (stands contexts d call free)

  uses : (c lane number item : ℕ) (x : Item) (call : CallLine)
      → slice_get (lane_calls plan lane) number ≡ Some call → call_refusal contexts call ≡ None
      → item_in (asked_by plan call) item ≡ Some (c, x) → Uses c lane
  uses c lane number item x (calls.Seal d spans) at free asks =
      let is : d ≡ c = asks_it
      (slice_get (items_in (asked_by plan (calls.Seal d spans))) item) d c x asks in
      let low = low_at c d (calls.Seal d spans) is free in (
        inl (sealed_in plan contexts plain count lane number c spans low
            (at ∙ ap (λ k. Some (calls.Seal k spans)) is)),
        low,
      )
  uses c lane number item x (calls.Unseal d spans) at free asks =
      let is : d ≡ c = asks_it
      (slice_get (items_in (asked_by plan (calls.Unseal d spans))) item) d c x asks in
      let low = low_at c d (calls.Unseal d spans) is free in (
        inr (opened_in lane number c (calls.Unseal c spans)
            (is_on plan contexts plain count c low) (at ∙ ap (λ k. Some (calls.Unseal k spans)) is)),
        low,
      )
  uses c lane number item x (calls.UnsealAll d first n) at free asks =
      let is : d ≡ c = asks_it
      (slice_get (items_in (asked_by plan (calls.UnsealAll d first n))) item) d c x asks in
      let low = low_at c d (calls.UnsealAll d first n) is free in (
        inr (opened_in lane number c (calls.UnsealAll c first n)
            (is_on plan contexts plain count c low) (at ∙ ap (λ k. Some (calls.UnsealAll k first n)) is)),
        low,
      )
  uses c lane number item x (calls.Export d exporter size) at free asks = no_item (c, x) asks
  uses c lane number item x (calls.Add name) at free asks = no_item (c, x) asks
  uses c lane number item x (calls.Retire name) at free asks = no_item (c, x) asks

  one_lane : (c : ℕ) → IsOfOneLane (asks_of run) c
  one_lane c p q a b =
      let s = serving_call run c p a.0 a.1 in
      let t = serving_call run c q b.0 b.1 in
      let u = uses c p.lane p.call p.item a.0 s.call s.at s.free s.asks in
      let v = uses c q.lane q.call q.item b.0 t.call t.at t.free t.asks in
      alone c q.lane p.lane (let low = u.1 in omega arith) v.0 u.0

  same_lines : place_line run ≡ place_line other
  same_lines i c p =
      same_line plan contexts plain count journals further guesses others allowed also c p
      (one_lane c) i

  guess_alike : (lane number : ℕ) (call : CallLine)
      → DifferInGuesses (guess_lines (guessed_line run) lane number call)
      (guess_lines (guessed_line other) lane number call)
  guess_alike lane number (calls.Seal context item) = tt
  guess_alike lane number (calls.Unseal context item) = tt
  guess_alike lane number (calls.UnsealAll context first n) = (
    inr (
      record { guess = _; missed = _; is = refl },
      record { guess = _; missed = _; is = refl },
    ),
    tt,
  )
  guess_alike lane number (calls.Export context exporter size) = tt
  guess_alike lane number (calls.Add name) = tt
  guess_alike lane number (calls.Retire name) = tt

  call_alike : (lane number : ℕ) (call : CallLine)
      → DifferInGuesses (call_lines run lane number call) (call_lines other lane number call)
  call_alike lane number call = unless (call_refusal contexts call)
    where
      unless : (r : Option CallRefusal)
          → DifferInGuesses (lines_unless r (served_lines run lane number call))
          (lines_unless r (served_lines other lane number call))
      unless (Some why) = (inl refl, tt)
      unless None =
          both (item_lines run lane number call) (item_lines other lane number call)
          (guess_lines (guessed_line run) lane number call)
          (guess_lines (guessed_line other) lane number call)
          (the_same (item_lines run lane number call) (item_lines other lane number call)
          (λ i. lines_of_items (same_lines i) plan contexts lane number call))
          (guess_alike lane number call)

  same_places : (c : ℕ) → places (marks_at journals c) ≡ places (marks_at further c)
  same_places c =
      same_journal (asks_of run) (asks_of run) c (same_batch (asks_of run) c) (one_lane c)
      (journal_of run c) (journal_of other c)
      (legal_of (has_stamps plan.version) (asks_of run) journals allowed.legal c)
      (legal_of (has_stamps plan.version) (asks_of run) further also.legal c)

  same_journals : has_stamps plan.version ≡ false
      → all_lines (numbered (journal_lines (has_stamps plan.version)) 0 journals)
      ≡ all_lines (numbered (journal_lines (has_stamps plan.version)) 0 further)
  same_journals bare =
      subst (λ stamps. all_lines (numbered (journal_lines stamps) 0 journals)
      ≡ all_lines (numbered (journal_lines stamps) 0 further)) (sym bare)
      (journals_same 0 journals further (allowed.journals ∙ sym also.journals) same_places)

  pub differ_in_guesses : (keys : List KeyReply) (replies : List ContextReply) → plan.version ≡ 1
      → DifferInGuesses (run_lines keys replies run) (run_lines keys replies other)
  unfolding reply_lines
  differ_in_guesses keys replies one =
      let set_up = setup_lines keys replies in
      let ls = all_lines (numbered lane_lines 0 (numbered (lane_call_lines run) 0 plan.lanes)) in
      let ms = all_lines (numbered lane_lines 0 (numbered (lane_call_lines other) 0 plan.lanes)) in
      let js = all_lines (numbered (journal_lines (has_stamps plan.version)) 0 journals) in
      let ks = all_lines (numbered (journal_lines (has_stamps plan.version)) 0 further) in
      let last = codes "end\n" ∷ [] in (
        inl refl,
        both (set_up ++ ls ++ js) (set_up ++ ms ++ ks) last last
            (both (set_up ++ ls) (set_up ++ ms) js ks
            (both set_up set_up ls ms (alike set_up)
            (lanes (lane_call_lines run) (lane_call_lines other)
            (λ lane calls. each (call_lines run lane) (call_lines other lane) (call_alike lane) 0
            calls) 0 0 plan.lanes))
            (the_same js ks (same_journals (ap has_stamps one))))
            (alike last),
      )
