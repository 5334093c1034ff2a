-- The tests of journals pass exactly where the journals are legal, by themselves or as one history.
use Rattle.std.proofs.Common.{◌≡◌, ℕ, zero, suc, ◌+◌, ◌≤◌, ◌<◌, Bool, true, false, cond, List, [], ◌∷◌, ◌⊎◌, length, map, Option, Some, None, refl, sym, ap, ◌∙◌, subst, inl, inr, arith}
use Rattle.std.specs.Prelude.{nat_lt, not, ◌||◌, slice_get, slice_index_or, IsTrue, ◌↔◌}
use Rattle.std.specs.List.{All, AllPairs}
use Rattle.std.specs.Option.{option_map}
use Rattle.std.proofs.lemmas.Bool.{cases_lt}
use Rattle.std.proofs.lemmas.List.{get_or_past, length-map}
use Rattle.std.proofs.lemmas.List.Elements.{All-nil, All-cons}
use Rattle.std.proofs.lemmas.Option.{slice_get-map}
use Rattle.call_places.specs.declared.entries.Place.{Place}
use Rattle.call_places.specs.declared.entries.Mark.{Mark}
use Rattle.call_places.specs.Messages.{SealedMessage, sealed_messages}
use Rattle.hpke_context.specs.Answers.{Item}
use Rattle.hpke_context.specs.Contexts.{ContextView}
use Rattle.context_books.specs.Batches.{Ask, ToOpenAll, Batch, unseal, items_in, with_context, item_in, item_in_call, lane_of, place, IsServed}
use Rattle.context_books.specs.Checks.{is_legal}
use Rattle.context_books.specs.Histories.{mark, marks_at, places, HasLowerStamp}
use Rattle.context_books.specs.Legal.{Legal}
use Rattle.context_books.proofs.Checking.{legal_iff}
use Rattle.context_books.proofs.CheckingHistory.{legal_history_iff}
use Rattle.context_books.proofs.Marks.{legal_alone}
use Rattle.context_books.proofs.Members.{got, contains_in, in_map, map_in, pairs_tail, RisesBy, pairs_rise}
use Rattle.context_books.specs.Lists.{In}
use Rattle.context_books.proofs.Truths.{and_left, and_right, both_true, lt_true, true_lt}
use Rattle.batch_plans.specs.Calls.{context_of}
use Rattle.batch_plans.specs.Limits.{most_opening, items_from}
use Rattle.batch_plans.specs.Within.{IsWithinLimits}
use Rattle.batch_plans.specs.declared.plan.Plan.{Plan}
use Rattle.batch_plans.specs.declared.plan.CallLine.{CallLine}
use Rattle.batch_plans.specs.declared.plan.CallLine.TheVariants as calls
use Rattle.batch_plans.specs.declared.replies.CallRefusal.{CallRefusal}
use Rattle.context_books.specs.Standing.{standing_at, call_refusal}
use Rattle.context_books.specs.Asks.{asked_by, ask_unless, ask_of, batch_of}
use Rattle.context_books.specs.Runs.{LegalFor}
use Rattle.result_lines.specs.Printed.{IsMarkWithin}
use Rattle.result_lines.specs.Verdicts.{IsJournal, AreJournals, IsFirstBroken}
use Rattle.result_lines.specs.Journals.{stamps_rise, is_journal, broken_journal, is_one_history}
use Rattle.result_lines.proofs.Counting.{asks_are, served_low, stamp_low}
use Rattle.result_lines.proofs.DueReplies.{stands_for}
use Rattle.result_lines.proofs.Limited.{IsLine, line_of_limits}
use Rattle.result_lines.proofs.RunTexts.{messages_size}

-- ---- each journal by itself

rise : (marks : List Mark) → AllPairs HasLowerStamp marks → stamps_rise marks ≡ true
rise [] pairs = refl
rise (m ∷ []) pairs = refl
rise (m ∷ k ∷ marks) pairs =
    both_true (nat_lt m.stamp k.stamp) (stamps_rise (k ∷ marks)) (true_lt m.stamp k.stamp (pairs 0 1 m (omega arith) (omega arith)))
    (rise (k ∷ marks) (pairs_tail HasLowerStamp m (k ∷ marks) pairs))

rising : (marks : List Mark) → stamps_rise marks ≡ true → RisesBy HasLowerStamp marks
rising [] e = tt
rising (m ∷ []) e = (λ k i. absurd i, tt)
rising (m ∷ k ∷ marks) e =
    let first : m.stamp < k.stamp = lt_true m.stamp k.stamp (and_left (nat_lt m.stamp k.stamp) (stamps_rise (k ∷ marks)) e) in
    let later = rising (k ∷ marks) (and_right (nat_lt m.stamp k.stamp) (stamps_rise (k ∷ marks)) e) in (
      λ n i. elim i [
        | inl is ↦ subst (λ (x : Mark). m.stamp < x.stamp) is first
        | inr more ↦ (let up : k.stamp < n.stamp = later.0 n more in omega arith)
      ],
      later,
    )

-- the test of a journal
pub journal_iff : (stamps : Bool) (batch : Batch) (context : ℕ) (marks : List Mark) → IsTrue (is_journal stamps batch context marks) ↔ IsJournal stamps batch context marks
journal_iff stamps batch context marks =
    let own = is_legal batch context (places marks) in
    let up = not stamps || stamps_rise marks in
    let iff = legal_iff batch context (places marks) in (
      λ e. record { legal = iff.0 (and_left own up e); rise = λ is. stamped stamps is (and_right own up e) },
      λ t. both_true own up (iff.1 t.legal) (risen stamps t.rise),
    )
  where
    stamped : (b : Bool) → b ≡ true → (not b || stamps_rise marks) ≡ true → AllPairs HasLowerStamp marks
    stamped true is e = pairs_rise HasLowerStamp marks (rising marks e)
    stamped false is e = absurd (let f : false ≡ true = is in cc)

    risen : (b : Bool) → (b ≡ true → AllPairs HasLowerStamp marks) → (not b || stamps_rise marks) ≡ true
    risen true pairs = rise marks (pairs refl)
    risen false pairs = refl

-- ---- the first that is broken

-- those of so many contexts, from the one of this number on
abbrev AreFrom : Bool → Batch → ℕ → List (List Mark) → ℕ → Type 0
AreFrom stamps batch k journals n = (c at : ℕ) → c < n → at ≡ k + c → IsJournal stamps batch at (marks_at journals c)

abbrev FirstFrom : Bool → Batch → ℕ → List (List Mark) → Option ℕ → Type 0
FirstFrom stamps batch k journals None = AreFrom stamps batch k journals (length journals)
FirstFrom stamps batch k journals (Some at) =
    (c : ℕ) × (at ≡ k + c) × (c < length journals) × AreFrom stamps batch k journals c × (IsJournal stamps batch at (marks_at journals c) → ⊥)

first_from : (stamps : Bool) (batch : Batch) (k : ℕ) (journals : List (List Mark)) → FirstFrom stamps batch k journals (broken_journal stamps batch k journals)
first_from stamps batch k [] = λ c at low same. absurd (omega arith)
first_from stamps batch k (marks ∷ more) = step (is_journal stamps batch k marks) refl (first_from stamps batch (k + 1) more)
  where
    and_more : (n : ℕ) → is_journal stamps batch k marks ≡ true → AreFrom stamps batch (k + 1) more n → AreFrom stamps batch k (marks ∷ more) (suc n)
    and_more n e are zero at low same =
        subst (λ (j : ℕ). IsJournal stamps batch j marks) (let here : k ≡ at = omega arith in here) ((journal_iff stamps batch k marks).0 e)
    and_more n e are (suc c) at low same = are c at (omega arith) (omega arith)

    later : (o : Option ℕ) → is_journal stamps batch k marks ≡ true → FirstFrom stamps batch (k + 1) more o → FirstFrom stamps batch k (marks ∷ more) o
    later None e are = and_more (length more) e are
    later (Some at) e (c, same, low, are, broken) = (suc c, omega arith, omega arith, and_more c e are, broken)

    step : (b : Bool) → is_journal stamps batch k marks ≡ b → FirstFrom stamps batch (k + 1) more (broken_journal stamps batch (k + 1) more)
        → FirstFrom stamps batch k (marks ∷ more) (cond b (broken_journal stamps batch (k + 1) more) (Some k))
    step true e rest = later (broken_journal stamps batch (k + 1) more) e rest
    step false e rest = (
      0,
      omega arith,
      omega arith,
      λ c at low same. absurd (omega arith),
      λ is. absurd (let clash : true ≡ false = sym ((journal_iff stamps batch k marks).1 is) ∙ e in cc),
    )

module _ (stamps : Bool) (batch : Batch) (journals : List (List Mark)) where
  -- this context is the first whose journal is broken, or there is none
  abbrev pub First : Option ℕ → Type 0
  First None = AreJournals stamps batch journals (length journals)
  First (Some context) = IsFirstBroken stamps batch journals context

  first : (o : Option ℕ) → FirstFrom stamps batch 0 journals o → First o
  first None are = λ c low. are c c low (omega arith)
  first (Some at) (c, same, low, are, broken) =
      let is : c ≡ at = omega arith in
      record {
        there = omega arith;
        before = λ d few. are d d (omega arith) (omega arith);
        broken = subst (λ (j : ℕ). IsJournal stamps batch at (marks_at journals j) → ⊥) is broken;
      }

  only : (o p : Option ℕ) → First o → First p → o ≡ p
  only None None are also = refl
  only None (Some c) are broken = absurd (broken.broken (are c broken.there))
  only (Some c) None broken are = absurd (broken.broken (are c broken.there))
  only (Some c) (Some d) one two = elim (cases_lt c d) [
    | inl low ↦ absurd (one.broken (two.before c low))
    | inr high ↦ elim (cases_lt d c) [
      | inl low ↦ absurd (two.broken (one.before d low))
      | inr same ↦ ap Some (let is : c ≡ d = omega arith in is)
    ]
  ]

  -- the test of all journals finds it
  pub first_iff : (o : Option ℕ) → (broken_journal stamps batch 0 journals ≡ o) ↔ First o
  first_iff o =
      let found = first (broken_journal stamps batch 0 journals) (first_from stamps batch 0 journals) in
      (λ is. subst First is found, only (broken_journal stamps batch 0 journals) o found)

-- ---- each journal of legal ones

pub each_legal : (stamps : Bool) (batch : Batch) (journals : List (List Mark)) → LegalFor stamps batch journals → (context : ℕ) → Legal batch context (places (marks_at journals context))
each_legal true batch journals legal context = legal_alone batch journals context legal
each_legal false batch journals legal context = legal context

-- and its stamps rise
pub are_journals : (stamps : Bool) (batch : Batch) (journals : List (List Mark)) → LegalFor stamps batch journals → AreJournals stamps batch journals (length journals)
are_journals true batch journals legal context low = record { legal = legal_alone batch journals context legal; rise = λ is. (legal.each context).rise }
are_journals false batch journals legal context low = record { legal = legal context; rise = λ is. absurd (let f : false ≡ true = is in cc) }

pub legal_one : (stamps : Bool) (batch : Batch) (journals : List (List Mark)) → LegalFor stamps batch journals → is_one_history stamps batch journals ≡ true
legal_one true batch journals legal = (legal_history_iff batch journals).1 legal
legal_one false batch journals legal = refl

-- ---- contexts that aren't there

some_pair : (a b : ℕ × Item) → Some a ≡ Some b → a ≡ b
some_pair a b e = cc

in_context : (c context : ℕ) (x : Item) (o : Option Item) → with_context c o ≡ Some (context, x) → c ≡ context
in_context c context x None e = absurd cc
in_context c context x (Some y) e = ap (λ (p : ℕ × Item). p.0) (some_pair (c, y) (context, x) e)

module _ (plan : Plan) (contexts : List (Option ContextView)) (within : IsWithinLimits plan) where
  abbrev batch : Batch
  batch = batch_of plan contexts

  -- what is asked is asked by a call
  by_line : (lane call : ℕ) (ask : Ask) → slice_get (lane_of batch lane) call ≡ Some ask
      → (line : CallLine) × (slice_get (slice_index_or plan.lanes lane []) call ≡ Some line) × (ask_of plan contexts line ≡ ask)
  by_line lane call ask at = go (slice_get (slice_index_or plan.lanes lane []) call) refl
    where
      mapped : option_map (ask_of plan contexts) (slice_get (slice_index_or plan.lanes lane []) call) ≡ Some ask
      mapped =
          sym (slice_get-map (ask_of plan contexts) (slice_index_or plan.lanes lane []) call)
          ∙ ap (λ (asks : List Ask). slice_get asks call) (sym (asks_are plan contexts within lane)) ∙ at

      go : (o : Option CallLine) → slice_get (slice_index_or plan.lanes lane []) call ≡ o
          → (line : CallLine) × (slice_get (slice_index_or plan.lanes lane []) call ≡ Some line) × (ask_of plan contexts line ≡ ask)
      go None is = absurd (let clash : None ≡ Some ask = ap (option_map (ask_of plan contexts)) (sym is) ∙ mapped in cc)
      go (Some line) is = (line, is, (let e : Some (ask_of plan contexts line) ≡ Some ask = ap (option_map (ask_of plan contexts)) (sym is) ∙ mapped in cc))

  opens_by : (refusal : Option CallRefusal) (line : CallLine) (context : ℕ) (messages : List SealedMessage) → IsLine plan line
      → ask_unless refusal (asked_by plan line) ≡ ToOpenAll context messages → (1 ≤ length messages) × (length messages ≤ most_opening)
  opens_by (Some refusal) line context messages fits is = absurd cc
  opens_by None (calls.Seal c item) context messages fits is = absurd cc
  opens_by None (calls.Unseal c item) context messages fits is = absurd cc
  opens_by None (calls.Export c exporter size) context messages fits is = absurd cc
  opens_by None (calls.Add name) context messages fits is = absurd cc
  opens_by None (calls.Retire name) context messages fits is = absurd cc
  opens_by None (calls.UnsealAll c first count) context messages fits is =
      let same : sealed_messages plan.pool (items_from plan.items first count) ≡ messages = cc in
      let size = messages_size plan c first count fits in
      let some = fits.1 in
      let most = fits.2 in
      (omega (arith, ap (length {A = SealedMessage}) same, size), omega (arith, ap (length {A = SealedMessage}) same, size))

  -- an opening of several messages has one or more, and no more than it may
  pub opening_size : (lane call context : ℕ) (messages : List SealedMessage) → slice_get (lane_of batch lane) call ≡ Some (ToOpenAll context messages)
      → (1 ≤ length messages) × (length messages ≤ most_opening)
  opening_size lane call context messages at =
      let t = by_line lane call (ToOpenAll context messages) at in
      opens_by (call_refusal contexts t.0) t.0 context messages (line_of_limits plan lane call t.0 within t.1) t.2

  context_asked : (refusal : Option CallRefusal) (line : CallLine) (i context : ℕ) (x : Item) → item_in (ask_unless refusal (asked_by plan line)) i ≡ Some (context, x)
      → (refusal ≡ None) × (context_of line ≡ context)
  context_asked (Some refusal) line i context x is = absurd cc
  context_asked None (calls.Seal c item) i context x is = (refl, in_context c context x (slice_get (items_in (asked_by plan (calls.Seal c item))) i) is)
  context_asked None (calls.Unseal c item) i context x is = (refl, in_context c context x (slice_get (items_in (asked_by plan (calls.Unseal c item))) i) is)
  context_asked None (calls.UnsealAll c first count) i context x is = (refl, in_context c context x (slice_get (items_in (asked_by plan (calls.UnsealAll c first count))) i) is)
  context_asked None (calls.Export c exporter size) i context x is = absurd cc
  context_asked None (calls.Add name) i context x is = absurd cc
  context_asked None (calls.Retire name) i context x is = absurd cc

  -- a context that isn't there serves nothing
  pub unserved : (context : ℕ) (p : Place) → length contexts ≤ context → IsServed batch context p → ⊥
  unserved context p high served = go (slice_get (lane_of batch p.lane) p.call) refl served.1
    where
      go : (o : Option Ask) → slice_get (lane_of batch p.lane) p.call ≡ o → item_in_call o p.item ≡ Some (context, served.0) → ⊥
      go None at item = cc
      go (Some ask) at item =
          let t = by_line p.lane p.call ask at in
          let asked : item_in (ask_of plan contexts t.0) p.item ≡ Some (context, served.0) = ap (λ (a : Ask). item_in a p.item) t.2 ∙ item in
          let c = context_asked (call_refusal contexts t.0) t.0 p.item context served.0 asked in
          let s = stands_for contexts t.0 c.0 in
          let none : standing_at contexts context ≡ None = get_or_past contexts context None high in
          let clash : None ≡ Some s.0 = sym none ∙ ap (standing_at contexts) (sym c.1) ∙ s.1 in
          cc

  nothing_legal : (context : ℕ) → length contexts ≤ context → Legal batch context []
  nothing_legal context high = record {
    served = λ p. (λ has. absurd (let low = has.1 in omega arith), λ served. absurd (unserved context p high served));
    once = λ i j d low few. absurd (omega arith);
    in_order = λ i j d low few. absurd (omega arith);
    together = λ lane call n opens.
        let t = opening_size lane call context opens.0 opens.1 in
        let x = got (map unseal opens.0) 0 (omega (arith, t.0, length-map opens.0 unseal)) in
        absurd (unserved context (place lane call 0) high (x.0, ap (λ (o : Option Ask). item_in_call o 0) opens.1 ∙ ap (with_context context) x.1));
  }

  -- ---- journals that pass are legal

  pub passed_legal : (stamps : Bool) (journals : List (List Mark)) → length contexts ≡ length journals → AreJournals stamps batch journals (length journals)
      → is_one_history stamps batch journals ≡ true → LegalFor stamps batch journals
  passed_legal true journals size are one = (legal_history_iff batch journals).0 one
  passed_legal false journals size are one = λ context. elim (cases_lt context (length journals)) [
    | inl low ↦ (are context low).legal
    | inr high ↦ subst (λ (ms : List Mark). Legal batch context (places ms)) (sym (get_or_past journals context [] high)) (nothing_legal context (omega arith))
  ]

  -- ---- the marks that are printed

  -- a place without its stamp
  abbrev bare : Mark → Mark
  bare m = mark m.place 0

  bare_at : (journals : List (List Mark)) (context : ℕ) → marks_at (map (map bare) journals) context ≡ map bare (marks_at journals context)
  bare_at [] context = refl
  bare_at (marks ∷ journals) zero = refl
  bare_at (marks ∷ journals) (suc context) = bare_at journals context

  bare_places : (marks : List Mark) → places (map bare marks) ≡ places marks
  bare_places [] = refl
  bare_places (m ∷ marks) = ap (λ (ps : List Place). m.place ∷ ps) (bare_places marks)

  all_marks : (P : Mark → Type 0) (marks : List Mark) → ((m : Mark) → In m marks → P m) → All P marks
  all_marks P [] each = All-nil P
  all_marks P (m ∷ marks) each = All-cons P m marks (each m (inl refl)) (all_marks P marks (λ k here. each k (inr here)))

  all_journals : (P : Mark → Type 0) (journals : List (List Mark)) → ((c : ℕ) (m : Mark) → In m (marks_at journals c) → P m) → All (All P) journals
  all_journals P [] each = All-nil (All P)
  all_journals P (marks ∷ journals) each = All-cons (All P) marks journals (all_marks P marks (each 0)) (all_journals P journals (λ c m here. each (suc c) m here))

  mark_low : (journals : List (List Mark)) (legal : (context : ℕ) → Legal batch context (places (marks_at journals context))) (c : ℕ) (m : Mark) → In m (marks_at journals c)
      → (m.place.lane ≤ 65535) × (m.place.call ≤ 65535) × (m.place.item ≤ 65535)
  mark_low journals legal c m here =
      served_low plan contexts within c m.place
      (((legal c).served m.place).0 (contains_in (places (marks_at journals c)) m.place (in_map (λ (k : Mark). k.place) m (marks_at journals c) here)))

  -- the journals as they are printed and read back, without stamps where there are none
  pub record AsPrinted (stamps : Bool) (journals : List (List Mark)) : Type 0 where
    pub own : List (List Mark)
    pub same : (context : ℕ) → places (marks_at own context) ≡ places (marks_at journals context)
    pub size : length own ≡ length journals
    pub legal : LegalFor stamps batch own
    pub fits : All (All (IsMarkWithin stamps)) own
    pub text : (own ≡ journals) ⊎ ((stamps ≡ false) × (own ≡ map (map (λ (m : Mark). mark m.place 0)) journals))

  pub as_printed : (stamps : Bool) (journals : List (List Mark)) → LegalFor stamps batch journals → AsPrinted stamps journals
  as_printed true journals legal = record {
    own = journals;
    same = λ context. refl;
    size = refl;
    legal = legal;
    fits = all_journals (IsMarkWithin true) journals
        (λ c m here.
        let low = mark_low journals (each_legal true batch journals legal) c m here in
        record { lane = low.0; call = low.1; item = low.2; stamp = stamp_low plan contexts within journals legal c m here });
    text = inl refl;
  }
  as_printed false journals legal =
      let own = map (map bare) journals in
      let same : (context : ℕ) → places (marks_at own context) ≡ places (marks_at journals context) =
      (λ context. ap places (bare_at journals context) ∙ bare_places (marks_at journals context)) in
      record {
        own = own;
        same = same;
        size = length-map journals (map bare);
        legal = λ context. subst (λ (ps : List Place). Legal batch context ps) (sym (same context)) (legal context);
        fits = all_journals (IsMarkWithin false) own
            (λ c m here.
            let t = map_in bare m (marks_at journals c) (subst (In m) (bare_at journals c) here) in
            let low = mark_low journals legal c t.0 t.1 in
            subst (IsMarkWithin false) t.2 record { lane = low.0; call = low.1; item = low.2; stamp = refl });
        text = inr (refl, refl);
      }
