-- Where no two lanes share a context, what its calls are answered doesn't depend on their order.
use Rattle.std.proofs.Common.{◌≡◌, ◌==◌, ◌||◌, ℕ, zero, suc, ◌<◌, Bool, true, false, List, [], ◌∷◌, length, Option, Some, None, sym, refl, ap, ◌∙◌, subst, arith, eq-eqb, inl}
use Rattle.std.specs.Prelude.{slice_get, option_map}
use Rattle.std.specs.List.{list_any}
use Rattle.std.proofs.lemmas.Bool.Decides.{nat_tests}
use Rattle.std.proofs.lemmas.Option.{slice_get-map}
use Rattle.hkdf_labelled.specs.declared.suites.Aead.{Aead}
use Rattle.key_schedule.specs.declared.modes.Role.{Role}
use Rattle.key_schedule.specs.declared.modes.Role.TheVariants.{Sender, Recipient}
use Rattle.call_places.specs.declared.entries.Mark.{Mark}
use Rattle.call_places.specs.declared.entries.Place.{Place}
use Rattle.call_places.specs.declared.spans.Item.{Item as Spans}
use Rattle.hpke_context.specs.Answers.{Item}
use Rattle.hpke_context.specs.Contexts.{ContextView, export_limit}
use Rattle.batch_plans.specs.declared.plan.Plan.{Plan}
use Rattle.batch_plans.specs.declared.plan.CallLine.{CallLine}
use Rattle.batch_plans.specs.declared.plan.CallLine.TheVariants as calls
use Rattle.batch_plans.specs.declared.replies.CallRefusal.{CallRefusal}
use Rattle.batch_plans.specs.declared.replies.CallRefusal.TheVariants as refusals
use Rattle.batch_plans.specs.declared.plan.CallKind.TheVariants as kinds
use Rattle.batch_plans.specs.Calls.{context_of, kind_of, size_of, kind_refusal, seal_refusal, open_refusal}
use Rattle.batch_plans.specs.Names.{position}
use Rattle.batch_plans.specs.Within.{IsPlain}
use Rattle.batch_plans.specs.ReplyText.{has_stamps}
use Rattle.context_books.specs.Batches.{Batch, items_in, with_context, item_in, item_in_call, item_of, place}
use Rattle.context_books.specs.Legal.{Legal}
use Rattle.context_books.specs.Histories.{marks_at, places}
use Rattle.context_books.specs.Lanes.{calls_of}
use Rattle.context_books.specs.LaneCalls.{lane_calls}
use Rattle.context_books.specs.Asks.{asked_by, ask_of, ask_unless, cipher_at}
use Rattle.context_books.specs.Standing.{standing_at, refusal_on, call_refusal}
use Rattle.context_books.specs.Runs.{Run, run_along, asks_of, journal_of, LegalFor, IsAllowed, place_line, served_lines, lines_unless, call_lines, answer_line_of}
use Rattle.context_books.specs.Sharing.{seals_on, Seals, NoTwoLanesSeal, IsOfOneLane, SealsAlike}
use Rattle.context_books.proofs.Done.{lane_asks}
use Rattle.context_books.proofs.Marks.{legal_alone}
use Rattle.context_books.proofs.OneLanePlaces.{same_batch, same_replies}

-- ---- lists

pub any_at : {X : Type 0} (test : X → Bool) (xs : List X) (i : ℕ) (x : X)
    → slice_get xs i ≡ Some x → test x ≡ true → list_any test xs ≡ true
any_at test [] i x at is = absurd (let f : None ≡ Some x = at in cc)
any_at test (y ∷ xs) zero x at is =
    let same : y ≡ x = (let f : Some y ≡ Some x = at in cc) in
    ap (λ b. b || list_any test xs) (ap test same ∙ is)
any_at test (y ∷ xs) (suc i) x at is = either (test y) (any_at test xs i x at is)
  where
    either : (b : Bool) → list_any test xs ≡ true → (b || list_any test xs) ≡ true
    either true rest = refl
    either false rest = rest

-- ---- the call of a place that a context serves

pub record ServingCall (run : Run) (c : ℕ) (p : Place) (x : Item) : Type 0 where
  pub call : CallLine
  pub at : slice_get (calls_of run p.lane) p.call ≡ Some call
  pub free : call_refusal run.contexts call ≡ None
  pub asks : item_in (asked_by run.plan call) p.item ≡ Some (c, x)

pub serving_call : (run : Run) (c : ℕ) (p : Place) (x : Item)
    → item_of (asks_of run) p ≡ Some (c, x) → ServingCall run c p x
serving_call run c p x is =
    of_lane (slice_get (calls_of run p.lane) p.call) refl
    (sym (ap (λ o. item_in_call o p.item)
    (ap (λ asks. slice_get asks p.call) (lane_asks run p.lane)
    ∙ slice_get-map (ask_of run.plan run.contexts) (calls_of run p.lane) p.call)) ∙ is)
  where
    of_call : (call : CallLine) → slice_get (calls_of run p.lane) p.call ≡ Some call
        → (r : Option CallRefusal) → call_refusal run.contexts call ≡ r
        → item_in (ask_unless r (asked_by run.plan call)) p.item ≡ Some (c, x)
        → ServingCall run c p x
    of_call call at None free asks =
        record { call = call; at = at; free = free; asks = asks }
    of_call call at (Some why) refused asks = absurd (let f : None ≡ Some (c, x) = asks in cc)

    of_lane : (o : Option CallLine) → slice_get (calls_of run p.lane) p.call ≡ o
        → item_in_call (option_map (ask_of run.plan run.contexts) o) p.item ≡ Some (c, x)
        → ServingCall run c p x
    of_lane None at asks = absurd (let f : None ≡ Some (c, x) = asks in cc)
    of_lane (Some call) at asks =
        of_call call at (call_refusal run.contexts call) refl asks

-- an item of this context comes of a call that asks the context
pub asks_it : (o : Option Item) (d c : ℕ) (x : Item) → with_context d o ≡ Some (c, x) → d ≡ c
asks_it None d c x is = absurd (let f : None ≡ Some (c, x) = is in cc)
asks_it (Some y) d c x is = ap context_or_0 is
  where
    context_or_0 : Option (ℕ × Item) → ℕ
    context_or_0 None = 0
    context_or_0 (Some x) = x.0

-- ---- a context that serves a seal serves seals alone

not_both_roles : (role : Role) (aead : Aead) → seal_refusal role aead ≡ None
    → open_refusal role aead ≡ None → ⊥
not_both_roles Sender aead seals opens = let f : Some refusals.Role ≡ None = opens in cc
not_both_roles Recipient aead seals opens = let f : Some refusals.Role ≡ None = seals in cc

on_one : (o : Option ContextView) (c : ℕ) (item : Spans) (opening : CallLine)
    → kind_of opening ≡ kinds.Open → refusal_on o (calls.Seal c item) ≡ None
    → refusal_on o opening ≡ None → ⊥
on_one None c item opening is seals opens =
    let f : Some refusals.NoContext ≡ None = seals in cc
on_one (Some context) c item opening is seals opens =
    not_both_roles context.role context.suite.aead seals
    (ap (kind_refusal context.role context.suite.aead (export_limit context) (size_of opening))
    (sym is) ∙ opens)

-- the call of a place on a context that serves a seal is a seal on it
pub record SealingCall (run : Run) (c : ℕ) (p : Place) : Type 0 where
  pub item : Spans
  pub at : slice_get (calls_of run p.lane) p.call ≡ Some (calls.Seal c item)

pub no_item : {X : Type 0} (x : ℕ × Item) → None ≡ Some x → X
no_item x is = absurd (let f : None ≡ Some x = is in cc)

pub sealing_call : (run : Run) (c : ℕ) (item : Spans)
    → call_refusal run.contexts (calls.Seal c item) ≡ None
    → (p : Place) (x : Item) → ServingCall run c p x → SealingCall run c p
sealing_call run c item seals p x t = of t.call t.at t.free t.asks
  where
    opened : (d : ℕ) (opening : CallLine) → d ≡ c → context_of opening ≡ d
        → kind_of opening ≡ kinds.Open → call_refusal run.contexts opening ≡ None
        → SealingCall run c p
    opened d opening is on opens free =
        absurd (on_one (standing_at run.contexts c) c item opening opens seals
        (subst (λ k. refusal_on (standing_at run.contexts k) opening ≡ None) (on ∙ is) free))

    of : (call : CallLine) → slice_get (calls_of run p.lane) p.call ≡ Some call
        → call_refusal run.contexts call ≡ None
        → item_in (asked_by run.plan call) p.item ≡ Some (c, x) → SealingCall run c p
    of (calls.Seal d other) at free asks =
        let is : d ≡ c = asks_it
        (slice_get (items_in (asked_by run.plan (calls.Seal d other))) p.item) d c x asks in
        record { item = other; at = at ∙ ap (λ k. Some (calls.Seal k other)) is }
    of (calls.Unseal d other) at free asks =
        opened d (calls.Unseal d other) (asks_it
        (slice_get (items_in (asked_by run.plan (calls.Unseal d other))) p.item) d c x asks)
        refl refl free
    of (calls.UnsealAll d first count) at free asks =
        opened d (calls.UnsealAll d first count) (asks_it
        (slice_get (items_in (asked_by run.plan (calls.UnsealAll d first count))) p.item) d c x asks)
        refl refl free
    of (calls.Export d exporter size) at free asks = no_item (c, x) asks
    of (calls.Add name) at free asks = no_item (c, x) asks
    of (calls.Retire name) at free asks = no_item (c, x) asks

-- ---- contexts that stand

pub stands : (contexts : List (Option ContextView)) (c : ℕ) (call : CallLine)
    → refusal_on (standing_at contexts c) call ≡ None → c < length contexts
stands [] c call free = absurd (let f : Some refusals.NoContext ≡ None = free in cc)
stands (o ∷ contexts) zero call free = omega arith
stands (o ∷ contexts) (suc c) call free = let low = stands contexts c call free in omega arith

at_its_number : (plan : Plan) (c : ℕ) → plan.added ≡ 0 → c < length plan.contexts
    → position plan c ≡ c
at_its_number plan c plain low = grind (arith, nat_tests)

pub legal_of : (stamps : Bool) (batch : Batch) (journals : List (List Mark))
    → LegalFor stamps batch journals → (context : ℕ)
    → Legal batch context (places (marks_at journals context))
legal_of true batch journals t context = legal_alone batch journals context t
legal_of false batch journals t context = t context

-- ---- where no two lanes seal

module _ (plan : Plan) (contexts : List (Option ContextView)) (plain : IsPlain plan)
    (count : length contexts ≡ length plan.contexts) where
  -- a call on a context that stands is one on its place
  pub is_on : (c : ℕ) → c < length contexts → (position plan c == c) ≡ true
  is_on c low =
      ap (λ k. k == c) (at_its_number plan c plain.added (omega arith)) ∙ eq-eqb c c refl

  pub sealed_in : (lane number c : ℕ) (item : Spans) → c < length contexts
      → slice_get (lane_calls plan lane) number ≡ Some (calls.Seal c item) → Seals plan c lane
  sealed_in lane number c item low at =
      any_at (seals_on plan c) (lane_calls plan lane) number (calls.Seal c item) at (is_on c low)

  module _ (journals further : List (List Mark)) (guesses others : List (List ℕ))
      (allowed : IsAllowed (run_along plan contexts journals guesses))
      (also : IsAllowed (run_along plan contexts further others)) where
    abbrev run : Run
    run = run_along plan contexts journals guesses

    abbrev other : Run
    other = run_along plan contexts further others

    pub same_line : (c : ℕ) (p : Place) → IsOfOneLane (asks_of run) c
        → place_line run c p ≡ place_line other c p
    same_line c p one =
        ap answer_line_of
        (same_replies (asks_of run) (asks_of run) c (same_batch (asks_of run) c) one
        (cipher_at contexts c) (journal_of run c) (journal_of other c) p
        (legal_of (has_stamps plan.version) (asks_of run) journals allowed.legal c)
        (legal_of (has_stamps plan.version) (asks_of run) further also.legal c))

    of_one_lane : NoTwoLanesSeal plan → (c : ℕ) (item : Spans)
        → call_refusal contexts (calls.Seal c item) ≡ None → IsOfOneLane (asks_of run) c
    of_one_lane alone c item seals p q a b =
        let low = stands contexts c (calls.Seal c item) seals in
        let s = sealing_call run c item seals p a.0 (serving_call run c p a.0 a.1) in
        let t = sealing_call run c item seals q b.0 (serving_call run c q b.0 b.1) in
        alone c q.lane (omega arith) (sealed_in q.lane q.call c t.item low t.at)
        p.lane (inl (sealed_in p.lane p.call c s.item low s.at))

    pub seals_alike : NoTwoLanesSeal plan → SealsAlike plan (call_lines run) (call_lines other)
    seals_alike alone lane number c item at =
        unless (call_refusal contexts (calls.Seal c item)) refl
      where
        unless : (r : Option CallRefusal) → call_refusal contexts (calls.Seal c item) ≡ r
            → lines_unless r (served_lines run lane number (calls.Seal c item))
            ≡ lines_unless r (served_lines other lane number (calls.Seal c item))
        unless (Some why) refused = refl
        unless None free = ap (λ (line : List ℕ). line ∷ [])
            (same_line c (place lane number 0) (of_one_lane alone c item free))
