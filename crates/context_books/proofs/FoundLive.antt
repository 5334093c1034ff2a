-- An added context serves no call that did not find it live.
use Rattle.std.proofs.Common.{◌≡◌, ◌&&◌, ◌||◌, ℕ, ◌+◌, ◌-◌, ◌<◌, Bool, true, false, List, [], ◌∷◌, Option, Some, None, sym, refl, ap, ◌∙◌, subst, arith, if◌then◌else◌, inl, inr}
use Rattle.std.specs.Prelude.{slice_get, slice_index_or, option_map, nat_lt, Contains}
use Rattle.std.proofs.lemmas.Bool.Decides.{nat_tests}
use Rattle.std.proofs.lemmas.Option.{slice_get-map}
use Rattle.call_places.specs.declared.entries.Act.TheVariants as acts
use Rattle.call_places.specs.declared.entries.Entry.{Entry}
use Rattle.call_places.specs.declared.entries.Place.{Place}
use Rattle.call_places.specs.declared.entries.Step.{Step}
use Rattle.call_places.specs.declared.entries.Step.TheVariants.{Note}
use Rattle.hpke_context.specs.Answers.{Item}
use Rattle.hpke_context.specs.Contexts.{ContextView}
use Rattle.context_books.specs.Batches.{context_in, items_in, with_context, item_in, item_in_call, lane_of, place}
use Rattle.context_books.specs.Legal.{is_same_place}
use Rattle.context_books.proofs.Members.{contains_in}
use Rattle.context_books.specs.Lists.{In}
use Rattle.context_books.proofs.Places.{same_places}
use Rattle.context_books.proofs.Truths.{and_left, and_right}
use Rattle.batch_plans.specs.declared.plan.Plan.{Plan}
use Rattle.batch_plans.specs.declared.plan.CallLine.{CallLine}
use Rattle.batch_plans.specs.declared.plan.CallLine.TheVariants as calls
use Rattle.batch_plans.specs.declared.replies.CallRefusal.{CallRefusal}
use Rattle.batch_plans.specs.Limits.{first_name}
use Rattle.batch_plans.specs.Within.{IsWithinLimits}
use Rattle.batch_plans.specs.Names.{line_count, position, at_position}
use Rattle.batch_plans.specs.LiveText.{tells_live}
use Rattle.context_books.specs.Asks.{ask_unless, ask_of, asked_by}
use Rattle.context_books.specs.Live.{Noting, looking, noting, noting_in, IsNoted, was_live, looked_up, looked_up_plan, LiveRun, run_of, FoundLive, IsAllowedLive}
use Rattle.context_books.specs.Runs.{asks_of, journal_of}
use Rattle.context_books.specs.Standing.{call_refusal}
use Rattle.context_books.proofs.Done.{lane_asks}
use Rattle.context_books.proofs.LookedUp.{call_looked}

-- ---- the note that tells that a name was live

pub live_note : (notes : List Entry) (p : Place) → was_live notes p ≡ true
    → (e : Entry) × In e notes × (e.place ≡ p) × (tells_live e.step ≡ true)
live_note [] p is = absurd (let f : false ≡ true = is in cc)
live_note (e ∷ notes) p is =
    step (is_same_place e.place p && tells_live e.step) refl is (live_note notes p)
  where
    step : (b : Bool) → (is_same_place e.place p && tells_live e.step) ≡ b
        → (b || was_live notes p) ≡ true
        → (was_live notes p ≡ true
        → (f : Entry) × In f notes × (f.place ≡ p) × (tells_live f.step ≡ true))
        → (f : Entry) × In f (e ∷ notes) × (f.place ≡ p) × (tells_live f.step ≡ true)
    step true here some later = (
      e,
      inl refl,
      same_places e.place p (and_left (is_same_place e.place p) (tells_live e.step) here),
      and_right (is_same_place e.place p) (tells_live e.step) here,
    )
    step false here some later = let t = later some in (t.0, inr t.1, t.2, t.3)

-- ---- which name a call looked up whose context is an added one

-- a call on this context that is served on that of `add` line `name` found it live
found : (plan : Plan) (name context : ℕ) (was : Bool) → IsWithinLimits plan → name < plan.added
    → (if nat_lt context first_name || was then position plan context else context)
    ≡ line_count plan + name
    → (was ≡ true)
    × (looking plan context ≡ Some (record { act = acts.Look; name = name }))
found plan name context true within low is =
    let added = within.added in
    let high : nat_lt context first_name ≡ false = grind (arith, nat_tests) in
    let of : context - first_name ≡ name = grind (arith, nat_tests) in
    (refl, grind (arith, nat_tests))
found plan name context false within low is =
    let added = within.added in
    let few = within.contexts in
    absurd (grind (arith, nat_tests))

-- ---- the call of a place

abbrev context_or_0 : Option (ℕ × Item) → ℕ
context_or_0 None = 0
context_or_0 (Some x) = x.0

-- an item of this context comes of a call that asks the context
asks_it : (o : Option Item) (d c : ℕ) (x : Item) → with_context d o ≡ Some (c, x) → d ≡ c
asks_it None d c x is = absurd (let f : None ≡ Some (c, x) = is in cc)
asks_it (Some y) d c x is = ap context_or_0 is

nothing : {X : Type 0} (o : Option (ℕ × Item)) (x : ℕ × Item) → o ≡ None → o ≡ Some x → X
nothing o x none is = absurd (let f : None ≡ Some x = sym none ∙ is in cc)

module _ (plan : Plan) (standing : List (Option ContextView)) (within : IsWithinLimits plan)
    (name : ℕ) (low : name < plan.added) (lane k i : ℕ) (notes : List Entry) (x : Item) where
  abbrev was : Bool
  was = was_live notes (place lane k 0)

  -- a call as it is served asks the context of `add` line `name` for an item
  abbrev Asks : CallLine → Type 0
  Asks call = item_in (ask_of (looked_up_plan plan notes) standing call) i
      ≡ Some (line_count plan + name, x)

  -- the context that it asks
  context_asked : (call : CallLine) → Asks call
      → context_in (asked_by (looked_up_plan plan notes) call) ≡ line_count plan + name
  context_asked call is = step (call_refusal standing call) is
    where
      step : (r : Option CallRefusal)
          → item_in (ask_unless r (asked_by (looked_up_plan plan notes) call)) i
          ≡ Some (line_count plan + name, x)
          → context_in (asked_by (looked_up_plan plan notes) call) ≡ line_count plan + name
      step None asks = asks_it (slice_get (items_in (asked_by (looked_up_plan plan notes) call)) i)
          (context_in (asked_by (looked_up_plan plan notes) call)) (line_count plan + name) x asks
      step (Some why) asks = nothing None (line_count plan + name, x) refl asks

  -- a call that asks nothing
  no_asks : {X : Type 0} (call : CallLine)
      → items_in (asked_by (looked_up_plan plan notes) call) ≡ [] → Asks call → X
  no_asks call none is = step (call_refusal standing call) is
    where
      step : {X : Type 0} (r : Option CallRefusal)
          → item_in (ask_unless r (asked_by (looked_up_plan plan notes) call)) i
          ≡ Some (line_count plan + name, x) → X
      step None asks = nothing
          (item_in (asked_by (looked_up_plan plan notes) call) i) (line_count plan + name, x)
          (ap (λ items. with_context (context_in (asked_by (looked_up_plan plan notes) call))
          (slice_get items i)) none) asks
      step (Some why) asks = nothing None (line_count plan + name, x) refl asks

  abbrev Found : CallLine → Type 0
  Found call = (was ≡ true)
      × (noting plan standing call ≡ Some (record { act = acts.Look; name = name }))

  served_live : (call : CallLine) → Asks (looked_up plan notes lane k call) → Found call
  served_live (calls.Seal context item) is =
      found plan name context was within low
      (context_is (nat_lt context first_name || was)
      ∙ context_asked (looked_up plan notes lane k (calls.Seal context item)) is)
    where
      context_is : (b : Bool) → (if b then position plan context else context)
          ≡ context_in (asked_by (looked_up_plan plan notes)
          (if b then at_position plan (calls.Seal context item) else calls.Seal context item))
      context_is true = refl
      context_is false = refl
  served_live (calls.Unseal context item) is =
      found plan name context was within low
      (context_is (nat_lt context first_name || was)
      ∙ context_asked (looked_up plan notes lane k (calls.Unseal context item)) is)
    where
      context_is : (b : Bool) → (if b then position plan context else context)
          ≡ context_in (asked_by (looked_up_plan plan notes)
          (if b then at_position plan (calls.Unseal context item) else calls.Unseal context item))
      context_is true = refl
      context_is false = refl
  served_live (calls.UnsealAll context first count) is =
      found plan name context was within low
      (context_is (nat_lt context first_name || was)
      ∙ context_asked (looked_up plan notes lane k (calls.UnsealAll context first count)) is)
    where
      context_is : (b : Bool) → (if b then position plan context else context)
          ≡ context_in (asked_by (looked_up_plan plan notes)
          (if b then at_position plan (calls.UnsealAll context first count)
          else calls.UnsealAll context first count))
      context_is true = refl
      context_is false = refl
  served_live (calls.Export context exporter size) is =
      no_asks (looked_up plan notes lane k (calls.Export context exporter size))
      (none (nat_lt context first_name || was)) is
    where
      none : (b : Bool) → items_in (asked_by (looked_up_plan plan notes)
          (if b then at_position plan (calls.Export context exporter size)
          else calls.Export context exporter size)) ≡ []
      none true = refl
      none false = refl
  served_live (calls.Add other) is =
      no_asks (looked_up plan notes lane k (calls.Add other))
      (none (nat_lt other first_name || was)) is
    where
      none : (b : Bool) → items_in (asked_by (looked_up_plan plan notes)
          (if b then at_position plan (calls.Add other) else calls.Add other)) ≡ []
      none true = refl
      none false = refl
  served_live (calls.Retire other) is =
      no_asks (looked_up plan notes lane k (calls.Retire other))
      (none (nat_lt other first_name || was)) is
    where
      none : (b : Bool) → items_in (asked_by (looked_up_plan plan notes)
          (if b then at_position plan (calls.Retire other) else calls.Retire other)) ≡ []
      none true = refl
      none false = refl

  call_there : (o : Option CallLine)
      → item_in_call (option_map (ask_of (looked_up_plan plan notes) standing)
      (option_map (looked_up plan notes lane k) o)) i ≡ Some (line_count plan + name, x)
      → (call : CallLine) × (o ≡ Some call) × Asks (looked_up plan notes lane k call)
  call_there None is = nothing None (line_count plan + name, x) refl is
  call_there (Some call) is = (call, refl, is)

-- ---- the law

told_live : (step : Step) (name : ℕ) (live : Bool) → step ≡ Note name acts.Look live
    → tells_live step ≡ true → step ≡ Note name acts.Look true
told_live step name live is told =
    is ∙ ap (Note name acts.Look) (ap tells_live (sym is) ∙ told)

pub found_live : (live : LiveRun) (name : ℕ) (p : Place) → IsWithinLimits live.plan
    → IsAllowedLive live → name < live.plan.added
    → Contains (journal_of (run_of live) (line_count live.plan + name)) p
    → FoundLive live.notes p name
found_live live name p within allowed low has =
    let plan = live.plan in
    let looked = looked_up_plan plan live.notes in
    let run = run_of live in
    let c = line_count plan + name in
    let lines = slice_index_or plan.lanes p.lane [] in
    let q = place p.lane p.call 0 in
    let n : Noting = record { act = acts.Look; name = name } in
    let served = ((allowed.history.each c).served p).0 has in
    let asked : slice_get (lane_of (asks_of run) p.lane) p.call
    ≡ option_map (ask_of looked live.standing)
    (option_map (looked_up plan live.notes p.lane p.call) (slice_get lines p.call)) =
    ap (λ asks. slice_get asks p.call) (lane_asks run p.lane)
    ∙ slice_get-map (ask_of looked live.standing) (slice_index_or looked.lanes p.lane []) p.call
    ∙ ap (option_map (ask_of looked live.standing))
    (call_looked plan live.notes p.lane p.call) in
    let call = call_there plan live.standing within name low p.lane p.call p.item live.notes served.0
    (slice_get lines p.call) (sym (ap (λ a. item_in_call a p.item) asked) ∙ served.1) in
    let t = served_live plan live.standing within name low p.lane p.call p.item live.notes served.0
    call.0 call.2 in
    let e = live_note live.notes q t.0 in
    let here : IsNoted plan live.standing q n = record {
      first = refl;
      noting_is = ap (noting_in plan live.standing) call.1 ∙ t.1;
    } in
    let act = allowed.table.acts e.0 n (contains_in live.notes e.0 e.1)
    (subst (λ r. IsNoted plan live.standing r n) (sym e.2) here) in
    record {
      note = e.0;
      noted = contains_in live.notes e.0 e.1;
      at = e.2;
      step = told_live e.0.step name act.0 act.1 e.3;
    }
