-- A name that one lane alone adds and retires: whether a look of that lane finds it live follows from the
-- lane's calls, whatever the table.
use Rattle.std.proofs.Common.{◌≡◌, ◌==◌, ◌&&◌, ◌||◌, ℕ, ◌+◌, ◌<◌, Bool, true, false, cond, List, [], ◌∷◌, ◌++◌, length, map, take, Option, Some, None, sym, refl, ap, ◌∙◌, subst, arith, eq-eqb, eqb-true, if◌then◌else◌, inl, inr}
use Rattle.std.specs.Prelude.{slice_get, nat_lt, filter}
use Rattle.std.specs.List.{list_any}
use Rattle.call_places.specs.declared.entries.Act.{Act}
use Rattle.call_places.specs.declared.entries.Act.TheVariants as acts
use Rattle.call_places.specs.declared.entries.Entry.{Entry}
use Rattle.call_places.specs.declared.entries.Place.{Place}
use Rattle.call_places.specs.declared.entries.Step.TheVariants.{Note}
use Rattle.call_places.specs.Notes.{adds, retires, is_added, live_at, TellsLive}
use Rattle.call_places.specs.Orders.{IsBefore, last_of}
use Rattle.hpke_context.specs.Contexts.{ContextView}
use Rattle.batch_plans.specs.declared.plan.Plan.{Plan}
use Rattle.batch_plans.specs.declared.plan.CallLine.{CallLine}
use Rattle.batch_plans.specs.declared.plan.CallLine.TheVariants as calls
use Rattle.batch_plans.specs.Names.{line_count}
use Rattle.batch_plans.specs.LiveText.{tells_live}
use Rattle.context_books.specs.Histories.{entry_places}
use Rattle.context_books.specs.LaneCalls.{lane_calls}
use Rattle.context_books.specs.Batches.{place}
use Rattle.context_books.specs.Legal.{is_same_place}
use Rattle.context_books.specs.Lists.{In}
use Rattle.context_books.specs.Live.{Noting, adding, noting, noting_in, IsNoted, LegalTable, was_live}
use Rattle.context_books.specs.Sharing.{changes_name, ChangesName}
use Rattle.context_books.specs.Standing.{standing_at}
use Rattle.context_books.proofs.Members.{at_in, In-left, In-right, In-append, RisesBy, contains_in, in_contains, in_filter, filter_in, in_map, map_in, one_list, rises_pairs, split_at}
use Rattle.context_books.proofs.Places.{either_before, not_both, same}
use Rattle.context_books.proofs.SealedAlike.{any_at}
use Rattle.context_books.proofs.Truths.{both_true}
use Rattle.context_books.proofs.FoundLive.{live_note}
use Rattle.context_books.proofs.OneLiveHistory.{Apart, Earlier, notes_rise}

-- of two notes of a lane the one of the earlier place has the lower stamp
abbrev pub InLaneOrder : List Entry → Type 0
InLaneOrder notes = (e f : Entry) → In e notes → In f notes → e.place.lane ≡ f.place.lane
    → IsBefore e.place f.place → e.stamp < f.stamp

-- ---- lists that rise

module _ {X : Type 0} (R : X → X → Type 0) where
  rises_across : (xs ys : List X) → RisesBy R (xs ++ ys) → (x y : X) → In x xs → In y ys → R x y
  rises_across [] ys r x y i j = absurd i
  rises_across (z ∷ xs) ys r x y i j = elim i [
    | inl is ↦ subst (λ w. R w y) is (r.0 y (In-right y xs ys j))
    | inr later ↦ rises_across xs ys r.1 x y later j
  ]

  rises_front : (xs ys : List X) → RisesBy R (xs ++ ys) → RisesBy R xs
  rises_front [] ys r = tt
  rises_front (x ∷ xs) ys r = (λ y i. r.0 y (In-left y xs ys i), rises_front xs ys r.1)

  rises_back : (xs ys : List X) → RisesBy R (xs ++ ys) → RisesBy R ys
  rises_back [] ys r = r
  rises_back (x ∷ xs) ys r = rises_back xs ys r.1

  rises_kept : (test : X → Bool) (xs : List X) → RisesBy R xs → RisesBy R (filter test xs)
  rises_kept test [] r = tt
  rises_kept test (x ∷ xs) r = either (test x) (rises_kept test xs r.1)
    where
      either : (b : Bool) → RisesBy R (filter test xs)
          → RisesBy R (cond b (x ∷ filter test xs) (filter test xs))
      either true rest = (λ y i. r.0 y (filter_in test y xs i).0, rest)
      either false rest = rest

-- a note is the one of its place
one_of : (notes : List Entry) → RisesBy Earlier notes → RisesBy Apart (entry_places notes)
    → (f g : Entry) → In f notes → In g notes → f.place ≡ g.place → f ≡ g
one_of [] r t f g i j same = absurd i
one_of (e ∷ notes) r t f g i j same = elim i [
  | inl is ↦ elim j [
    | inl also ↦ sym is ∙ also
    | inr later ↦ absurd (t.0 g.place (in_map (λ (x : Entry). x.place) g notes later)
        (ap (λ (x : Entry). x.place) is ∙ same))
  ]
  | inr later ↦ elim j [
    | inl is ↦ absurd (t.0 f.place (in_map (λ (x : Entry). x.place) f notes later)
        (ap (λ (x : Entry). x.place) is ∙ sym same))
    | inr more ↦ one_of notes r.1 t.1 f g later more same
  ]
]

-- ---- calls that change the name

no_noting : {X : Type 0} (n : Noting) → None ≡ Some n → X
no_noting n is = absurd (let f : None ≡ Some n = is in cc)

abbrev act_in : Option Noting → Act
act_in None = acts.Look
act_in (Some n) = n.act

abbrev name_in : Option Noting → ℕ
name_in None = 0
name_in (Some n) = n.name

abbrev adds_it : Act → Bool
adds_it acts.Add = true
adds_it acts.Retire = false
adds_it acts.Look = false

-- it adds or retires
abbrev changes : Act → Bool
changes acts.Add = true
changes acts.Retire = true
changes acts.Look = false

module _ (plan : Plan) (standing : List (Option ContextView)) (name : ℕ) where
  abbrev at : ℕ
  at = line_count plan + name

  -- the place of a call that adds or retires the name
  record Changes (q : Place) : Type 0 where
    n : Noting
    noted : IsNoted plan standing q n
    name_is : n.name ≡ name
    act : changes n.act ≡ true

  looks : {X : Type 0} (b c : Bool) (of : ℕ) (n : Noting)
      → (if b then None else if c then Some (record { act = acts.Look; name = of }) else None)
      ≡ Some n → changes n.act ≡ true → X
  looks true c of n is act = no_noting n is
  looks false true of n is act =
      absurd (let f : false ≡ true = ap (λ o. changes (act_in o)) is ∙ act in cc)
  looks false false of n is act = no_noting n is

  retired : (b : Bool) (of : ℕ) (n : Noting)
      → (if b then Some (record { act = acts.Retire; name = of }) else None) ≡ Some n
      → of ≡ n.name
  retired true of n is = ap name_in is
  retired false of n is = no_noting n is

  added : (o : Option ContextView) (of : ℕ) (n : Noting) → adding o of ≡ Some n → of ≡ n.name
  added None of n is = no_noting n is
  added (Some context) of n is = ap name_in is

  test_is : (of : ℕ) → of ≡ name → (line_count plan + of == at) ≡ true
  test_is of is = eq-eqb (line_count plan + of) at (ap (λ k. line_count plan + k) is)

  change_of : (call : CallLine) (n : Noting) → noting plan standing call ≡ Some n
      → n.name ≡ name → changes n.act ≡ true → changes_name plan at call ≡ true
  change_of (calls.Add of) n is named act =
      test_is of (added (standing_at standing (line_count plan + of)) of n is ∙ named)
  change_of (calls.Retire of) n is named act = test_is of (retired (nat_lt of plan.added) of n is ∙ named)
  change_of call n is named act = looks _ _ _ n is act

  lane_changes : (q : Place) → Changes q → ChangesName plan at q.lane
  lane_changes q t = there (slice_get (lane_calls plan q.lane) q.call) refl t.noted.noting_is
    where
      there : (o : Option CallLine) → slice_get (lane_calls plan q.lane) q.call ≡ o
          → noting_in plan standing o ≡ Some t.n → ChangesName plan at q.lane
      there None is noted = no_noting t.n noted
      there (Some call) is noted =
          any_at (changes_name plan at) (lane_calls plan q.lane) q.call call is
          (change_of call t.n noted t.name_is t.act)

  -- ---- notes that change the name

  abbrev test : Entry → Bool
  test e = adds name e.step || retires name e.step

  -- the call of this place adds
  abbrev adds_there : Place → Bool
  adds_there q =
      adds_it (act_in (noting_in plan standing (slice_get (lane_calls plan q.lane) q.call)))

  module _ (notes : List Entry) (table : LegalTable plan standing notes) where
    -- what the table has of a note
    record Told (e : Entry) : Type 0 where
      n : Noting
      noted : IsNoted plan standing e.place n
      live : Bool
      step_is : e.step ≡ Note n.name n.act live

    told : (e : Entry) → In e notes → Told e
    told e has =
        let there = contains_in (entry_places notes) e.place
        (in_map (λ (x : Entry). x.place) e notes has) in
        let n = (table.noted e.place).0 there in
        let act = table.acts e n.0 (contains_in notes e has) n.1 in
        record { n = n.0; noted = n.1; live = act.0; step_is = act.1 }

    by_act : (of : ℕ) (act : Act) (live : Bool)
        → (adds name (Note of act live) || retires name (Note of act live)) ≡ true
        → (of ≡ name) × (changes act ≡ true)
    by_act of acts.Add live is = either (of == name) refl is
      where
        either : (b : Bool) → (of == name) ≡ b → (b || false) ≡ true
            → (of ≡ name) × (true ≡ true)
        either true e t = (eqb-true of name e, refl)
        either false e t = absurd (let f : false ≡ true = t in cc)
    by_act of acts.Retire live is = (eqb-true of name is, refl)
    by_act of acts.Look live is = absurd (let f : false ≡ true = is in cc)

    from_act : (of : ℕ) (act : Act) (live : Bool) → of ≡ name → changes act ≡ true
        → (adds name (Note of act live) || retires name (Note of act live)) ≡ true
    from_act of acts.Add live is does = ap (λ b. b || false) (eq-eqb of name is)
    from_act of acts.Retire live is does = eq-eqb of name is
    from_act of acts.Look live is does = absurd (let f : false ≡ true = does in cc)

    to_change : (e : Entry) → In e notes → test e ≡ true → Changes e.place
    to_change e has is =
        let t = told e has in
        let by = by_act t.n.name t.n.act t.live
        (ap (λ step. adds name step || retires name step) (sym t.step_is) ∙ is) in
        record { n = t.n; noted = t.noted; name_is = by.0; act = by.1 }

    -- a place has one noting
    one_noting : (q : Place) (n m : Noting) → IsNoted plan standing q n → IsNoted plan standing q m
        → n ≡ m
    one_noting q n m a b = let f : Some n ≡ Some m = sym a.noting_is ∙ b.noting_is in cc

    from_change : (e : Entry) → In e notes → Changes e.place → test e ≡ true
    from_change e has c =
        let t = told e has in
        let same_n = one_noting e.place c.n t.n c.noted t.noted in
        ap (λ step. adds name step || retires name step) t.step_is
        ∙ from_act t.n.name t.n.act t.live (ap (λ (n : Noting). n.name) (sym same_n) ∙ c.name_is)
        (ap (λ (n : Noting). changes n.act) (sym same_n) ∙ c.act)

    adds_by : (of : ℕ) (act : Act) (live : Bool) → of ≡ name
        → adds name (Note of act live) ≡ adds_it act
    adds_by of acts.Add live is = eq-eqb of name is
    adds_by of acts.Retire live is = refl
    adds_by of acts.Look live is = refl

    adds_is : (e : Entry) → In e notes → test e ≡ true → adds name e.step ≡ adds_there e.place
    adds_is e has is =
        let t = told e has in
        let by = by_act t.n.name t.n.act t.live
        (ap (λ step. adds name step || retires name step) (sym t.step_is) ∙ is) in
        ap (adds name) t.step_is ∙ adds_by t.n.name t.n.act t.live by.0
        ∙ ap (λ o. adds_it (act_in o)) (sym t.noted.noting_is)

  -- ---- the last change

  last_adds : List Place → Bool
  last_adds [] = false
  last_adds (q ∷ []) = adds_there q
  last_adds (q ∷ r ∷ qs) = last_adds (r ∷ qs)

  last_is : (es : List Entry) → ((e : Entry) → In e es → adds name e.step ≡ adds_there e.place)
      → is_added name (last_of es) ≡ last_adds (map (λ e. e.place) es)
  unfolding last_adds
  last_is [] all = refl
  last_is (e ∷ []) all = all e (inl refl)
  last_is (e ∷ f ∷ es) all = last_is (f ∷ es) (λ g has. all g (inr has))

  -- ---- the changes before a look, where one lane alone changes the name

  module _ (notes : List Entry) (table : LegalTable plan standing notes)
      (ordered : InLaneOrder notes) (lane : ℕ) (only : (q : Place) → Changes q → q.lane ≡ lane)
      (front after : List Entry) (e : Entry) (own : e.place.lane ≡ lane)
      (look : Changes e.place → ⊥) (parted : notes ≡ front ++ (e ∷ after)) where
    in_front : (f : Entry) → In f front → In f notes
    in_front f has = subst (In f) (sym parted) (In-left f front (e ∷ after) has)

    here : In e notes
    here = subst (In e) (sym parted) (In-right e front (e ∷ after) (inl refl))

    all_rise : RisesBy Earlier (front ++ (e ∷ after))
    all_rise = subst (RisesBy Earlier) parted (notes_rise notes table.rise)

    before_it : (f : Entry) → In f front → f.stamp < e.stamp
    before_it f has = rises_across Earlier front (e ∷ after) all_rise f e has (inl refl)

    after_it : (f : Entry) → In f after → e.stamp < f.stamp
    after_it f has = (rises_back Earlier front (e ∷ after) all_rise).0 f has

    changed : List Place
    changed = map (λ f. f.place) (filter test front)

    to_before : (q : Place) → In q changed → Changes q × IsBefore q e.place
    unfolding changed
    to_before q has =
        let t = map_in (λ (f : Entry). f.place) q (filter test front) has in
        let f : Entry = t.0 in
        let k = filter_in test f front t.1 in
        let c = to_change notes table f (in_front f k.0) k.1 in
        let lanes : f.place.lane ≡ e.place.lane = only f.place c ∙ sym own in
        let before : IsBefore f.place e.place = elim (either_before f.place e.place lanes) [
          | inl either ↦ elim either [
            | inl before ↦ before
            | inr back ↦
                (let low = ordered e f here (in_front f k.0) (sym lanes) back in
                let high = before_it f k.0 in absurd (omega arith))
          ]
          | inr same ↦ absurd (look (subst Changes same c))
        ] in
        (subst Changes t.2 c, subst (λ r. IsBefore r e.place) t.2 before)

    from_before : (q : Place) → Changes q → IsBefore q e.place → In q changed
    unfolding changed
    from_before q c before =
        let has = in_contains (entry_places notes) q ((table.noted q).1 (c.n, c.noted)) in
        let t = map_in (λ (f : Entry). f.place) q notes has in
        let f : Entry = t.0 in
        let mine : Changes f.place = subst Changes (sym t.2) c in
        elim (In-append f front (e ∷ after) (subst (In f) parted t.1)) [
          | inl i ↦ subst (λ r. In r (map (λ (f : Entry). f.place) (filter test front))) t.2
              (in_map (λ (f : Entry). f.place) f (filter test front)
              (in_filter test f front i (from_change notes table f t.1 mine)))
          | inr i ↦ elim i [
            | inl is ↦ absurd (look (subst (λ (g : Entry). Changes g.place) (sym is) mine))
            | inr later ↦
                (let low = ordered f e t.1 here (only f.place mine ∙ sym own)
                (subst (λ r. IsBefore r e.place) (sym t.2) before) in
                let high = after_it f later in absurd (omega arith))
          ]
        ]

    -- of two changes the earlier is at the earlier place
    in_order : (f g : Entry) → In f notes → In g notes → test f ≡ true → test g ≡ true
        → f.stamp < g.stamp → IsBefore f.place g.place
    in_order f g has also is too low =
        let lanes : f.place.lane ≡ g.place.lane =
        only f.place (to_change notes table f has is) ∙ sym (only g.place (to_change notes table g also too)) in
        elim (either_before f.place g.place lanes) [
          | inl either ↦ elim either [
            | inl before ↦ before
            | inr back ↦ (let high = ordered g f also has (sym lanes) back in absurd (omega arith))
          ]
          | inr same ↦
              (let one = one_of notes (notes_rise notes table.rise)
              (rises_pairs Apart (entry_places notes) table.once) f g has also same in
              let stamps : f.stamp ≡ g.stamp = ap (λ (x : Entry). x.stamp) one in absurd (omega arith))
        ]

    lift : (xs : List Entry) → RisesBy Earlier xs
        → ((f : Entry) → In f xs → In f notes × (test f ≡ true))
        → RisesBy IsBefore (map (λ (f : Entry). f.place) xs)
    lift [] rise all = tt
    lift (x ∷ xs) rise all = (
      λ q i.
          let t = map_in (λ (f : Entry). f.place) q xs i in
          let a = all x (inl refl) in
          let b = all t.0 (inr t.1) in
          subst (IsBefore x.place) t.2 (in_order x t.0 a.0 b.0 a.1 b.1 (rise.0 t.0 t.1)),
      lift xs rise.1 (λ f i. all f (inr i)),
    )

    changed_rises : RisesBy IsBefore changed
    unfolding changed
    changed_rises =
        lift (filter test front)
        (rises_kept Earlier test front (rises_front Earlier front (e ∷ after) all_rise))
        (λ f i. let k = filter_in test f front i in (in_front f k.0, k.1))

    live_is : live_at front name ≡ last_adds changed
    unfolding changed
    live_is =
        last_is (filter test front)
        (λ f i. let k = filter_in test f front i in adds_is notes table f (in_front f k.0) k.1)

-- ---- a look of a name that one lane alone changes

-- the note of a look
pub record Look (plan : Plan) (standing : List (Option ContextView)) (notes : List Entry)
    (name : ℕ) (p : Place) : Type 0 where
  pub e : Entry
  pub front : List Entry
  pub after : List Entry
  pub parted : notes ≡ front ++ (e ∷ after)
  pub place_is : e.place ≡ p
  pub live_is : was_live notes p ≡ live_at front name

any_in : {X : Type 0} (test : X → Bool) (xs : List X) (x : X) → In x xs → test x ≡ true
    → list_any test xs ≡ true
any_in test xs x has is = let at = at_in xs x has in any_at test xs at.0 x at.1 is

told_true : (name : ℕ) (p : Place) (e : Entry) (live : Bool) → e.step ≡ Note name acts.Look live
    → live ≡ true → e.place ≡ p → (is_same_place e.place p && tells_live e.step) ≡ true
told_true name p e live is true_is there =
    both_true (is_same_place e.place p) (tells_live e.step)
    (ap (λ q. is_same_place q p) there ∙ same p) (ap tells_live is ∙ true_is)

at_end : (front after : List Entry) (e : Entry) → slice_get (front ++ (e ∷ after)) (length front) ≡ Some e
at_end [] after e = refl
at_end (f ∷ front) after e = at_end front after e

front_taken : (front after : List Entry) (e : Entry) → take (length front) (front ++ (e ∷ after)) ≡ front
front_taken [] after e = refl
front_taken (f ∷ front) after e = ap (λ es. f ∷ es) (front_taken front after e)

pub look_of : (plan : Plan) (standing : List (Option ContextView)) (notes : List Entry) (name : ℕ)
    (p : Place) → LegalTable plan standing notes
    → IsNoted plan standing p (record { act = acts.Look; name = name })
    → Look plan standing notes name p
look_of plan standing notes name p table noted =
    let n : Noting = record { act = acts.Look; name = name } in
    let has = in_contains (entry_places notes) p ((table.noted p).1 (n, noted)) in
    let t = map_in (λ (f : Entry). f.place) p notes has in
    let e : Entry = t.0 in
    let split = split_at e notes t.1 in
    let front = split.0 in
    let after = split.1 in
    let act = table.acts e n (contains_in notes e t.1)
    (subst (λ r. IsNoted plan standing r n) (sym t.2) noted) in
    let live = act.0 in
    let told : live ≡ live_at (take (length front) notes) name =
    subst (TellsLive (take (length front) notes)) act.1
    (table.live (length front) e (ap (λ es. slice_get es (length front)) split.2 ∙ at_end front after e)) in
    let at_front : live ≡ live_at front name =
    told ∙ ap (λ es. live_at es name)
    (ap (take (length front)) split.2 ∙ front_taken front after e) in
    record {
      e = e;
      front = front;
      after = after;
      parted = split.2;
      place_is = t.2;
      live_is = was (was_live notes p) refl e live t.1 t.2 act.1 ∙ at_front;
    }
  where
    was : (b : Bool) → was_live notes p ≡ b → (e : Entry) (live : Bool) → In e notes → e.place ≡ p
        → e.step ≡ Note name acts.Look live → was_live notes p ≡ live
    was b is e true has there step =
        any_in (λ (x : Entry). is_same_place x.place p && tells_live x.step) notes e has
        (told_true name p e true step refl there)
    was false is e false has there step = is
    was true is e false has there step =
        let t = live_note notes p is in
        let one = one_of notes (notes_rise notes table.rise)
        (rises_pairs Apart (entry_places notes) table.once) t.0 e t.1 has (t.2 ∙ sym there) in
        absurd (let f : true ≡ false = sym t.3 ∙ ap (λ (x : Entry). tells_live x.step) one
        ∙ ap tells_live step in cc)

-- a place that isn't noted was not live
pub not_noted : (plan : Plan) (standing : List (Option ContextView)) (notes : List Entry) (p : Place)
    → LegalTable plan standing notes
    → noting_in plan standing (slice_get (lane_calls plan p.lane) p.call) ≡ None
    → was_live notes p ≡ false
not_noted plan standing notes p table none = was (was_live notes p) refl
  where
    was : (b : Bool) → was_live notes p ≡ b → was_live notes p ≡ false
    was false is = is
    was true is =
        let t = live_note notes p is in
        let there = contains_in (entry_places notes) p
        (subst (λ q. In q (entry_places notes)) t.2
        (in_map (λ (x : Entry). x.place) t.0 notes t.1)) in
        let n = (table.noted p).0 there in
        no_noting n.0 (sym none ∙ n.1.noting_is)

-- two tables tell the same of it
pub same_look : (plan : Plan) (standing : List (Option ContextView)) (notes others : List Entry)
    (name lane number : ℕ)
    → LegalTable plan standing notes → LegalTable plan standing others
    → InLaneOrder notes → InLaneOrder others
    → ((other : ℕ) → ChangesName plan (line_count plan + name) other → other ≡ lane)
    → IsNoted plan standing (place lane number 0) (record { act = acts.Look; name = name })
    → was_live notes (place lane number 0) ≡ was_live others (place lane number 0)
same_look plan standing notes others name lane number table also ordered further only noted =
    let p = place lane number 0 in
    let a = look_of plan standing notes name p table noted in
    let b = look_of plan standing others name p also noted in
    let mine : (q : Place) → Changes plan standing name q → q.lane ≡ lane =
    λ q c. only q.lane (lane_changes plan standing name q c) in
    let looks : Changes plan standing name p → ⊥ =
    λ c. (let f : false ≡ true =
    ap (λ (o : Option Noting). changes (act_in o)) (sym noted.noting_is ∙ c.noted.noting_is) ∙ c.act
    in cc) in
    let own_a : a.e.place.lane ≡ lane = ap (λ (q : Place). q.lane) a.place_is in
    let own_b : b.e.place.lane ≡ lane = ap (λ (q : Place). q.lane) b.place_is in
    let look_a : Changes plan standing name a.e.place → ⊥ = λ c. looks (subst (Changes plan standing name) a.place_is c) in
    let look_b : Changes plan standing name b.e.place → ⊥ = λ c. looks (subst (Changes plan standing name) b.place_is c) in
    let places : changed plan standing name notes table ordered lane mine a.front a.after a.e own_a look_a a.parted
    ≡ changed plan standing name others also further lane mine b.front b.after b.e own_b look_b b.parted =
    one_list IsBefore not_both
    (changed plan standing name notes table ordered lane mine a.front a.after a.e own_a look_a a.parted)
    (changed plan standing name others also further lane mine b.front b.after b.e own_b look_b b.parted)
    (changed_rises plan standing name notes table ordered lane mine a.front a.after a.e own_a look_a a.parted)
    (changed_rises plan standing name others also further lane mine b.front b.after b.e own_b look_b b.parted)
    (λ q i.
    let t = to_before plan standing name notes table ordered lane mine a.front a.after a.e own_a look_a a.parted q i in
    from_before plan standing name others also further lane mine b.front b.after b.e own_b look_b b.parted q t.0
    (subst (IsBefore q) (a.place_is ∙ sym b.place_is) t.1))
    (λ q i.
    let t = to_before plan standing name others also further lane mine b.front b.after b.e own_b look_b b.parted q i in
    from_before plan standing name notes table ordered lane mine a.front a.after a.e own_a look_a a.parted q t.0
    (subst (IsBefore q) (b.place_is ∙ sym a.place_is) t.1)) in
    a.live_is
    ∙ live_is plan standing name notes table ordered lane mine a.front a.after a.e own_a look_a a.parted
    ∙ ap (last_adds plan standing name) places
    ∙ sym (live_is plan standing name others also further lane mine b.front b.after b.e own_b look_b b.parted)
    ∙ sym b.live_is
