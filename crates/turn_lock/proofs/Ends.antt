-- How the rule begins, how two views become one, and what stands at the end.
use Rattle.std.proofs.Common.{◌≡◌, ◌≢◌, ◌⊎◌, inl, inr, ⊎_elim, ℕ, zero, suc, ◌+◌, ◌<◌, ◌≤◌, List, [], ◌∷◌, length, set, sym, refl, ap, ◌∙◌, subst, arith, true, false, Bool, ◌||◌, if◌then◌else◌, length-append}
use Rattle.std.specs.Prelude.{Option, Some}
use mathlib.Core.Option.{some, some-injective, some-ne-none}
use mathlib.Core.Option as maybe
use mathlib.Core.Logic.{dite}
use native.Mathlib.Decide.{ℕ_discrete, dec_le}
use lib.ListN.{get_elem?}
use Rattle.atomic_table.specs.Table.{Joins, opening, Final, Seen}
use Rattle.atomic_table.proofs.Lists.{at_set, set_else}
use Rattle.call_places.specs.declared.entries.Entry.{Entry}
use Rattle.call_places.specs.Entries.{own}
use Rattle.turn_lock.specs.declared.views.View.{View}
use Rattle.turn_lock.specs.declared.views.Part.{Part}
use Rattle.turn_lock.specs.declared.views.Phase.{Phase}
use Rattle.turn_lock.specs.declared.views.Phase.TheVariants.{Idle, Holding}
use Rattle.call_places.specs.declared.listed.Terms.{Terms}
use Rattle.turn_lock.specs.Views.{part, total, number_in, ticket_in, ticket_of, number_of, parts_of, tickets_of, tickets_in_use}
use Rattle.turn_lock.specs.Rule.{Fits, Seated, IsHome, IsOut, Kept}
use Rattle.turn_lock.specs.Steps.{first_view, joined_view, spent_view}
use Rattle.turn_lock.proofs.Totals.{total_set, total_two, is_below, number_in-append}
use Rattle.turn_lock.proofs.Steps.{at_append, each_set, idle_ne}

off : false ≡ true → ⊥
off e = cc

module _ {S : Type 0} (entries : S → List Entry) (terms : S → Terms) (passes : ℕ) (t : Terms) where
  pub begins : (x : S) → entries x ≡ [] → terms x ≡ t → 0 < passes → passes < 65536 → Kept entries terms passes t (opening (0 ∷ 0 ∷ 0 ∷ []) (Some x ∷ []) (first_view t))
  begins x none_yet terms_are some_pass room = record {
    turn = 0;
    ticket = 0;
    mark = 0;
    log = [];
    count = 1;
    makes = 0;
    words = refl;
    slot = inl record { value = x; is = refl; entries_are = none_yet; terms_are = terms_are };
    each = one;
    tickets = λ k. omega arith;
    numbers = λ k. omega arith;
    parts = refl;
    taken = refl;
    unmade = λ k out. refl;
    few = omega arith;
    room = room;
  }
    where
      first_fits : (k : ℕ) (p : Part) → get_elem? (part 0 [] ∷ []) k ≡ some p → Fits [] p
      first_fits zero p e = subst (λ (q : Part). Fits [] q) (some-injective _ _ e) record { begins = ([], refl); whole = refl }
      first_fits (suc k) p e = absurd (some-ne-none p (sym e))

      one : (j : ℕ) (v : View) → get_elem? (first_view t ∷ []) j ≡ some v → Seated t 0 1 0 (some (Some x) ∷ []) [] j v
      one zero v e = subst (λ (y : View). Seated t 0 1 0 (some (Some x) ∷ []) [] 0 y) (some-injective _ _ e) record { fits = first_fits; phase = tt; few = omega arith; maker = λ _. (refl, refl); terms = λ _. refl }
      one (suc j) v e = absurd (some-ne-none v (sym e))

  pub joins : (id : ℕ) (v : View) (other : ℕ) (w : View) → v.phase ≡ Idle → w.phase ≡ Idle → 0 < parts_of v → Joins (Kept entries terms passes t) id v other w (joined_view v w) spent_view
  joins id v other w idle idle' some_part s r at apart at' =
      let one : View = joined_view v w in
      let views : List View = set s.views id one in
      let last : List View = set views other spent_view in
      let there : get_elem? s.views other ≡ some w = ⊎_elim (λ (x : (other ≡ id) × (one ≡ w)). absurd (apart x.0)) (λ (x : (other ≢ id) × (get_elem? s.views other ≡ some w)). x.1) (at_set s.views id other one w at') in
      let old = r.each id v at in
      let old' = r.each other w there in
      let busy : tickets_of v ≡ v.turns = ap (λ (p : Phase). v.turns + tickets_in_use p) idle ∙ omega arith in
      let busy' : tickets_of w ≡ w.turns = ap (λ (p : Phase). w.turns + tickets_in_use p) idle' ∙ omega arith in
      let free : (k : ℕ) → ticket_of k v ≡ 0 = λ k. ap (ticket_in k) idle in
      let free' : (k : ℕ) → ticket_of k w ≡ 0 = λ k. ap (ticket_in k) idle' in
      let long : parts_of one ≡ parts_of w + parts_of v = length-append w.parts v.parts in
      let stays : (j : ℕ) (y : View) → get_elem? s.views j ≡ some y → j ≢ id → j ≢ other → get_elem? last j ≡ some y = λ j y e a b. set_else views other j spent_view b ∙ set_else s.views id j one a ∙ e in
      let idle_out : (j : ℕ) (y : View) (u : View) → get_elem? s.views j ≡ some y → y.phase ≡ Idle → get_elem? s.views j ≡ some u → u.phase ≡ Holding r.turn → ⊥ = λ j y u a i b h.
      idle_ne entries terms passes t r.turn (sym i ∙ ap (λ (z : View). z.phase) (some-injective _ _ (sym a ∙ b)) ∙ h) in
      let makes : ℕ = if v.makes || w.makes then id else r.makes in record {
        turn = r.turn;
        ticket = r.ticket;
        mark = r.mark;
        log = r.log;
        count = r.count;
        makes = makes;
        words = r.words;
        slot = ⊎_elim
            (λ (h : IsHome entries terms t r.turn r.log s). inl record { value = h.value; is = h.is; entries_are = h.entries_are; terms_are = h.terms_are })
            (λ (o : IsOut entries terms t r.turn r.log s). inr record {
              is = o.is;
              by = o.by;
              holder = o.holder;
              at = stays o.by o.holder o.at
                  (λ same. idle_out id v o.holder at idle (ap (get_elem? s.views) (sym same) ∙ o.at) o.holds)
                  (λ same. idle_out other w o.holder there idle' (ap (get_elem? s.views) (sym same) ∙ o.at) o.holds);
              holds = o.holds;
            })
            r.slot;
        each = each_set entries terms passes t r.turn r.count makes s.homes r.log views other spent_view
            record { fits = λ k p e. absurd (some-ne-none p (sym e)); phase = tt; few = omega arith; maker = λ yes. absurd (off yes); terms = λ some_part'. absurd (omega arith) }
            (λ j u apart' e. each_set_but s.views r.log r.turn r.count makes s.homes id other one
            record {
              fits = λ k p e'. ⊎_elim (λ (h : (i : ℕ) × (get_elem? w.parts i ≡ some p)). old'.fits h.0 p h.1) (λ (h : (i : ℕ) × (get_elem? v.parts i ≡ some p)). old.fits h.0 p h.1) (at_append w.parts v.parts k p e');
              phase = tt;
              few = (let a = old.few in let b = old'.few in omega arith);
              maker = λ yes. made v.makes w.makes id r.makes v.made w.made r.count (λ a. (old.maker a).1) (λ a. (old'.maker a).1) yes;
              terms = λ _. old.terms some_part;
            }
            (λ i y a b e'. let was = r.each i y e' in record {
              fits = was.fits;
              phase = was.phase;
              few = was.few;
              maker = λ yes. (others v.makes w.makes id r.makes i (was.maker yes).0 (λ m. a ((was.maker yes).0 ∙ sym (old.maker m).0)) (λ m. b ((was.maker yes).0 ∙ sym (old'.maker m).0)), (was.maker yes).1);
              terms = was.terms;
            })
            j u apart' e);
        tickets = λ k. let a = total_set (ticket_of k) s.views id v one at in let b = total_set (ticket_of k) views other w spent_view at' in let c = r.tickets k in let d = free k in let e = free' k in omega arith;
        numbers = λ k. let a = total_set (number_of k) s.views id v one at in let b = total_set (number_of k) views other w spent_view at' in let c = r.numbers k in let d = number_in-append k w.parts v.parts in omega arith;
        parts = let a = total_set parts_of s.views id v one at in let b = total_set parts_of views other w spent_view at' in let c = r.parts in omega arith;
        taken = let a = total_set tickets_of s.views id v one at in let b = total_set tickets_of views other w spent_view at' in let c = r.taken in omega arith;
        unmade = r.unmade;
        few = r.few;
        room = r.room;
      }
    where
      made : (a b : Bool) (id makes m n count : ℕ) → (a ≡ true → m ≡ count) → (b ≡ true → n ≡ count) → (a || b) ≡ true → (id ≡ (if a || b then id else makes)) × ((if a then m else n) ≡ count)
      made true b id makes m n count x y known = (refl, x refl)
      made false true id makes m n count x y known = (refl, y refl)
      made false false id makes m n count x y known = absurd (off known)

      others : (a b : Bool) (id makes i : ℕ) → i ≡ makes → (a ≡ true → ⊥) → (b ≡ true → ⊥) → i ≡ (if a || b then id else makes)
      others true b id makes i e x y = absurd (x refl)
      others false true id makes i e x y = absurd (y refl)
      others false false id makes i e x y = e

      each_set_but : (views : List View) (log : List Entry) (turn count makes : ℕ) (homes : List (maybe.Option (Option S))) (id other : ℕ) (y : View)
          → Seated t turn count makes homes log id y
          → ((j : ℕ) (u : View) → j ≢ id → j ≢ other → get_elem? views j ≡ some u → Seated t turn count makes homes log j u)
          → (j : ℕ) (u : View) → j ≢ other → get_elem? (set views id y) j ≡ some u → Seated t turn count makes homes log j u
      each_set_but views log turn count makes homes id other y mine rest j u apart e =
          ⊎_elim
          (λ (x : (j ≡ id) × (y ≡ u)). subst (λ (z : ℕ × View). Seated t turn count makes homes log z.0 z.1) (λ i. (sym x.0 i, x.1 i)) mine)
          (λ (x : (j ≢ id) × (get_elem? views j ≡ some u)). rest j u x.0 apart x.1)
          (at_set views id j y u e)

  -- what stands when one view has every part
  pub record Whole (v : View) (x : S) : Type 0 where
    pub terms_are : terms x ≡ t
    pub fits : (k : ℕ) (p : Part) → get_elem? v.parts k ≡ some p → Fits (entries x) p
    pub others : (k : ℕ) → number_of k v ≡ 0 → own k (entries x) ≡ []

  pub ends : (id : ℕ) (v : View) (ws : List ℕ) (xs : List (Option S)) → v.phase ≡ Idle → parts_of v ≡ passes → Final (Seen (Kept entries terms passes t) id v) ws xs
      → (x : S) × (get_elem? xs 0 ≡ some (Some x)) × Whole v x
  ends id v ws xs idle all f =
      let s = f.0 in
      let r = f.1.0 in
      let at = f.1.1 in
      let alone : (j : ℕ) (u : View) → j ≢ id → get_elem? s.views j ≡ some u → parts_of u ≡ 0 = λ j u apart e.
      let two = total_two parts_of s.views id j v u (λ q. apart (sym q)) at e in let a = r.parts in let b = r.few in omega arith in
      ⊎_elim
      (λ (h : IsHome entries terms t r.turn r.log s). (
        h.value,
        f.4 0 (Some h.value) (ap (λ (hs : List (maybe.Option (Option S))). get_elem? hs 0) h.is),
        record {
          terms_are = h.terms_are;
          fits = λ k p e. subst (λ l. Fits l p) (sym h.entries_are) ((r.each id v at).fits k p e);
          others = λ k zero_times. ap (own k) h.entries_are ∙ dite (dec_le r.count k) (λ (out : r.count ≤ k). r.unmade k out)
              (λ (inside : ¬ (r.count ≤ k)). let a = is_below k r.count (omega arith) in let b = r.numbers k in
              let c = total_alone k s.views id v at (λ j u apart e. number_none k u.parts (alone j u apart e)) in absurd (omega arith));
        },
      ))
      (λ (o : IsOut entries terms t r.turn r.log s).
      absurd (dite (ℕ_discrete o.by id)
      (λ (same : o.by ≡ id). idle_ne entries terms passes t r.turn (sym idle ∙ ap (λ (y : View). y.phase) (some-injective _ _ (sym at ∙ ap (get_elem? s.views) (sym same) ∙ o.at)) ∙ o.holds))
      (λ (apart : o.by ≢ id). let a = (r.each o.by o.holder o.at).few in let b = alone o.by o.holder apart o.at in
      let c : tickets_of o.holder ≡ o.holder.turns + 1 = ap (λ (p : Phase). o.holder.turns + tickets_in_use p) o.holds in absurd (omega arith))))
      r.slot
    where
      number_none : (k : ℕ) (ps : List Part) → length ps ≡ 0 → number_in k ps ≡ 0
      number_none k [] e = refl
      number_none k (p ∷ ps) e = absurd (omega arith)

      total_zero : (k : ℕ) (vs : List View) → ((j : ℕ) (u : View) → get_elem? vs j ≡ some u → number_of k u ≡ 0) → total (number_of k) vs ≡ 0
      total_zero k [] each = refl
      total_zero k (x ∷ vs) each = let a = each 0 x refl in let b = total_zero k vs (λ j u e. each (suc j) u e) in omega arith

      total_alone : (k : ℕ) (vs : List View) (i : ℕ) (v : View) → get_elem? vs i ≡ some v → ((j : ℕ) (u : View) → j ≢ i → get_elem? vs j ≡ some u → number_of k u ≡ 0) → total (number_of k) vs ≡ number_of k v
      total_alone k [] i v e each = absurd (some-ne-none v (sym e))
      total_alone k (x ∷ vs) zero v e each = let a : number_of k x ≡ number_of k v = ap (number_of k) (some-injective x v e) in let b = total_zero k vs (λ j u e'. each (suc j) u (λ q. omega arith) e') in omega arith
      total_alone k (x ∷ vs) (suc i) v e each = let a = each 0 x (λ q. omega arith) refl in let b = total_alone k vs i v e (λ j u apart e'. each (suc j) u (λ q. apart (omega arith)) e') in omega arith
