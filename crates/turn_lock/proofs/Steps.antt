-- Each step keeps the rule of the lock.
use Rattle.std.proofs.Common.{◌≡◌, ◌≢◌, ◌⊎◌, inl, inr, ⊎_elim, ℕ, zero, suc, ◌+◌, ◌*◌, ◌^◌, ◌%◌, ◌==◌, eq-eqb, ne_eqb, ◌<◌, ◌≤◌, List, [], ◌∷◌, ◌++◌, length, set, sym, refl, ap, ◌∙◌, subst, arith, true, false}
use Rattle.std.specs.Prelude.{Option, Some, slice_index}
use mathlib.Core.Option.{some, none, some-injective, some-ne-none}
use mathlib.Core.Option as maybe
use mathlib.Core.Logic.{dite}
use mathlib.Core.List.{IsPrefix}
use native.Mathlib.Decide.{ℕ_discrete}
use native.Mathlib.Nat.{mod-eq_of_lt}
use lib.ListN.{get_elem?}
use prog.Atomic.{either}
use Rattle.atomic_table.specs.Table.{State, Me, keeps, takes, gives, Allows, Splits}
use Rattle.atomic_table.proofs.Lists.{at_set, at_snoc, set_here, set_else, set_again, at_longer}
use Rattle.call_places.specs.declared.entries.Entry.{Entry}
use Rattle.call_places.specs.Entries.{own, IsOwn}
use Rattle.turn_lock.specs.declared.views.View.{View}
use Rattle.turn_lock.specs.declared.views.Part.{Part}
use Rattle.turn_lock.specs.declared.views.Phase.{Phase}
use Rattle.turn_lock.specs.declared.views.Phase.TheVariants.{Idle, Waiting, Holding}
use Rattle.call_places.specs.declared.listed.Terms.{Terms}
use Rattle.turn_lock.specs.Views.{part, most_turns, once, once_below, ticket_in, tickets_in_use, number_in, ticket_of, number_of, parts_of, tickets_of}
use Rattle.turn_lock.specs.Rule.{Fits, InPhase, Holds, Seated, IsHome, IsOut, Kept}
use Rattle.turn_lock.specs.Steps.{TriedTicket, Unchanged, Looked, GaveValue, staying_view, new_view}
use Rattle.turn_lock.proofs.Totals.{total_set, total_snoc, total_one, total_two, total_most, once_same, below_next, not_below, below_most, number_at}
use Rattle.turn_lock.proofs.Prefixes.{fits_added, fits_whole, own-append, own-other}

index_of : (l : List View) (i : ℕ) (a : View) → get_elem? l i ≡ some a → i < length l
index_of [] i a e = absurd (some-ne-none a (sym e))
index_of (x ∷ xs) zero a e = omega arith
index_of (x ∷ xs) (suc i) a e = let h = index_of xs i a e in omega arith

same_ticket : (a b : ℕ) → Waiting a ≡ Waiting b → a ≡ b
same_ticket a b e = cc

fits_one : (log : List Entry) (n : ℕ) (es : List Entry) → es ≡ log → (j : ℕ) (p : Part) → get_elem? (part n es ∷ []) j ≡ some p → Fits log p
fits_one log n es is zero p e = subst (λ (q : Part). Fits log q) (some-injective _ _ e) (subst (λ l. Fits log (part n l)) (sym is) (fits_whole log n))
fits_one log n es is (suc j) p e = absurd (some-ne-none p (sym e))

abbrev head_seen : List Part → List Entry
head_seen [] = []
head_seen (p ∷ ps) = p.seen

pub at_append : (xs ys : List Part) (k : ℕ) (p : Part) → get_elem? (xs ++ ys) k ≡ some p → ((j : ℕ) × (get_elem? xs j ≡ some p)) ⊎ ((j : ℕ) × (get_elem? ys j ≡ some p))
at_append [] ys k p e = inr (k, e)
at_append (x ∷ xs) ys zero p e = inl (0, e)
at_append (x ∷ xs) ys (suc k) p e = ⊎_elim (λ (h : (j : ℕ) × (get_elem? xs j ≡ some p)). inl (suc h.0, h.1)) (λ h. inr h) (at_append xs ys k p e)

module _ {S : Type 0} (entries : S → List Entry) (terms : S → Terms) (passes : ℕ) (t : Terms) where
  abbrev St : Type 0
  St = State (Option S) View

  abbrev Holding_rule : St → Type 0
  Holding_rule = Kept entries terms passes t

  -- who is idle holds nothing
  pub idle_ne : (k : ℕ) → Idle ≢ Holding k
  idle_ne k e = cc

  -- the tickets never run out
  ticket_most : (s : St) (r : Holding_rule s) → r.ticket ≤ most_turns * 65535
  ticket_most s r =
      let a = total_most tickets_of parts_of s.views (λ j v e. (r.each j v e).few) in
      let b = r.taken in let c = r.parts in let d = r.few in let e = r.room in omega arith

  -- a seat changes its view, and the others keep theirs
  pub each_set : (turn count makes : ℕ) (homes : List (maybe.Option (Option S))) (log : List Entry) (views : List View) (id : ℕ) (w : View)
      → Seated t turn count makes homes log id w
      → ((j : ℕ) (u : View) → j ≢ id → get_elem? views j ≡ some u → Seated t turn count makes homes log j u)
      → (j : ℕ) (u : View) → get_elem? (set views id w) j ≡ some u → Seated t turn count makes homes log j u
  each_set turn count makes homes log views id w mine others j u e =
      ⊎_elim
      (λ (x : (j ≡ id) × (w ≡ u)). subst (λ (y : ℕ × View). Seated t turn count makes homes log y.0 y.1) (λ i. (sym x.0 i, x.1 i)) mine)
      (λ (x : (j ≢ id) × (get_elem? views j ≡ some u)). others j u x.0 x.1)
      (at_set views id j w u e)

  pub queues : (slots id : ℕ) (me : Me (Option S) View) (n old : ℕ) (seen : List Entry) → me.0.phase ≡ Idle → me.0.parts ≡ part n seen ∷ [] → me.0.turns < most_turns
      → Allows Holding_rule slots id me 1 (λ found. either (found == old) ((old + 1) % 2 ^ 64) found) (TriedTicket old me)
  queues slots id me n old seen idle parts few s r wide at bound =
      let found : ℕ = slice_index s.words 1 in
      let is : found ≡ r.ticket = ap (λ ws. slice_index ws 1) r.words in
      let new : ℕ = either (found == old) ((old + 1) % 2 ^ 64) found in
      let v = me.0 in
      let words : set s.words 1 new ≡ r.turn ∷ new ∷ r.mark ∷ [] = ap (λ ws. set ws 1 new) r.words in
      dite (ℕ_discrete found old)
      (λ (hit : found ≡ old).
      let was : old ≡ r.ticket = sym hit ∙ is in
      let most = ticket_most s r in
      let room : old + 1 < 2 ^ 64 = omega arith in
      let next : new ≡ old + 1 = ap (λ b. either b ((old + 1) % 2 ^ 64) found) (eq-eqb found old hit) ∙ mod-eq_of_lt room in
      let w : View = record v { phase = Waiting old } in
      let before = r.each id v at in
      let free : (k : ℕ) → ticket_of k v ≡ 0 = λ k. ap (ticket_in k) idle in
      let one : parts_of v ≡ 1 = ap length parts in
      let unbusy : tickets_of v ≡ v.turns = ap (λ (p : Phase). v.turns + tickets_in_use p) idle ∙ omega arith in (
        w,
        keeps,
        tt,
        record {
          turn = r.turn;
          ticket = old + 1;
          mark = r.mark;
          log = r.log;
          count = r.count;
          makes = r.makes;
          words = words ∙ ap (λ m. r.turn ∷ m ∷ r.mark ∷ []) next;
          slot = ⊎_elim
              (λ (h : IsHome entries terms t r.turn r.log s). inl record { value = h.value; is = h.is; entries_are = h.entries_are; terms_are = h.terms_are })
              (λ (o : IsOut entries terms t r.turn r.log s). inr record {
                is = o.is;
                by = o.by;
                holder = o.holder;
                at = set_else s.views id o.by w (λ same. let it : o.holder ≡ v = some-injective _ _ (sym o.at ∙ ap (get_elem? s.views) same ∙ at) in idle_ne r.turn (sym idle ∙ ap (λ (y : View). y.phase) (sym it) ∙ o.holds)) ∙ o.at;
                holds = o.holds;
              })
              r.slot;
          each = each_set r.turn r.count r.makes s.homes r.log s.views id w
              record { fits = before.fits; phase = tt; few = omega arith; maker = before.maker; terms = before.terms }
              (λ j u _ e. r.each j u e);
          tickets = λ k. let a = total_set (ticket_of k) s.views id v w at in let b = free k in let c = r.tickets k in let d = below_next k old in let e : once_below k old ≡ once_below k r.ticket = ap (once_below k) was in omega arith;
          numbers = λ k. let a = total_set (number_of k) s.views id v w at in let c = r.numbers k in omega arith;
          parts = let a = total_set parts_of s.views id v w at in let c = r.parts in omega arith;
          taken = let a = total_set tickets_of s.views id v w at in let c = r.taken in omega arith;
          unmade = r.unmade;
          few = r.few;
          room = r.room;
        },
        ((λ _. (room, refl, refl)), (λ no. absurd (no hit))),
      ))
      (λ (miss : found ≢ old).
      let same : new ≡ r.ticket = ap (λ b. either b ((old + 1) % 2 ^ 64) found) (ne_eqb found old miss) ∙ is in (
        v,
        keeps,
        tt,
        subst (λ (x : List ℕ × List View). Holding_rule record { words = x.0; homes = s.homes; views = x.1 }) (λ i. ((r.words ∙ ap (λ m. r.turn ∷ m ∷ r.mark ∷ []) (sym same) ∙ sym words) i, sym (set_again s.views id v at) i)) r,
        ((λ yes. absurd (miss yes)), (λ _. refl)),
      ))

  -- word 2 may be anything
  pub marks : (slots id : ℕ) (me : Me (Option S) View) (new : ℕ) → Allows Holding_rule slots id me 2 (λ _. new) (λ _. Unchanged me)
  marks slots id me new s r wide at bound = (
    me.0,
    keeps,
    tt,
    subst (λ (vs : List View). Holding_rule record { words = set s.words 2 new; homes = s.homes; views = vs }) (sym (set_again s.views id me.0 at))
        record {
          turn = r.turn;
          ticket = r.ticket;
          mark = new;
          log = r.log;
          count = r.count;
          makes = r.makes;
          words = ap (λ ws. set ws 2 new) r.words;
          slot = ⊎_elim
              (λ (h : IsHome entries terms t r.turn r.log s). inl record { value = h.value; is = h.is; entries_are = h.entries_are; terms_are = h.terms_are })
              (λ (o : IsOut entries terms t r.turn r.log s). inr record { is = o.is; by = o.by; holder = o.holder; at = o.at; holds = o.holds })
              r.slot;
          each = r.each;
          tickets = r.tickets;
          numbers = r.numbers;
          parts = r.parts;
          taken = r.taken;
          unmade = r.unmade;
          few = r.few;
          room = r.room;
        },
    refl,
  )

  -- the slot goes out, and whoever holds it knows the log
  phase_out : (turn : ℕ) (homes : List (maybe.Option (Option S))) (log : List Entry) (parts : List Part) (ph : Phase) → InPhase turn homes log parts ph → InPhase {S = S} turn (none ∷ []) log parts ph
  phase_out turn homes log parts Idle h = tt
  phase_out turn homes log parts (Waiting k) h = tt
  phase_out turn homes log parts (Holding k) h = (h.0, refl, h.2)

  -- no two views have one ticket
  pub one_ticket : (s : St) (r : Holding_rule s) (k i j : ℕ) (u v : View) → i ≢ j → get_elem? s.views i ≡ some u → get_elem? s.views j ≡ some v → ticket_of k u ≡ 1 → ticket_of k v ≡ 1 → ⊥
  one_ticket s r k i j u v apart a b x y =
      let two = total_two (ticket_of k) s.views i j u v apart a b in
      let is = r.tickets k in let most = below_most k r.ticket in absurd (omega arith)

  -- no two views have one number
  pub one_number : (s : St) (r : Holding_rule s) (k i j : ℕ) (u v : View) → i ≢ j → get_elem? s.views i ≡ some u → get_elem? s.views j ≡ some v → 1 ≤ number_of k u → 1 ≤ number_of k v → ⊥
  one_number s r k i j u v apart a b x y =
      let two = total_two (number_of k) s.views i j u v apart a b in
      let is = r.numbers k in let most = below_most k r.count in absurd (omega arith)

  -- a number that a view has was made
  was_made : (s : St) (r : Holding_rule s) (k j : ℕ) (v : View) → get_elem? s.views j ≡ some v → 1 ≤ number_of k v → k < r.count
  was_made s r k j v at has =
      dite (native.Mathlib.Decide.dec_le r.count k)
      (λ (h : r.count ≤ k). let a = not_below k r.count h in let b = r.numbers k in let c = total_one (number_of k) s.views j v at in absurd (omega arith))
      (λ (h : ¬ (r.count ≤ k)). omega arith)

  waiting_apart : (k j : ℕ) → Waiting k ≢ Holding j
  waiting_apart k j e = cc

  pub looks : (slots id : ℕ) (me : Me (Option S) View) (k n : ℕ) (seen : List Entry) → me.0.phase ≡ Waiting k → me.0.parts ≡ part n seen ∷ []
      → Allows Holding_rule slots id me 0 (λ found. found) (Looked entries terms me)
  looks slots id me k n seen waits parts s r wide at bound =
      let found : ℕ = slice_index s.words 0 in
      let is : found ≡ r.turn = ap (λ ws. slice_index ws 0) r.words in
      let v = me.0 in
      let old = r.each id v at in
      let words : set s.words 0 found ≡ r.turn ∷ r.ticket ∷ r.mark ∷ [] = ap (λ ws. set ws 0 found) r.words ∙ ap (λ m. m ∷ r.ticket ∷ r.mark ∷ []) is in
      dite (ℕ_discrete k found)
      (λ (hit : k ≡ found).
      let mine : (j : ℕ) → ticket_of j v ≡ once j found = λ j. ap (ticket_in j) waits ∙ ap (once j) hit in
      ⊎_elim
      (λ (h : IsHome entries terms t r.turn r.log s).
      let w : View = record v { phase = Holding found; parts = part n (entries h.value) ∷ [] } in
      let fit : Fits r.log (part n seen) = old.fits 0 (part n seen) (ap (λ ps. get_elem? ps 0) parts) in
      let one : parts_of v ≡ 1 = ap length parts in
      let busy : tickets_of v ≡ v.turns + 1 = ap (λ (p : Phase). v.turns + tickets_in_use p) waits in
      let same_numbers : (j : ℕ) → number_of j v ≡ once j n + 0 = λ j. ap (number_in j) parts in
      let homes : set s.homes 0 none ≡ none ∷ [] = ap (λ (hs : List (maybe.Option (Option S))). set hs 0 none) h.is in (
        w,
        takes 0 (Some h.value),
        ap (λ (hs : List (maybe.Option (Option S))). get_elem? hs 0) h.is,
        record {
          turn = r.turn;
          ticket = r.ticket;
          mark = r.mark;
          log = r.log;
          count = r.count;
          makes = r.makes;
          words = words;
          slot = inr record {
            is = homes;
            by = id;
            holder = w;
            at = set_here s.views id w (index_of s.views id v at);
            holds = ap Holding is;
          };
          each = subst (λ (hs : List (maybe.Option (Option S))). (j : ℕ) (u : View) → get_elem? (set s.views id w) j ≡ some u → Seated t r.turn r.count r.makes hs r.log j u) (sym homes)
              (each_set r.turn r.count r.makes (none ∷ []) r.log s.views id w
              record {
                fits = fits_one r.log n (entries h.value) h.entries_are;
                phase = (is, refl, (n, ap (λ l. part n l ∷ []) h.entries_are));
                few = omega arith;
                maker = old.maker;
                terms = λ _. old.terms (omega arith);
              }
              (λ j u _ e. let was = r.each j u e in record {
                fits = was.fits;
                phase = phase_out r.turn s.homes r.log u.parts u.phase was.phase;
                few = was.few;
                maker = was.maker;
                terms = was.terms;
              }));
          tickets = λ j. let a = total_set (ticket_of j) s.views id v w at in let b = mine j in let c = r.tickets j in omega arith;
          numbers = λ j. let a = total_set (number_of j) s.views id v w at in let b = same_numbers j in let c = r.numbers j in omega arith;
          parts = let a = total_set parts_of s.views id v w at in let c = r.parts in omega arith;
          taken = let a = total_set tickets_of s.views id v w at in let c = r.taken in omega arith;
          unmade = r.unmade;
          few = r.few;
          room = r.room;
        },
        (
          λ _. record {
            value = h.value;
            number = n;
            seen = seen;
            was = parts;
            view = refl;
            slots = refl;
            begins = subst (λ l. IsPrefix seen l) (sym h.entries_are) fit.begins;
            whole = fit.whole ∙ ap (own n) (sym h.entries_are);
            terms_are = h.terms_are ∙ sym (old.terms (omega arith));
          },
          λ no. absurd (no (waits ∙ ap Waiting hit)),
        ),
      ))
      (λ (o : IsOut entries terms t r.turn r.log s).
      absurd (one_ticket s r found id o.by v o.holder
      (λ same. let it : o.holder ≡ v = some-injective _ _ (sym o.at ∙ ap (get_elem? s.views) (sym same) ∙ at) in waiting_apart k r.turn (sym waits ∙ ap (λ (y : View). y.phase) (sym it) ∙ o.holds))
      at o.at (mine found ∙ once_same found) (ap (ticket_in found) o.holds ∙ ap (λ m. once m r.turn) is ∙ once_same r.turn)))
      r.slot)
      (λ (miss : k ≢ found). (
        v,
        keeps,
        tt,
        subst (λ (x : List ℕ × List View). Holding_rule record { words = x.0; homes = s.homes; views = x.1 }) (λ i. ((r.words ∙ sym words) i, sym (set_again s.views id v at) i)) r,
        ((λ yes. absurd (miss (same_ticket k found (sym waits ∙ yes)))), (λ _. refl)),
      ))

  -- a view that does not have the turn keeps its phase
  phase_free : (turn turn' : ℕ) (homes homes' : List (maybe.Option (Option S))) (log log' : List Entry) (parts : List Part) (ph : Phase) → ticket_in turn ph ≢ 1 → InPhase turn homes log parts ph → InPhase turn' homes' log' parts ph
  phase_free turn turn' homes homes' log log' parts Idle ne h = tt
  phase_free turn turn' homes homes' log log' parts (Waiting k) ne h = tt
  phase_free turn turn' homes homes' log log' parts (Holding k) ne h = absurd (ne (ap (once turn) h.0 ∙ once_same turn))

  pub passes_on : (slots id : ℕ) (me : Me (Option S) View) (k n new : ℕ) (seen added : List Entry) (x : S) → me.0.phase ≡ Holding k → me.0.parts ≡ part n seen ∷ [] → me.1 ≡ (0, Some x) ∷ []
      → terms x ≡ me.0.terms → new ≡ k + 1 → entries x ≡ seen ++ added → IsOwn n added
      → Allows Holding_rule slots id me 0 (λ _. new) (λ _. GaveValue entries me)
  passes_on slots id me k n new seen added x holds parts carried terms_are next adds mine s r wide at bound =
      let v = me.0 in
      let old = r.each id v at in
      let hold : Holds r.turn s.homes r.log v.parts k = subst (λ (p : Phase). InPhase r.turn s.homes r.log v.parts p) holds old.phase in
      let known : seen ≡ r.log = ap head_seen (sym parts ∙ hold.2.1) in
      let log : List Entry = r.log ++ added in
      let grown : entries x ≡ log = adds ∙ ap (λ l. l ++ added) known in
      let w : View = record v { phase = Idle; parts = part n (entries x) ∷ []; turns = v.turns + 1 } in
      let one : parts_of v ≡ 1 = ap length parts in
      let busy : tickets_of v ≡ v.turns + 1 = ap (λ (p : Phase). v.turns + tickets_in_use p) holds in
      let ticket : (j : ℕ) → ticket_of j v ≡ once j r.turn = λ j. ap (ticket_in j) holds ∙ ap (once j) hold.0 in
      let numbered : (j : ℕ) → number_of j v ≡ once j n + 0 = λ j. ap (number_in j) parts in
      let has : 1 ≤ number_of n v = let a = numbered n in let b = once_same n in omega arith in
      let made = was_made s r n id v at has in
      let homes : List (maybe.Option (Option S)) = Rattle.atomic_table.specs.Table.put_back s.homes me.1 in
      let home : homes ≡ some (Some x) ∷ [] = ap (Rattle.atomic_table.specs.Table.put_back s.homes) carried ∙ ap (λ (hs : List (maybe.Option (Option S))). set hs 0 (some (Some x))) hold.1 in (
        w,
        gives,
        tt,
        record {
          turn = r.turn + 1;
          ticket = r.ticket;
          mark = r.mark;
          log = log;
          count = r.count;
          makes = r.makes;
          words = ap (λ ws. set ws 0 new) r.words ∙ ap (λ m. m ∷ r.ticket ∷ r.mark ∷ []) (next ∙ ap (λ m. m + 1) hold.0);
          slot = inl record { value = x; is = home; entries_are = grown; terms_are = terms_are ∙ old.terms (omega arith) };
          each = each_set (r.turn + 1) r.count r.makes homes log s.views id w
              record { fits = fits_one log n (entries x) grown; phase = tt; few = (let a = old.few in omega arith); maker = old.maker; terms = λ _. old.terms (omega arith) }
              (λ j u apart e. let was = r.each j u e in record {
                fits = λ i p here. fits_added r.log added p n mine
                    (λ same. one_number s r n id j v u (λ q. apart (sym q)) at e has (subst (λ m. 1 ≤ number_of m u) same (number_at u.parts i p here)))
                    (was.fits i p here);
                phase = phase_free r.turn (r.turn + 1) s.homes homes r.log log u.parts u.phase
                    (λ has_it. one_ticket s r r.turn id j v u (λ q. apart (sym q)) at e (ticket r.turn ∙ once_same r.turn) has_it)
                    was.phase;
                few = was.few;
                maker = was.maker;
                terms = was.terms;
              });
          tickets = λ j. let a = total_set (ticket_of j) s.views id v w at in let b = ticket j in let c = r.tickets j in let d = below_next j r.turn in omega arith;
          numbers = λ j. let a = total_set (number_of j) s.views id v w at in let b = numbered j in let c = r.numbers j in omega arith;
          parts = let a = total_set parts_of s.views id v w at in let c = r.parts in omega arith;
          taken = let a = total_set tickets_of s.views id v w at in let c = r.taken in omega arith;
          unmade = λ j out. own-append j r.log added ∙ ap (λ l. l ++ own j added) (r.unmade j out) ∙ own-other n j added mine (λ same. omega arith);
          few = r.few;
          room = r.room;
        },
        record { value = x; number = n; seen = seen; was = parts; slots = carried ∙ ap (λ (c : List (ℕ × Option S)). (0, Some x) ∷ c) (sym (ap Rattle.atomic_table.specs.Table.rest carried)); view = refl },
      )

  pub forks : (id : ℕ) (v : View) → v.phase ≡ Idle → v.makes ≡ true → v.made < passes → 0 < parts_of v → Splits Holding_rule id v (staying_view v) (new_view v)
  forks id v idle makes room some_part s r at =
      let old = r.each id v at in
      let mine = old.maker makes in
      let left : View = staying_view v in
      let right : View = new_view v in
      let views : List View = set s.views id left in record {
        turn = r.turn;
        ticket = r.ticket;
        mark = r.mark;
        log = r.log;
        count = r.count + 1;
        makes = r.makes;
        words = r.words;
        slot = ⊎_elim
            (λ (h : IsHome entries terms t r.turn r.log s). inl record { value = h.value; is = h.is; entries_are = h.entries_are; terms_are = h.terms_are })
            (λ (o : IsOut entries terms t r.turn r.log s). inr record {
              is = o.is;
              by = o.by;
              holder = o.holder;
              at = at_longer views (right ∷ []) o.by o.holder (set_else s.views id o.by left (λ same. let it : o.holder ≡ v = some-injective _ _ (sym o.at ∙ ap (get_elem? s.views) same ∙ at) in idle_ne r.turn (sym idle ∙ ap (λ (y : View). y.phase) (sym it) ∙ o.holds)) ∙ o.at);
              holds = o.holds;
            })
            r.slot;
        each = λ j u e. ⊎_elim
            (λ (here : get_elem? views j ≡ some u). each_set r.turn (r.count + 1) r.makes s.homes r.log s.views id left
            record { fits = old.fits; phase = old.phase; few = old.few; maker = λ yes. (mine.0, ap (λ m. m + 1) mine.1); terms = old.terms }
            (λ i y apart here'. let was = r.each i y here' in record { fits = was.fits; phase = was.phase; few = was.few; maker = λ yes. absurd (apart ((was.maker yes).0 ∙ sym mine.0)); terms = was.terms })
            j u here)
            (λ (same : right ≡ u). subst (λ (y : View). Seated t r.turn (r.count + 1) r.makes s.homes r.log j y) same
            record { fits = fits_new r.log v.made (r.unmade v.made (omega arith)); phase = tt; few = omega arith; maker = λ yes. absurd (true_false yes); terms = λ _. old.terms some_part })
            (at_snoc views right u j e);
        tickets = λ k. let a = total_set (ticket_of k) s.views id v left at in let b = total_snoc (ticket_of k) views right in let c = r.tickets k in omega arith;
        numbers = λ k. let a = total_set (number_of k) s.views id v left at in let b = total_snoc (number_of k) views right in let c = r.numbers k in let d = below_next k r.count in let e : once k v.made ≡ once k r.count = ap (once k) mine.1 in omega arith;
        parts = let a = total_set parts_of s.views id v left at in let b = total_snoc parts_of views right in let c = r.parts in omega arith;
        taken = let a = total_set tickets_of s.views id v left at in let b = total_snoc tickets_of views right in let c = r.taken in omega arith;
        unmade = λ k out. r.unmade k (omega arith);
        few = let e = mine.1 in omega arith;
        room = r.room;
      }
    where
      true_false : false ≡ true → ⊥
      true_false e = cc

      fits_new : (log : List Entry) (n : ℕ) → own n log ≡ [] → (j : ℕ) (p : Part) → get_elem? (part n [] ∷ []) j ≡ some p → Fits log p
      fits_new log n none_yet zero p e = subst (λ (q : Part). Fits log q) (some-injective _ _ e) record { begins = (log, refl); whole = sym none_yet }
      fits_new log n none_yet (suc j) p e = absurd (some-ne-none p (sym e))
