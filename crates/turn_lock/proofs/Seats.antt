-- From what a pass keeps to what the rule's steps ask.
use Rattle.std.proofs.Common.{◌≡◌, ℕ, ◌+◌, ◌^◌, ◌<◌, List, [], ◌∷◌, ◌++◌, sym, ap, ◌∙◌, subst, refl, arith, length-append, length}
use mathlib.Core.List.{IsPrefix}
use Rattle.call_places.specs.declared.entries.Entry.{Entry}
use Rattle.call_places.specs.Entries.{own, CallsWithin}
use Rattle.turn_lock.specs.declared.views.View.{View}
use Rattle.turn_lock.specs.declared.views.Phase.TheVariants.{Idle, Waiting, Holding}
use Rattle.call_places.specs.declared.listed.Terms.{Terms}
use Rattle.turn_lock.specs.Views.{part}
use Rattle.turn_lock.specs.Steps.{TookTicket, Looked, GaveValue}
use Rattle.atomic_table.specs.Table.{Me, rest}
use Rattle.std.specs.Prelude.{Option, Some, None}
use Rattle.turn_lock.specs.Passes.{AddedByOthers}
use Rattle.turn_lock.specs.Seats.{IsIdle, IsHolding, seen_of, seen_in, terms_of}
use Rattle.turn_lock.proofs.Prefixes.{own-append}

-- the view of a pass's badge
pub record Idles (v : View) (views : List View) (number turns : ℕ) : Type 0 where
  pub idle : v.phase ≡ Idle
  pub parts : v.parts ≡ part number (seen_of views) ∷ []
  pub turns_are : v.turns ≡ turns
  pub terms : v.terms ≡ terms_of views

one_view : (a b : View) → a ∷ [] ≡ b ∷ [] → a ≡ b
one_view a b e = cc

pub idles : (v : View) (views : List View) (number turns next_call : ℕ) → views ≡ v ∷ [] → IsIdle views number turns next_call → Idles v views number turns
idles v views number turns next_call is i =
    let same : i.view ≡ v = one_view i.view v (sym i.is ∙ is) in
    record {
      idle = sym (ap (λ (y : View). y.phase) same) ∙ i.idle;
      parts = sym (ap (λ (y : View). y.parts) same) ∙ i.parts;
      turns_are = sym (ap (λ (y : View). y.turns) same) ∙ i.turns_are;
      terms = sym (ap terms_of is);
    }

-- what follows a beginning that has all of a lane's entries has none of them
pub others_added : (number : ℕ) (seen after : List Entry) → IsPrefix seen after → own number seen ≡ own number after → AddedByOthers number seen after
others_added number seen after begins whole = (begins.0, sym begins.1, none_left (own number seen) (own number begins.0) (whole ∙ ap (own number) (sym begins.1) ∙ own-append number seen begins.0))
  where
    none_left : (xs ys : List Entry) → xs ≡ xs ++ ys → ys ≡ []
    none_left xs [] e = refl
    none_left xs (y ∷ ys) e = absurd (let a = ap length e in let b = length-append xs (y ∷ ys) in omega arith)

abbrev head_number : List Rattle.turn_lock.specs.declared.views.Part.Part → ℕ
head_number [] = 0
head_number (p ∷ ps) = p.number

module _ {S : Type 0} where
  -- a seat that waits
  pub record Waits (m : Me (Option S) View) (ticket number turns : ℕ) (seen : List Entry) (terms : Terms) : Type 0 where
    pub waits : m.0.phase ≡ Waiting ticket
    pub parts : m.0.parts ≡ part number seen ∷ []
    pub slots : m.1 ≡ []
    pub turns_are : m.0.turns ≡ turns
    pub terms_are : m.0.terms ≡ terms
    pub room : ticket + 1 < 2 ^ 64

  pub waits_now : (m m' : Me (Option S) View) (views : List View) (number turns found : ℕ) → Idles m.0 views number turns → m.1 ≡ [] → TookTicket m found m' → Waits m' found number turns (seen_of views) (terms_of views)
  waits_now m m' views number turns found i none_held q = record {
    waits = ap (λ (v : View). v.phase) q.1;
    parts = ap (λ (v : View). v.parts) q.1 ∙ i.parts;
    slots = q.2 ∙ none_held;
    turns_are = ap (λ (v : View). v.turns) q.1 ∙ i.turns_are;
    terms_are = ap (λ (v : View). v.terms) q.1 ∙ i.terms;
    room = q.0;
  }

  -- the value was taken
  pub record Taken (entries : S → List Entry) (terms_of_value : S → Terms) (m : Me (Option S) View) (ticket number turns : ℕ) (seen : List Entry) (terms : Terms) : Type 0 where
    pub value : S
    pub holds : m.0.phase ≡ Holding ticket
    pub parts : m.0.parts ≡ part number (entries value) ∷ []
    pub slots : m.1 ≡ (0, Some value) ∷ []
    pub turns_are : m.0.turns ≡ turns
    pub view_terms : m.0.terms ≡ terms
    pub terms_are : terms_of_value value ≡ terms
    pub begins : IsPrefix seen (entries value)
    pub whole : own number seen ≡ own number (entries value)

  pub taken : (entries : S → List Entry) (terms_of_value : S → Terms) (m m' : Me (Option S) View) (ticket number turns found : ℕ) (seen : List Entry) (terms : Terms)
      → Waits m ticket number turns seen terms → found ≡ ticket → Looked entries terms_of_value m found m' → Taken entries terms_of_value m' ticket number turns seen terms
  taken entries terms_of_value m m' ticket number turns found seen terms w is told =
      let t = told.0 (w.waits ∙ ap Waiting (sym is)) in
      let same = sym t.was ∙ w.parts in
      let n : t.number ≡ number = ap head_number same in
      let s : t.seen ≡ seen = ap seen_in same in record {
        value = t.value;
        holds = ap (λ (v : View). v.phase) t.view ∙ ap Holding is;
        parts = ap (λ (v : View). v.parts) t.view ∙ ap (λ k. part k (entries t.value) ∷ []) n;
        slots = t.slots ∙ ap (λ (c : List (ℕ × Option S)). (0, Some t.value) ∷ c) w.slots;
        turns_are = ap (λ (v : View). v.turns) t.view ∙ w.turns_are;
        view_terms = ap (λ (v : View). v.terms) t.view ∙ w.terms_are;
        terms_are = t.terms_are ∙ w.terms_are;
        begins = subst (λ l. IsPrefix l (entries t.value)) s t.begins;
        whole = subst (λ (x : ℕ × List Entry). own x.0 x.1 ≡ own x.0 (entries t.value)) (λ i. (n i, s i)) t.whole;
      }

  -- from a pass's seat to the value: the ticket, looks that found nothing, and the look that found it
  pub takes : (entries : S → List Entry) (terms_of_value : S → Terms) (idle waiting looking found_it : Me (Option S) View) (views : List View) (number turns next_call ticket found : ℕ)
      → views ≡ idle.0 ∷ [] → IsIdle views number turns next_call → idle.1 ≡ [] → TookTicket idle ticket waiting → looking ≡ waiting → found ≡ ticket → Looked entries terms_of_value looking found found_it
      → Taken entries terms_of_value found_it ticket number turns (seen_of views) (terms_of views)
  takes entries terms_of_value idle waiting looking found_it views number turns next_call ticket found is i none_held took same hit told =
      let w = waits_now idle waiting views number turns ticket (idles idle.0 views number turns next_call is i) none_held took in
      taken entries terms_of_value looking found_it ticket number turns found (seen_of views) (terms_of views)
      (subst (λ m. Waits m ticket number turns (seen_of views) (terms_of views)) (sym same) w) hit told

  pub holds_now : (entries : S → List Entry) (terms_of_value : S → Terms) (m m' : Me (Option S) View) (ticket number turns next_call : ℕ) (seen : List Entry) (terms : Terms)
      → Taken entries terms_of_value m ticket number turns seen terms → m' ≡ (m.0, (0, None) ∷ rest m.1) → turns < 4294967295 → ticket + 1 < 2 ^ 64 → CallsWithin 0 next_call (own number seen) → IsHolding m' ticket number turns next_call
  holds_now entries terms_of_value m m' ticket number turns next_call seen terms t is few room calls =
      let parts : m'.0.parts ≡ part number (entries t.value) ∷ [] = ap (λ (x : Me (Option S) View). x.0.parts) is ∙ t.parts in record {
        holds = ap (λ (x : Me (Option S) View). x.0.phase) is ∙ t.holds;
        parts = parts ∙ ap (λ l. part number l ∷ []) (sym (ap seen_in parts));
        slots = ap (λ (x : Me (Option S) View). x.1) is ∙ ap (λ (c : List (ℕ × Option S)). (0, None) ∷ rest c) t.slots;
        turns_are = ap (λ (x : Me (Option S) View). x.0.turns) is ∙ t.turns_are;
        more_turns = few;
        more_tickets = room;
        calls = subst (λ l. CallsWithin 0 next_call l) (t.whole ∙ ap (own number) (sym (ap seen_in parts))) calls;
      }

  abbrev first_slot : List (ℕ × Option S) → Option S
  first_slot [] = None
  first_slot (x ∷ xs) = x.1

  some_value : (x y : S) → Some x ≡ Some y → x ≡ y
  some_value x y e = cc

  -- the value that the exchange gave
  pub value_is : (m : Me (Option S) View) (x y : S) → m.1 ≡ (0, Some x) ∷ [] → m.1 ≡ (0, Some y) ∷ rest m.1 → x ≡ y
  value_is m x y a b = some_value x y (ap first_slot (sym a ∙ b))

  pub not_empty : (m : Me (Option S) View) (x : S) → m.1 ≡ (0, Some x) ∷ [] → m.1 ≡ (0, None) ∷ rest m.1 → ⊥
  not_empty m x a b = apart x (ap first_slot (sym a ∙ b))
    where
      apart : (x : S) → Some x ≡ None → ⊥
      apart x e = cc

  pub slot_is : (m : Me (Option S) View) (x : S) → m.1 ≡ (0, Some x) ∷ [] → m.1 ≡ (0, Some x) ∷ rest m.1
  slot_is m x e = e ∙ ap (λ (c : List (ℕ × Option S)). (0, Some x) ∷ c) (sym (ap rest e))

  -- the seat once the value was put back into the slot
  pub record Filled (m : Me (Option S) View) (value : S) (ticket number turns : ℕ) (seen : List Entry) (terms : Terms) : Type 0 where
    pub holds : m.0.phase ≡ Holding ticket
    pub parts : m.0.parts ≡ part number seen ∷ []
    pub slots : m.1 ≡ (0, Some value) ∷ []
    pub turns_are : m.0.turns ≡ turns
    pub terms_are : m.0.terms ≡ terms

  pub filled : (m m' : Me (Option S) View) (value : S) (ticket number turns next_call : ℕ) → IsHolding m ticket number turns next_call → m' ≡ (m.0, (0, Some value) ∷ rest m.1) → Filled m' value ticket number turns (seen_in m.0.parts) m.0.terms
  filled m m' value ticket number turns next_call h is = record {
    holds = ap (λ (x : Me (Option S) View). x.0.phase) is ∙ h.holds;
    parts = ap (λ (x : Me (Option S) View). x.0.parts) is ∙ h.parts;
    slots = ap (λ (x : Me (Option S) View). x.1) is ∙ ap (λ (c : List (ℕ × Option S)). (0, Some value) ∷ rest c) h.slots;
    turns_are = ap (λ (x : Me (Option S) View). x.0.turns) is ∙ h.turns_are;
    terms_are = ap (λ (x : Me (Option S) View). x.0.terms) is;
  }

  -- the seat once the turn was passed on
  pub record Left (entries : S → List Entry) (m : Me (Option S) View) (value : S) (number turns : ℕ) (terms : Terms) : Type 0 where
    pub idle : m.0.phase ≡ Idle
    pub parts : m.0.parts ≡ part number (entries value) ∷ []
    pub slots : m.1 ≡ []
    pub turns_are : m.0.turns ≡ turns + 1
    pub terms_are : m.0.terms ≡ terms

  abbrev tail_slots : List (ℕ × Option S) → List (ℕ × Option S)
  tail_slots [] = []
  tail_slots (x ∷ xs) = xs

  pub left : (entries : S → List Entry) (m m' : Me (Option S) View) (value : S) (ticket number turns : ℕ) (seen : List Entry) (terms : Terms) → Filled m value ticket number turns seen terms → GaveValue entries m m' → Left entries m' value number turns terms
  left entries m m' value ticket number turns seen terms f g =
      let same = sym g.was ∙ f.parts in
      let n : g.number ≡ number = ap head_number same in
      let x : g.value ≡ value = some_value g.value value (ap first_slot (sym g.slots ∙ f.slots)) in record {
        idle = ap (λ (v : View). v.phase) g.view;
        parts = ap (λ (v : View). v.parts) g.view ∙ (λ i. part (n i) (entries (x i)) ∷ []);
        slots = ap tail_slots (sym g.slots ∙ f.slots);
        turns_are = ap (λ (v : View). v.turns) g.view ∙ ap (λ k. k + 1) f.turns_are;
        terms_are = ap (λ (v : View). v.terms) g.view ∙ f.terms_are;
      }

  -- its badge
  pub rests : (entries : S → List Entry) (m : Me (Option S) View) (views : List View) (value : S) (number turns next_call : ℕ) (terms : Terms) → Left entries m value number turns terms → views ≡ m.0 ∷ [] → CallsWithin 0 next_call (own number (entries value))
      → IsIdle views number (turns + 1) next_call × (seen_of views ≡ entries value) × (terms_of views ≡ terms)
  rests entries m views value number turns next_call terms l is calls =
      let seen : seen_of views ≡ entries value = ap seen_of is ∙ ap seen_in l.parts in (
        record {
          view = m.0;
          is = is;
          idle = l.idle;
          parts = l.parts ∙ ap (λ (s : List Entry). part number s ∷ []) (sym seen);
          turns_are = l.turns_are;
          calls = subst (λ (s : List Entry). CallsWithin 0 next_call (own number s)) (sym seen) calls;
        },
        seen,
        ap terms_of is ∙ l.terms_are,
      )
