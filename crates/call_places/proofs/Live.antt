-- Which names are live, entry by entry.
use Rattle.std.proofs.Common.{◌≡◌, ◌≢◌, ℕ, zero, suc, ◌||◌, Bool, true, false, cond, List, [], ◌∷◌, ◌++◌, All, filter, take, sym, refl, ap, ◌∙◌, subst, eq-eqb, ne_eqb, Option, Some, None}
use Rattle.std.specs.Prelude.{slice_get}
use Rattle.std.proofs.lemmas.List.Elements.{All-head, All-tail}
use Rattle.call_places.specs.declared.entries.Place.{Place}
use Rattle.call_places.specs.declared.entries.Act.{Act}
use Rattle.call_places.specs.declared.entries.Act.TheVariants.{Add, Retire, Look}
use Rattle.call_places.specs.declared.entries.Step.{Step}
use Rattle.call_places.specs.declared.entries.Entry.{Entry}
use Rattle.call_places.specs.Orders.{last_of}
use Rattle.call_places.specs.Notes.{note_entry, adds, retires, is_added, live_at, TellsLive, AreLive}

-- whether the name is live after a step, where it was before or not
abbrev pub live_after : ℕ → Bool → Step → Bool
live_after k live step = cond (adds k step) true (cond (retires k step) false live)

-- and after these entries
abbrev live_from : ℕ → Bool → List Entry → Bool
live_from k live [] = live
live_from k live (e ∷ entries) = live_from k (live_after k live e.step) entries

-- what the last change tells, and else this
abbrev told_or : ℕ → Bool → Option Entry → Bool
told_or k live None = live
told_or k live (Some e) = adds k e.step

last_tells : (k : ℕ) (live : Bool) (e : Entry) (entries : List Entry)
    → told_or k live (last_of (e ∷ entries)) ≡ told_or k (adds k e.step) (last_of entries)
last_tells k live e [] = refl
last_tells k live e (f ∷ entries) = last_tells k live f entries ∙ sym (last_tells k (adds k e.step) f entries)

-- the entries that add or retire the name
abbrev changes : ℕ → List Entry → List Entry
changes k entries = filter (λ e. adds k e.step || retires k e.step) entries

told_from : (k : ℕ) (live : Bool) (entries : List Entry) → told_or k live (last_of (changes k entries)) ≡ live_from k live entries
told_from k live [] = refl
told_from k live (e ∷ entries) = one (adds k e.step) (retires k e.step) refl (λ b. told_from k b entries)
  where
    one : (a r : Bool) → adds k e.step ≡ a → ((b : Bool) → told_or k b (last_of (changes k entries)) ≡ live_from k b entries)
        → told_or k live (last_of (cond (a || r) (e ∷ changes k entries) (changes k entries))) ≡ live_from k (cond a true (cond r false live)) entries
    one true r is rest = last_tells k live e (changes k entries) ∙ ap (λ b. told_or k b (last_of (changes k entries))) is ∙ rest true
    one false true is rest = last_tells k live e (changes k entries) ∙ ap (λ b. told_or k b (last_of (changes k entries))) is ∙ rest false
    one false false is rest = rest live

is_told : (k : ℕ) (o : Option Entry) → is_added k o ≡ told_or k false o
is_told k None = refl
is_told k (Some e) = refl

live_is : (entries : List Entry) (k : ℕ) → live_at entries k ≡ live_from k false entries
live_is entries k = is_told k (last_of (changes k entries)) ∙ told_from k false entries

live_from-append : (k : ℕ) (live : Bool) (xs ys : List Entry) → live_from k live (xs ++ ys) ≡ live_from k (live_from k live xs) ys
live_from-append k live [] ys = refl
live_from-append k live (x ∷ xs) ys = live_from-append k (live_after k live x.step) xs ys

pub live_at-append : (xs ys : List Entry) (k : ℕ) → live_at (xs ++ ys) k ≡ live_from k (live_at xs k) ys
live_at-append xs ys k = live_is (xs ++ ys) k ∙ live_from-append k false xs ys ∙ ap (λ b. live_from k b ys) (sym (live_is xs k))

pub live_at-push : (entries : List Entry) (e : Entry) (k : ℕ) → live_at (entries ++ e ∷ []) k ≡ live_after k (live_at entries k) e.step
live_at-push entries e k = live_at-append entries (e ∷ []) k

-- ---- a note of the name, and of another

pub added_one : (entries : List Entry) (p : Place) (stamp name : ℕ) (live : Bool) → live_at (entries ++ note_entry p stamp name Add live ∷ []) name ≡ true
added_one entries p stamp name live =
    live_at-push entries (note_entry p stamp name Add live) name ∙ ap (λ b. cond b true (live_at entries name)) (eq-eqb name name refl)

pub retired_one : (entries : List Entry) (p : Place) (stamp name : ℕ) (live : Bool) → live_at (entries ++ note_entry p stamp name Retire live ∷ []) name ≡ false
retired_one entries p stamp name live =
    live_at-push entries (note_entry p stamp name Retire live) name ∙ ap (λ b. cond b false (live_at entries name)) (eq-eqb name name refl)

pub looked_up : (entries : List Entry) (p : Place) (stamp name k : ℕ) (live : Bool) → live_at (entries ++ note_entry p stamp name Look live ∷ []) k ≡ live_at entries k
looked_up entries p stamp name k live = live_at-push entries (note_entry p stamp name Look live) k

pub another : (entries : List Entry) (p : Place) (stamp name other : ℕ) (act : Act) (live : Bool) → name ≢ other
    → live_at (entries ++ note_entry p stamp name act live ∷ []) other ≡ live_at entries other
another entries p stamp name other Add live apart =
    live_at-push entries (note_entry p stamp name Add live) other ∙ ap (λ b. cond b true (live_at entries other)) (ne_eqb name other apart)
another entries p stamp name other Retire live apart =
    live_at-push entries (note_entry p stamp name Retire live) other ∙ ap (λ b. cond b false (live_at entries other)) (ne_eqb name other apart)
another entries p stamp name other Look live apart = looked_up entries p stamp name other live

-- ---- from an Add to the next Retire

stays_live : (k : ℕ) (entries : List Entry) → All (λ e. retires k e.step ≡ false) entries → live_from k true entries ≡ true
stays_live k [] none = refl
stays_live k (e ∷ entries) none =
    let here = All-head (λ x. retires k x.step ≡ false) e entries none in
    ap (λ b. live_from k b entries) (one (adds k e.step) (retires k e.step) here) ∙ stays_live k entries (All-tail (λ x. retires k x.step ≡ false) e entries none)
  where
    one : (a r : Bool) → r ≡ false → cond a true (cond r false true) ≡ true
    one true r is = refl
    one false r is = ap (λ b. cond b false true) is

stays_away : (k : ℕ) (entries : List Entry) → All (λ e. adds k e.step ≡ false) entries → live_from k false entries ≡ false
stays_away k [] none = refl
stays_away k (e ∷ entries) none =
    let here = All-head (λ x. adds k x.step ≡ false) e entries none in
    ap (λ b. live_from k b entries) (one (adds k e.step) (retires k e.step) here) ∙ stays_away k entries (All-tail (λ x. adds k x.step ≡ false) e entries none)
  where
    one : (a r : Bool) → a ≡ false → cond a true (cond r false false) ≡ false
    one a true is = ap (λ b. cond b true false) is
    one a false is = ap (λ b. cond b true false) is

pub never_added : (entries : List Entry) (k : ℕ) → All (λ e. adds k e.step ≡ false) entries → live_at entries k ≡ false
never_added entries k none = live_is entries k ∙ stays_away k entries none

pub since_added : (before after : List Entry) (p : Place) (stamp name : ℕ) (live : Bool) → All (λ e. retires name e.step ≡ false) after
    → live_at (before ++ note_entry p stamp name Add live ∷ after) name ≡ true
since_added before after p stamp name live none =
    live_at-append before (note_entry p stamp name Add live ∷ after) name
    ∙ ap (λ b. live_from name (cond b true (live_at before name)) after) (eq-eqb name name refl) ∙ stays_live name after none

pub since_retired : (before after : List Entry) (p : Place) (stamp name : ℕ) (live : Bool) → All (λ e. adds name e.step ≡ false) after
    → live_at (before ++ note_entry p stamp name Retire live ∷ after) name ≡ false
since_retired before after p stamp name live none =
    live_at-append before (note_entry p stamp name Retire live ∷ after) name
    ∙ ap (λ b. live_from name (cond b false (live_at before name)) after) (eq-eqb name name refl) ∙ stays_away name after none

-- ---- one note more

-- what holds of each entry and of those before it
each_push : (P : List Entry → Entry → Type 0) (entries : List Entry) (e : Entry)
    → ((i : ℕ) (f : Entry) → slice_get entries i ≡ Some f → P (take i entries) f) → P entries e
    → (i : ℕ) (f : Entry) → slice_get (entries ++ e ∷ []) i ≡ Some f → P (take i (entries ++ e ∷ [])) f
each_push P [] e all here zero f at = subst (P []) (let is : e ≡ f = cc in is) here
each_push P [] e all here (suc i) f at = absurd (cc)
each_push P (x ∷ entries) e all here zero f at = all zero f at
each_push P (x ∷ entries) e all here (suc i) f at = each_push (λ l g. P (x ∷ l) g) entries e (λ j g is. all (suc j) g is) here i f at

pub AreLive-push : (entries : List Entry) (e : Entry) → AreLive entries → TellsLive entries e.step → AreLive (entries ++ e ∷ [])
AreLive-push entries e all tells = each_push (λ before f. TellsLive before f.step) entries e all tells
