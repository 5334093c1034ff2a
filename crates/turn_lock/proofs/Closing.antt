-- From one view that has every part to what `close` promises.
use Rattle.std.proofs.Common.{◌≡◌, ◌≢◌, ℕ, suc, List, [], ◌∷◌, ◌++◌, length, All, sym, refl, ap, ◌∙◌, subst, arith, Some, None}
use Rattle.std.proofs.lemmas.List.Elements.{All-nil, All-cons, All-head, All-tail}
use Rattle.std.specs.Prelude.{Option}
use mathlib.Core.Option.{some, some-injective}
use lib.ListN.{get_elem?}
use Rattle.atomic_table.specs.Table.{Final, Seen}
use Rattle.call_places.specs.declared.entries.Entry.{Entry}
use Rattle.call_places.specs.declared.listed.Terms.{Terms}
use Rattle.turn_lock.specs.declared.views.View.{View}
use Rattle.turn_lock.specs.declared.views.Part.{Part}
use Rattle.turn_lock.specs.declared.views.Phase.TheVariants.{Idle}
use Rattle.turn_lock.specs.Views.{part, number_in}
use Rattle.turn_lock.specs.Rule.{Fits, Kept}
use Rattle.turn_lock.specs.Passes.{LockId, PassView, AllOf, IsShown, NoneHas, NoOthers}
use Rattle.turn_lock.specs.Seats.{parts_from}
use Rattle.turn_lock.proofs.Totals.{once_other}
use Rattle.turn_lock.proofs.Ends.{ends}

pub AllOf-split : (lock : LockId) (xs : List PassView) (p : PassView) (ys : List PassView) → AllOf lock (xs ++ p ∷ ys) → p.lock ≡ lock
AllOf-split lock [] p ys all = All-head (λ (q : PassView). q.lock ≡ lock) p ys all
AllOf-split lock (x ∷ xs) p ys all = AllOf-split lock xs p ys (All-tail (λ (q : PassView). q.lock ≡ lock) x (xs ++ p ∷ ys) all)

-- every pass whose part fits is shown
all_shown : (entries : List Entry) (passes : List PassView) → ((k : ℕ) (p : Part) → get_elem? (parts_from passes) k ≡ some p → Fits entries p) → All (IsShown entries) passes
all_shown entries [] each = All-nil (IsShown entries)
all_shown entries (p ∷ passes) each =
    let f = each 0 (part p.number p.seen) refl in
    All-cons (IsShown entries) p passes record { begins = f.begins; whole = f.whole } (all_shown entries passes (λ k q e. each (suc k) q e))

none_in : (number : ℕ) (passes : List PassView) → NoneHas number passes → number_in number (parts_from passes) ≡ 0
none_in number [] none_has = refl
none_in number (p ∷ passes) none_has =
    let a = once_other number p.number (All-head (λ (q : PassView). q.number ≢ number) p passes none_has) in
    let b = none_in number passes (All-tail (λ (q : PassView). q.number ≢ number) p passes none_has) in
    omega arith

length-parts_from : (passes : List PassView) → length (parts_from passes) ≡ length passes
length-parts_from [] = refl
length-parts_from (p ∷ passes) = ap suc (length-parts_from passes)

module _ {S : Type 0} (entries : S → List Entry) (terms_of : S → Terms) where
  -- what `close` says of the value
  pub record Closes (lock : LockId) (passes : List PassView) (value : S) : Type 0 where
    pub terms_are : terms_of value ≡ lock.terms
    pub shown : All (IsShown (entries value)) passes
    pub others : NoOthers (entries value) passes

  -- the slot has a value, of which it holds
  pub closes : (lock : LockId) (count id : ℕ) (terms : Terms) (v : View) (ws : List ℕ) (xs : List (Option S)) (passes : List PassView) (taken : Option S)
      → terms ≡ lock.terms → v.phase ≡ Idle → v.parts ≡ parts_from passes → length passes ≡ count
      → Final (Seen (Kept entries terms_of count terms) id v) ws xs → get_elem? xs 0 ≡ some taken
      → (value : S) × (taken ≡ Some value) × Closes lock passes value
  closes lock count id terms v ws xs passes taken lock_is idle parts all f took =
      let e = ends entries terms_of count terms id v ws xs idle (ap length parts ∙ length-parts_from passes ∙ all) f in
      let w = e.2 in (
        e.0,
        some-injective _ _ (sym took ∙ e.1),
        record {
          terms_are = w.terms_are ∙ lock_is;
          shown = all_shown (entries e.0) passes (λ k p here. w.fits k p (ap (λ ps. get_elem? ps k) parts ∙ here));
          others = λ number none_has. w.others number (ap (number_in number) parts ∙ none_in number passes none_has);
        },
      )

  -- the same of the value that the slot was found to have
  pub closes_with : (lock : LockId) (passes : List PassView) (taken : Option S) (value : S) → ((x : S) × (taken ≡ Some x) × Closes lock passes x) → taken ≡ Some value → Closes lock passes value
  closes_with lock passes taken value found is = subst (Closes lock passes) (one found.0 value (sym found.1 ∙ is)) found.2
    where
      one : (x y : S) → Some x ≡ Some y → x ≡ y
      one x y e = cc

  pub not_none : (lock : LockId) (passes : List PassView) (taken : Option S) → ((x : S) × (taken ≡ Some x) × Closes lock passes x) → taken ≡ None → ⊥
  not_none lock passes taken found is = apart found.0 (sym found.1 ∙ is)
    where
      apart : (x : S) → Some x ≡ None → ⊥
      apart x e = cc
