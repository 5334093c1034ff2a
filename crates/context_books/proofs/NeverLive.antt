-- A name whose context isn't set up is never live.
use Rattle.std.proofs.Common.{◌≡◌, ◌==◌, ℕ, ◌+◌, Bool, true, false, List, [], take, Option, Some, None, sym, refl, ap, ◌∙◌, subst, eqb-true, if◌then◌else◌}
use Rattle.std.specs.Prelude.{slice_get, slice_index_or, Contains}
use Rattle.std.specs.List.{All}
use Rattle.std.proofs.lemmas.List.Elements.{All-take}
use Rattle.call_places.specs.declared.entries.Act.{Act}
use Rattle.call_places.specs.declared.entries.Act.TheVariants.{Add, Retire, Look}
use Rattle.call_places.specs.declared.entries.Entry.{Entry}
use Rattle.call_places.specs.declared.entries.Step.TheVariants.{Note}
use Rattle.call_places.specs.Notes.{adds, live_at, TellsLive}
use Rattle.call_places.proofs.Live.{never_added}
use Rattle.hpke_context.specs.Contexts.{ContextView}
use Rattle.context_books.specs.Histories.{entry_places}
use Rattle.context_books.proofs.Members.{got, value_at, contains_at, at_contained, contains_in, in_contains, in_map}
use Rattle.batch_plans.specs.declared.plan.Plan.{Plan}
use Rattle.batch_plans.specs.declared.plan.CallLine.{CallLine}
use Rattle.batch_plans.specs.declared.plan.CallLine.TheVariants as calls
use Rattle.batch_plans.specs.Names.{line_count}
use Rattle.context_books.specs.Live.{Noting, adding, noting, noting_in, LegalTable}
use Rattle.context_books.specs.Standing.{standing_at}

abbrev act_or : Act → Option Noting → Act
act_or act None = act
act_or act (Some n) = n.act

abbrev name_or : ℕ → Option Noting → ℕ
name_or name None = name
name_or name (Some n) = n.name

no_noting : {X : Type 0} (n : Noting) → None ≡ Some n → X
no_noting n is = cc

module _ (plan : Plan) (standing : List (Option ContextView)) (name : ℕ)
    (refused : standing_at standing (line_count plan + name) ≡ None) where
  -- a call that does this, and doesn't add
  other : (n : Noting) (act : Act) (live : Bool)
      → adds name (Note n.name act live) ≡ false → n.act ≡ act
      → adds name (Note n.name n.act live) ≡ false
  other n act live none is = ap (λ a. adds name (Note n.name a live)) is ∙ none

  chosen : (b : Bool) (act : Act) (of : ℕ) (n : Noting)
      → (if b then Some (record { act = act; name = of }) else None) ≡ Some n → n.act ≡ act
  chosen true act of n is = sym (ap (act_or act) is)
  chosen false act of n is = no_noting n is

  looks : (b c : Bool) (of : ℕ) (n : Noting) (live : Bool)
      → (if b then None else if c then Some (record { act = Look; name = of }) else None) ≡ Some n
      → adds name (Note n.name n.act live) ≡ false
  looks true c of n live is = no_noting n is
  looks false c of n live is = other n Look live refl (chosen c Look of n is)

  added : (o : Option ContextView) (of : ℕ) (n : Noting) (live : Bool)
      → standing_at standing (line_count plan + of) ≡ o → adding o of ≡ Some n
      → adds name (Note n.name n.act live) ≡ false
  added None of n live at is = no_noting n is
  added (Some context) of n live at is = step (of == name) refl
    where
      step : (b : Bool) → (of == name) ≡ b → adds name (Note n.name n.act live) ≡ false
      step false apart =
          (λ i. adds name (Note (name_or 0 (sym is i)) (act_or Add (sym is i)) live)) ∙ apart
      step true same = absurd (
          let e : of ≡ name = eqb-true of name same in
          let f : None ≡ Some context = sym refused
          ∙ ap (λ k. standing_at standing (line_count plan + k)) (sym e) ∙ at in
          cc)

  -- no note adds the name
  adds_not : (call : CallLine) (n : Noting) (live : Bool) → noting plan standing call ≡ Some n
      → adds name (Note n.name n.act live) ≡ false
  adds_not (calls.Add of) n live is =
      added (standing_at standing (line_count plan + of)) of n live refl is
  adds_not (calls.Retire of) n live is = other n Retire live refl (chosen _ Retire of n is)
  adds_not call n live is = looks _ _ _ n live is

  adds_not_in : (o : Option CallLine) (n : Noting) (live : Bool)
      → noting_in plan standing o ≡ Some n → adds name (Note n.name n.act live) ≡ false
  adds_not_in None n live is = no_noting n is
  adds_not_in (Some call) n live is = adds_not call n live is

  module _ (notes : List Entry) (table : LegalTable plan standing notes) where
    none_adds : All (λ e. adds name e.step ≡ false) notes
    none_adds k d within =
        let at = got notes k within in
        let e = at.0 in
        let has : Contains notes e = contains_at notes k e at.1 in
        let there = contains_in (entry_places notes) e.place
        (in_map (λ (x : Entry). x.place) e notes (in_contains notes e has)) in
        let n = (table.noted e.place).0 there in
        let act = table.acts e n.0 has n.1 in
        subst (λ x. adds name x.step ≡ false) (sym (value_at notes k e d at.1))
        (ap (adds name) act.1
        ∙ adds_not_in (slice_get (slice_index_or plan.lanes e.place.lane []) e.place.call) n.0 act.0
        n.1.noting_is)

    pub never_live : (e : Entry) (act : Act) (live : Bool) → Contains notes e
        → e.step ≡ Note name act live → live ≡ false
    never_live e act live has is =
        let at = at_contained notes e has in
        let told : live ≡ live_at (take at.0 notes) name =
        subst (TellsLive (take at.0 notes)) is (table.live at.0 e at.1) in
        told ∙ never_added (take at.0 notes) name
        (All-take (λ e. adds name e.step ≡ false) at.0 notes none_adds)

pub refused_never_live : (plan : Plan) (standing : List (Option ContextView)) (notes : List Entry)
    (name : ℕ) (e : Entry) (act : Act) (live : Bool) → LegalTable plan standing notes
    → standing_at standing (line_count plan + name) ≡ None
    → Contains notes e → e.step ≡ Note name act live → live ≡ false
refused_never_live plan standing notes name e act live table refused =
    never_live plan standing name refused notes table e act live
