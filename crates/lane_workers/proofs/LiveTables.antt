-- The table of a plan is legal where each lane's notes are those that its calls make.
use Rattle.std.proofs.Common.{◌≡◌, ◌≢◌, ◌==◌, ℕ, zero, suc, ◌+◌, ◌≤◌, Bool, true, false, cond, List, [], ◌∷◌, Option, Some, None, sym, refl, ap, ◌∙◌, subst, arith, eq-eqb, inl, inr}
use Rattle.std.specs.Prelude.{slice_get, Contains}
use Rattle.std.specs.List.{All}
use Rattle.call_places.specs.declared.entries.Entry.{Entry}
use Rattle.call_places.specs.declared.entries.Place.{Place}
use Rattle.call_places.specs.declared.entries.Step.TheVariants.{Note}
use Rattle.call_places.specs.Entries.{own}
use Rattle.call_places.specs.Orders.{StampsRise}
use Rattle.call_places.specs.Notes.{AreLive}
use Rattle.hpke_context.specs.Contexts.{ContextView}
use Rattle.context_books.specs.Batches.{own_places, place}
use Rattle.context_books.specs.Histories.{entry_places}
use Rattle.context_books.proofs.Members.{In-left, In-right, In-append, contains_in, in_contains, in_map, map_in, RisesBy, rises-append, pairs_rise}
use Rattle.context_books.specs.Lists.{In}
use Rattle.context_books.proofs.Places as lane_places
use Rattle.context_books.proofs.Places.{same_place}
use Rattle.lane_workers.proofs.ShowingEntries.{in_own, own_in, own_places-entries}
use Rattle.batch_plans.specs.declared.plan.Plan.{Plan}
use Rattle.batch_plans.specs.declared.plan.CallLine.{CallLine}
use Rattle.context_books.specs.Live.{Noting, noting, noting_in, IsNoted, LegalTable}
use Rattle.context_books.specs.LaneCalls.{lane_calls}
use Rattle.lane_workers.specs.LiveServed.{note_place, noted_from, NotesItsCall}

all_of : {X : Type 0} (P : X → Type 0) (xs : List X) (x : X) → All P xs → Contains xs x → P x
all_of P xs x all has = subst P has.2 (all has.0 x has.1)

-- ---- places that differ

abbrev Apart : Place → Place → Type 0
Apart p q = p ≢ q

-- those of a list differ where those of each lane do
apart : (ps : List Place) → ((lane : ℕ) → RisesBy Apart (own_places lane ps)) → RisesBy Apart ps
apart [] each = tt
apart (p ∷ ps) each = (
  λ q has is.
      let mine : RisesBy Apart (p ∷ own_places p.lane ps) =
      subst (λ b. RisesBy Apart (cond b (p ∷ own_places p.lane ps) (own_places p.lane ps)))
      (eq-eqb p.lane p.lane refl) (each p.lane) in
      let there : In q (own_places p.lane ps) =
      subst (λ l. In q (own_places l ps)) (sym (ap (λ (r : Place). r.lane) is))
      (lane_places.in_own q ps has) in
      mine.0 q there is,
  apart ps (λ lane. rest lane (p.lane == lane) (each lane)),
)
  where
    rest : (lane : ℕ) (b : Bool)
        → RisesBy Apart (cond b (p ∷ own_places lane ps) (own_places lane ps))
        → RisesBy Apart (own_places lane ps)
    rest lane true r = r.1
    rest lane false r = r

module _ (plan : Plan) (standing : List (Option ContextView)) where
  -- ---- the places that the calls of a lane note

  first_noted : (lane number : ℕ) (o : Option Noting) (p : Place) → In p (note_place lane number o)
      → p.call ≡ number
  first_noted lane number None p has = absurd has
  first_noted lane number (Some n) p has = elim has [
    | inl is ↦ sym (ap (λ (q : Place). q.call) is)
    | inr none ↦ absurd none
  ]

  noted_later : (lane number : ℕ) (calls : List CallLine) (p : Place)
      → In p (noted_from plan standing lane number calls) → number ≤ p.call
  noted_later lane number [] p has = absurd has
  noted_later lane number (call ∷ calls) p has =
      elim (In-append p (note_place lane number (noting plan standing call))
      (noted_from plan standing lane (number + 1) calls) has) [
        | inl first ↦ (let is = first_noted lane number (noting plan standing call) p first in
            omega arith)
        | inr later ↦ (let least = noted_later lane (number + 1) calls p later in omega arith)
      ]

  noted_apart : (lane number : ℕ) (calls : List CallLine)
      → RisesBy Apart (noted_from plan standing lane number calls)
  noted_apart lane number [] = tt
  noted_apart lane number (call ∷ calls) =
      rises-append Apart (note_place lane number (noting plan standing call))
      (noted_from plan standing lane (number + 1) calls)
      (one (noting plan standing call)) (noted_apart lane (number + 1) calls)
      (λ p q i j is. let call_p = first_noted lane number (noting plan standing call) p i in
      let least = noted_later lane (number + 1) calls q j in
      let same : p.call ≡ q.call = ap (λ (r : Place). r.call) is in
      omega arith)
    where
      one : (o : Option Noting) → RisesBy Apart (note_place lane number o)
      one None = tt
      one (Some n) = (λ q has. absurd has, tt)

  noted_at : (lane number : ℕ) (calls : List CallLine) (k : ℕ) (call : CallLine) (n : Noting)
      → slice_get calls k ≡ Some call → noting plan standing call ≡ Some n
      → In (place lane (number + k) 0) (noted_from plan standing lane number calls)
  noted_at lane number [] k call n at is = absurd (let f : None ≡ Some call = at in cc)
  noted_at lane number (c ∷ calls) zero call n at is =
      let f : Some c ≡ Some call = at in
      let same : c ≡ call = cc in
      let here : In (place lane (number + 0) 0) (note_place lane number (Some n)) =
      inl (ap (λ i. place lane i 0) (let e : number ≡ number + 0 = omega arith in e)) in
      In-left (place lane (number + 0) 0) (note_place lane number (noting plan standing c))
      (noted_from plan standing lane (number + 1) calls)
      (subst (λ o. In (place lane (number + 0) 0) (note_place lane number o))
      (sym (ap (noting plan standing) same ∙ is)) here)
  noted_at lane number (c ∷ calls) (suc k) call n at is =
      In-right (place lane (number + suc k) 0)
      (note_place lane number (noting plan standing c))
      (noted_from plan standing lane (number + 1) calls)
      (subst (λ i. In (place lane i 0) (noted_from plan standing lane (number + 1) calls))
      (let e : number + 1 + k ≡ number + suc k = omega arith in e)
      (noted_at lane (number + 1) calls k call n at is))

  call_there : (o : Option CallLine) (n : Noting) → noting_in plan standing o ≡ Some n
      → (call : CallLine) × (o ≡ Some call) × (noting plan standing call ≡ Some n)
  call_there None n is = absurd (let f : None ≡ Some n = is in cc)
  call_there (Some call) n is = (call, refl, is)

  -- ---- the table

  module _ (notes : List Entry)
      (places : (lane : ℕ) → entry_places (own lane notes)
      ≡ noted_from plan standing lane 0 (lane_calls plan lane))
      (acts : (lane : ℕ) → All (NotesItsCall plan standing) (own lane notes)) where
    note_says : (e : Entry) → Contains notes e → NotesItsCall plan standing e
    note_says e has =
        let lane = e.place.lane in
        all_of (NotesItsCall plan standing) (own lane notes) e (acts lane)
        (contains_in (own lane notes) e (in_own lane e notes (in_contains notes e has) refl))

    -- the place of a call that is noted has a note
    has_note : (p : Place) (n : Noting) → IsNoted plan standing p n
        → Contains (entry_places notes) p
    has_note p n noted =
        let call = call_there (slice_get (lane_calls plan p.lane) p.call) n noted.noting_is in
        let there = noted_at p.lane 0 (lane_calls plan p.lane) p.call call.0 n call.1 call.2 in
        let is : place p.lane (0 + p.call) 0 ≡ p = same_place (place p.lane (0 + p.call) 0) p refl
        (let e : 0 + p.call ≡ p.call = omega arith in e) (sym noted.first) in
        let mine : In p (entry_places (own p.lane notes)) =
        subst (In p) (sym (places p.lane))
        (subst (λ q. In q (noted_from plan standing p.lane 0 (lane_calls plan p.lane))) is there) in
        let e = map_in (λ (x : Entry). x.place) p (own p.lane notes) mine in
        contains_in (entry_places notes) p
        (subst (λ q. In q (entry_places notes)) e.2
        (in_map (λ (x : Entry). x.place) e.0 notes (own_in p.lane e.0 notes e.1)))

    pub legal_table : AreLive notes → StampsRise notes → LegalTable plan standing notes
    legal_table live rise = record {
      noted = λ p. (
        λ has.
            let e = map_in (λ (x : Entry). x.place) p notes
            (in_contains (entry_places notes) p has) in
            let s = note_says e.0 (contains_in notes e.0 e.1) in
            (s.noting, subst (λ q. IsNoted plan standing q s.noting) e.2 s.noted),
        λ t. has_note p t.0 t.1,
      );
      once = pairs_rise Apart (entry_places notes) (apart (entry_places notes) (λ lane.
          subst (RisesBy Apart) (sym (own_places-entries lane notes ∙ places lane))
          (noted_apart lane 0 (lane_calls plan lane))));
      acts = λ e n has noted.
          let s = note_says e has in
          let same : Some s.noting ≡ Some n = sym s.noted.noting_is ∙ noted.noting_is in
          let is : s.noting ≡ n = cc in
          (s.live, s.step ∙ ap (λ (m : Noting). Note m.name m.act s.live) is);
      live = live;
      rise = rise;
    }
