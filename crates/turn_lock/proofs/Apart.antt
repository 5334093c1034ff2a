-- Seats that the rule tells apart.
use Rattle.std.proofs.Common.{◌≡◌, ◌≢◌, ℕ, ◌≤◌, List, ap, ◌∙◌, subst, arith}
use Rattle.std.specs.Prelude.{Option}
use mathlib.Core.Option.{some}
use mathlib.Core.Logic.{dite}
use native.Mathlib.Decide.{ℕ_discrete, dec_le}
use lib.ListN.{get_elem?}
use Rattle.atomic_table.specs.Table.{State}
use Rattle.call_places.specs.declared.entries.Entry.{Entry}
use Rattle.call_places.specs.declared.listed.Terms.{Terms}
use Rattle.turn_lock.specs.declared.views.View.{View}
use Rattle.turn_lock.specs.declared.views.Phase.{Phase}
use Rattle.turn_lock.specs.Views.{ticket_in, once}
use Rattle.turn_lock.specs.Rule.{InPhase, Kept}
use Rattle.turn_lock.specs.Laws.{TurnIsGivenOut, OneHolds, OneWaits, OneHasNumber}
use Rattle.turn_lock.proofs.Totals.{once_same, not_below, is_below}
use Rattle.turn_lock.proofs.Steps.{one_ticket, one_number}

module _ {S : Type 0} (entries : S → List Entry) (terms_of : S → Terms) (passes : ℕ) (terms : Terms) where
  pub turn_is_given_out : TurnIsGivenOut entries terms_of passes terms
  turn_is_given_out s r = dite (dec_le r.turn r.ticket)
      (λ (h : r.turn ≤ r.ticket). h)
      (λ (h : ¬ (r.turn ≤ r.ticket)). let a = is_below r.ticket r.turn (omega arith) in let b = not_below r.ticket r.ticket (omega arith) in let c = r.tickets r.ticket in absurd (omega arith))

  -- seats with one ticket are one
  same_seat : (s : State (Option S) View) (i j k : ℕ) (u v : View) → Kept entries terms_of passes terms s
      → get_elem? s.views i ≡ some u → get_elem? s.views j ≡ some v → ticket_in k u.phase ≡ 1 → ticket_in k v.phase ≡ 1 → i ≡ j
  same_seat s i j k u v r a b x y = dite (ℕ_discrete i j) (λ (e : i ≡ j). e) (λ (ne : i ≢ j). absurd (one_ticket entries terms_of passes terms s r k i j u v ne a b x y))

  pub one_holds : OneHolds entries terms_of passes terms
  one_holds s i j k l u v r a b holds holds' =
      let p : k ≡ r.turn = (subst (λ (q : Phase). InPhase r.turn s.homes r.log u.parts q) holds (r.each i u a).phase).0 in
      let q : l ≡ r.turn = (subst (λ (q : Phase). InPhase r.turn s.homes r.log v.parts q) holds' (r.each j v b).phase).0 in
      same_seat s i j r.turn u v r a b
      (ap (ticket_in r.turn) holds ∙ ap (once r.turn) p ∙ once_same r.turn)
      (ap (ticket_in r.turn) holds' ∙ ap (once r.turn) q ∙ once_same r.turn)

  pub one_waits : OneWaits entries terms_of passes terms
  one_waits s i j k u v r a b waits waits' = same_seat s i j k u v r a b (ap (ticket_in k) waits ∙ once_same k) (ap (ticket_in k) waits' ∙ once_same k)

  pub one_has_number : OneHasNumber entries terms_of passes terms
  one_has_number s i j n u v r a b has has' = dite (ℕ_discrete i j) (λ (e : i ≡ j). e) (λ (ne : i ≢ j). absurd (one_number entries terms_of passes terms s r n i j u v ne a b has has'))
