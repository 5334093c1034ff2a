-- What stands when one seat has all that was drawn and all that is left.
use Rattle.std.proofs.Common.{◌≡◌, ℕ, ◌+◌, List, length, sym, ap, ◌∙◌, arith}
use Rattle.std.specs.Prelude.{IsPermutation}
use Rattle.std.specs.List.{range_with_len}
use mathlib.Core.Option.{some, some-injective}
use lib.ListN.{get_elem?}
use Rattle.atomic_table.specs.Table.{Final, Seen}
use Rattle.stamp_counter.specs.declared.views.View.{View}
use Rattle.stamp_counter.specs.Views.{times, times_of, drawn_of, left_of}
use Rattle.stamp_counter.specs.Rule.{Kept}
use Rattle.stamp_counter.proofs.Totals.{total_one, total_alone}
use Rattle.stamp_counter.proofs.Drawn.{times_most, are_first}

pub ends : {S : Type 0} (all id : ℕ) (v : View) (ws : List ℕ) (xs : List S) (word : ℕ) → length v.drawn + v.left ≡ all → Final (Seen (Kept {S = S} all) id v) ws xs → get_elem? ws 0 ≡ some word → (word ≡ length v.drawn) × IsPermutation v.drawn (range_with_len 0 word)
ends all id v ws xs word whole f found =
    let s = f.0 in
    let r = f.1.0 in
    let at = f.1.1 in
    let is : r.word ≡ word = some-injective _ _ (ap (λ (l : List ℕ). get_elem? l 0) (sym r.words ∙ f.2) ∙ found) in
    let a = total_one drawn_of s.views id v at in
    let b = total_one left_of s.views id v at in
    let c = r.counts in
    let d = r.left in (
      omega arith,
      are_first word v.drawn (λ k. sym (total_alone (times_of k) drawn_of s.views id v at (λ u. times_most k u.drawn) (omega arith)) ∙ r.drawn k ∙ ap (λ n. times k (range_with_len 0 n)) is),
    )
