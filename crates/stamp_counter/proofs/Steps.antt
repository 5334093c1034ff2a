-- Each step keeps the rule of the counter.
use Rattle.std.proofs.Common.{◌≡◌, ◌≢◌, ⊎_elim, ℕ, zero, suc, ◌+◌, ◌^◌, ◌%◌, ◌<◌, ◌≤◌, List, [], ◌∷◌, ◌++◌, length, set, sum, max, sym, refl, ap, ◌∙◌, subst, arith, length-append, All}
use Rattle.std.specs.Prelude.{slice_index}
use Rattle.std.specs.List.{range_with_len}
use Rattle.std.proofs.lemmas.List.Sums.{sum_by-cons}
use Rattle.std.proofs.lemmas.List.Elements.{All-nil, All-append, All-weaker}
use Rattle.std.proofs.lemmas.List.FromFn.{length-range_with_len}
use mathlib.Core.Option.{some, some-injective, some-ne-none}
use native.Mathlib.Nat.{mod-eq_of_lt}
use lib.ListN.{get_elem?}
use Rattle.atomic_table.specs.Table.{Me, keeps, Allows, Splits, Joins, opening}
use Rattle.atomic_table.proofs.Lists.{at_set, at_snoc}
use Rattle.stamp_counter.specs.declared.views.View.{View}
use Rattle.stamp_counter.specs.Views.{times, times_of, drawn_of, left_of}
use Rattle.stamp_counter.specs.Rule.{Seated, Kept}
use Rattle.stamp_counter.specs.Steps.{dealing_view, first_share, other_shares, giving_view, given_view, noted_view, joined_view, spent_view, drawn_view, Drew}
use Rattle.stamp_counter.proofs.Totals.{total_set, total_snoc, total_one}
use Rattle.stamp_counter.proofs.Drawn.{times-append, below_more, All-range}

pub sum-shares : (xs : List ℕ) → first_share xs + sum (other_shares xs) ≡ sum xs
sum-shares [] = refl
sum-shares (x ∷ xs) = sym (sum_by-cons (λ (n : ℕ). n) x xs)

below_weaker : (n m : ℕ) (xs : List ℕ) → n ≤ m → All (λ k. k < n) xs → All (λ k. k < m) xs
below_weaker n m xs le all = All-weaker (λ k. k < n) (λ k. k < m) (λ k h. omega arith) xs all

-- one view is changed
each_set : (word word' : ℕ) (views : List View) (id : ℕ) (w : View) → word ≤ word' → Seated word' w
    → ((j : ℕ) (v : View) → get_elem? views j ≡ some v → Seated word v)
    → (j : ℕ) (v : View) → get_elem? (set views id w) j ≡ some v → Seated word' v
each_set word word' views id w le mine each j v e =
    ⊎_elim
    (λ (h : (j ≡ id) × (w ≡ v)). subst (λ (u : View). Seated word' u) h.1 mine)
    (λ (h : (j ≢ id) × (get_elem? views j ≡ some v)). let was = each j v h.1 in record { low = (let a = was.low in omega arith); below = was.below; shares = was.shares })
    (at_set views id j w v e)

-- one view is new
each_snoc : (word : ℕ) (views : List View) (w : View) → Seated word w
    → ((j : ℕ) (v : View) → get_elem? views j ≡ some v → Seated word v)
    → (j : ℕ) (v : View) → get_elem? (views ++ w ∷ []) j ≡ some v → Seated word v
each_snoc word views w mine each j v e =
    ⊎_elim
    (λ (h : get_elem? views j ≡ some v). each j v h)
    (λ (h : w ≡ v). subst (λ (u : View). Seated word u) h mine)
    (at_snoc views w v j e)

module _ {S : Type 0} (all : ℕ) where
  pub begins : (shares : List ℕ) → sum shares ≡ all → all ≤ 1048576 → Kept {S = S} all (opening (0 ∷ []) [] (dealing_view all shares))
  begins shares is room = record {
    word = 0;
    words = refl;
    each = one;
    drawn = λ k. omega arith;
    counts = refl;
    left = omega arith;
    room = room;
  }
    where
      one : (j : ℕ) (v : View) → get_elem? (dealing_view all shares ∷ []) j ≡ some v → Seated 0 v
      one zero v e = subst (λ (u : View). Seated 0 u) (some-injective _ _ e) record { low = omega arith; below = All-nil (λ (k : ℕ). k < 0); shares = omega arith }
      one (suc j) v e = absurd (some-ne-none v (sym e))

  pub draws : (slots id : ℕ) (me : Me S View) (count : ℕ) → me.0.all ≡ all → me.0.shares ≡ [] → count ≤ me.0.left
      → Allows (Kept {S = S} all) slots id me 0 (λ found. (found + count) % 2 ^ 64) (Drew count me)
  draws slots id me count known none may s r wide at bound =
      let v = me.0 in
      let found : ℕ = slice_index s.words 0 in
      let is : found ≡ r.word = ap (λ ws. slice_index ws 0) r.words in
      let mine = r.each id v at in
      let part = total_one left_of s.views id v at in
      let sums = r.left in
      let room = r.room in
      let most : found + count ≤ all = omega arith in
      let next : (found + count) % 2 ^ 64 ≡ found + count = mod-eq_of_lt (omega arith) in
      let w : View = drawn_view v found count in
      let low : v.low ≤ found = omega (arith, mine.low) in (
        w,
        keeps,
        tt,
        record {
          word = found + count;
          words = ap (λ ws. set ws 0 ((found + count) % 2 ^ 64)) r.words ∙ ap (λ m. m ∷ []) next;
          each = each_set r.word (found + count) s.views id w (omega arith)
              record {
                low = omega arith;
                below = All-append (λ k. k < found + count) v.drawn (range_with_len found count) (below_weaker v.low (found + count) v.drawn (omega arith) mine.below) (All-range found count (found + count) (omega arith));
                shares = (let a : sum v.shares ≡ 0 = ap sum none in omega arith);
              }
              r.each;
          drawn = λ k. let a = total_set (times_of k) s.views id v w at in let b = times-append k v.drawn (range_with_len found count) in let c = r.drawn k in let d = below_more k found count in
              let e : times k (range_with_len 0 found) ≡ times k (range_with_len 0 r.word) = ap (λ n. times k (range_with_len 0 n)) is in omega arith;
          counts = let a = total_set drawn_of s.views id v w at in let b = length-append v.drawn (range_with_len found count) in let c = length-range_with_len found count in let d = r.counts in omega arith;
          left = let a = total_set left_of s.views id v w at in omega arith;
          room = r.room;
        },
        record { least = low; most = omega arith; view = refl; slots = refl },
      )

  pub gives_share : (id : ℕ) (v : View) → 0 < length v.shares → Splits (Kept {S = S} all) id v (giving_view v) (given_view v)
  gives_share id v some_share s r at =
      let mine = r.each id v at in
      let left : View = giving_view v in
      let right : View = given_view v in
      let views : List View = set s.views id left in
      let shares = sum-shares v.shares in
      let enough = mine.shares in record {
        word = r.word;
        words = r.words;
        each = each_snoc r.word views right record { low = mine.low; below = All-nil (λ (k : ℕ). k < v.low); shares = omega arith }
            (each_set r.word r.word s.views id left (omega arith) record { low = mine.low; below = mine.below; shares = omega arith } r.each);
        drawn = λ k. let a = total_set (times_of k) s.views id v left at in let b = total_snoc (times_of k) views right in let c = r.drawn k in omega arith;
        counts = let a = total_set drawn_of s.views id v left at in let b = total_snoc drawn_of views right in let c = r.counts in omega arith;
        left = let a = total_set left_of s.views id v left at in let b = total_snoc left_of views right in let c = r.left in omega arith;
        room = r.room;
      }

  pub notes : (id : ℕ) (v : View) → Splits (Kept {S = S} all) id v v (noted_view v)
  notes id v s r at =
      let mine = r.each id v at in
      let right : View = noted_view v in
      let views : List View = set s.views id v in record {
        word = r.word;
        words = r.words;
        each = each_snoc r.word views right record { low = mine.low; below = All-nil (λ (k : ℕ). k < v.low); shares = omega arith }
            (each_set r.word r.word s.views id v (omega arith) mine r.each);
        drawn = λ k. let a = total_set (times_of k) s.views id v v at in let b = total_snoc (times_of k) views right in let c = r.drawn k in omega arith;
        counts = let a = total_set drawn_of s.views id v v at in let b = total_snoc drawn_of views right in let c = r.counts in omega arith;
        left = let a = total_set left_of s.views id v v at in let b = total_snoc left_of views right in let c = r.left in omega arith;
        room = r.room;
      }

  pub joins : (id : ℕ) (v : View) (other : ℕ) (w : View) → Joins (Kept {S = S} all) id v other w (joined_view v w) spent_view
  joins id v other w s r at apart at' =
      let one : View = joined_view v w in
      let views : List View = set s.views id one in
      let there : get_elem? s.views other ≡ some w = ⊎_elim (λ (x : (other ≡ id) × (one ≡ w)). absurd (apart x.0)) (λ (x : (other ≢ id) × (get_elem? s.views other ≡ some w)). x.1) (at_set s.views id other one w at') in
      let mine = r.each id v at in
      let theirs = r.each other w there in record {
        word = r.word;
        words = r.words;
        each = each_set r.word r.word views other spent_view (omega arith) record { low = omega arith; below = All-nil (λ (k : ℕ). k < 0); shares = omega arith }
            (each_set r.word r.word s.views id one (omega arith)
            record {
              low = (let a = mine.low in let b = theirs.low in omega arith);
              below = All-append (λ k. k < max v.low w.low) v.drawn w.drawn (below_weaker v.low (max v.low w.low) v.drawn (omega arith) mine.below) (below_weaker w.low (max v.low w.low) w.drawn (omega arith) theirs.below);
              shares = (let a = mine.shares in omega arith);
            }
            r.each);
        drawn = λ k. let a = total_set (times_of k) s.views id v one at in let b = total_set (times_of k) views other w spent_view at' in let c = r.drawn k in let d = times-append k v.drawn w.drawn in omega arith;
        counts = let a = total_set drawn_of s.views id v one at in let b = total_set drawn_of views other w spent_view at' in let c = r.counts in let d = length-append v.drawn w.drawn in omega arith;
        left = let a = total_set left_of s.views id v one at in let b = total_set left_of views other w spent_view at' in let c = r.left in omega arith;
        room = r.room;
      }
