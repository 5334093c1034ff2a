use Rattle.std.proofs.Common.{ℕ, List, [], ◌∷◌, ◌++◌, ◌+◌, ◌*◌, ◌/◌, take, set, get_or, ap, ◌∙◌}
use Rattle.aes_block.proofs.States.{counted_long, counted_is}
use Rattle.aes_block.proofs.slices.counted.Goals as goal

pub returns-clause-long : goal.returns-clause-long
returns-clause-long c =
    let r : List (List ℕ) = c.ended.result ∷ c.ended-2.result ∷ c.ended-3.result ∷ c.spread-4.result ∷ c.spread-5.result ∷ c.spread-6.result ∷ c.spread-7.result ∷ c.spread-8.result ∷ [] in
    counted_long c.lanes-x.result r c.lanes-x.ensures.long record {
      r0 = c.ended.ensures ∙ ap (λ xs. set xs 15 0xaa) c.spread.ensures;
      r1 = c.ended-2.ensures ∙ ap (λ xs. set xs 15 0xcc) c.spread-2.ensures;
      r2 = c.ended-3.ensures ∙ ap (λ xs. set xs 15 0xf0) c.spread-3.ensures;
      r3 = c.spread-4.ensures;
      r4 = c.spread-5.ensures;
      r5 = c.spread-6.ensures;
      r6 = c.spread-7.ensures;
      r7 = c.spread-8.ensures;
    }

pub returns-clause-states : goal.returns-clause-states
returns-clause-states c i I =
    let r : List (List ℕ) = c.ended.result ∷ c.ended-2.result ∷ c.ended-3.result ∷ c.spread-4.result ∷ c.spread-5.result ∷ c.spread-6.result ∷ c.spread-7.result ∷ c.spread-8.result ∷ [] in
    counted_is c.lanes-x.result r c.lanes-x.ensures.long c.lanes-x.ensures.small record {
      r0 = c.ended.ensures ∙ ap (λ xs. set xs 15 0xaa) c.spread.ensures;
      r1 = c.ended-2.ensures ∙ ap (λ xs. set xs 15 0xcc) c.spread-2.ensures;
      r2 = c.ended-3.ensures ∙ ap (λ xs. set xs 15 0xf0) c.spread-3.ensures;
      r3 = c.spread-4.ensures;
      r4 = c.spread-5.ensures;
      r5 = c.spread-6.ensures;
      r6 = c.spread-7.ensures;
      r7 = c.spread-8.ensures;
    } i I
    ∙ ap (λ xs. take 15 xs ++ (get_or xs 15 0 / 8 * 8 + i) ∷ []) c.lanes-x.ensures.same
