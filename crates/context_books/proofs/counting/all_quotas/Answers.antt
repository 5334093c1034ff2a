use Rattle.std.proofs.Common.{◌≡◌, ℕ, ◌<◌, ◌+◌, ◌++◌, ◌∷◌, [], List, length, map, sym, ap, ◌∙◌, subst, arith}
use Rattle.std.specs.Prelude.{slice_index}
use Rattle.std.specs.List.{All, range_with_len}
use Rattle.std.proofs.lemmas.List.FromFn.{map-range_with_len_more}
use Rattle.context_books.specs.Quotas.{lane_quota, quotas_on}
use Rattle.context_books.proofs.Columns.{rows_all, column_is}
use Rattle.context_books.proofs.counting.all_quotas.Goals as goal

pub column-requires : goal.column-requires
column-requires c =
    let contexts = c.args.contexts.now in
    let lines = c.requires.standing.0 in
    let t = c.requires.standing.1 in
    subst (All (λ row. c.contexts.number < length row))
    (sym (c.deref.ensures.value ∙ c.in_ok-rows.ensures lines t))
    (rows_all lines contexts c.args.lanes.now c.contexts.number c.contexts-test.true)

pub contexts-preserved : goal.contexts-preserved
contexts-preserved c =
    let i = c.contexts.invariant in
    let n = c.contexts.number in
    let contexts = c.args.contexts.now in
    record {
      done = λ plan t same.
          let f = quotas_on plan contexts in
          let column = λ (rows : List (List ℕ)). map (λ (row : List ℕ). slice_index row n) rows in
          let one : c.in_ok-column.field-0 ≡ f n = c.in_ok-column.ensures
          ∙ ap column (c.deref.ensures.value ∙ c.in_ok-rows.ensures plan.contexts t)
          ∙ column_is plan.contexts contexts c.args.lanes.now n c.contexts-test.true
          ∙ ap (map (lane_quota plan contexts n)) (sym same) in
          let more : map f (range_with_len 0 n) ++ f n ∷ [] ≡ map f (range_with_len 0 (n + 1)) =
          sym (map-range_with_len_more f 0 n n (omega arith)) in
          ◌∙◌ {A = List (List ℕ)} c.push_reserved.ensures.items
          (◌∙◌ {A = List (List ℕ)} (λ j. i.done plan t same j ++ one j ∷ []) more);
      count = omega (arith, c.push_reserved.ensures.len, i.count);
      room = omega (arith, c.push_reserved.ensures.capacity, i.room);
    }
