use Rattle.std.proofs.Common.{◌≡◌, ◌≢◌, ◌<◌, ◌≤◌, ◌+◌, ◌++◌, ◌∷◌, [], ℕ, List, length, Option, None, set, inl, inr, sym, ap, ◌∙◌, subst, arith, length-append, get_or-set_other}
use Rattle.std.proofs.lemmas.List.{get_or-set_same}
use Rattle.turn_lock.specs.Passes.{PassView, PassListView}
use Rattle.context_books.proofs.Lists.{is_cases}
use Rattle.lane_workers.specs.Turns.{pass_at}
use Rattle.lane_workers.specs.Handing.{list_at, Takes}
use Rattle.lane_workers.proofs.Handing.{found_here, front_same, last_same}
use Rattle.lane_workers.proofs.passes.take_passes.Goals as goal

pub lists-preserved : goal.lists-preserved
lists-preserved c =
    let inv = c.lists.invariant in
    let i = c.lists.list-index in
    let lists = c.lists.lists in
    let start = c.args.lists.now in
    let new = c.take_one.new.list in
    let p = c.take_one.result in
    let old = c.lists.passes.items in
    let pushed = c.push_reserved.ensures.items in
    let low : i < length lists =
    (let same = c.lists.auto.lists in let t = c.lists-test.true in omega arith) in
    let size : length c.push_reserved.new.self.items ≡ i + 1 =
    ap length pushed ∙ length-append old (p ∷ []) ∙ ap (λ n. n + 1) inv.0 in
    let here : c.list-item.result ≡ list_at start i =
    found_here lists i c.list-item.result None low c.list-item.is ∙ inv.3 i (omega arith) in (
      size,
      omega (arith, inv.1, c.push_reserved.ensures.capacity),
      λ k below. elim (is_cases k i) [
        | inl same ↦ subst (λ j. Takes (list_at start j) (list_at (set lists i new) j)
            (pass_at c.push_reserved.new.self.items j)) (sym same)
            (subst (λ (o : Option PassListView). Takes o (list_at (set lists i new) i)
            (pass_at c.push_reserved.new.self.items i)) here
            (subst (λ (o : Option PassListView). Takes c.list-item.result o
            (pass_at c.push_reserved.new.self.items i))
            (sym (get_or-set_same lists i new None low))
            (subst (λ (o : Option PassView). Takes c.list-item.result new o)
            (sym (ap (λ (ps : List (Option PassView)). pass_at ps i) pushed
            ∙ ap (pass_at (old ++ p ∷ [])) (sym inv.0) ∙ last_same old p))
            (subst (λ (o : Option PassListView). Takes o new p) (sym c.list-item.is)
            c.take_one.ensures))))
        | inr apart ↦ (let less : k < i = below_it k i below apart in
            subst (λ (o : Option PassListView). Takes (list_at start k) o
            (pass_at c.push_reserved.new.self.items k))
            (sym (get_or-set_other lists i k new None apart))
            (subst (λ (o : Option PassView). Takes (list_at start k) (list_at lists k) o)
            (sym (ap (λ (ps : List (Option PassView)). pass_at ps k) pushed
            ∙ front_same old p k (let e = inv.0 in omega arith))) (inv.2 k less)))
      ],
      λ k above. get_or-set_other lists i k new None (λ e. not_it k i above e)
          ∙ inv.3 k (omega arith),
    )
  where
    below_it : (k i : ℕ) → k < i + 1 → k ≢ i → k < i
    below_it k i low apart = omega arith

    not_it : (k i : ℕ) → i + 1 ≤ k → k ≡ i → ⊥
    not_it k i above e = omega arith

pub returns : goal.returns
returns c =
    let inv = c.lists.invariant in
    let end = c.lists-test.false in
    let last = c.lists.auto.list-index-end in
    let items = c.from_vec.ensures.items in
    record {
      lists_count = c.lists.auto.lists;
      count = omega (arith, ap length items, inv.0);
      each = λ number low. subst (λ (ps : List (Option PassView)).
          Takes (list_at c.args.lists.now number) (list_at c.lists.lists number) (pass_at ps number))
          (sym items) (inv.2 number (omega arith));
    }
