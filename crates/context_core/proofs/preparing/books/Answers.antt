use Rattle.std.proofs.Common.{◌≡◌, ◌≤◌, ◌<◌, ℕ, ◌+◌, ◌++◌, ◌∷◌, [], List, Option, length, map, get_or, sym, refl, ap, ◌∙◌, subst, arith}
use Rattle.std.specs.Prelude.{sum}
use Rattle.std.specs.List.{range_with_len}
use Rattle.std.proofs.lemmas.List.FromFn.{map-range_with_len_more, length-map-range_with_len, get_or-map-range_with_len}
use Rattle.context_books.specs.Books.{BookView}
use Rattle.hpke_context.specs.Contexts.{ContextView}
use Rattle.batch_plans.specs.declared.plan.Plan.{Plan}
use Rattle.context_books.specs.Quotas.{quotas_on, all_quotas}
use Rattle.context_books.proofs.Counts.{quotas_few}
use Rattle.context_core.specs.Preparing.{fresh_at}
use Rattle.context_core.proofs.preparing.books.Goals as goal

-- the quotas on a context stand at its number
quotas_at : (plan : Plan) (contexts : List (Option ContextView)) (all : List (List ℕ))
    (quotas other : List ℕ) (n : ℕ) → all ≡ all_quotas plan contexts → n < length contexts
    → quotas ≡ get_or all n other → quotas ≡ quotas_on plan contexts n
quotas_at plan contexts all quotas other n same low is =
    is ∙ ap (λ qs. get_or qs n other) same
    ∙ get_or-map-range_with_len (quotas_on plan contexts) 0 (length contexts) n n other low
    (omega arith)

pub index-requires : goal.index-requires
index-requires c =
    let plan = c.args.plan.now in
    let contexts = c.args.contexts.now in
    let same = c.in_ok-all.ensures plan c.requires.standing refl in
    omega (
      arith,
      ap length same,
      length-map-range_with_len (quotas_on plan contexts) 0 (length contexts),
      c.in_ok-all.all.ok.0,
      c.contexts-test.true,
    )

pub book-requires-clause-sum : goal.book-requires-clause-sum
book-requires-clause-sum c =
    let plan = c.args.plan.now in
    let contexts = c.args.contexts.now in
    let n = c.contexts.number in
    let same = c.in_ok-all.ensures plan c.requires.standing refl in
    let is = quotas_at plan contexts c.in_ok-all.all.items c.as_slice-quotas.result.now
    c.index.result.now n same c.contexts-test.true (c.as_slice-quotas.ensures.items ∙ c.index.ensures) in
    subst (λ qs. sum qs ≤ 65536) (sym is) (quotas_few plan contexts n c.requires.within)

pub push_reserved-requires : goal.push_reserved-requires
push_reserved-requires c =
    let t = c.contexts.invariant in
    omega (
      arith,
      ap length t.done,
      length-map-range_with_len (fresh_at c.args.plan.now c.args.contexts.now) 0 c.contexts.number,
      t.room,
      c.contexts.books.ok.0,
      c.contexts-test.true,
    )

pub contexts-preserved : goal.contexts-preserved
contexts-preserved c =
    let plan = c.args.plan.now in
    let contexts = c.args.contexts.now in
    let n = c.contexts.number in
    let same = c.in_ok-all.ensures plan c.requires.standing refl in
    let is = quotas_at plan contexts c.in_ok-all.all.items c.as_slice-quotas.result.now
    c.index.result.now n same c.contexts-test.true (c.as_slice-quotas.ensures.items ∙ c.index.ensures) in
    let f = fresh_at plan contexts in
    let more : map f (range_with_len 0 n) ++ f n ∷ [] ≡ map f (range_with_len 0 (n + 1)) =
    sym (map-range_with_len_more f 0 n n (omega arith)) in
    let book : c.in_ok-book.field-0 ≡ f n = c.in_ok-book.ensures plan is in
    let t = c.contexts.invariant in
    record {
      done = ◌∙◌ {A = List (Option BookView)} c.push_reserved.ensures.items
          (◌∙◌ {A = List (Option BookView)} (λ i. t.done i ++ book i ∷ []) more);
      room = omega (arith, c.push_reserved.ensures.capacity, t.room);
    }
