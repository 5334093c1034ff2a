-- Counts by lane and by context.
use Rattle.std.proofs.Common.{◌≡◌, ◌<◌, ◌+◌, ℕ, List, [], ◌∷◌, length, map, refl, sym, ap, ◌∙◌, arith, get_or, inl, inr, is_some, Option, None}
use Rattle.std.specs.Prelude.{sum_by, slice_index, replicate, set}
use Rattle.std.specs.List.{All}
use Rattle.std.proofs.lemmas.Bool.{cases_lt, cases_eq}
use Rattle.std.proofs.lemmas.List.{get_or_past, get_or_default, length-map, length-replicate, get_or-map, get_or-set_other, get_or-replicate}
use Rattle.std.proofs.lemmas.List.FromFn.{get_or-map-range_with_len, length-map-range_with_len, fill_by_all}
use Rattle.std.proofs.lemmas.Grind.{get_or-set_at}
use Rattle.hpke_context.specs.Contexts.{ContextView}
use Rattle.batch_plans.specs.declared.plan.ContextLine.{ContextLine}
use Rattle.batch_plans.specs.declared.plan.CallLine.{CallLine}
use Rattle.batch_plans.specs.Calls.{context_of}
use Rattle.batch_plans.specs.Room.{items_on}
use Rattle.context_books.specs.Standing.{refusal_on}
use Rattle.context_books.specs.ContextLines.{AreOfLines, export_limits}
use Rattle.context_books.specs.Quotas.{counts_of}
use Rattle.context_books.proofs.Counts.{refused_call, other_context}

module _ (lines : List ContextLine) (contexts : List (Option ContextView)) where
  abbrev limits : List ℕ
  limits = export_limits contexts

  -- a call that is served names a context that is there
  pub there : AreOfLines lines contexts → (call : CallLine) (number : ℕ) → number ≡ context_of call
      → 0 < items_on lines limits number call → number < length contexts
  there t call number same some = elim (cases_lt (context_of call) (length contexts)) [
    | inl low ↦ omega (arith, low, same)
    | inr high ↦
        (let none = refused_call lines contexts t number call
        (ap (λ s. is_some (refusal_on s call)) (get_or_past contexts (context_of call) None high)) in
        absurd (omega (arith, some, none)))
  ]

  -- the counts of all contexts with those of one call more, on the context that it names
  pub one_counted : AreOfLines lines contexts → (call : CallLine) (number : ℕ)
      → number ≡ context_of call → (counts : List ℕ) (sum : ℕ) → number < length counts
      → sum ≡ get_or counts number 0 + items_on lines limits number call → (k : ℕ)
      → get_or (set counts number sum) k 0 ≡ get_or counts k 0 + items_on lines limits k call
  one_counted t call number same counts sum low is k = elim (cases_eq k number) [
    | inl here ↦ get_or-set_at counts number k sum 0 here low ∙ is
        ∙ ap (λ n. get_or counts n 0 + items_on lines limits n call) (sym here)
    | inr other ↦
        (let none = other_context lines contexts t k call (λ e. other (sym (same ∙ e))) in
        let kept = get_or-set_other counts number k sum 0 other in
        omega (arith, none, kept))
  ]

  -- and where the call asks nothing
  pub none_counted : AreOfLines lines contexts → (call : CallLine) (number : ℕ)
      → number ≡ context_of call → items_on lines limits number call ≡ 0 → (k : ℕ)
      → items_on lines limits k call ≡ 0
  none_counted t call number same none k = elim (cases_eq k number) [
    | inl here ↦ ap (λ n. items_on lines limits n call) here ∙ none
    | inr other ↦ other_context lines contexts t k call (λ e. other (sym (same ∙ e)))
  ]

  -- counts that began at 0
  pub counted_from_0 : (calls : List CallLine) (old new : List ℕ)
      → old ≡ replicate (length contexts) 0 → length new ≡ length old
      → ((k : ℕ) → k < length old
      → get_or new k 0 ≡ get_or old k 0 + sum_by (items_on lines limits k) calls)
      → new ≡ counts_of lines contexts calls
  counted_from_0 calls old new zeros size each =
      let count = ap length zeros ∙ length-replicate (length contexts) 0 in
      fill_by_all (λ k. sum_by (items_on lines limits k) calls) new (length contexts) 0
      (size ∙ count)
      (λ k low.
      let one = each k (omega (arith, count, low)) in
      let zero = ap (λ xs. get_or xs k 0) zeros ∙ get_or-replicate (length contexts) k 0 0 low in
      omega (arith, one, zero))

  count_at : (calls : List CallLine) (number : ℕ) → number < length contexts
      → slice_index (counts_of lines contexts calls) number
      ≡ sum_by (items_on lines limits number) calls
  count_at calls number low =
      get_or-map-range_with_len (λ n. sum_by (items_on lines limits n) calls) 0 (length contexts)
      number number 0 low (omega arith)

  -- each lane has a count for each context
  pub rows_all : (lanes : List (List CallLine)) (number : ℕ) → number < length contexts
      → All (λ row. number < length row) (map (counts_of lines contexts) lanes)
  rows_all lanes number low k d less =
      let size = length-map lanes (counts_of lines contexts) in
      let row = get_or_default (map (counts_of lines contexts) lanes) k d
      (counts_of lines contexts []) less
      ∙ get_or-map (counts_of lines contexts) lanes k [] (counts_of lines contexts [])
      (omega (arith, size)) in
      let count = length-map-range_with_len
      (λ n. sum_by (items_on lines limits n) (get_or lanes k [])) 0 (length contexts) in
      omega (arith, ap length row, count)

  -- what all lanes have at one context
  pub column_is : (lanes : List (List CallLine)) (number : ℕ) → number < length contexts
      → map (λ row. slice_index row number) (map (counts_of lines contexts) lanes)
      ≡ map (λ calls. sum_by (items_on lines limits number) calls) lanes
  column_is [] number low = refl
  column_is (calls ∷ lanes) number low =
      (λ i. count_at calls number low i ∷ column_is lanes number low i)
