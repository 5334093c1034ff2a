-- An opening of which one item more is kept than it may have.
use Rattle.std.proofs.Common.{◌≡◌, ℕ, ◌+◌, ◌%◌, ◌<◌, ◌≤◌, Bool, cond, List, [], ◌∷◌, ◌++◌, length, take, Result, Ok, Err, refl, sym, ap, ◌∙◌, inl, inr, arith}
use Rattle.std.proofs.lemmas.Bool.{cases_lt, lt-leb}
use Rattle.std.proofs.lemmas.List.{take_all, take-append-le, length-take-le, length-append}
use Rattle.call_places.specs.declared.spans.Item.{Item}
use Rattle.field_text.specs.declared.reasons.Reason.{Reason}
use Rattle.field_text.specs.declared.reasons.Reason.TheVariants.{Count}
use Rattle.field_text.specs.declared.stop.Stop.{Stop}
use Rattle.field_text.specs.declared.stop.Stop.TheVariants as stops
use Rattle.field_text.specs.Fields.{◌>>=◌, next}
use Rattle.field_text.specs.Readings.{Stops}
use Rattle.batch_plans.specs.declared.plan.Plan.{Plan}
use Rattle.batch_plans.specs.declared.plan.CallLine.TheVariants as calls
use Rattle.batch_plans.specs.Limits.{most_opening, most_ciphertext}
use Rattle.request_frames.specs.KeyForms.{at_most}
use Rattle.request_frames.specs.Batch.{counted, with_several}
use Rattle.request_frames.specs.Forms.{ctx, item, pairs, one_and_pairs, unseal_all}
use Rattle.request_frames.specs.Firsts.{first_items, unseal_first, with_first}
use Rattle.request_frames.proofs.Pairs.{pairs_go_on, pairs_fail, pairs_none}

-- ---- pairs one after another

module _ (pool : List ℕ) (items : List Item) (pieces : List (List ℕ)) (even : length pieces % 2 ≡ 0) (total : Result (List Item × List ℕ) Reason)
    (so_far : first_items (pairs pool items pieces) ≡ total) where
  -- the next item is kept
  pub first_go_on : (one : Item) (after : List ℕ) (rest : List (List ℕ)) → 0 < length pieces
      → item most_ciphertext pool pieces ≡ Ok ((one, after), rest) → first_items (pairs after (items ++ one ∷ []) rest) ≡ total
  first_go_on one after rest some read =
      ap first_items (pairs_go_on pool items pieces one after rest (pairs pool items pieces) even some read refl) ∙ so_far

  pub first_fail : (stop : Stop) → 0 < length pieces → Stops stop (item most_ciphertext pool pieces) → Stops stop total
  first_fail stops.OutOfMemory some read = tt
  first_fail (stops.Bad reason) some read =
      sym so_far ∙ ap first_items (pairs_fail (stops.Bad reason) pool items pieces (pairs pool items pieces) even some read refl)

  -- none is left
  pub first_none : length pieces ≡ 0 → length items ≤ most_opening + 1 → total ≡ Ok (items, pool)
  first_none none few =
      sym so_far ∙ ap first_items (pairs_none pool items pieces none)
      ∙ ap (λ (xs : List Item). Ok (xs, pool)) (take_all (most_opening + 1) items few)

-- behind as many items as are kept, others change nothing
same_firsts : (pieces : List (List ℕ)) (pool : List ℕ) (xs ys : List Item) → most_opening + 1 ≤ length xs → most_opening + 1 ≤ length ys
    → take (most_opening + 1) xs ≡ take (most_opening + 1) ys → first_items (pairs pool xs pieces) ≡ first_items (pairs pool ys pieces)
unfolding pairs
same_firsts [] pool xs ys xs_many ys_many same = ap (λ (zs : List Item). Ok (zs, pool)) same
same_firsts (piece ∷ []) pool xs ys xs_many ys_many same = refl
same_firsts (aad ∷ text ∷ more) pool xs ys xs_many ys_many same = go (item most_ciphertext pool (aad ∷ text ∷ [])) (same_firsts more)
  where
    go : (read : Result ((Item × List ℕ) × List (List ℕ)) Reason)
        → ((pool : List ℕ) (xs ys : List Item) → most_opening + 1 ≤ length xs → most_opening + 1 ≤ length ys
        → take (most_opening + 1) xs ≡ take (most_opening + 1) ys → first_items (pairs pool xs more) ≡ first_items (pairs pool ys more))
        → first_items (read >>= λ y. pairs y.0.1 (xs ++ y.0.0 ∷ []) more) ≡ first_items (read >>= λ y. pairs y.0.1 (ys ++ y.0.0 ∷ []) more)
    go (Err reason) later = refl
    go (Ok y) later =
        let xs_size : length (xs ++ y.0.0 ∷ []) ≡ length xs + 1 = length-append xs (y.0.0 ∷ []) in
        let ys_size : length (ys ++ y.0.0 ∷ []) ≡ length ys + 1 = length-append ys (y.0.0 ∷ []) in
        later y.0.1 (xs ++ y.0.0 ∷ []) (ys ++ y.0.0 ∷ []) (omega arith) (omega arith)
        (take-append-le (most_opening + 1) xs (y.0.0 ∷ []) xs_many ∙ same ∙ sym (take-append-le (most_opening + 1) ys (y.0.0 ∷ []) ys_many))

-- the next item isn't kept
pub first_pass : (pool : List ℕ) (items : List Item) (pieces : List (List ℕ)) (even : length pieces % 2 ≡ 0) (total : Result (List Item × List ℕ) Reason)
    (so_far : first_items (pairs pool items pieces) ≡ total) (one : Item) (after : List ℕ) (rest : List (List ℕ)) → 0 < length pieces
    → item most_ciphertext pool pieces ≡ Ok ((one, after), rest) → most_opening < length items → first_items (pairs after items rest) ≡ total
first_pass pool items pieces even total so_far one after rest some read many =
    let size : length (items ++ one ∷ []) ≡ length items + 1 = length-append items (one ∷ []) in
    same_firsts rest after items (items ++ one ∷ []) (omega arith) (omega arith) (sym (take-append-le (most_opening + 1) items (one ∷ []) (omega arith)))
    ∙ first_go_on pool items pieces even total so_far one after rest some read

-- ---- the line

-- too many items are refused, whatever they are
too_many : (plan : Plan) (context first count : ℕ) → most_opening < count → counted plan (calls.UnsealAll context first count) ≡ Err Count
unfolding counted
too_many plan context first count many =
    let refused : at_most most_opening count ≡ Err Count = ap (λ (b : Bool). cond b (Ok count) (Err Count)) (lt-leb count most_opening many) in
    rw refused refl

counted_first : (plan : Plan) (pool : List ℕ) (context first : ℕ) (items : List Item)
    → counted (record plan { pool = pool; items = plan.items ++ take (most_opening + 1) items }) (calls.UnsealAll context first (length (take (most_opening + 1) items)))
    ≡ counted (record plan { pool = pool; items = plan.items ++ items }) (calls.UnsealAll context first (length items))
counted_first plan pool context first items = elim (cases_lt (most_opening + 1) (length items)) [
  | inl more ↦
      let size : length (take (most_opening + 1) items) ≡ most_opening + 1 = length-take-le (most_opening + 1) items (omega arith) in
      too_many (record plan { pool = pool; items = plan.items ++ take (most_opening + 1) items }) context first (length (take (most_opening + 1) items)) (omega arith)
      ∙ sym (too_many (record plan { pool = pool; items = plan.items ++ items }) context first (length items) (omega arith))
  | inr few ↦
      ap (λ (xs : List Item). counted (record plan { pool = pool; items = plan.items ++ xs }) (calls.UnsealAll context first (length xs)))
      (take_all (most_opening + 1) items few)
]

abbrev Line : Type 0
Line = ℕ × List Item × List ℕ

abbrev counting : Plan → Result Line Reason → Result Plan Reason
counting plan read = do
  (context, items, pool) ← read
  counted (record plan { pool = pool; items = plan.items ++ items })
      (calls.UnsealAll context (length plan.items) (length items))

abbrev naming : ℕ → Result (List Item × List ℕ) Reason → Result Line Reason
naming context read = do
  (items, pool) ← read
  Ok (context, items, pool)

abbrev behind_context : (Result (List Item × List ℕ) Reason → Result (List Item × List ℕ) Reason) → List ℕ → Result (ℕ × List (List ℕ)) Reason → Result Line Reason
behind_context keep pool read = do
  (context, pieces) ← read
  (items, pool) ← keep (pairs pool [] pieces)
  Ok (context, items, pool)

abbrev whole_line : (Result (List Item × List ℕ) Reason → Result (List Item × List ℕ) Reason) → Bool → List ℕ → Result (List (List ℕ)) Reason → Result Line Reason
whole_line keep names pool read = do
  pieces ← read
  (context, pieces) ← next (ctx names) pieces
  (items, pool) ← keep (pairs pool [] pieces)
  Ok (context, items, pool)

abbrev all_items_read : Result (List Item × List ℕ) Reason → Result (List Item × List ℕ) Reason
all_items_read read = read

items_same : (plan : Plan) (context : ℕ) (read : Result (List Item × List ℕ) Reason) → counting plan (naming context (first_items read)) ≡ counting plan (naming context read)
items_same plan context (Ok read) = counted_first plan read.1 context (length plan.items) read.0
items_same plan context (Err reason) = refl

context_same : (plan : Plan) (pool : List ℕ) (read : Result (ℕ × List (List ℕ)) Reason)
    → counting plan (behind_context first_items pool read) ≡ counting plan (behind_context all_items_read pool read)
context_same plan pool (Ok read) = items_same plan read.0 (pairs pool [] read.1)
context_same plan pool (Err reason) = refl

line_same : (plan : Plan) (names : Bool) (pool : List ℕ) (read : Result (List (List ℕ)) Reason)
    → counting plan (whole_line first_items names pool read) ≡ counting plan (whole_line all_items_read names pool read)
line_same plan names pool (Ok pieces) = context_same plan pool (next (ctx names) pieces)
line_same plan names pool (Err reason) = refl

-- a line is counted by its first items
pub first_is : (names : Bool) (plan : Plan) (pieces : List (List ℕ)) → with_first names plan pieces ≡ with_several names plan pieces
unfolding with_first with_several unseal_first unseal_all
first_is names plan pieces = line_same plan names plan.pool (one_and_pairs pieces)
