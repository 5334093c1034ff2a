-- Pairs are read one after another.
use Rattle.std.proofs.Common.{◌≡◌, ℕ, ◌%◌, ◌<◌, List, [], ◌∷◌, ◌++◌, length, Result, Ok, Err, refl, sym, ap, ◌∙◌, arith}
use Rattle.call_places.specs.declared.spans.Item.{Item}
use Rattle.field_text.specs.declared.reasons.Reason.{Reason}
use Rattle.field_text.specs.declared.stop.Stop.{Stop}
use Rattle.field_text.specs.declared.stop.Stop.TheVariants as stops
use Rattle.field_text.specs.Fields.{◌>>=◌, next, bytes, Pooled}
use Rattle.field_text.specs.Readings.{Stops}
use Rattle.batch_plans.specs.Limits.{most_field, most_ciphertext}
use Rattle.request_frames.specs.Forms.{item, pairs}

-- an item that was read, with the pieces behind it
abbrev Read : Type 0
Read = (Item × List ℕ) × List (List ℕ)

-- the same item, with these pieces behind it
abbrev keep : List (List ℕ) → Read → Result Read Reason
keep more read = Ok (read.0, more)

-- TEXT behind an AAD that was read
abbrev second : Pooled → List (List ℕ) → Result Pooled Reason → Result Read Reason
second aad more read = do
  (text, pieces) ← read >>= λ value. Ok (value, more)
  Ok ((record { aad = aad.span; text = text.span }, text.pool), pieces)

abbrev first : ℕ → List ℕ → List (List ℕ) → Result Pooled Reason → Result Read Reason
first most text more read = do
  (aad, pieces) ← read >>= λ value. Ok (value, text ∷ more)
  (text, pieces) ← next (bytes most aad.pool) pieces
  Ok ((record { aad = aad.span; text = text.span }, text.pool), pieces)

second_step : (aad : Pooled) (more : List (List ℕ)) (read : Result Pooled Reason) → second aad more read ≡ (second aad [] read >>= keep more)
second_step aad more (Ok text) = refl
second_step aad more (Err reason) = refl

first_step : (most : ℕ) (text : List ℕ) (more : List (List ℕ)) (read : Result Pooled Reason) → first most text more read ≡ (first most text [] read >>= keep more)
unfolding next
first_step most text more (Ok aad) = second_step aad more (bytes most aad.pool text)
first_step most text more (Err reason) = refl

-- what stands behind an item changes nothing of it
item_front : (most : ℕ) (pool aad text : List ℕ) (more : List (List ℕ)) → item most pool (aad ∷ text ∷ more) ≡ (item most pool (aad ∷ text ∷ []) >>= keep more)
unfolding item next
item_front most pool aad text more = first_step most text more (bytes most_field pool aad)

-- what follows a pair
abbrev others : List Item → Read → Result (List Item × List ℕ) Reason
others items y = pairs y.0.1 (items ++ y.0.0 ∷ []) y.1

others_step : (items : List Item) (more : List (List ℕ)) (read : Result Read Reason)
    → (read >>= λ y. pairs y.0.1 (items ++ y.0.0 ∷ []) more) ≡ ((read >>= keep more) >>= others items)
others_step items more (Ok y) = refl
others_step items more (Err reason) = refl

-- the next pair, and then the others
pub pairs_step : (pool : List ℕ) (items : List Item) (pieces : List (List ℕ)) → length pieces % 2 ≡ 0 → 0 < length pieces
    → pairs pool items pieces ≡ (item most_ciphertext pool pieces >>= others items)
unfolding pairs
pairs_step pool items [] even some = absurd (omega arith)
pairs_step pool items (piece ∷ []) even some = absurd (omega arith)
pairs_step pool items (aad ∷ text ∷ more) even some =
    others_step items more (item most_ciphertext pool (aad ∷ text ∷ []))
    ∙ ap (λ (read : Result Read Reason). read >>= others items) (sym (item_front most_ciphertext pool aad text more))

-- no pair is left
pub pairs_none : (pool : List ℕ) (items : List Item) (pieces : List (List ℕ)) → length pieces ≡ 0 → pairs pool items pieces ≡ Ok (items, pool)
unfolding pairs
pairs_none pool items [] none = refl
pairs_none pool items (piece ∷ more) none = absurd (omega arith)

-- where the next pair was read, the others remain
pub pairs_go_on : (pool : List ℕ) (items : List Item) (pieces : List (List ℕ)) (one : Item) (after : List ℕ) (rest : List (List ℕ)) (total : Result (List Item × List ℕ) Reason)
    → length pieces % 2 ≡ 0 → 0 < length pieces → item most_ciphertext pool pieces ≡ Ok ((one, after), rest) → pairs pool items pieces ≡ total → pairs after (items ++ one ∷ []) rest ≡ total
pairs_go_on pool items pieces one after rest total even some read so_far =
    let step : pairs pool items pieces ≡ pairs after (items ++ one ∷ []) rest = pairs_step pool items pieces even some ∙ rw read refl in
    sym step ∙ so_far

-- where it was not, nor are all
pub pairs_fail : (stop : Stop) (pool : List ℕ) (items : List Item) (pieces : List (List ℕ)) (total : Result (List Item × List ℕ) Reason)
    → length pieces % 2 ≡ 0 → 0 < length pieces → Stops stop (item most_ciphertext pool pieces) → pairs pool items pieces ≡ total → Stops stop total
pairs_fail stops.OutOfMemory pool items pieces total even some read so_far = tt
pairs_fail (stops.Bad reason) pool items pieces total even some read so_far =
    let step : pairs pool items pieces ≡ Err reason = pairs_step pool items pieces even some ∙ rw read refl in
    sym so_far ∙ step
