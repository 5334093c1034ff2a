-- What the items of a plan ask lies within its limits.
use Rattle.std.proofs.Common.{◌≡◌, ℕ, zero, suc, ◌<◌, List, [], ◌∷◌, length, map, drop, get_or, Option, Some, None, refl, sym, ◌∙◌, subst, inl, inr, rules, arith}
use Rattle.std.specs.Prelude.{slice_get, slice_index_or, IsSome}
use Rattle.std.specs.List.{All}
use Rattle.std.proofs.lemmas.List.Elements.{All-take, All-drop}
use Rattle.call_places.specs.declared.entries.Place.{Place}
use Rattle.call_places.specs.declared.spans.Item.{Item}
use Rattle.context_books.specs.Lists.{In}
use Rattle.batch_plans.specs.declared.plan.Plan.{Plan}
use Rattle.batch_plans.specs.declared.plan.CallLine.{CallLine}
use Rattle.batch_plans.specs.declared.plan.CallLine.TheVariants as calls
use Rattle.batch_plans.specs.Limits.{items_from, most_plaintext, most_ciphertext}
use Rattle.batch_plans.specs.Within.{IsItemWithin, IsWithinLimits}
use Rattle.journal_check.specs.declared.items.Asked.{Asked}
use Rattle.journal_check.specs.declared.items.Asked.TheVariants.{Seal, Open}
use Rattle.journal_check.specs.Runs.{asks_in, asked_in_call, asked_at, IsAskedIn}
use Rattle.result_lines.proofs.Limited.{IsLine, line_of_limits}

-- an element of a list
pub get_in : {X : Type 0} (xs : List X) (i : ℕ) (d : X) → i < length xs → In (get_or xs i d) xs
get_in [] i d lt = absurd (omega arith)
get_in (x ∷ xs) zero d lt = inl refl
get_in (x ∷ xs) (suc i) d lt = inr (get_in xs i d (omega arith))

some_asked : (a b : Asked) → Some a ≡ Some b → a ≡ b
some_asked a b e = cc

no_asked : (a : Asked) → None ≡ Some a → ⊥
no_asked a e = cc

only_one : (x a : Asked) (i : ℕ) → slice_get (x ∷ []) i ≡ Some a → x ≡ a
only_one x a zero at = some_asked x a at
only_one x a (suc i) at = absurd (no_asked a at)

plaintext_fits : (size : ℕ) (item : Item) → IsItemWithin most_plaintext size item → IsItemWithin most_ciphertext size item
plaintext_fits size item t = record {
  aad = t.aad;
  text = record { in_pool = t.text.in_pool; size = (let few = t.text.size in omega arith) };
}

opened_in : (size : ℕ) (items : List Item) (i : ℕ) (a : Asked) → All (IsItemWithin most_ciphertext size) items
    → slice_get (map (λ (item : Item). Open item) items) i ≡ Some a → IsAskedIn size a
opened_in size [] i a all at = absurd (no_asked a at)
opened_in size (item ∷ items) zero a all at =
    subst (IsAskedIn size) (some_asked (Open item) a at) (all 0 item (omega arith))
opened_in size (item ∷ items) (suc i) a all at =
    opened_in size items i a (λ k d lt. all (suc k) d (omega arith)) at

in_call : (plan : Plan) (call : CallLine) (i : ℕ) (a : Asked) → IsWithinLimits plan → IsLine plan call
    → slice_get (asks_in plan.items call) i ≡ Some a → IsAskedIn (length plan.pool) a
in_call plan (calls.Seal c item) i a within line at =
    subst (IsAskedIn (length plan.pool)) (only_one (Seal item) a i at) (plaintext_fits (length plan.pool) item line.1)
in_call plan (calls.Unseal c item) i a within line at =
    subst (IsAskedIn (length plan.pool)) (only_one (Open item) a i at) line.1
in_call plan (calls.UnsealAll c first count) i a within line at =
    let P = IsItemWithin most_ciphertext (length plan.pool) in
    opened_in (length plan.pool) (items_from plan.items first count) i a
    (All-take P count (drop first plan.items) (All-drop P first plan.items within.item_list)) at
in_call plan (calls.Export c exporter size) i a within line at = absurd (no_asked a at)
in_call plan (calls.Add name) i a within line at = absurd (no_asked a at)
in_call plan (calls.Retire name) i a within line at = absurd (no_asked a at)

of_call : (plan : Plan) (call : Option CallLine) (i : ℕ) (a : Asked) → IsWithinLimits plan → ((line : CallLine) → call ≡ Some line → IsLine plan line)
    → asked_in_call plan.items call i ≡ Some a → IsAskedIn (length plan.pool) a
of_call plan None i a within line at = absurd (no_asked a at)
of_call plan (Some call) i a within line at = in_call plan call i a within (line call refl) at

-- what a place asks
pub asked_within : (plan : Plan) (p : Place) (a : Asked) → IsWithinLimits plan → asked_at plan p ≡ Some a → IsAskedIn (length plan.pool) a
asked_within plan p a within at =
    let lines = slice_index_or plan.lanes p.lane [] in
    of_call plan (slice_get lines p.call) p.item a within (λ line is. line_of_limits plan p.lane p.call line within is) at

pub some_is : (o : Option Asked) (a : Asked) → o ≡ Some a → IsSome o
some_is o a is = let some : IsSome (Some a) = search rules in subst IsSome (sym is) some

pub one_asked : (o : Option Asked) (a b : Asked) → o ≡ Some a → o ≡ Some b → a ≡ b
one_asked o a b e f = some_asked a b (sym e ∙ f)
