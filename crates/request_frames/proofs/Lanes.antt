-- The last lane and those before it.
use Rattle.std.proofs.Common.{◌≡◌, ℕ, ◌+◌, List, [], ◌∷◌, ◌++◌, Result, Ok, Err, refl, ap}
use Rattle.field_text.specs.declared.reasons.Reason.{Reason}
use Rattle.field_text.specs.declared.stop.Stop.{Stop}
use Rattle.field_text.specs.declared.stop.Stop.TheVariants as stops
use Rattle.field_text.specs.Fields.{◌>>=◌}
use Rattle.field_text.specs.Readings.{Gives}
use Rattle.batch_plans.specs.declared.plan.Plan.{Plan}
use Rattle.batch_plans.specs.declared.plan.CallLine.{CallLine}
use Rattle.batch_plans.specs.Limits.{most_opening, most_items, most_exported, items_of, size_of, all_items, all_sizes}
use Rattle.request_frames.specs.KeyForms.{at_most}
use Rattle.request_frames.specs.Batch.{add_call, counted}
use Rattle.request_frames.specs.Drafts.{call_more}

pub add_call-end : (lanes : List (List CallLine)) (lane : List CallLine) (call : CallLine) → add_call (lanes ++ lane ∷ []) call ≡ lanes ++ (lane ++ call ∷ []) ∷ []
add_call-end [] lane call = refl
add_call-end (first ∷ []) lane call = refl
add_call-end (first ∷ next ∷ more) lane call = ap (λ (lanes : List (List CallLine)). first ∷ lanes) (add_call-end (next ∷ more) lane call)

pub ruleset lane_facts = (add_call-end)

-- ---- the plan of these lanes

-- what a call gives for lanes it gives for the plan that has them
gives_by : {A B : Type 0} (whole : A → B) (result : Result (Unit {0}) Stop) (part : A) (read : Result A Reason) → Gives (λ _. part) result read
    → Gives (λ _. whole part) result (read >>= λ part. Ok (whole part))
gives_by whole (Ok done) part read is = ap (λ read. read >>= λ part. Ok (whole part)) is
gives_by whole (Err stops.OutOfMemory) part read is = tt
gives_by whole (Err (stops.Bad reason)) part read is = ap (λ read. read >>= λ part. Ok (whole part)) is

after_three : {A B : Type 0} (whole : A → B) (part : A) (a b c : Result ℕ Reason)
    → ((a >>= λ _. b >>= λ _. c >>= λ _. Ok part) >>= λ part. Ok (whole part)) ≡ (a >>= λ _. b >>= λ _. c >>= λ _. Ok (whole part))
after_three whole part (Ok a) (Ok b) (Ok c) = refl
after_three whole part (Ok a) (Ok b) (Err reason) = refl
after_three whole part (Ok a) (Err reason) c = refl
after_three whole part (Err reason) b c = refl

pub gives_counted : (plan : Plan) (call : CallLine) (lanes : List (List CallLine)) (result : Result (Unit {0}) Stop) → Gives (λ _. lanes) result (call_more plan.lanes call)
    → Gives (λ _. record plan { lanes = lanes }) result (counted plan call)
unfolding counted
gives_counted plan call lanes result is =
    let whole : List (List CallLine) → Plan = λ lanes. record plan { lanes = lanes } in
    let same = after_three whole (add_call plan.lanes call) (at_most most_opening (items_of call))
    (at_most most_items (all_items plan.lanes + items_of call)) (at_most most_exported (all_sizes plan.lanes + size_of call)) in
    rw (← same) (gives_by whole result lanes (call_more plan.lanes call) is)
