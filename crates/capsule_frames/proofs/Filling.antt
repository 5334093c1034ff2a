-- Slots that each hold what becomes of their jobs.
use Rattle.std.proofs.Common.{◌≡◌, suc, List, [], ◌∷◌, length, map, Result, Ok, refl, sym, ap, subst, ◌∙◌, arith}
use Rattle.std.specs.Prelude.{IfOk}
use Rattle.capsule_frames.specs.declared.replies.CapsuleRefusal.{CapsuleRefusal}
use Rattle.capsule_frames.specs.declared.jobs.AnswerJob.{AnswerJob}
use Rattle.capsule_frames.specs.Results.{GivenView}
use Rattle.capsule_frames.specs.Orders.{AreGiven}

pub filled_are : {E : Type 0} (given_for : AnswerJob → Result GivenView CapsuleRefusal)
    (jobs : List AnswerJob) (slots : List (Result (Result GivenView CapsuleRefusal) E))
    (answers : List (Result GivenView CapsuleRefusal))
    → length slots ≡ length jobs → AreGiven given_for jobs slots → map Ok answers ≡ slots
    → answers ≡ map given_for jobs
filled_are given_for [] [] [] count given all = refl
filled_are given_for [] [] (a ∷ answers) count given all =
    absurd (omega (arith, ap length all))
filled_are given_for [] (s ∷ slots) answers count given all = absurd (omega arith)
filled_are given_for (j ∷ jobs) [] answers count given all = absurd (omega arith)
filled_are given_for (j ∷ jobs) (s ∷ slots) [] count given all =
    absurd (omega (arith, ap length all))
filled_are {E} given_for (j ∷ jobs) (s ∷ slots) (a ∷ answers) count given all =
    let stands : Result GivenView CapsuleRefusal → Result (Result GivenView CapsuleRefusal) E =
    λ x. Ok x in
    let head : stands a ≡ s = cc in
    let tail : map stands answers ≡ slots = cc in
    let first : IfOk s (λ now. now ≡ given_for j) = given 0 j s refl refl in
    let P : Result (Result GivenView CapsuleRefusal) E → Type 0 =
    λ r. IfOk r (λ now. now ≡ given_for j) in
    let is : a ≡ given_for j = subst P (sym head) first in
    ap (λ x. x ∷ answers) is
    ∙ ap (λ xs. given_for j ∷ xs)
    (filled_are given_for jobs slots answers (omega arith)
    (λ i job slot ej es. given (suc i) job slot ej es) tail)
