use Rattle.std.proofs.Common.{◌≡◌, ◌+◌, ◌≤◌, List, [], ◌∷◌, ◌++◌, ⊎_elim, sym, refl, ap, ◌∙◌, arith}
use Rattle.call_places.specs.declared.entries.Entry.{Entry}
use Rattle.call_places.specs.declared.entries.Step.TheVariants.{Sealed}
use Rattle.serving_tests.proofs.turn_lock_tests.add_one.Goals as goal

append-nil : {A : Type 0} (l : List A) → l ++ [] ≡ l
append-nil [] = refl
append-nil (x ∷ l) = ap (λ m. x ∷ m) (append-nil l)

pub returns : goal.returns
returns g c =
    let e = c.enter-held.ensures in
    let l = c.leave.ensures in
    let new : Entry = record { place = record { lane = c.number-lane.result; call = c.args.call; item = 0 }; stamp = 0; step = Sealed } in
    let was = ap (λ v. v.list.items) c.value.ensures.value ∙ sym e.seen in
    let next : c.leave.result.next_call ≤ c.args.call + 1 = ⊎_elim
    (λ same. let n = l.next_call [] (same ∙ was ∙ sym (append-nil c.enter-held.result.seen)) in omega (arith, n, e.pass.next_call))
    (λ more. let n = l.next_call (new ∷ []) (more ∙ ap (λ x. x ++ new ∷ []) was) in omega (arith, n))
    c.note.ensures in
    record { lock = (l.pass.0 ∙ e.pass.lock ∙ c.requires.lock, omega (arith, l.turns, e.pass.turns), next) }
