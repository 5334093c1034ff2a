use Rattle.std.proofs.Common.{◌≡◌, ℤ, List, map, ap, subst, arith, ◌∙◌}
use Rattle.std.specs.Prelude.{IfOk}
use Rattle.std.proofs.lemmas.Grind.{common_steps}
use Rattle.ring_core.specs.Product.{centred, product}
use Rattle.sntrup_core.specs.Encryption.{e_of, shortened}
use Rattle.sntrup_core.proofs.Residues.{IsWithin-residues}
use Rattle.sntrup_core.proofs.encryption.decrypt.Goals as goal

pub from_vec-e-requires-clause-small : goal.from_vec-e-requires-clause-small
from_vec-e-requires-clause-small g c =
    IsWithin-residues c.as_slice.result.now c.in_ok-residues_3.field-0.items c.in_ok-residues_3.ensures

pub from_vec-e-requires-clause-count : goal.from_vec-e-requires-clause-count
from_vec-e-requires-clause-count g c = grind (arith, common_steps)

pub returns : goal.returns
returns g c =
    let set = g.S.Params.set in
    let ginv : List ℤ = c.args.secret.now.ginv in
    let e_is : c.from_vec-e.result ≡ e_of set c.args.c.now c.args.secret.now.f =
    c.from_vec-e.ensures
    ∙ c.in_ok-residues_3.ensures
    ∙ ap (λ (t : List ℤ). map (λ z. centred 3 z) t) (c.as_slice.ensures.list ∙ c.in_ok-tripled.ensures)
    in
    let r_is : c.in_ok-r.r ≡ product 3 set.p (e_of set c.args.c.now c.args.secret.now.f) ginv = c.in_ok-r.ensures ∙ ap (λ (t : List ℤ). product 3 set.p t ginv) e_is in
    let P : List ℤ → Type 0 = λ t. IfOk c.shortened.result (λ list. list ≡ shortened set t) in
    subst P r_is c.shortened.ensures
