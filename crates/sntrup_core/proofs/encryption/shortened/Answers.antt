use Rattle.std.proofs.Common.{◌≡◌, ℕ, ◌-◌, ℤ, pos, List, ◌++◌, to_z, of_z, ap, sym, subst, arith, ◌∙◌, inl, inr}
use Rattle.std.specs.Prelude.{replicate}
use Rattle.std.specs.Int.{w8}
use Rattle.std.proofs.lemmas.Bool.{cases_eq}
use Rattle.std.proofs.lemmas.List.{take_at}
use Rattle.ring_core.specs.Bounds.{IsWithin}
use Rattle.ring_core.proofs.ElementLaws.{IsCentred-small}
use Rattle.sntrup_core.specs.Encryption.{ones}
use Rattle.sntrup_core.proofs.Decryption.{shortened_by}
use Rattle.sntrup_core.proofs.encryption.shortened.Goals as goal

pub choose_list-requires-clause-other_small : goal.choose_list-requires-clause-other_small
choose_list-requires-clause-other_small g c =
    subst (λ (xs : List ℤ). IsWithin 1 xs) (sym c.as_slice.ensures.list) (IsCentred-small g.S.Params.set.p _ c.as_slice.ensures.centred)

pub from_vec-requires-clause-small : goal.from_vec-requires-clause-small
from_vec-requires-clause-small g c =
    let P : List ℤ → Type 0 = λ xs. IsWithin 1 xs in
    let list : List ℤ = c.choose_list.new.list in
    let r_small : P c.as_slice.result.now =
    subst P (sym c.as_slice.ensures.list) (IsCentred-small g.S.Params.set.p _ c.as_slice.ensures.centred)
    in
    let small : P list =
    elim (cases_eq c.weight.result c.W-2.result) [
      | inl same ↦
          subst P (sym (c.choose_list.ensures.all (ap (λ z. to_z w8 (of_z w8 z)) (c.mask_of.ensures.all same)))) r_small
      | inr other ↦
          subst P (sym (c.choose_list.ensures.none (ap (λ z. to_z w8 (of_z w8 z)) (c.mask_of.ensures.none other)) ∙ c.deref_mut.ensures.value)) c.in_ok-list.ensures.small
    ]
    in
    subst P (sym (take_at list _ c.in_ok-list.list.len (omega arith))) small

pub returns : goal.returns
returns g c =
    let laws = g.S.Params in
    let w : ℕ = laws.set.w in
    let r : List ℤ = c.args.r.now in
    let w_is : c.W.result ≡ w = c.W.ensures ∙ laws.weight_is in
    let w2_is : c.W-2.result ≡ w = c.W-2.ensures ∙ laws.weight_is in
    let p_is : c.P.result ≡ laws.set.p = c.P.ensures ∙ laws.degree_is in
    let ones_is : c.in_ok-list.list.items ≡ ones laws.set =
    c.in_ok-list.ensures.list
    ∙ ap (λ n. replicate n (pos 1) ++ replicate (c.P.result - n) (pos 0)) w_is
    ∙ ap (λ n. replicate w (pos 1) ++ replicate (n - w) (pos 0)) p_is
    in
    let list : List ℤ = c.choose_list.new.list in
    c.from_vec.ensures
    ∙ take_at list _ c.in_ok-list.list.len (omega arith)
    ∙ shortened_by laws.set r list
    (λ same. c.choose_list.ensures.all (ap (λ z. to_z w8 (of_z w8 z)) (c.mask_of.ensures.all (c.weight.ensures ∙ same ∙ sym w2_is)))
    ∙ c.as_slice.ensures.list)
    (λ other. c.choose_list.ensures.none (ap (λ z. to_z w8 (of_z w8 z)) (c.mask_of.ensures.none (λ t. other (sym c.weight.ensures ∙ t ∙ w2_is))))
    ∙ c.deref_mut.ensures.value
    ∙ ones_is)
