use Rattle.std.proofs.Common.{◌≡◌, ℕ, List, length, take, ap, sym, ◌∙◌, arith}
use Rattle.sntrup_kem.proofs.Choosing.{chosen_by, session_with, rejected_with}
use Rattle.sntrup_kem.proofs.encapsulation.chosen_key.Goals as goal

pub returns : goal.returns
returns c =
    let r_enc : List ℕ = c.args.again.now.r_enc in
    let rho : List ℕ = c.args.rho.now in
    let enc : List ℕ = c.args.enc.now in
    let mask : ℕ = c.mask_of-agrees.result in
    let count : length rho ≡ length c.as_slice-2.result.now = omega (arith, ap length c.as_slice-2.ensures.items) in
    chosen_by c.args.again.now.enc r_enc rho enc c.hash_session.result
    (λ same.
    let all : mask ≡ 255 = c.mask_of-agrees.ensures.all (c.difference.ensures.1 (c.as_slice.ensures.items ∙ same)) in
    session_with mask _ r_enc enc c.hash_session.result c.hash_session.ensures all
    (ap (take (length rho)) (c.choose.ensures.all all)
    ∙ ap (λ n. take n c.padded.result) count
    ∙ c.padded.ensures
    ∙ c.as_slice-2.ensures.items))
    (λ other.
    let none : mask ≡ 0 = c.mask_of-agrees.ensures.none (λ e. other (sym c.as_slice.ensures.items ∙ c.difference.ensures.0 e)) in
    rejected_with mask _ rho enc c.hash_session.result c.hash_session.ensures none
    (ap (take (length rho)) (c.choose.ensures.none none) ∙ c.padded-2.ensures))
