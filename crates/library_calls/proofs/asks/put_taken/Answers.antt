use Rattle.std.proofs.Common.{◌≡◌, ◌∙◌, List, ℕ, Ok, ap, sym, arith}
use Rattle.ohttp_capsule.specs.declared.asking.Asked.{Asked}
use Rattle.ohttp_capsule.specs.Replies.{taken}
use Rattle.library_calls.specs.Capsules.{asked_held}
use Rattle.library_calls.proofs.ClearSizes.{taken_size}
use Rattle.library_calls.proofs.Kept.{encrypts_held}
use Rattle.library_calls.proofs.asks.put_taken.Goals as goal

pub copy_from_slice-requires : goal.copy_from_slice-requires
copy_from_slice-requires c =
    let asked : Asked = asked_held c.args.asked.now in
    let response = c.args.response.now in
    let told : taken asked response ≡ Ok c.as_slice.result.now =
    ap (λ (a : Asked). taken a response) (sym c.in_ok-asked.ensures) ∙ sym (c.in_ok-reply.ensures.taken (λ e. cc))
    ∙ ap (λ (t : List ℕ). Ok t) (sym c.as_slice.ensures.items) in
    let size = taken_size asked response c.as_slice.result.now (encrypts_held c.args.asked.now c.requires.asked) told in
    omega (arith, size, c.requires.fits.1)

pub returns-clause-taken : goal.returns-clause-taken
returns-clause-taken c =
    ap (λ (a : Asked). taken a c.args.response.now) (sym c.in_ok-asked.ensures)
    ∙ sym (c.in_ok-reply.ensures.taken (λ e. cc))
    ∙ ap (λ (t : List ℕ). Ok t) (sym (c.copy_from_slice.ensures.after ∙ c.as_slice.ensures.items))
