use Rattle.std.proofs.Common.{arith, ap, sym, ◌∙◌, ◌++◌}
use Rattle.std.proofs.lemmas.List.{take_all}
use Rattle.x25519_kem.proofs.exchanges.kem_context.Goals as goal

pub returns : goal.returns
returns c =
    let all = take_all 64 c.put-2.new.out (omega (arith, c.put-2.array_long)) in
    sym all ∙ c.put-2.ensures ∙ ap (λ t. t ++ c.args.public.now) c.put.ensures
