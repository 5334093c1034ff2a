use Rattle.std.proofs.Common.{◌≡◌, IfOk, rules, subst}
use Rattle.hpke_context.specs.Contexts.{ContextView}
use Rattle.ohttp_capsule.specs.Requests.{context_of}
use Rattle.ohttp_capsule.proofs.setups.context_of.Goals as goal

pub returns : goal.returns
returns c =
    let is : c.new.result
    ≡ context_of c.args.role c.args.key_id c.args.suite c.args.shared_secret.now = search rules in
    subst (λ (v : ContextView). IfOk c.new-in-Ok.result (λ k. k ≡ v)) is c.new-in-Ok.ensures
