use Rattle.std.proofs.Common.{◌≡◌, ◌≤◌, ◌+◌, ◌∙◌, length, true, true≢false, refl, sym, subst, rules}
use Rattle.hpke_aead.specs.declared.keys.AeadKey.{AeadKey}
use Rattle.library_calls.specs.Contexts.{recipient, Serves}
use Rattle.library_calls.specs.Messages.{FitsOpenAll, EachHolds, AllHold}
use Rattle.library_calls.proofs.messages.context_open_all.Goals as goal

pub returns-then-not-all_hold-clause-failed : goal.returns-then-not-all_hold-clause-failed
returns-then-not-all_hold-clause-failed c =
    let context = c.args.context.now in
    let aads = c.args.aads.now in
    let cts = c.args.cts.now in
    let fits : FitsOpenAll aads cts (length c.args.out.now) = search rules in
    let serves : Serves context recipient = c.in-Ok.ensures.ok.0 refl in
    let within : context.number + length cts ≤ context.limit = search rules in
    let wrong : ¬ AllHold context aads cts = λ all.
    let held = subst (λ (key : AeadKey). EachHolds key context.base_nonce context.number aads cts (length cts)) (sym c.in-Ok.ensures.key) all in
    let t : c.all_hold.result ≡ true = c.all_hold.ensures.1 held in
    true≢false (sym t ∙ c.if-not-all_hold.true) in
    (λ e. (fits, serves, within, wrong), λ all. refl)
