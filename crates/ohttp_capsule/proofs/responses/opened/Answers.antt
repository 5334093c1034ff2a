use Rattle.std.proofs.Common.{◌≡◌, Ok, Err, [], true, sym, ap, ◌∙◌, rules}
use Rattle.std.proofs.lemmas.Bool.{cond-true}
use Rattle.std.proofs.lemmas.List.{take_at}
use Rattle.hpke_aead.specs.Aeads.{tag_holds, clear}
use Rattle.hpke_aead.proofs.Tags.{tag_holds-told}
use Rattle.ohttp_capsule.specs.declared.faults.CapsuleFault.TheVariants.{Failed}
use Rattle.ohttp_capsule.proofs.responses.opened.Goals as goal

pub returns : goal.returns
returns c known =
    let key = c.args.key.now in
    let nonce = c.args.nonce.now in
    let ct = c.args.ct.now in
    let told : tag_holds key nonce [] ct ≡ c.check_tag.result =
    tag_holds-told key nonce [] ct c.check_tag.result c.check_tag.ensures.truth in
    let holds : tag_holds key nonce [] ct ≡ true = cc in
    let text : c.from_vec.result ≡ clear key nonce ct =
    c.from_vec.ensures.items ∙ take_at c.decrypt_into.new.out _ c.in_ok-text.text.len (search rules)
    ∙ c.decrypt_into.ensures in
    ap Ok text ∙ sym (cond-true (tag_holds key nonce [] ct) (Ok (clear key nonce ct)) (Err Failed) holds)
