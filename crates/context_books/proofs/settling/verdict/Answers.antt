use Rattle.std.proofs.Common.{◌≡◌, refl}
use Rattle.hpke_context.specs.Contexts.{key_in, nonce_of}
use Rattle.context_books.proofs.OneMore.{holds_moved}
use Rattle.context_books.proofs.settling.verdict.Goals as goal

pub returns-clause-holds : goal.returns-clause-holds
returns-clause-holds c =
    let view = c.args.context.now in
    let key : key_in view.secrets.cipher ≡ key_in view.secrets.cipher = refl in
    let nonce : nonce_of view c.args.number ≡ nonce_of view c.args.number = refl in
    holds_moved key nonce c.of.ensures c.of-2.ensures c.holds_at.ensures.truth
