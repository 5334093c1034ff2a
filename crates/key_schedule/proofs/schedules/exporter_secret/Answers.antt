use Rattle.std.proofs.Common.{◌≡◌, ◌≤◌, ℕ, List, length, take, replicate, codes, ap, ◌∙◌, rules}
use Rattle.std.proofs.lemmas.List.{length-take-le}
use Rattle.hkdf_labelled.specs.Suites.{hash_size}
use Rattle.hkdf_labelled.specs.Labels.{labeled_expand}
use Rattle.key_schedule.proofs.schedules.exporter_secret.Goals as goal

pub returns : goal.returns
returns c =
    let suite = c.args.suite.now in
    let expanded = λ (secret : List ℕ). labeled_expand suite secret (codes "exp") c.args.context.now in
    let fits : c.size.result ≤ 64 = search rules in
    let room = take c.size.result (replicate 64 0) in
    let size : length room ≡ hash_size suite.kdf = length-take-le c.size.result (replicate 64 0) fits ∙ c.size.ensures in
    c.from_slice.ensures
    ∙ c.labeled_expand_into.ensures
    ∙ ap (λ secret. expanded secret (length room)) c.as_slice.ensures
    ∙ ap (expanded c.args.secret.now) size
