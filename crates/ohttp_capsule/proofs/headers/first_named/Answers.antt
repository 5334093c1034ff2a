use Rattle.std.proofs.Common.{◌∙◌, bytes_eq, rules}
use Rattle.std.proofs.lemmas.Iterator.Search.{find_from_yields_List}
use Rattle.std.proofs.lemmas.Iterator.{YieldsList-from_slice}
use Rattle.ohttp_capsule.specs.Headers.{header}
use Rattle.ohttp_capsule.proofs.headers.first_named.Goals as goal

pub returns : goal.returns
returns c =
    c.copied.ensures
    ∙ find_from_yields_List (λ suite. bytes_eq (header c.args.key_id suite) c.args.bytes.now) _ _ _
    c.find.ensures.ran (YieldsList-from_slice c.args.suites.now cc) (λ x b q k. search rules)
