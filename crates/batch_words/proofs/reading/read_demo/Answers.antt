use Rattle.std.proofs.Common.{◌≡◌, false, codes, map, subst, [], ◌∷◌}
use Rattle.std.specs.Prelude.{IfNone}
use Rattle.std.specs.String.{string_bytes}
use Rattle.batch_words.specs.Parses.{are_operands}
use Rattle.batch_words.proofs.Demos.{demo_none}
use Rattle.batch_words.proofs.reading.read_demo.Goals as goal

pub returns-in-None : goal.returns-in-None
returns-in-None c =
    let seed = codes "seed" in
    let messages = codes "messages" in
    let lanes = codes "lanes" in
    let words = map string_bytes c.args.words.now in
    demo_none seed messages lanes words
    (subst (λ found. IfNone found (are_operands (seed ∷ messages ∷ lanes ∷ []) words ≡ false)) c.in-None.is c.in_ok-matches.ensures.none)
