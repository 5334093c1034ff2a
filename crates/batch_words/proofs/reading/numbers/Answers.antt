use Rattle.std.proofs.Common.{◌∙◌, arith, sym}
use Rattle.batch_words.proofs.Within.{decimal_within}
use Rattle.batch_words.proofs.reading.numbers.Goals as goal

pub overflow_cast-result : goal.overflow_cast-result
overflow_cast-result c =
    let within = decimal_within _ _ c.as_bytes-2.result.now c.in_ok-messages.messages (sym c.decimal_from_to-2.ensures ∙ c.in_ok-messages.was) in
    omega (arith, within.1)
