use Rattle.std.proofs.Common.{◌<◌, length, get_or, arith}
use Rattle.std.proofs.lemmas.List.{get_or_default}
use Rattle.std.proofs.lemmas.List.Edits.{map_over_more}
use Rattle.rand_words.specs.Samples.{marked_zero}
use Rattle.rand_words.proofs.marks.mark_zero.Goals as goal

pub loop-i-preserved : goal.loop-i-preserved
loop-i-preserved c =
    let words = c.loop-i.words in
    let i = c.loop-i.i in
    let within : i < length words = omega arith in
    let word = get_or words i 0 in
    map_over_more marked_zero c.args.words.now words i word (omega arith) c.loop-i.invariant (get_or_default words i 0 word within)
