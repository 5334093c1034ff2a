use Rattle.std.proofs.Common.{◌-◌, ◌≡◌, arith, length, map, take}
use Rattle.std.proofs.lemmas.Grind.{common_steps}
use Rattle.std.proofs.lemmas.List.{take-map, length-map}
use Rattle.std.specs.String.{string_bytes}
use Rattle.batch_words.proofs.reading.beside_live.Goals as goal

pub returns-then-is_live-2 : goal.returns-then-is_live-2
returns-then-is_live-2 c =
    let words = c.args.words.now in
    let size : length (map string_bytes words) ≡ length words = length-map words string_bytes in
    let taken : take (length words - 1) (map string_bytes words)
    ≡ map string_bytes (take (length words - 1) words)
    = take-map string_bytes (length words - 1) words in
    grind (arith, common_steps)
