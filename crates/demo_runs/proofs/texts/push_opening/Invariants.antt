use Rattle.std.proofs.Common.{◌≡◌, ◌++◌, string_bytes, take}
use Rattle.std.specs.List.{flat_map}
use Rattle.demo_runs.specs.Texts.{item_text}
use Rattle.demo_runs.proofs.texts.push_opening.Given as goal

abbrev pub invariant-ciphertexts : goal.invariant-ciphertexts
invariant-ciphertexts l =
    string_bytes l.text ≡ string_bytes l.initial.text ++ flat_map item_text (take l.ct-index l.cts)
