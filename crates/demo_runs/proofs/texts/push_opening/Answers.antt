use Rattle.std.proofs.Common.{◌≡◌, ℕ, ◌++◌, List, codes, take, string_bytes, ap, ◌∙◌, append_assoc, arith}
use Rattle.std.proofs.lemmas.Slice.{pushed}
use Rattle.std.proofs.lemmas.List.{take_all}
use Rattle.std.specs.List.{flat_map}
use Rattle.demo_runs.specs.Texts.{item_text}
use Rattle.demo_runs.proofs.texts.push_opening.Goals as goal

pub returns : goal.returns
returns c =
    let start : List ℕ = string_bytes c.args.text.now in
    let word = pushed (codes "unsealall 1") (λ i. start) c.in_ok-push_str.was c.push_str.ensures.bytes in
    let items : List ℕ = flat_map item_text c.args.cts.now in
    let all : take c.ciphertexts.ct-index c.args.cts.now ≡ c.args.cts.now =
    take_all c.ciphertexts.ct-index c.args.cts.now (omega arith) in
    let end = pushed (codes "\n") c.ciphertexts.invariant c.in_ok-push_str-2.was c.push_str-2.ensures.bytes in
    end ∙ ap (λ (xs : List (List ℕ)). (string_bytes c.push_str.new.self ++ flat_map item_text xs) ++ codes "\n") all
    ∙ ap (λ (text : List ℕ). (text ++ items) ++ codes "\n") word
    ∙ append_assoc (start ++ codes "unsealall 1") items (codes "\n")
    ∙ append_assoc start (codes "unsealall 1") (items ++ codes "\n")
