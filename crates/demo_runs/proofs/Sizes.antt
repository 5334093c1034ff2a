-- How long the texts are, and how many messages the lanes have.
use Rattle.std.proofs.Common.{◌≡◌, ℕ, ◌+◌, ◌*◌, ◌≤◌, List, [], ◌∷◌, ap, ◌∙◌, ◌++◌, length, codes, refl, length-append, arith}
use Rattle.std.specs.Prelude.{sum_by}
use Rattle.std.specs.List.{flat_map}
use Rattle.hex.proofs.HexLemmas.{length-encode_with}
use Rattle.hex.specs.Hex.{lower_digits, encode_with}
use Rattle.std.proofs.lemmas.List.Sums.{sum_by-cons}
use Rattle.field_text.specs.Printing.{hex_text}
use Rattle.batch_plans.specs.Limits.{most_input}
use Rattle.demo_runs.specs.Texts.{rand_line, set_up_lines, seal_line, share_of, sealing_lane, item_text, opening_line}
use Rattle.demo_runs.specs.Ciphertexts.{AreCiphertexts}
use Rattle.demo_runs.proofs.HexFields.{hex_is}

length-seals : (js : List ℕ) → length (flat_map (λ j. seal_line) js) ≡ 138 * length js
length-seals [] = refl
length-seals (j ∷ js) = omega (arith, length-append seal_line (flat_map (λ j. seal_line) js), length-seals js)

pub length-lanes : (messages lanes : ℕ) (ls : List ℕ) → length (flat_map (sealing_lane messages lanes) ls)
    ≡ 5 * length ls + 138 * sum_by (λ lane. length (share_of messages lanes lane)) ls
length-lanes messages lanes [] = refl
length-lanes messages lanes (l ∷ ls) =
    let rest : List ℕ = flat_map (sealing_lane messages lanes) ls in
    let seals : List ℕ = flat_map (λ j. seal_line) (share_of messages lanes l) in
    omega (
      arith,
      length-append (codes "lane\n" ++ seals) rest,
      length-seals (share_of messages lanes l),
      sum_by-cons (λ lane. length (share_of messages lanes lane)) l ls,
      length-lanes messages lanes ls,
    )

pub length-front : (seed : ℕ) → length (rand_line seed ++ set_up_lines) ≡ 150
unfolding encode_with
length-front seed = refl

pub within_input : (front body : List ℕ) → length front ≡ 150 → length body ≤ 20000000
    → length (codes "hpkebatch 1\n" ++ ((front ++ body) ++ codes "end\n")) ≤ most_input
within_input front body size few =
    omega (arith, length-append (front ++ body) (codes "end\n"), length-append front body)

length-items : (cts : List (List ℕ)) → AreCiphertexts cts → length (flat_map item_text cts) ≡ 163 * length cts
length-items [] are = refl
length-items (ct ∷ cts) are =
    let size = are.0.size in
    let digits : length (hex_text ct) ≡ 160 =
    ap (λ (text : List ℕ). length text) (hex_is ct (omega arith)) ∙ (let e = length-encode_with lower_digits ct in omega arith) in
    omega (arith, length-append (codes " - " ++ hex_text ct) (flat_map item_text cts), length-items cts are.1)

pub length-line : (cts : List (List ℕ)) → AreCiphertexts cts → length (opening_line cts) ≡ 12 + 163 * length cts
length-line cts are = omega (arith, length-append (flat_map item_text cts) (codes "\n"), length-items cts are)
