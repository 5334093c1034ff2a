use Rattle.std.proofs.Common.{◌≡◌, ◌-◌, length, take, drop, length-drop, sym, ap, ◌∙◌, arith}
use Rattle.std.proofs.lemmas.List.{take_all}
use Rattle.tag_checks.proofs.Tags.{compared}
use Rattle.tag_checks.proofs.comparing.ends_in.Goals as goal

pub returns : goal.returns
returns c =
    let bytes = c.args.bytes.now in
    let last = drop (length bytes - 16) bytes in
    let size : length last ≡ 16 = omega (arith, length-drop (length bytes - 16) bytes) in
    let whole : take 16 last ≡ last = take_all 16 last (omega (arith, size)) in
    let is = compared (take 16 last) c.args.tag.now (ap length whole ∙ size) (omega arith) in
    (λ t. sym whole ∙ is.0 t, λ e. is.1 (whole ∙ e))
