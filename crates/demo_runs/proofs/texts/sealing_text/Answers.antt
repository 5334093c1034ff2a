use Rattle.std.proofs.Common.{◌≡◌, ℕ, ◌++◌, List, codes, ap, ◌∙◌, append_assoc, arith}
use Rattle.std.proofs.lemmas.Slice.{pushed}
use Rattle.demo_runs.specs.Texts.{front_text, sealing_lane, sealing_lanes}
use Rattle.demo_runs.proofs.Parts.{lanes_more, grows}
use Rattle.demo_runs.proofs.texts.sealing_text.Goals as goal

pub lanes-preserved : goal.lanes-preserved
lanes-preserved c =
    let n : ℕ = c.lanes.lane in
    grows (front_text c.args.seed) (sealing_lanes c.args.messages c.args.lanes n)
    (sealing_lane c.args.messages c.args.lanes n)
    c.in_ok-push_lane.ensures c.lanes.invariant (lanes_more c.args.messages c.args.lanes n)

pub returns : goal.returns
returns c =
    let front : List ℕ = front_text c.args.seed in
    let lanes : ℕ → List ℕ = λ n. sealing_lanes c.args.messages c.args.lanes n in
    let end = pushed (codes "end\n") c.lanes.invariant c.in_ok-push_str.was c.push_str.ensures.bytes in
    let last : c.lanes.lane ≡ c.args.lanes = omega arith in
    end ∙ append_assoc front (lanes c.lanes.lane) (codes "end\n")
    ∙ ap (λ (n : ℕ). front ++ (lanes n ++ codes "end\n")) last
