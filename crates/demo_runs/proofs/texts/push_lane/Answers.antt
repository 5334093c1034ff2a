use Rattle.std.proofs.Common.{List, ℕ, ◌==◌, ◌%◌, string_bytes, [], if◌then◌else◌}
use Rattle.std.specs.List.{flat_map}
use Rattle.demo_runs.specs.Texts.{seal_line, share_of}
use Rattle.demo_runs.proofs.Parts.{share_more, grows}
use Rattle.demo_runs.proofs.texts.push_lane.Goals as goal

pub messages-preserved : goal.messages-preserved
messages-preserved c =
    let j : ℕ = c.messages.j in
    let more : List ℕ = if j % c.args.lanes == c.args.lane then seal_line else [] in
    grows (string_bytes c.push_str.new.self) (flat_map (λ (j : ℕ). seal_line) (share_of j c.args.lanes c.args.lane)) more
    c.in_ok-push_seal.ensures c.messages.invariant (share_more j c.args.lanes c.args.lane)
