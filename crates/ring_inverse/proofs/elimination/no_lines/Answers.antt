use Rattle.std.proofs.Common.{arith, ◌≡◌, ◌∙◌, ℕ, Option, None, ap, replicate}
use Rattle.std.proofs.lemmas.List.{replicate_more}
use Rattle.ring_inverse.specs.declared.lines.Line.{Line}
use Rattle.ring_inverse.proofs.elimination.no_lines.Goals as goal

pub loop-place-preserved : goal.loop-place-preserved
loop-place-preserved c =
    rw (c.in_ok-push.ensures.items, c.loop-place.invariant) (replicate_more c.loop-place._place None)

pub returns : goal.returns
returns c =
    let all : c.loop-place._place ≡ c.args.p = omega arith in
    c.loop-place.invariant ∙ ap (λ (n : ℕ). replicate {A = Option Line} n None) all
