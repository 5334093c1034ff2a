use Rattle.std.proofs.Common.{◌≡◌, ℕ, [], ap, ◌∙◌, arith}
use Rattle.std.specs.Prelude.{replicate}
use Rattle.std.proofs.lemmas.List.{replicate_more}
use Rattle.journal_check.proofs.dealing.empty_piles.Goals as goal

pub piles-preserved : goal.piles-preserved
piles-preserved g c =
    rw (c.in_ok-push.ensures.items, c.piles.invariant, c.new.ensures.items) (replicate_more c.piles._pile [])

pub returns : goal.returns
returns g c =
    let end : c.piles._pile ≡ c.args.count = omega arith in
    c.piles.invariant ∙ ap (λ (n : ℕ). replicate n []) end
