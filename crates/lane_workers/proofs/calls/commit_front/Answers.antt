use Rattle.std.proofs.Common.{◌≡◌, List, length, drop, ap, ◌∙◌, subst, arith}
use Rattle.std.proofs.lemmas.List.{take-append-le, take_all, length-append, length-drop}
use Rattle.call_places.specs.declared.entries.Step.{Step}
use Rattle.hpke_context.specs.Contexts.{cipher_of}
use Rattle.context_books.proofs.EntryNumbers.{length-steps_from}
use Rattle.context_books.proofs.Items.{length-unseals}
use Rattle.context_books.specs.Openings.{unseals}
use Rattle.shared_context.specs.Calls.{HasCommitted}
use Rattle.lane_workers.proofs.calls.commit_front.Goals as goal

pub returns : goal.returns
returns g c =
    let view = c.args.opening.shared.now.context in
    let pool = c.args.opening.pool.now in
    let items = c.args.opening.items.now in
    let done = c.commit.ensures in
    let steps = c.commit.new.steps in
    let rest = drop (length items) c.args.steps.now in
    let count : length steps ≡ length items = ap length done.steps
    ∙ length-steps_from (cipher_of view) _ (unseals pool items) ∙ length-unseals pool items in
    record {
      committed = subst (λ (ss : List Step). HasCommitted c.args.pass c.commit.result.2 c.args.seat
          c.commit.result.3 c.args.opening.call ss c.commit.result.0) done.steps done.committed;
      steps = take-append-le (length items) steps rest (omega arith)
          ∙ take_all (length items) steps (omega arith) ∙ done.steps;
      room = omega (
        arith,
        length-append steps rest,
        length-drop (length items) c.args.steps.now,
        c.requires.steps,
      );
      missed = done.missed;
      checks = done.checks.1;
    }
