use Rattle.std.proofs.Common.{◌≡◌, ◌∙◌, ◌+◌, ◌<◌, ◌++◌, ℕ, List, [], ◌∷◌, ap, append_assoc, arith, drop, get_or, length, subst}
use Rattle.std.specs.Prelude.{All}
use Rattle.std.proofs.lemmas.Grind.{common_steps}
use Rattle.std.proofs.lemmas.List.{drop_more}
use Rattle.std.proofs.lemmas.List.Elements.{All-push}
use Rattle.capsule_frames.specs.Within.{IsLineWithin}
use Rattle.capsule_frames.specs.declared.lines.CapsuleLine.{CapsuleLine}
use Rattle.capsule_frames.specs.declared.lines.CapsuleLine.TheVariants.{Answer}
use Rattle.capsule_frames.specs.Orders.{IsJobWithin, jobs_from}
use Rattle.capsule_frames.proofs.Ordering.{job_of}
use Rattle.capsule_frames.proofs.jobs.jobs.Goals as goal
use Rattle.capsule_frames.proofs.jobs.jobs.Goals.{in-Ask, in-Answer+in_ok-push-in-Answer, in-Take}

-- the jobs of the lines from i on, where this line stands at i
jobs_at : (n i : ℕ) (lines : List CapsuleLine) (other line : CapsuleLine) → i < length lines → get_or lines i other ≡ line
    → jobs_from n (drop i lines) ≡ jobs_from n (line ∷ drop (i + 1) lines)
jobs_at n i lines other line within is =
    ap (jobs_from n) (drop_more lines i other within ∙ ap (λ one. one ∷ drop (i + 1) lines) is)

pub lines-preserved : goal.lines-preserved
lines-preserved c =
    let n = c.lines.asks in
    let i = c.lines.line-index in
    let lines = c.as_slice-lines.result.now in
    let known = c.lines.invariant in
    let plan = c.args.plan.now.plan in
    elim c.match-line.branch [
      | in-Ask w ↦
          let step : jobs_from n (drop i lines) ≡ jobs_from (n + 1) (drop (i + 1) lines) =
          jobs_at n i lines _ _ c.lines-test.true w.in-Ask.is in
          record { found = cc (step, known.found); within = rw w.jobs-is known.within; count = omega arith }
      | in-Answer+in_ok-push-in-Answer w ↦
          let line = w.in-Answer in
          let job = job_of n line.key line.id line.request line.nonce line.text in
          let step : jobs_from n (drop i lines) ≡ job ∷ jobs_from n (drop (i + 1) lines) =
          jobs_at n i lines _ _ c.lines-test.true line.is in
          let longer : w.push.new.self.items ≡ c.lines.jobs.items ++ job ∷ [] = w.in_ok-push-in-Answer.ensures.items in
          let again = append_assoc c.lines.jobs.items (job ∷ []) (jobs_from n (drop (i + 1) lines)) in
          let all : All (IsLineWithin plan.seed (length plan.pool)) lines = rw c.as_slice-lines.ensures.items c.requires.lines in
          let ok : IsLineWithin plan.seed (length plan.pool) (Answer line.key line.id line.request line.nonce line.text) =
          subst (IsLineWithin plan.seed (length plan.pool)) line.is (all i _ c.lines-test.true) in
          record {
            found = cc (step, known.found, longer, again);
            within = rw (w.jobs-is, longer) (All-push (IsJobWithin (length plan.pool)) c.lines.jobs.items job known.within
                (record { request = ok.2; nonce = ok.3; text = ok.4 }));
            count = omega arith;
          }
      | in-Take w ↦
          let step : jobs_from n (drop i lines) ≡ jobs_from n (drop (i + 1) lines) =
          jobs_at n i lines _ _ c.lines-test.true w.in-Take.is in
          record { found = cc (step, known.found); within = rw w.jobs-is known.within; count = omega arith }
    ]

pub returns-clause-jobs : goal.returns-clause-jobs
returns-clause-jobs c = grind (arith, common_steps)
