use Rattle.std.proofs.Common.{sym, ap, ◌∙◌, arith}
use Rattle.std.proofs.lemmas.Result.{IfOk-weaker}
use Rattle.result_lines.specs.Computed.{by_form}
use Rattle.journal_check.proofs.ToldSizes.{has_of}
use Rattle.journal_check.proofs.checking.Judge.verdict.Goals as goal

pub verdict_on-requires : goal.verdict_on-requires
verdict_on-requires c =
    let self = c.args.self.now in
    let has = has_of c.args.plan.now self.keys.now self.replies.now c.args.contexts.now self.text.now c.in-Ok.told c.in-Ok.ensures in
    record {
      within = c.requires.within;
      few = omega (arith, has.1, c.requires.within.contexts);
      lanes_size = has.0;
      contexts_size = c.requires.contexts_size ∙ sym has.1;
      served = tt;
    }

pub returns-in-Ok : goal.returns-in-Ok
returns-in-Ok c =
    IfOk-weaker c.verdict_on.result _ _ (λ verdict is. is ∙ ap (by_form c.args.plan.now c.args.contexts.now) (sym c.in-Ok.ensures)) c.verdict_on.ensures
