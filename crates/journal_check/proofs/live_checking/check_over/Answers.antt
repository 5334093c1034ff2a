use Rattle.std.proofs.Common.{◌∙◌}
use Rattle.std.proofs.lemmas.Result.{IfOk-weaker}
use Rattle.result_lines.proofs.FirstWrongLive.{first_wrong_live}
use Rattle.journal_check.specs.Served.{live_verdict_over}
use Rattle.journal_check.proofs.live_checking.check_over.Goals as goal

pub returns : goal.returns
returns g c =
    let plan = c.args.plan.now in
    let text = c.args.text.now in
    let setup = c.in_ok-setup.setup in
    let standing = c.deref_mut.ensures.value ∙ c.into_vec-contexts.ensures.items in
    let is_set_up = c.in_ok-setup.ensures.set_up in
    IfOk-weaker c.live_verdict.result _ _
    (λ verdict is. record {
      keys = setup.keys;
      contexts = setup.contexts;
      standing = setup.standing;
      set_up = is_set_up;
      is = (first_wrong_live plan setup.keys setup.contexts setup.standing text verdict c.requires.within is_set_up.standing_count).1
          (is ∙ (λ i. live_verdict_over plan (c.as_slice-keys.ensures.items i) (c.as_slice-replies.ensures.items i) (standing i) text));
    })
    c.live_verdict.ensures
