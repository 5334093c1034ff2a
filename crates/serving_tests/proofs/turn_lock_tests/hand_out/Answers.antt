use Rattle.std.proofs.Common.{All, length, sym, ap, ◌∙◌, subst, arith}
use Rattle.std.proofs.lemmas.List.Elements.{All-push}
use Rattle.serving_tests.specs.Passes.{IsNew}
use Rattle.serving_tests.proofs.Passes.{All-removed, All-at, length-removed}
use Rattle.serving_tests.proofs.turn_lock_tests.hand_out.Goals as goal

pub loop-pass-preserved : goal.loop-pass-preserved
loop-pass-preserved c =
    let i = c.loop-pass.invariant in
    let t = c.in-Some.ensures.taken in
    let new = IsNew c.args.lock.now.lock in
    let left = ap length t.2 in let one = length-removed c.loop-pass.list.passes t.0 c.in-Some.pass t.1 in (
      subst (All new) (sym t.2) (All-removed new c.loop-pass.list.passes t.0 i.0),
      subst (All new) (sym c.in_ok-push.ensures.items) (All-push new c.loop-pass.passes.items c.in-Some.pass i.1 (All-at new c.loop-pass.list.passes t.0 c.in-Some.pass i.0 t.1)),
      omega (arith, c.in_ok-push.ensures.len, i.2),
      c.in-Some.ensures.made ∙ i.3,
    )
