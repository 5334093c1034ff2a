use Rattle.std.proofs.Common.{List, length, ◌≤◌, ap, sym, subst, ◌∙◌, le_antisymm}
use Rattle.batch_plans.specs.declared.plan.KeyLine.{KeyLine}
use Rattle.batch_plans.specs.declared.plan.KeyLine.TheVariants.{Generate}
use Rattle.context_table.specs.SetUp.{IsKeySetUp}
use Rattle.context_table.proofs.KeyTables.{keys_by}
use Rattle.context_table.proofs.keys.key_table.Goals as goal

pub keys-preserved : goal.keys-preserved
keys-preserved g c =
    keys_by c.args.plan.now c.keys.number c.as_slice-line-items.result.now Generate
    c.in_ok-answered.answered.reply c.in_ok-answered.answered.key
    c.keys.replies.items c.keep.new.replies.items c.keys.slots.items c.keep.new.slots.items
    c.as_slice-line-items.ensures.items c.keys-test.true
    c.in_ok-answered.ensures.reply c.in_ok-answered.ensures.key
    c.in_ok-keep.ensures.replies c.in_ok-keep.ensures.slots c.keys.invariant

pub returns-clause-key_set_up : goal.returns-clause-key_set_up
returns-clause-key_set_up g c =
    let plan = c.args.plan.now in
    let so_far = c.keys.invariant in
    let end : c.keys.number ≤ length c.as_slice-line-items.result.now = c.keys.auto.number-end in
    let lines = ap (λ (ls : List KeyLine). length ls) c.as_slice-line-items.ensures.items in
    subst (IsKeySetUp plan) (sym c.from_vec.ensures.items) (record {
      key_count = so_far.reply_count ∙ le_antisymm end c.keys-test.false ∙ lines;
      key_replies = so_far.answered;
    })
