use Rattle.std.proofs.Common.{◌+◌, ℕ, zero, suc, All, length, sym, ap, subst, refl, arith}
use Rattle.std.proofs.lemmas.List.Elements.{All-nil, All-cons}
use Rattle.turn_lock.specs.Passes.{LockId, fresh_pass, fresh_from}
use Rattle.serving_tests.specs.Passes.{IsNew}
use Rattle.turn_lock.proofs.Dealing.{length-fresh_from}
use Rattle.serving_tests.proofs.turn_lock_tests.filled.Goals as goal

fresh_from-new : (lock : LockId) (k n : ℕ) → All (IsNew lock) (fresh_from lock k n)
fresh_from-new lock k zero = All-nil (IsNew lock)
fresh_from-new lock k (suc n) = All-cons (IsNew lock) (fresh_pass lock k) (fresh_from lock (k + 1) n) (refl, refl, refl) (fresh_from-new lock (k + 1) n)

pub hand_out-requires : goal.hand_out-requires
hand_out-requires g c =
    let lock = c.expect-lock.result.0.lock in
    let passes = simp c.expect-lock.ensures at c.new.ensures.passes in
    subst (All (IsNew lock)) (sym passes) (fresh_from-new lock 0 c.args.passes)

pub take_back-requires-clause-list : goal.take_back-requires-clause-list
take_back-requires-clause-list g c =
    let passes = simp c.expect-lock.ensures at c.new.ensures.passes in
    let count = simp c.expect-lock.ensures at c.new.ensures.count in
    let left = simp c.expect-new.ensures at c.hand_out.ensures.left in
    let new = simp c.expect-new.ensures at c.hand_out.ensures.new in
    let used = simp c.expect-used.ensures at c.add_all.ensures in
    let made = ap length passes in let all = length-fresh_from c.expect-lock.result.0.lock 0 c.args.passes in (
      left.0,
      omega (arith, left.1, new.1, used.1, count.1),
    )

pub close-requires-clause-all : goal.close-requires-clause-all
close-requires-clause-all g c =
    let passes = simp c.expect-lock.ensures at c.new.ensures.passes in
    let count = simp c.expect-lock.ensures at c.new.ensures.count in
    let new = simp c.expect-new.ensures at c.hand_out.ensures.new in
    let used = simp c.expect-used.ensures at c.add_all.ensures in
    let made = ap length passes in let all = length-fresh_from c.expect-lock.result.0.lock 0 c.args.passes in
    omega (arith, c.take_back.ensures.1, new.1, used.1, count.0)
