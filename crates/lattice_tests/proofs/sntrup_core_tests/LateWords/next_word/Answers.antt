use Rattle.std.proofs.Common.{ℕ, ◌-◌, cond, nat_lt, ap}
use Rattle.lattice_tests.proofs.sntrup_core_tests.LateWords.next_word.Goals as goal

pub returns-else-self-clause-stays : goal.returns-else-self-clause-stays
returns-else-self-clause-stays c =
    let middle : ℕ = c.args.self.now.middle in
    ap {B = ℕ → ℕ} (λ (f : ℕ → ℕ) (i : ℕ). cond (nat_lt i middle) 536870912 (f (i - middle))) c.next_word-word.ensures.stays
