use Rattle.std.proofs.Common.{◌≡◌, ◌++◌, ℕ, List, length, take, drop, ap, ◌∙◌, arith}
use Rattle.std.proofs.lemmas.List.{take-append-le, take_all}
use Rattle.context_books.proofs.Columns.{counted_from_0}
use Rattle.context_books.proofs.counting.counts_of.Goals as goal

-- as many counts, written back
written : {X : Type 0} (len : ℕ) (old new : List X) → len ≡ length old → length new ≡ length old
    → take len (new ++ drop (length new) old) ≡ new
written len old new size same =
    take-append-le len new (drop (length new) old) (omega arith) ∙ take_all len new (omega arith)

pub returns : goal.returns
returns c = λ lines t.
    let old = c.in_ok-counts.counts.items in
    let new = c.count_lane.new.counts in
    let is = c.deref_mut.ensures.value in
    let size = c.count_lane.auto.counts ∙ ap length is in
    c.from_vec.ensures.items ∙ written c.in_ok-counts.counts.len old new c.in_ok-counts.counts.ok.0 size
    ∙ counted_from_0 lines c.args.contexts.now c.args.calls.now c.deref_mut.result.now new
    (is ∙ c.in_ok-counts.ensures) c.count_lane.auto.counts (c.count_lane.ensures lines t)
