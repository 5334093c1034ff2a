use Rattle.std.proofs.Common.{◌≡◌, ◌+◌, ◌-◌, ℕ, length, subst, arith}
use Rattle.std.proofs.lemmas.List.{length-set}
use Rattle.journal_check.specs.Links.{AreFirsts}
use Rattle.journal_check.proofs.Linked.{next_more, none_behind}
use Rattle.journal_check.proofs.links.link_places.Goals as goal

pub marks-init : goal.marks-init
marks-init c = record {
  firsts_are = c.requires.firsts;
  nexts_are = λ k at high is. none_behind c.args.marks.now c.args.nexts.now (length c.args.marks.now) k at (let size = c.requires.size in omega arith) high is;
  size = c.requires.size;
}

pub link_place-requires-clause-firsts : goal.link_place-requires-clause-firsts
link_place-requires-clause-firsts c =
    let some = c.marks-test.true in
    let same : c.marks.i ≡ c.marks.i - 1 + 1 = omega arith in
    subst (λ (k : ℕ). AreFirsts c.args.marks.now k c.marks.firsts) same c.marks.invariant.firsts_are

pub marks-preserved : goal.marks-preserved
marks-preserved c =
    let i = c.marks.i - 1 in
    let some = c.marks-test.true in
    record {
      firsts_are = c.link_place.ensures.firsts;
      nexts_are = next_more c.args.marks.now c.marks.nexts i c.link_place.result c.link_place.ensures.next
          (λ k at high is. c.marks.invariant.nexts_are k at (omega arith) is);
      size = rw length-set c.marks.invariant.size;
    }

pub returns : goal.returns
returns c =
    let end : c.marks.i ≡ 0 = omega arith in
    record {
      firsts_are = subst (λ (k : ℕ). AreFirsts c.args.marks.now k c.marks.firsts) end c.marks.invariant.firsts_are;
      nexts_are = λ i at is. c.marks.invariant.nexts_are i at (omega arith) is;
    }
