use Rattle.std.proofs.Common.{◌<◌, ◌+◌, ℕ, length, take, subst, sym, ap, ◌∙◌, arith}
use Rattle.call_places.specs.declared.entries.Step.{Step}
use Rattle.journal_check.specs.Lives.{name_of}
use Rattle.journal_check.proofs.LiveNames.{AreBits, goes_on, fails, no_note, not_told, next_bits, changed_size, itself}
use Rattle.journal_check.proofs.lives.tell_lives_in.Goals as goal

pub returns-in_default : goal.returns-in_default
returns-in_default c =
    let notes = c.args.notes.now in
    let i = c.notes.entry-index in
    let low = c.notes-test.true in
    no_note notes i _ _ low (itself notes i _ low) (λ before. not_told notes before _ c.in_default.not-Note) c.notes.invariant.told

pub returns-then-not-is_same : goal.returns-then-not-is_same
returns-then-not-is_same c =
    let notes = c.args.notes.now in
    let i = c.notes.entry-index in
    let low = c.notes-test.true in
    let name : ℕ = c.in-Note.name in
    let size = c.notes.invariant.size in
    let named : name < length c.args.lives.now = subst (λ (s : Step). name_of s < length c.args.lives.now) c.in-Note.is (c.requires.names i _ low) in
    let few : name < length c.notes.lives = omega (arith, named, size) in
    fails notes c.notes.lives i _ name c.in-Note.act c.in-Note.live _ low (itself notes i _ low) c.in-Note.is few c.notes.invariant.bits
    (sym c.is_same.ensures ∙ c.if-not-is_same.true) c.notes.invariant.told

pub notes-preserved : goal.notes-preserved
notes-preserved c =
    let notes = c.args.notes.now in
    let i = c.notes.entry-index in
    let low = c.notes-test.true in
    let name : ℕ = c.in-Note.name in
    let size = c.notes.invariant.size in
    let named : name < length c.args.lives.now = subst (λ (s : Step). name_of s < length c.args.lives.now) c.in-Note.is (c.requires.names i _ low) in
    let few : name < length c.notes.lives = omega (arith, named, size) in
    let new = c.change.ensures in
    record {
      size = ap length new ∙ changed_size c.notes.lives name c.in-Note.act ∙ size;
      bits = subst (λ lives. AreBits lives (take (i + 1) notes)) (sym new)
          (next_bits c.notes.lives notes i _ name c.in-Note.act c.in-Note.live low (itself notes i _ low) c.in-Note.is c.notes.invariant.bits);
      told = goes_on notes c.notes.lives i _ name c.in-Note.act c.in-Note.live _ low (itself notes i _ low) c.in-Note.is few c.notes.invariant.bits
          (sym c.is_same.ensures ∙ c.if-not-is_same.false) c.notes.invariant.told;
    }
