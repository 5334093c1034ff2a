use Rattle.std.proofs.Common.{ℤ, List, length, sym, subst}
use Rattle.ring_core.specs.Bounds.{IsWithin}
use Rattle.sntrup_core.proofs.Masks.{within_padded}
use Rattle.sntrup_core.proofs.choosing.padded.Goals as goal

pub returns-clause-small : goal.returns-clause-small
returns-clause-small c =
    let P : List ℤ → Type 0 = λ xs. IsWithin 1 xs in
    within_padded c.copy_from_slice.new.self (length c.args.list.now) 1024 (subst P (sym c.copy_from_slice.ensures.after) c.requires.small)
