-- Pieces of a text that are put one after another.
use Rattle.std.proofs.Common.{ℕ, List, ◌++◌, Option}
use Rattle.field_text.specs.Buffers.{Puts}
use Rattle.field_text.specs.declared.buffer.Buffer.{Buffer}
use Rattle.field_text.proofs.Held.{Puts-then}

infixl 10 ◌⨾◌
pub ◌⨾◌ : {K : Type 0} {written : K → Option (List ℕ)} {faults : K → ℕ}
    {a b c : K} {out next new : Buffer} {xs ys : List ℕ}
    → Puts written faults a b out next xs → Puts written faults b c next new ys
    → Puts written faults a c out new (xs ++ ys)
first ⨾ second = Puts-then first second
