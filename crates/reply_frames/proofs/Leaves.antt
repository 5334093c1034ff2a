-- A text of which a front was put: what is left of it grows shorter, piece by piece.
use Rattle.std.proofs.Common.{◌≡◌, ℕ, List, [], ◌++◌, Option, refl, sym, ap, ◌∙◌, append-nil, append_assoc}
use Rattle.field_text.specs.Buffers.{Puts}
use Rattle.field_text.specs.declared.buffer.Buffer.{Buffer}
use Rattle.field_text.proofs.Held.{Puts-then, Puts-same, Puts-nothing}

-- of a whole text all but this rest was put
pub record Leaves {K : Type 0} (written : K → Option (List ℕ)) (faults : K → ℕ)
    (old now : K) (out out_now : Buffer) (whole rest : List ℕ) : Type 0 where
  pub front : List ℕ
  pub puts : Puts written faults old now out out_now front
  pub whole_is : front ++ rest ≡ whole

module _ {K : Type 0} {written : K → Option (List ℕ)} {faults : K → ℕ} where
  -- nothing was put yet
  pub Leaves-whole : {a : K} {out : Buffer} {whole : List ℕ}
      → Leaves written faults a a out out whole whole
  Leaves-whole = record { front = []; puts = Puts-nothing; whole_is = refl }

  -- the next piece was put
  pub Leaves-next : {a b c : K} {out next new : Buffer} {whole rest piece more : List ℕ}
      → rest ≡ piece ++ more → Leaves written faults a b out next whole rest
      → Puts written faults b c next new piece → Leaves written faults a c out new whole more
  Leaves-next {piece = piece} {more = more} is before puts = record {
    front = before.front ++ piece;
    puts = Puts-then before.puts puts;
    whole_is =
        append_assoc before.front piece more
        ∙ ap (λ (text : List ℕ). before.front ++ text) (sym is)
        ∙ before.whole_is;
  }

  -- nothing is left
  pub Leaves-nothing : {a b : K} {out new : Buffer} {whole rest : List ℕ}
      → rest ≡ [] → Leaves written faults a b out new whole rest
      → Puts written faults a b out new whole
  Leaves-nothing is before =
      let all = ap (λ (text : List ℕ). before.front ++ text) is ∙ append-nil before.front in
      Puts-same (sym all ∙ before.whole_is) before.puts
