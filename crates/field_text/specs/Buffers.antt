-- What a buffer holds between a text and a sink.
use Rattle.std.specs.Prelude.{◌≡◌, ℕ, List, [], ◌++◌, Option}
use Rattle.field_text.specs.declared.printing.Printed.TheVariants.{Whole}
use Rattle.field_text.specs.declared.buffer.Buffer.{Buffer}
use Rattle.field_text.specs.Printing.{Prints}

-- nothing was put into a buffer
pub record IsFresh (out : Buffer) : Type 0 where
  pub whole : out.printed ≡ Whole
  pub empty : out.bytes.items ≡ []

-- since a sink stood at `start` a text was put: its front was printed, and its rest waits
pub record Holds
    {K : Type 0} (written : K → Option (List ℕ)) (faults : K → ℕ)
    (start now : K) (out : Buffer) (text : List ℕ) : Type 0 where
  pub front : List ℕ
  pub prints : Prints written faults start now out.printed front
  pub text_is : text ≡ front ++ out.bytes.items

-- a piece was put: whatever text a sink and a buffer held, they now hold that text and the piece
pub record Puts
    {K : Type 0} (written : K → Option (List ℕ)) (faults : K → ℕ)
    (old new : K) (out out_new : Buffer) (piece : List ℕ) : Type 0 where
  pub puts : (start : K) (text : List ℕ) →
      Holds written faults start old out text → Holds written faults start new out_new (text ++ piece)
