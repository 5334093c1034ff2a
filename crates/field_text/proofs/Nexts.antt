-- A call that reads the next piece answers for the pieces before it.
use Rattle.std.proofs.Common.{◌≡◌, ℕ, List, ◌∷◌, Result, Ok, Err, sym, ap, subst, ◌∙◌}
use Rattle.std.specs.Result.{IsErrAnd}
use Rattle.field_text.specs.declared.reasons.Reason.{Reason}
use Rattle.field_text.specs.declared.stop.Stop.{Stop}
use Rattle.field_text.specs.declared.stop.Stop.TheVariants.{OutOfMemory, Bad}
use Rattle.field_text.specs.Fields.{◌>>=◌, next}
use Rattle.field_text.specs.Readings.{Reads, Stops, Gives}

-- the piece is read as the field, and the pieces after it stay
next_piece : {A : Type 0} (field : List ℕ → Result A Reason) (pieces : List (List ℕ)) (piece : List ℕ) (rest : List (List ℕ)) (read : Result A Reason)
    → pieces ≡ piece ∷ rest → field piece ≡ read → next field pieces ≡ (read >>= (λ value. Ok (value, rest)))
unfolding next
next_piece field pieces piece rest read cut is = ap (next field) cut ∙ ap (λ read. read >>= (λ value. Ok (value, rest))) is

pub next_reads : {A : Type 0} (field : List ℕ → Result A Reason) (pieces : List (List ℕ)) (piece : List ℕ) (rest : List (List ℕ)) (result : Result A Reason)
    → pieces ≡ piece ∷ rest → Reads (λ value. value) result (field piece) → Reads (λ value. (value, rest)) result (next field pieces)
next_reads field pieces piece rest (Ok value) cut read = next_piece field pieces piece rest _ cut read
next_reads field pieces piece rest (Err reason) cut read = next_piece field pieces piece rest _ cut read

pub next_gives : {X A : Type 0} (view : X → A) (field : List ℕ → Result A Reason) (pieces : List (List ℕ)) (piece : List ℕ) (rest : List (List ℕ)) (result : Result X Stop)
    → pieces ≡ piece ∷ rest → Gives view result (field piece) → Gives (λ x. (view x, rest)) result (next field pieces)
next_gives view field pieces piece rest (Ok x) cut gives = next_piece field pieces piece rest _ cut gives
next_gives view field pieces piece rest (Err OutOfMemory) cut gives = tt
next_gives view field pieces piece rest (Err (Bad reason)) cut gives = next_piece field pieces piece rest _ cut gives

-- the reason that stopped a call is the definition's
pub stopped : {X Y : Type 0} (view : X → Y) (result : Result X Stop) (reason : Reason) (read : Result Y Reason)
    → IsErrAnd result (λ stop. stop ≡ Bad reason) → read ≡ Err reason → Gives view result read
stopped view (Ok x) reason read stops is = absurd stops
stopped view (Err stop) reason read stops is = subst (λ stop. Stops stop read) (sym stops) is
