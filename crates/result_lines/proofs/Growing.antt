-- How what is told grows, part by part.
use Rattle.std.proofs.Common.{◌≡◌, ℕ, List, [], ◌∷◌, ◌++◌, map, Result, Ok, refl, sym, ap, ◌∙◌, append_assoc, append-nil}
use Rattle.std.specs.List.{concat}
use Rattle.std.proofs.lemmas.List.{map-append}
use Rattle.call_places.specs.declared.entries.Mark.{Mark}
use Rattle.batch_plans.specs.declared.replies.Batch.{Batch}
use Rattle.result_lines.specs.declared.told.GuessLine.{GuessLine}
use Rattle.result_lines.specs.Places.{◌>>=◌, LinesView, MarksFound}
use Rattle.result_lines.specs.Told.{ToldView, journal_ended}
use Rattle.result_lines.specs.Printed.{lines_told, guesses_told}
use Rattle.result_lines.proofs.FirstLines.{IsLeft, step_gives}

pub concat-append : (xs ys : List (List ℕ)) → concat (xs ++ ys) ≡ concat xs ++ concat ys
concat-append [] ys = refl
concat-append (x ∷ xs) ys = ap (λ (bytes : List ℕ). x ++ bytes) (concat-append xs ys) ∙ sym (append_assoc x (concat xs) (concat ys))

abbrev pub batches : List GuessLine → List Batch
batches guesses = map (λ (guess : GuessLine). guess.guess) guesses

-- ---- within a lane

-- these replies and guesses were told in addition, and this text is left
pub record Grew (told new : ToldView) (after : List ℕ) (more : List (List ℕ)) (kept : List Batch) : Type 0 where
  pub left : IsLeft new.lines after
  pub replies : lines_told new ≡ lines_told told ++ more
  pub guesses : batches new.guesses ≡ batches told.guesses ++ kept
  pub lanes : new.lanes ≡ told.lanes
  pub journals : new.journals ≡ told.journals

-- only the lines to come are others
pub moved : (told : ToldView) (lines : LinesView) (after : List ℕ) → IsLeft lines after → Grew told (record told { lines = lines }) after [] []
moved told lines after left = record {
  left = left;
  replies = sym (append-nil (lines_told told));
  guesses = sym (append-nil (batches told.guesses));
  lanes = refl;
  journals = refl;
}

pub stayed : (told : ToldView) (after : List ℕ) → IsLeft told.lines after → Grew told told after [] []
stayed told after left = moved told told.lines after left

two : {X : Type 0} (old a b : List X) (mid new : List X) → mid ≡ old ++ a → new ≡ mid ++ b → new ≡ old ++ (a ++ b)
two old a b mid new first second = second ∙ ap (λ xs. xs ++ b) first ∙ append_assoc old a b

pub grew_more : (told mid new : ToldView) (between after : List ℕ) (r1 r2 : List (List ℕ)) (g1 g2 : List Batch) → Grew told mid between r1 g1
    → Grew mid new after r2 g2 → Grew told new after (r1 ++ r2) (g1 ++ g2)
grew_more told mid new between after r1 r2 g1 g2 a b = record {
  left = b.left;
  replies = two (lines_told told) r1 r2 (lines_told mid) (lines_told new) a.replies b.replies;
  guesses = two (batches told.guesses) g1 g2 (batches mid.guesses) (batches new.guesses) a.guesses b.guesses;
  lanes = b.lanes ∙ a.lanes;
  journals = b.journals ∙ a.journals;
}

-- a piece of the text was read
pub record Took (told new : ToldView) (text piece : List ℕ) (lines : List (List ℕ)) (guesses : List Batch) : Type 0 where
  pub after : List ℕ
  pub parts : text ≡ piece ++ after
  pub grew : Grew told new after lines guesses

pub took_more : (told mid new : ToldView) (text p1 p2 : List ℕ) (r1 r2 : List (List ℕ)) (g1 g2 : List Batch) (a : Took told mid text p1 r1 g1)
    → Took mid new a.after p2 r2 g2 → Took told new text (p1 ++ p2) (r1 ++ r2) (g1 ++ g2)
took_more told mid new text p1 p2 r1 r2 g1 g2 a b = record {
  after = b.after;
  parts = a.parts ∙ ap (λ (bytes : List ℕ). p1 ++ bytes) b.parts ∙ sym (append_assoc p1 p2 b.after);
  grew = grew_more told mid new a.after b.after r1 r2 g1 g2 a.grew b.grew;
}

-- a step gives what tells these in addition
pub record Gave (step : Result ToldView ℕ) (told : ToldView) (after : List ℕ) (lines : List (List ℕ)) (guesses : List Batch) : Type 0 where
  pub new : ToldView
  pub is : step ≡ Ok new
  pub grew : Grew told new after lines guesses

pub gave_more : (step : Result ToldView ℕ) (next : ToldView → Result ToldView ℕ) (told : ToldView) (between after : List ℕ) (r1 r2 : List (List ℕ)) (g1 g2 : List Batch)
    → Gave step told between r1 g1 → ((mid : ToldView) → IsLeft mid.lines between → Gave (next mid) mid after r2 g2)
    → Gave (step >>= next) told after (r1 ++ r2) (g1 ++ g2)
gave_more step next told between after r1 r2 g1 g2 a further =
    let b = further a.new a.grew.left in
    record {
      new = b.new;
      is = step_gives step next a.new a.is ∙ b.is;
      grew = grew_more told a.new b.new between after r1 r2 g1 g2 a.grew b.grew;
    }

-- ---- whole lanes

-- these replies, and these lanes with their guesses, were told in addition
pub record GrewLanes (told new : ToldView) (after : List ℕ) (lines : List (List ℕ)) (guesses : List (List Batch)) : Type 0 where
  pub left : IsLeft new.lines after
  pub replies : lines_told new ≡ lines_told told ++ lines
  pub lanes : guesses_told new ≡ guesses_told told ++ guesses
  pub none : new.guesses ≡ []
  pub journals : new.journals ≡ told.journals

pub lanes_stayed : (told : ToldView) (after : List ℕ) → IsLeft told.lines after → told.guesses ≡ [] → GrewLanes told told after [] []
lanes_stayed told after left none = record {
  left = left;
  replies = sym (append-nil (lines_told told));
  lanes = sym (append-nil (guesses_told told));
  none = none;
  journals = refl;
}

pub lanes_more : (told mid new : ToldView) (between after : List ℕ) (r1 r2 : List (List ℕ)) (g1 g2 : List (List Batch)) → GrewLanes told mid between r1 g1
    → GrewLanes mid new after r2 g2 → GrewLanes told new after (r1 ++ r2) (g1 ++ g2)
lanes_more told mid new between after r1 r2 g1 g2 a b = record {
  left = b.left;
  replies = two (lines_told told) r1 r2 (lines_told mid) (lines_told new) a.replies b.replies;
  lanes = two (guesses_told told) g1 g2 (guesses_told mid) (guesses_told new) a.lanes b.lanes;
  none = b.none;
  journals = b.journals ∙ a.journals;
}

-- the lane that was read is behind the others
pub lane_grew : (told mid : ToldView) (after : List ℕ) (lines : List (List ℕ)) (guesses : List Batch) → told.guesses ≡ [] → Grew told mid after lines guesses
    → GrewLanes told (record mid { lanes = mid.lanes ++ mid.guesses ∷ []; guesses = [] }) after lines (guesses ∷ [])
lane_grew told mid after lines guesses none grew = record {
  left = grew.left;
  replies = grew.replies;
  lanes =
      map-append batches mid.lanes (mid.guesses ∷ [])
      ∙ (λ i. map batches (grew.lanes i) ++ ((grew.guesses ∙ ap (λ (gs : List GuessLine). batches gs ++ guesses) none) i ∷ []));
  none = refl;
  journals = grew.journals;
}

-- ---- journals

-- these journals were told in addition
pub record GrewJournals (told new : ToldView) (after : List ℕ) (more : List (List Mark)) : Type 0 where
  pub left : IsLeft new.lines after
  pub replies : lines_told new ≡ lines_told told
  pub lanes : guesses_told new ≡ guesses_told told
  pub journals : new.journals ≡ told.journals ++ more

pub journals_stayed : (told : ToldView) (after : List ℕ) → IsLeft told.lines after → GrewJournals told told after []
journals_stayed told after left = record { left = left; replies = refl; lanes = refl; journals = sym (append-nil told.journals) }

pub journals_more : (told mid new : ToldView) (between after : List ℕ) (a b : List (List Mark)) → GrewJournals told mid between a
    → GrewJournals mid new after b → GrewJournals told new after (a ++ b)
journals_more told mid new between after a b first second = record {
  left = second.left;
  replies = second.replies ∙ first.replies;
  lanes = second.lanes ∙ first.lanes;
  journals = two told.journals a b mid.journals new.journals first.journals second.journals;
}

-- a line and the places behind it were read
pub journal_grew : (told mid : ToldView) (between after : List ℕ) (found : MarksFound) → Grew told mid between [] [] → IsLeft found.lines after
    → GrewJournals told (journal_ended mid found) after (found.marks ∷ [])
journal_grew told mid between after found grew left = record {
  left = left;
  replies = grew.replies ∙ append-nil (lines_told told);
  lanes = ap (map batches) grew.lanes;
  journals = ap (λ (js : List (List Mark)). js ++ found.marks ∷ []) grew.journals;
}
