-- Lines of notes: what a line was read as, it prints, and what is printed is read back.
use Rattle.std.proofs.Common.{◌≡◌, ℕ, suc, ◌+◌, ◌-◌, ◌<◌, ◌≤◌, ◌^◌, ◌==◌, Bool, true, false, List, [], ◌∷◌, ◌++◌, length, map, take, codes, decimal, Result, Ok, refl, sym, ap, ◌∙◌, append_assoc, arith}
use Rattle.call_places.specs.declared.entries.Entry.{Entry}
use Rattle.field_text.specs.declared.reasons.Reason.{Reason}
use Rattle.field_text.specs.Cuts.{lines_of, pieces_of}
use Rattle.field_text.proofs.Cutting.{some_piece}
use Rattle.field_text.specs.Fields as fields
use Rattle.field_text.specs.Fields.{◌>>=◌, number, next}
use Rattle.batch_plans.specs.LiveText.{bit, tells_live, note_line}
use Rattle.result_lines.specs.declared.stamps.Stamps.TheVariants.{PlacesAndNotes}
use Rattle.result_lines.specs.declared.tables.NoteLine.{NoteLine}
use Rattle.result_lines.specs.Forms.{most_stamp}
use Rattle.result_lines.specs.Tables.{live_in, note_in, note_of_line, note_before, notes_from}
use Rattle.result_lines.specs.Places.{with_feed}
use Rattle.result_lines.specs.Printed.{IsLine}
use Rattle.result_lines.specs.PrintedLive.{note_told}
use Rattle.result_lines.proofs.FirstLines.{HasNoFeed}
use Rattle.result_lines.proofs.NumberLines.{IsPrinted, number_and, last_number, next_back, number_back, field_back, small_number, no_feed}
use Rattle.result_lines.proofs.PlainLines as plain

abbrev pub note_body : Entry → List ℕ
note_body e =
    decimal e.place.lane ++ (codes " " ++ (decimal e.place.call ++ (codes " " ++ (decimal (bit (tells_live e.step)) ++ (codes " " ++ decimal e.stamp)))))

note_text : (e : Entry) → note_line e ≡ with_feed (note_body e)
note_text e = simp append_assoc

bit_low : (live : Bool) → bit live ≤ 1
bit_low true = omega arith
bit_low false = omega arith

bit_is : (live : Bool) → (bit live == 1) ≡ live
bit_is true = refl
bit_is false = refl

-- whatever its numbers
pub note_line_is : (e : Entry) → IsLine (note_line e)
note_line_is e = record {
  body = note_body e;
  is = note_text e;
  one = no_feed (decimal e.place.lane) _ (plain.decimal_one e.place.lane)
      (no_feed (codes " " ++ decimal e.place.call) _ (spaced_one e.place.call)
      (no_feed (codes " " ++ decimal (bit (tells_live e.step))) _ (spaced_one (bit (tells_live e.step))) (spaced_one e.stamp)));
}
  where
    spaced_one : (n : ℕ) → HasNoFeed (codes " " ++ decimal n)
    spaced_one n = plain.both (codes " ") (decimal n) (plain.tested (codes " ") refl) (plain.decimal_one n)

abbrev then_live : ℕ × List (List ℕ) → Result (Bool × List (List ℕ)) Reason
then_live read = Ok (read.0 == 1, read.1)

live_back : {B : Type 0} (live : Bool) (more : List (List ℕ)) (then : Bool × List (List ℕ) → Result B Reason)
    → fields.◌>>=◌ (live_in (decimal (bit live) ∷ more)) then ≡ then (live, more)
unfolding next
live_back live more then =
    ap (λ (r : Result ℕ Reason). fields.◌>>=◌ (fields.◌>>=◌ (fields.◌>>=◌ r (λ v. Ok (v, more))) then_live) then)
    (number_back 0 1 (bit live) (omega arith) (bit_low live) (let low = bit_low live in omega arith))
    ∙ ap (λ (b : Bool). then (b, more)) (bit_is live)

pub note_back : (e : Entry) → e.place.lane ≤ 65535 → e.place.call ≤ 65535 → e.stamp ≤ most_stamp PlacesAndNotes → IsPrinted (note_line e) note_of_line (note_told e)
unfolding note_in note_line_is
note_back e lane_low call_low stamp_low =
    let lane = e.place.lane in
    let call = e.place.call in
    let live = tells_live e.step in
    let stamp = e.stamp in
    let stamp_small : stamp < 2 ^ 64 = omega (arith, stamp_low) in
    let bit_small : bit live < 2 ^ 64 = (let low = bit_low live in omega arith) in
    let pieces : pieces_of (note_body e) ≡ decimal lane ∷ decimal call ∷ decimal (bit live) ∷ decimal stamp ∷ [] =
    number_and lane _ (small_number lane lane_low)
    ∙ ap (λ (ps : List (List ℕ)). decimal lane ∷ ps)
    (number_and call _ (small_number call call_low)
    ∙ ap (λ (ps : List (List ℕ)). decimal call ∷ ps)
    (number_and (bit live) (decimal stamp) bit_small ∙ ap (λ (ps : List (List ℕ)). decimal (bit live) ∷ ps) (last_number stamp stamp_small))) in
    record {
      printed = note_line_is e;
      back =
          ap note_in pieces
          ∙ field_back lane (decimal call ∷ decimal (bit live) ∷ decimal stamp ∷ []) _ lane_low
          ∙ field_back call (decimal (bit live) ∷ decimal stamp ∷ []) _ call_low
          ∙ live_back live (decimal stamp ∷ []) _
          ∙ next_back (number 0 (most_stamp PlacesAndNotes)) (decimal stamp) [] stamp
          (λ read. Ok (record { lane = lane; call = call; live = live; stamp = read.0 }))
          (number_back 0 (most_stamp PlacesAndNotes) stamp (omega arith) stamp_low stamp_small);
    }

-- ---- the notes of a text

notes_cons : (line : List ℕ) (parts : List (List ℕ)) → (length parts == 0) ≡ false → notes_from (line ∷ parts) ≡ note_before (note_of_line line) (notes_from parts)
notes_cons line [] some = absurd cc
notes_cons line (next ∷ more) some = refl

-- a finished line that is a note
pub note_taken : (text line after : List ℕ) (note : NoteLine) → lines_of text ≡ line ∷ lines_of after → note_of_line line ≡ Ok note
    → notes_from (lines_of text) ≡ note ∷ notes_from (lines_of after)
note_taken text line after note cut read =
    ap notes_from cut
    ∙ notes_cons line (lines_of after) (some_piece (λ byte. byte == 10) after)
    ∙ ap (λ (r : Result NoteLine Reason). note_before r (notes_from (lines_of after))) read

-- one more of the first so many
pub note_goes_on : (entry : NoteLine → Entry) (n i : ℕ) (so_far : List Entry) (note : NoteLine) (old new : List NoteLine) (total : List Entry) → i < n → old ≡ note ∷ new
    → so_far ++ map entry (take (n - i) old) ≡ total → (so_far ++ entry note ∷ []) ++ map entry (take (n - (i + 1)) new) ≡ total
note_goes_on entry n i so_far note old new total lt is so =
    let more : n - i ≡ suc (n - (i + 1)) = omega arith in
    append_assoc so_far (entry note ∷ []) (map entry (take (n - (i + 1)) new))
    ∙ sym (ap (λ (k : ℕ). so_far ++ map entry (take k old)) more
    ∙ ap (λ (notes : List NoteLine). so_far ++ map entry (take (suc (n - (i + 1))) notes)) is)
    ∙ so
