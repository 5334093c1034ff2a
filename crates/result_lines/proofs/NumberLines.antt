-- Lines of numbers: what a line was read as, it prints, and what is printed is read back.
use Rattle.std.proofs.Common.{◌≡◌, ℕ, ◌<◌, ◌≤◌, ◌^◌, ◌==◌, ◌&&◌, not, Bool, true, false, cond, List, [], ◌∷◌, ◌++◌, length, get_or, codes, decimal, Result, Ok, Err, refl, sym, ap, ◌∙◌, append_assoc, append-nil, inl, inr, arith}
use Rattle.std.specs.List.{list_all, All, join_with_byte}
use Rattle.std.specs.Str.{bytes_eq}
use Rattle.std.specs.Str.Parse.{AllDigits, digits_value}
use Rattle.std.specs.Char.{is_ascii_digit}
use Rattle.std.proofs.lemmas.Bool.{cases_lt}
use Rattle.std.proofs.lemmas.Bool.Decides.{nat_tests}
use Rattle.std.proofs.lemmas.Fmt.{digits_decimal, digits_value-decimal, decimal_nonempty, decimal_digit, first_decimal}
use Rattle.std.proofs.lemmas.List.Splits.{slice_split_at, slice_split_none}
use Rattle.std.proofs.lemmas.List.Elements.{All-cons, All-nil, All-append}
use Rattle.std.proofs.lemmas.Slice.Eq.{bytes_eq-Decides}
use Rattle.std.proofs.lemmas.Str.Parse.{numerals_by_value, tells_digits, digit_from_value}
use Rattle.field_text.proofs.SpelledLines.{no_piece}
use Rattle.call_places.specs.declared.entries.Mark.{Mark}
use Rattle.byte_strings.specs.Decimals.{is_decimal, is_from_to}
use Rattle.field_text.specs.declared.reasons.Reason.{Reason}
use Rattle.field_text.specs.declared.reasons.Reason.TheVariants.{Word, Fields, Number, Range}
use Rattle.field_text.specs.Cuts.{pieces_of}
use Rattle.field_text.specs.Fields as fields
use Rattle.field_text.specs.Fields.{◌>>=◌, number, next, exactly}
use Rattle.field_text.proofs.Spellings.{joined, step_ok, next_ok, exactly_ok, number_ok, ok_same}
use Rattle.batch_plans.specs.Limits.{most_opening}
use Rattle.batch_plans.specs.declared.replies.Batch.{Batch}
use Rattle.context_books.specs.Batches.{place}
use Rattle.context_books.specs.Histories.{mark}
use Rattle.batch_plans.specs.ReplyText.{mark_line, stamp_words}
use Rattle.batch_plans.specs.AnswersText.{guess_line}
use Rattle.result_lines.specs.declared.stamps.Stamps.{Stamps}
use Rattle.result_lines.specs.declared.stamps.Stamps.TheVariants.{Unprinted, Places, PlacesAndNotes}
use Rattle.result_lines.specs.Forms.{word_of, behind, batch_word, guess_in, coordinate, are_printed, most_stamp, mark_size, mark_in, guess_of_line, mark_of_line}
use Rattle.result_lines.specs.Places.{with_feed}
use Rattle.result_lines.specs.Printed.{IsLine, IsGuessWithin, IsPlaceWithin}
use Rattle.result_lines.proofs.FirstLines.{HasNoFeed}
use Rattle.result_lines.proofs.PlainLines.{tested}

-- ---- decimals

-- the digits of a number
pub digits_of : (n : ℕ) → n < 2 ^ 64 → AllDigits 10 (decimal n)
digits_of n small = digits_decimal (numerals_by_value (AllDigits 10) tells_digits) n small

ascii_digits : (text : List ℕ) → AllDigits 10 text → list_all is_ascii_digit text ≡ true
ascii_digits [] all = refl
ascii_digits (c ∷ cs) all =
    let range = digit_from_value c all.0 in
    let first : is_ascii_digit c ≡ true = grind (arith, nat_tests, range) in
    (λ i. first i && ascii_digits cs all.1 i)

-- digits have no byte below them
pub digits_without : (byte : ℕ) (text : List ℕ) → byte < 48 → AllDigits 10 text → All (λ b. (b == byte) ≡ false) text
digits_without byte [] low all = All-nil (λ b. (b == byte) ≡ false)
digits_without byte (c ∷ cs) low all =
    let range = digit_from_value c all.0 in
    let first : (c == byte) ≡ false = grind (arith, nat_tests, range) in
    All-cons (λ b. (b == byte) ≡ false) c cs first (digits_without byte cs low all.1)

plain : (text : List ℕ) → list_all is_ascii_digit text ≡ true → 0 < length text → (get_or text 0 0 ≡ 48 → length text ≡ 1) → is_decimal text ≡ true
plain [] all some first = absurd (omega arith)
plain (c ∷ []) all some first = grind arith
plain (c ∷ next ∷ more) all some first = step (c == 48) refl
  where
    step : (b : Bool) → (c == 48) ≡ b → (not (c == 48) && list_all is_ascii_digit (c ∷ next ∷ more)) ≡ true
    step true is = absurd (let same : c ≡ 48 = grind arith in let one = first same in omega arith)
    step false is = (λ i. not (is i) && all i)

-- a number is written without leading zeros
decimal_plain : (n : ℕ) → n < 2 ^ 64 → is_decimal (decimal n) ≡ true
decimal_plain n small =
    plain (decimal n) (ascii_digits (decimal n) (digits_of n small)) (decimal_nonempty n small)
    (λ zero. elim (cases_lt 0 n) [
      | inl some ↦ absurd (let first = first_decimal n some small in omega arith)
      | inr none ↦ ap length (decimal_digit n (omega arith))
    ])

-- a number is read back
pub number_back : (low high n : ℕ) → low ≤ n → n ≤ high → n < 2 ^ 64 → number low high (decimal n) ≡ Ok n
number_back low high n least most small =
    let value : digits_value 10 (decimal n) ≡ n = digits_value-decimal (numerals_by_value (AllDigits 10) tells_digits) n small in
    let fits : is_from_to low high n ≡ true = grind (arith, nat_tests) in
    ap (λ (b : Bool). cond (not b) (Err Number) (cond (is_from_to low high (digits_value 10 (decimal n))) (Ok (digits_value 10 (decimal n))) (Err Range))) (decimal_plain n small)
    ∙ ap (λ (v : ℕ). cond (is_from_to low high v) (Ok v) (Err Range)) value
    ∙ ap (λ (b : Bool). cond b (Ok n) (Err Range)) fits

-- ---- pieces

-- a piece and a space before others
pub piece_and : (piece rest : List ℕ) → All (λ b. (b == 32) ≡ false) piece → pieces_of (piece ++ (32 ∷ rest)) ≡ piece ∷ pieces_of rest
piece_and piece rest one = slice_split_at (λ byte. byte == 32) piece 32 rest one refl

pub last_piece : (piece : List ℕ) → All (λ b. (b == 32) ≡ false) piece → pieces_of piece ≡ piece ∷ []
last_piece piece one = slice_split_none (λ byte. byte == 32) piece one

pub number_and : (n : ℕ) (rest : List ℕ) → n < 2 ^ 64 → pieces_of (decimal n ++ (32 ∷ rest)) ≡ decimal n ∷ pieces_of rest
number_and n rest small = piece_and (decimal n) rest (digits_without 32 (decimal n) (omega arith) (digits_of n small))

pub last_number : (n : ℕ) → n < 2 ^ 64 → pieces_of (decimal n) ≡ decimal n ∷ []
last_number n small = last_piece (decimal n) (digits_without 32 (decimal n) (omega arith) (digits_of n small))

-- the next piece was read
pub next_back : {A B : Type 0} (field : List ℕ → Result A Reason) (piece : List ℕ) (more : List (List ℕ)) (value : A) (then : A × List (List ℕ) → Result B Reason)
    → field piece ≡ Ok value → fields.◌>>=◌ (next field (piece ∷ more)) then ≡ then (value, more)
unfolding next
next_back field piece more value then is = ap (λ (r : Result _ Reason). fields.◌>>=◌ (fields.◌>>=◌ r (λ v. Ok (v, more))) then) is

-- the pieces so far
pieces_are : {text piece : List ℕ} {pieces rest more : List (List ℕ)} → pieces ≡ piece ∷ rest → text ≡ piece → more ≡ rest → pieces ≡ text ∷ more
pieces_are cut same rest = cut ∙ (λ i. sym same i ∷ sym rest i)

small_field : 65535 < 2 ^ 64
small_field = omega arith

-- a line is its pieces
line_is : (line : List ℕ) (pieces : List (List ℕ)) → pieces_of line ≡ pieces → line ≡ join_with_byte 32 pieces
line_is line pieces cut = sym (joined 32 line) ∙ ap (join_with_byte 32) cut

-- ---- `batch G M`

abbrev pub guess_body : Batch → List ℕ
guess_body g = codes "batch " ++ (decimal g.guess ++ (codes " " ++ decimal g.missed))

guess_text : (g : Batch) → guess_line g ≡ with_feed (guess_body g)
guess_text g = simp append_assoc

word_read : (word piece : List ℕ) (more rest : List (List ℕ))
    → behind (fields.◌>>=◌ (word_of word piece) (λ v. Ok (v, more))) ≡ Ok rest → (piece ≡ word) × (more ≡ rest)
word_read word piece more rest e = step (bytes_eq piece word) refl e
  where
    step : (b : Bool) → bytes_eq piece word ≡ b → behind (fields.◌>>=◌ (cond b (Ok piece) (Err Word)) (λ v. Ok (v, more))) ≡ Ok rest → (piece ≡ word) × (more ≡ rest)
    step true is e = ((bytes_eq-Decides piece word).0 is, ok_same more rest e)
    step false is e = absurd cc

batch_read : (pieces rest : List (List ℕ)) → batch_word pieces ≡ Ok rest → pieces ≡ codes "batch" ∷ rest
unfolding next
batch_read [] rest e = absurd cc
batch_read (piece ∷ more) rest e = let t = word_read (codes "batch") piece more rest e in (λ i. t.0 i ∷ t.1 i)

pub guess_read : (line : List ℕ) (g : Batch) → guess_of_line line ≡ Ok g → with_feed line ≡ guess_line g
unfolding guess_in
guess_read line g e =
    let counted = exactly_ok 3 (pieces_of line) _ g e in
    let word = step_ok (batch_word (pieces_of line)) _ g counted.1 in
    let behind_word : List (List ℕ) = word.0 in
    let first : pieces_of line ≡ codes "batch" ∷ behind_word = batch_read (pieces_of line) behind_word word.1 in
    next_ok (number 0 18446744073709551615) behind_word _ g _
    (λ a guess p1 c1 r1 e1.
    next_ok (number 0 most_opening) p1 _ g _
    (λ b missed p2 c2 r2 e2.
    let none : p2 ≡ [] = no_piece p2 (omega (arith, counted.0, ap length first, ap length c1, ap length c2)) in
    let guess_is = (number_ok 0 18446744073709551615 a guess (omega arith) r1).spelled in
    let missed_is = (number_ok 0 most_opening b missed (omega arith) r2).spelled in
    let pieces : pieces_of line ≡ codes "batch" ∷ decimal guess ∷ decimal missed ∷ [] =
    first ∙ ap (λ (ps : List (List ℕ)). codes "batch" ∷ ps) (pieces_are c1 guess_is (sym (pieces_are c2 missed_is (sym none)))) in
    let same : record { guess = guess; missed = missed } ≡ g = ok_same (record { guess = guess; missed = missed }) g e2 in
    ap with_feed (line_is line (codes "batch" ∷ decimal guess ∷ decimal missed ∷ []) pieces)
    ∙ sym (guess_text (record { guess = guess; missed = missed }))
    ∙ ap guess_line same) e1) word.2

batch_back : (rest : List (List ℕ)) → batch_word (codes "batch" ∷ rest) ≡ Ok rest
unfolding next
batch_back rest = refl

-- a line that was printed
pub record IsPrinted {A : Type 0} (line : List ℕ) (read : List ℕ → Result A Reason) (value : A) : Type 0 where
  pub printed : IsLine line
  pub back : read printed.body ≡ Ok value

pub decimal_one : (n : ℕ) → n < 2 ^ 64 → HasNoFeed (decimal n)
decimal_one n small = digits_without 10 (decimal n) (omega arith) (digits_of n small)

pub no_feed : (xs ys : List ℕ) → HasNoFeed xs → HasNoFeed ys → HasNoFeed (xs ++ ys)
no_feed xs ys a b = All-append (λ byte. (byte == 10) ≡ false) xs ys a b

-- a number behind a space
pub spaced : (n : ℕ) → n < 2 ^ 64 → HasNoFeed (codes " " ++ decimal n)
spaced n small = All-cons (λ byte. (byte == 10) ≡ false) 32 (decimal n) refl (decimal_one n small)

word_one : HasNoFeed (codes "batch ")
word_one = tested (codes "batch ") refl

-- the number that was missed, the guess, and both
abbrev then_missed : ℕ → ℕ × List (List ℕ) → Result Batch Reason
then_missed guess read = Ok (record { guess = guess; missed = read.0 })

abbrev then_guess : ℕ × List (List ℕ) → Result Batch Reason
then_guess read = fields.◌>>=◌ (next (number 0 most_opening) read.1) (then_missed read.0)

abbrev then_numbers : List (List ℕ) → Result Batch Reason
then_numbers pieces = fields.◌>>=◌ (next (number 0 18446744073709551615) pieces) then_guess

pub guess_back : (g : Batch) → IsGuessWithin g → IsPrinted (guess_line g) guess_of_line g
unfolding guess_in
guess_back g within =
    let few : g.missed < 2 ^ 64 = (let most = within.missed in omega arith) in
    let pieces : pieces_of (guess_body g) ≡ codes "batch" ∷ decimal g.guess ∷ decimal g.missed ∷ [] =
    ap (λ (ps : List (List ℕ)). codes "batch" ∷ ps)
    (number_and g.guess (decimal g.missed) within.guess ∙ ap (λ (ps : List (List ℕ)). decimal g.guess ∷ ps) (last_number g.missed few)) in
    record {
      printed = record {
        body = guess_body g;
        is = guess_text g;
        one = no_feed (codes "batch ") _ word_one (no_feed (decimal g.guess) _ (decimal_one g.guess within.guess) (spaced g.missed few));
      };
      back =
          ap guess_in pieces
          ∙ ap (λ (r : Result (List (List ℕ)) Reason). fields.◌>>=◌ r then_numbers) (batch_back (decimal g.guess ∷ decimal g.missed ∷ []))
          ∙ next_back (number 0 18446744073709551615) (decimal g.guess) (decimal g.missed ∷ []) g.guess then_guess
          (number_back 0 18446744073709551615 g.guess (omega arith) (let small = within.guess in omega arith) within.guess)
          ∙ next_back (number 0 most_opening) (decimal g.missed) [] g.missed (then_missed g.guess) (number_back 0 most_opening g.missed (omega arith) within.missed few);
    }

-- ---- the places of a journal

abbrev pub mark_body : Bool → Mark → List ℕ
mark_body stamps m =
    decimal m.place.lane ++ (codes " " ++ (decimal m.place.call ++ (codes " " ++ (decimal m.place.item ++ stamp_words stamps m.stamp))))

mark_text : (stamps : Bool) (m : Mark) → mark_line stamps m ≡ with_feed (mark_body stamps m)
mark_text stamps m = simp append_assoc

short_text : (lane call item stamp : ℕ)
    → with_feed (join_with_byte 32 (decimal lane ∷ decimal call ∷ decimal item ∷ [])) ≡ mark_line false (mark (place lane call item) stamp)
short_text lane call item stamp = simp append_assoc

long_text : (lane call item stamp : ℕ)
    → with_feed (join_with_byte 32 (decimal lane ∷ decimal call ∷ decimal item ∷ decimal stamp ∷ [])) ≡ mark_line true (mark (place lane call item) stamp)
long_text lane call item stamp = simp append_assoc

field_is : (piece : List ℕ) (value : ℕ) → number 0 65535 piece ≡ Ok value → decimal value ≡ piece
field_is piece value read = (number_ok 0 65535 piece value small_field read).spelled

-- a place with a stamp of at most so much
abbrev stamped_in : ℕ → List (List ℕ) → Result Mark Reason
stamped_in most pieces = do
  pieces ← exactly 4 pieces
  (lane, pieces) ← coordinate pieces
  (call, pieces) ← coordinate pieces
  (item, pieces) ← coordinate pieces
  (stamp, pieces) ← next (number 0 most) pieces
  Ok (mark (place lane call item) stamp)

stamped_read : (most : ℕ) (line : List ℕ) (m : Mark) → most < 2 ^ 64 → stamped_in most (pieces_of line) ≡ Ok m → with_feed line ≡ mark_line true m
stamped_read most line m small e =
    let counted = exactly_ok 4 (pieces_of line) _ m e in
    next_ok (number 0 65535) (pieces_of line) _ m _
    (λ a lane p1 c1 r1 e1.
    next_ok (number 0 65535) p1 _ m _
    (λ b call p2 c2 r2 e2.
    next_ok (number 0 65535) p2 _ m _
    (λ c item p3 c3 r3 e3.
    next_ok (number 0 most) p3 _ m _
    (λ d stamp p4 c4 r4 e4.
    let none : p4 ≡ [] = no_piece p4 (omega (arith, counted.0, ap length c1, ap length c2, ap length c3, ap length c4)) in
    let stamp_is : decimal stamp ≡ d = (number_ok 0 most d stamp small r4).spelled in
    let pieces : pieces_of line ≡ decimal lane ∷ decimal call ∷ decimal item ∷ decimal stamp ∷ [] =
    pieces_are c1 (field_is a lane r1)
    (sym (pieces_are c2 (field_is b call r2) (sym (pieces_are c3 (field_is c item r3) (sym (pieces_are c4 stamp_is (sym none))))))) in
    ap with_feed (line_is line (decimal lane ∷ decimal call ∷ decimal item ∷ decimal stamp ∷ []) pieces)
    ∙ long_text lane call item stamp
    ∙ ap (mark_line true) (ok_same (mark (place lane call item) stamp) m e4)) e3) e2) e1) counted.1

pub mark_read : (stamps : Stamps) (line : List ℕ) (m : Mark) → mark_of_line stamps line ≡ Ok m → with_feed line ≡ mark_line (are_printed stamps) m
unfolding mark_in
mark_read Unprinted line m e =
    let counted = exactly_ok 3 (pieces_of line) _ m e in
    next_ok (number 0 65535) (pieces_of line) _ m _
    (λ a lane p1 c1 r1 e1.
    next_ok (number 0 65535) p1 _ m _
    (λ b call p2 c2 r2 e2.
    next_ok (number 0 65535) p2 _ m _
    (λ c item p3 c3 r3 e3.
    let none : p3 ≡ [] = no_piece p3 (omega (arith, counted.0, ap length c1, ap length c2, ap length c3)) in
    let pieces : pieces_of line ≡ decimal lane ∷ decimal call ∷ decimal item ∷ [] =
    pieces_are c1 (field_is a lane r1) (sym (pieces_are c2 (field_is b call r2) (sym (pieces_are c3 (field_is c item r3) (sym none))))) in
    ap with_feed (line_is line (decimal lane ∷ decimal call ∷ decimal item ∷ []) pieces)
    ∙ short_text lane call item 0
    ∙ ap (mark_line false) (ok_same (mark (place lane call item) 0) m e3)) e2) e1) counted.1
mark_read Places line m e = stamped_read (most_stamp Places) line m (omega arith) e
mark_read PlacesAndNotes line m e = stamped_read (most_stamp PlacesAndNotes) line m (omega arith) e

pub small_number : (n : ℕ) → n ≤ 65535 → n < 2 ^ 64
small_number n low = omega arith

pub field_back : {B : Type 0} (n : ℕ) (more : List (List ℕ)) (then : ℕ × List (List ℕ) → Result B Reason) → n ≤ 65535
    → fields.◌>>=◌ (coordinate (decimal n ∷ more)) then ≡ then (n, more)
field_back n more then low =
    next_back (number 0 65535) (decimal n) more n then (number_back 0 65535 n (omega arith) low (small_number n low))

-- a place with a stamp of at most so much
stamped_back : (most : ℕ) (m : Mark) → most < 2 ^ 64 → m.place.lane ≤ 65535 → m.place.call ≤ 65535 → m.place.item ≤ 65535 → m.stamp ≤ most
    → IsPrinted (mark_line true m) (λ line. stamped_in most (pieces_of line)) m
stamped_back most m small lane_low call_low item_low stamp_low =
    let lane = m.place.lane in
    let call = m.place.call in
    let item = m.place.item in
    let stamp = m.stamp in
    let lane_small = small_number lane lane_low in
    let call_small = small_number call call_low in
    let item_small = small_number item item_low in
    let stamp_small : stamp < 2 ^ 64 = omega (arith, stamp_low, small) in
    let pieces : pieces_of (mark_body true m) ≡ decimal lane ∷ decimal call ∷ decimal item ∷ decimal stamp ∷ [] =
    number_and lane _ lane_small
    ∙ ap (λ (ps : List (List ℕ)). decimal lane ∷ ps)
    (number_and call _ call_small
    ∙ ap (λ (ps : List (List ℕ)). decimal call ∷ ps)
    (number_and item (decimal stamp) item_small ∙ ap (λ (ps : List (List ℕ)). decimal item ∷ ps) (last_number stamp stamp_small))) in
    record {
      printed = record {
        body = mark_body true m;
        is = mark_text true m;
        one = no_feed (decimal lane) _ (decimal_one lane lane_small)
            (no_feed (codes " " ++ decimal call) _ (spaced call call_small)
            (no_feed (codes " " ++ decimal item) _ (spaced item item_small) (spaced stamp stamp_small)));
      };
      back =
          ap (stamped_in most) pieces
          ∙ field_back lane (decimal call ∷ decimal item ∷ decimal stamp ∷ []) _ lane_low
          ∙ field_back call (decimal item ∷ decimal stamp ∷ []) _ call_low
          ∙ field_back item (decimal stamp ∷ []) _ item_low
          ∙ next_back (number 0 most) (decimal stamp) [] stamp (λ read. Ok (mark (place lane call item) read.0))
          (number_back 0 most stamp (omega arith) stamp_low stamp_small);
    }

pub mark_back : (stamps : Stamps) (m : Mark) → IsPlaceWithin stamps m → IsPrinted (mark_line (are_printed stamps) m) (mark_of_line stamps) m
unfolding mark_in
mark_back Unprinted m within =
    let lane = m.place.lane in
    let call = m.place.call in
    let item = m.place.item in
    let lane_small = small_number lane within.lane in
    let call_small = small_number call within.call in
    let item_small = small_number item within.item in
    let none : decimal item ++ [] ≡ decimal item = append-nil (decimal item) in
    let pieces : pieces_of (mark_body false m) ≡ decimal lane ∷ decimal call ∷ decimal item ∷ [] =
    number_and lane _ lane_small
    ∙ ap (λ (ps : List (List ℕ)). decimal lane ∷ ps)
    (number_and call _ call_small
    ∙ ap (λ (ps : List (List ℕ)). decimal call ∷ ps) (ap pieces_of none ∙ last_number item item_small)) in
    record {
      printed = record {
        body = mark_body false m;
        is = mark_text false m;
        one = no_feed (decimal lane) _ (decimal_one lane lane_small)
            (no_feed (codes " " ++ decimal call) _ (spaced call call_small)
            (no_feed (codes " " ++ decimal item) [] (spaced item item_small) (All-nil (λ byte. (byte == 10) ≡ false))));
      };
      back =
          ap (mark_in Unprinted) pieces
          ∙ field_back lane (decimal call ∷ decimal item ∷ []) _ within.lane
          ∙ field_back call (decimal item ∷ []) _ within.call
          ∙ field_back item [] _ within.item
          ∙ ap (λ (s : ℕ). Ok (mark m.place s)) (sym within.stamp);
    }
mark_back Places m within =
    let t = stamped_back (most_stamp Places) m (omega arith) within.lane within.call within.item within.stamp in
    record { printed = t.printed; back = t.back }
mark_back PlacesAndNotes m within =
    let t = stamped_back (most_stamp PlacesAndNotes) m (omega arith) within.lane within.call within.item within.stamp in
    record { printed = t.printed; back = t.back }

-- ---- lines that are no places

refused : {B : Type 0} (test : Bool) (word : List ℕ) (more : List (List ℕ)) (then : ℕ × List (List ℕ) → Result B Reason) → number 0 65535 word ≡ Err Number
    → (reason : Reason)
    × (fields.◌>>=◌ (cond test (Ok (word ∷ more)) (Err Fields)) (λ pieces. fields.◌>>=◌ (coordinate pieces) then) ≡ Err reason)
unfolding next
refused true word more then none =
    (Number, ap (λ (r : Result ℕ Reason). fields.◌>>=◌ (fields.◌>>=◌ r (λ v. Ok (v, more))) then) none)
refused false word more then none = (Fields, refl)

no_mark_in : (stamps : Stamps) (word : List ℕ) (more : List (List ℕ)) → number 0 65535 word ≡ Err Number
    → (reason : Reason) × (mark_in stamps (word ∷ more) ≡ Err reason)
unfolding mark_in
no_mark_in stamps word more none = refused (length (word ∷ more) == mark_size stamps) word more _ none

-- a line that begins with another word than a number is none
pub no_mark : (stamps : Stamps) (line word : List ℕ) (more : List (List ℕ)) → pieces_of line ≡ word ∷ more → number 0 65535 word ≡ Err Number
    → (reason : Reason) × (mark_of_line stamps line ≡ Err reason)
no_mark stamps line word more cut none =
    let t = no_mark_in stamps word more none in
    (t.0, ap (mark_in stamps) cut ∙ t.1)
