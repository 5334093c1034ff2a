-- What stands behind the line `end` changes nothing of what was read before it.
use Rattle.std.proofs.Common.{◌≡◌, ℕ, ◌+◌, ◌<◌, ◌≤◌, ◌==◌, nat_lt, Bool, true, false, cond, List, [], ◌∷◌, ◌++◌, length, codes, Result, Ok, Err, refl, sym, ap, subst, ◌∙◌, append_assoc, append-nil, arith}
use Rattle.std.specs.List.{slice_split, onto_first, join_with_byte}
use Rattle.std.proofs.lemmas.Bool.{eqb-true}
use Rattle.std.proofs.lemmas.Bool.Decides.{nat_tests}
use Rattle.std.proofs.lemmas.List.{append_cancel_right, length-append}
use Rattle.field_text.specs.declared.reasons.Reason.{Reason}
use Rattle.field_text.specs.declared.faults.BadBatch.{BadBatch}
use Rattle.field_text.specs.Cuts.{line_feed, lines_of}
use Rattle.field_text.specs.Lines.{Grammar, FrontText, line_after, judged, started, headed, front, is_nothing}
use Rattle.field_text.proofs.Cutting.{some_piece}
use Rattle.field_text.proofs.Spellings.{joined}
use Rattle.field_text.proofs.Judging.{judged_cons, headed_cons, within, is_within}
use Rattle.field_text.proofs.SpelledLines.{followed_ok, within_ok}

-- ---- cuts

abbrev is_separator : ℕ → Bool
is_separator byte = byte == line_feed

-- a text that goes on behind a separator has the parts of both
onto_more : (c : ℕ) (parts more : List (List ℕ)) → 0 < length parts → onto_first c (parts ++ more) ≡ onto_first c parts ++ more
onto_more c [] more some = absurd (omega arith)
onto_more c (part ∷ parts) more some = refl

some_parts : (p : ℕ → Bool) (text : List ℕ) → 0 < length (slice_split p text)
some_parts p text = let some = some_piece p text in grind (arith, nat_tests)

cut_more : (p : ℕ → Bool) (front : List ℕ) (c : ℕ) (rest : List ℕ) → p c ≡ true → slice_split p (front ++ c ∷ rest) ≡ slice_split p front ++ slice_split p rest
cut_more p [] c rest is = rw is refl
cut_more p (x ∷ xs) c rest is =
    let more = slice_split p rest in
    elim (p x) as (λ (b : Bool). cond b ([] ∷ slice_split p (xs ++ c ∷ rest)) (onto_first x (slice_split p (xs ++ c ∷ rest))) ≡ cond b ([] ∷ slice_split p xs) (onto_first x (slice_split p xs)) ++ more) [
      | true ↦ ap (λ (parts : List (List ℕ)). [] ∷ parts) (cut_more p xs c rest is)
      | false ↦ ap (onto_first x) (cut_more p xs c rest is) ∙ onto_more x (slice_split p xs) more (some_parts p xs)
    ]

-- the lines of a text whose front ends with a line feed
pub lines_more : (front rest : List ℕ) → lines_of ((front ++ codes "\n") ++ rest) ≡ lines_of front ++ lines_of rest
lines_more front rest = ap lines_of (append_assoc front (codes "\n") rest) ∙ cut_more is_separator front 10 rest refl

-- behind the first part there is a text of the others
record IsBehind (p : ℕ → Bool) (parts : List (List ℕ)) : Type 0 where
  text : List ℕ
  is : slice_split p text ≡ parts

onto_parts : (c : ℕ) (parts : List (List ℕ)) (part : List ℕ) (more : List (List ℕ)) → 0 < length parts → onto_first c parts ≡ part ∷ more
    → (first : List ℕ) × (parts ≡ first ∷ more)
onto_parts c [] part more some e = absurd (omega arith)
onto_parts c (first ∷ parts) part more some e = let same : parts ≡ more = cc in (first, ap (λ (rest : List (List ℕ)). first ∷ rest) same)

behind : (p : ℕ → Bool) (text part : List ℕ) (more : List (List ℕ)) → slice_split p text ≡ part ∷ more → 0 < length more → IsBehind p more
behind p [] part more e some = let none : [] ≡ more = cc in absurd (omega (arith, ap length none))
behind p (c ∷ cs) part more e some = go (p c) e (λ first is. behind p cs first more is some)
  where
    go : (b : Bool) → cond b ([] ∷ slice_split p cs) (onto_first c (slice_split p cs)) ≡ part ∷ more → ((first : List ℕ) → slice_split p cs ≡ first ∷ more → IsBehind p more) → IsBehind p more
    go true e next = record { text = cs; is = cc }
    go false e next = let found = onto_parts c (slice_split p cs) part more (some_parts p cs) e in next found.0 found.1

-- the last parts of a text are those of a text
pub lines_back : (text : List ℕ) (before parts : List (List ℕ)) → lines_of text ≡ before ++ parts → 0 < length parts → lines_of (join_with_byte line_feed parts) ≡ parts
lines_back text [] parts e some = ap (λ (parts : List (List ℕ)). lines_of (join_with_byte line_feed parts)) (sym e) ∙ ap lines_of (joined line_feed text) ∙ e
lines_back text (line ∷ before) parts e some =
    let rest = behind is_separator text line (before ++ parts) e (omega (arith, length-append before parts)) in
    lines_back rest.text before parts rest.is some

-- ---- lines

-- the lines up to `end`, and the same answer whatever lines stand behind them
record IsParted {P : Type 0} (judge : List (List ℕ) → Result (FrontText P) BadBatch) (found : FrontText P) (lines : List (List ℕ)) : Type 0 where
  before : List (List ℕ)
  parts : lines ≡ before ++ found.rest
  some : 0 < length found.rest
  again : (rest : List (List ℕ)) → 0 < length rest → judge (before ++ rest) ≡ Ok (record found { rest = rest })

not_none : (lines : List (List ℕ)) → 0 < length lines → (length lines == 0) ≡ false
not_none lines some = grind (arith, nat_tests)

judged_parted : {P W : Type 0} (g : Grammar P W) (n : ℕ) (plan : P) (found : FrontText P) (lines : List (List ℕ)) → judged g n plan lines ≡ Ok found → IsParted (judged g n plan) found lines
unfolding judged
judged_parted g n plan found [] e = absurd cc
judged_parted g n plan found (line ∷ []) e = absurd cc
judged_parted {P} g n plan found (line ∷ next ∷ rest) e =
    followed_ok n (next ∷ rest) (line_after g plan line) _ found _
    (λ new read further.
    let tail = judged_parted g (n + 1) new found (next ∷ rest) further in
    record {
      before = line ∷ tail.before;
      parts = ap (λ (lines : List (List ℕ)). line ∷ lines) tail.parts;
      some = tail.some;
      again = λ rest some.
          judged_cons g n plan line (tail.before ++ rest) (not_none (tail.before ++ rest) (omega (arith, length-append tail.before rest)))
          ∙ rw read (tail.again rest some);
    })
    (λ new read same.
    subst (λ (found : FrontText P). IsParted (judged g n plan) found (line ∷ next ∷ rest)) same record {
      before = line ∷ [];
      parts = refl;
      some = omega arith;
      again = λ rest some. judged_cons g n plan line rest (not_none rest some) ∙ rw read refl;
    })
    e

started_parted : {P W : Type 0} (g : Grammar P W) (line : List ℕ) (lines : List (List ℕ)) (found : FrontText P) (read : Result P Reason) → g.header line ≡ read
    → started g lines read ≡ Ok found → IsParted (headed g) found (line ∷ lines)
started_parted g line lines found (Err reason) is e = absurd cc
started_parted g line lines found (Ok plan) is e =
    let tail = judged_parted g 2 plan found lines e in
    record {
      before = line ∷ tail.before;
      parts = ap (λ (lines : List (List ℕ)). line ∷ lines) tail.parts;
      some = tail.some;
      again = λ rest some.
          headed_cons g line (tail.before ++ rest) (not_none (tail.before ++ rest) (omega (arith, length-append tail.before rest)))
          ∙ rw is (tail.again rest some);
    }

headed_parted : {P W : Type 0} (g : Grammar P W) (found : FrontText P) (lines : List (List ℕ)) → headed g lines ≡ Ok found → IsParted (headed g) found lines
unfolding headed
headed_parted g found [] e = absurd cc
headed_parted g found (line ∷ []) e = absurd cc
headed_parted g found (line ∷ next ∷ more) e = started_parted g line (next ∷ more) found (g.header line) refl e

-- ---- texts

-- a text up to a line feed that was read whole is read the same before another text
pub front_goes_on : {P W : Type 0} (g : Grammar P W) (most : ℕ) (text rest : List ℕ) (found : FrontText P) → front g most (text ++ codes "\n") ≡ Ok found
    → found.rest ≡ [] ∷ [] → length ((text ++ codes "\n") ++ rest) ≤ most → front g most ((text ++ codes "\n") ++ rest) ≡ Ok (record found { rest = lines_of rest })
unfolding front
front_goes_on g most text rest found e nothing small =
    let whole = text ++ codes "\n" in
    let read = headed_parted g found (lines_of whole) (within_ok (nat_lt most (length whole)) (headed g (lines_of whole)) found e) in
    let alone : lines_of whole ≡ lines_of text ++ [] ∷ [] = ap lines_of (sym (append-nil whole)) ∙ lines_more text [] in
    let same : read.before ++ [] ∷ [] ≡ lines_of text ++ [] ∷ [] = ap (λ (rest : List (List ℕ)). read.before ++ rest) (sym nothing) ∙ sym read.parts ∙ alone in
    let before : read.before ≡ lines_of text = append_cancel_right read.before (lines_of text) ([] ∷ []) same in
    within g most (whole ++ rest) small
    ∙ ap (headed g) (lines_more text rest ∙ ap (λ (lines : List (List ℕ)). lines ++ lines_of rest) (sym before))
    ∙ read.again (lines_of rest) (some_parts is_separator rest)

-- a front that was read is read the same alone
pub front_alone : {P W : Type 0} (g : Grammar P W) (most : ℕ) (text : List ℕ) (found : FrontText P)
    → front g most ((text ++ codes "\n") ++ join_with_byte line_feed found.rest) ≡ Ok found
    → front g most (text ++ codes "\n") ≡ Ok (record found { rest = [] ∷ [] })
unfolding front
front_alone g most text found e =
    let after = join_with_byte line_feed found.rest in
    let whole = (text ++ codes "\n") ++ after in
    let read = headed_parted g found (lines_of whole) (within_ok (nat_lt most (length whole)) (headed g (lines_of whole)) found e) in
    let rest : lines_of after ≡ found.rest = lines_back whole read.before found.rest read.parts read.some in
    let same : read.before ++ found.rest ≡ lines_of text ++ found.rest =
    sym read.parts ∙ lines_more text after ∙ ap (λ (rest : List (List ℕ)). lines_of text ++ rest) rest in
    let before : read.before ≡ lines_of text = append_cancel_right read.before (lines_of text) found.rest same in
    let alone : lines_of (text ++ codes "\n") ≡ lines_of text ++ [] ∷ [] = ap lines_of (sym (append-nil (text ++ codes "\n"))) ∙ lines_more text [] in
    let small : length (text ++ codes "\n") ≤ most = omega (arith, is_within g most whole found e, length-append (text ++ codes "\n") after) in
    within g most (text ++ codes "\n") small
    ∙ ap (headed g) (alone ∙ ap (λ (lines : List (List ℕ)). lines ++ [] ∷ []) (sym before))
    ∙ read.again ([] ∷ []) (omega arith)

-- no byte stands behind a front that is the whole text
pub nothing_behind : {P W : Type 0} (g : Grammar P W) (most : ℕ) (text : List ℕ) (found : FrontText P) → front g most text ≡ Ok found → is_nothing found.rest ≡ true
    → found.rest ≡ [] ∷ []
unfolding front
nothing_behind g most text found e nothing =
    let read = headed_parted g found (lines_of text) (within_ok (nat_lt most (length text)) (headed g (lines_of text)) found e) in
    only found.rest read.some nothing
  where
    only : (rest : List (List ℕ)) → 0 < length rest → is_nothing rest ≡ true → rest ≡ [] ∷ []
    only [] some nothing = absurd (omega arith)
    only ([] ∷ []) some nothing = refl
    only ((byte ∷ bytes) ∷ []) some nothing = absurd (omega (arith, eqb-true (length (byte ∷ bytes)) 0 nothing))
    only (first ∷ next ∷ more) some nothing = absurd cc
