-- A text that was read is its first line, the lines that were read after it, and `end`.
use Rattle.std.proofs.Common.{◌≡◌, ℕ, ◌+◌, nat_lt, Bool, true, false, cond, List, [], ◌∷◌, ◌++◌, length, codes, Option, Some, None, Result, Ok, Err, refl, sym, ap, subst, ◌∙◌, append_assoc, arith}
use Rattle.std.specs.List.{join_with_byte}
use Rattle.std.specs.Str.{bytes_eq}
use Rattle.std.proofs.lemmas.Bool.{eqb-true}
use Rattle.std.proofs.lemmas.Slice.Eq.{bytes_eq-Decides}
use Rattle.field_text.specs.declared.reasons.Reason.{Reason}
use Rattle.field_text.specs.declared.reasons.Reason.TheVariants as reasons
use Rattle.field_text.specs.declared.faults.BadBatch.{BadBatch}
use Rattle.field_text.specs.declared.lines.Next.{Next}
use Rattle.field_text.specs.declared.lines.Next.TheVariants.{More, Last}
use Rattle.field_text.specs.Cuts.{line_feed, space, lines_of, pieces_of, line_text}
use Rattle.field_text.specs.Lines.{Grammar, FrontText, line_word, more, with_word, line_after, bad, followed, judged, started, headed, front, is_nothing, whole}
use Rattle.field_text.proofs.Spellings.{joined, ok_same, step_ok, choice_ok, next_ok, exactly_ok}

-- How a relation of two plans and a text goes on, line by line: it holds where no line is added, and
-- with one line more before the others.
pub record IsSpelling {P W : Type 0} (g : Grammar P W) (R : P → P → List ℕ → Type 0) : Type 0 where
  pub none : (plan : P) → R plan plan []
  pub line : (word : W) (plan new final : P) (piece : List ℕ) (pieces : List (List ℕ)) (text : List ℕ)
      → g.word plan piece ≡ Ok word → g.may_stand word plan ≡ true → g.with_line plan word pieces ≡ Ok new → R new final text
      → R plan final (line_text (piece ∷ pieces) ++ text)

-- ---- one line

-- the parts of a line that was read
record IsRead {P W : Type 0} (g : Grammar P W) (plan : P) (line : List ℕ) (answer : Next × P) : Type 0 where
  word : Option W
  piece : List ℕ
  pieces : List (List ℕ)
  parts : line ++ codes "\n" ≡ line_text (piece ∷ pieces)
  named : line_word g plan piece ≡ Ok word
  reads : with_word g plan pieces word ≡ Ok answer

line_read : {P W : Type 0} (g : Grammar P W) (plan : P) (line : List ℕ) (answer : Next × P) → line_after g plan line ≡ Ok answer → IsRead g plan line answer
unfolding line_after
line_read g plan line answer e =
    next_ok (line_word g plan) (pieces_of line) _ answer _
    (λ piece word pieces cut read e. record {
      word = word;
      piece = piece;
      pieces = pieces;
      parts = ap (λ (line : List ℕ). line ++ codes "\n") (sym (joined space line) ∙ ap (join_with_byte space) cut);
      named = read;
      reads = e;
    })
    e

more_after : {P : Type 0} (read : Result P Reason) (new : P) → more read ≡ Ok (More, new) → read ≡ Ok new
more_after {P} (Ok plan) new e = ap (λ (answer : Next × P). Ok answer.1) (ok_same _ _ e)
more_after (Err reason) new e = absurd cc

more_not_last : {P : Type 0} (read : Result P Reason) (new : P) → more read ≡ Ok (Last, new) → ⊥
more_not_last {P} (Ok plan) new e = cc (ap (λ (answer : Next × P). answer.0) (ok_same _ _ e))
more_not_last (Err reason) new e = cc

-- a line that others may follow
record IsMore {P W : Type 0} (g : Grammar P W) (plan new : P) (pieces : List (List ℕ)) (word : Option W) : Type 0 where
  value : W
  is : word ≡ Some value
  stands : g.may_stand value plan ≡ true
  reads : g.with_line plan value pieces ≡ Ok new

more_ok : {P W : Type 0} (g : Grammar P W) (plan new : P) (pieces : List (List ℕ)) (word : Option W) → with_word g plan pieces word ≡ Ok (More, new)
    → IsMore g plan new pieces word
more_ok {P} g plan new pieces None e =
    let counted = exactly_ok 0 pieces _ (More, new) e in
    absurd (cc (ap (λ (answer : Next × P). answer.0) (ok_same _ _ counted.1)))
more_ok g plan new pieces (Some word) e =
    choice_ok (g.may_stand word plan) (more (g.with_line plan word pieces)) (Err reasons.Order) (More, new) _
    (λ stands ok. record { value = word; is = refl; stands = stands; reads = more_after (g.with_line plan word pieces) new ok })
    (λ _ err. absurd cc) e

-- no pieces
pub no_piece : (pieces : List (List ℕ)) → length pieces ≡ 0 → pieces ≡ []
no_piece [] none = refl
no_piece (piece ∷ more) none = absurd (omega arith)

-- the last line
last_ok : {P W : Type 0} (g : Grammar P W) (plan new : P) (pieces : List (List ℕ)) (word : Option W) → with_word g plan pieces word ≡ Ok (Last, new)
    → (word ≡ None) × (pieces ≡ []) × (plan ≡ new)
last_ok {P} g plan new pieces None e =
    let counted = exactly_ok 0 pieces _ (Last, new) e in
    (refl, no_piece pieces counted.0, ap (λ (answer : Next × P). answer.1) (ok_same _ _ counted.1))
last_ok g plan new pieces (Some word) e =
    choice_ok (g.may_stand word plan) (more (g.with_line plan word pieces)) (Err reasons.Order) (Last, new) _
    (λ _ ok. absurd (more_not_last (g.with_line plan word pieces) new ok)) (λ _ err. absurd cc) e

-- a word other than `end`
word_read : {P W : Type 0} (g : Grammar P W) (plan : P) (piece : List ℕ) (word : W) → line_word g plan piece ≡ Ok (Some word) → g.word plan piece ≡ Ok word
word_read g plan piece word e =
    choice_ok (bytes_eq piece (codes "end")) (Ok None) _ (Some word) _ (λ _ ok. absurd cc)
    (λ _ rest. let found = step_ok (g.word plan piece) _ (Some word) rest in let same : found.0 ≡ word = cc in found.1 ∙ ap (λ w. Ok w) same)
    e

end_read : {P W : Type 0} (g : Grammar P W) (plan : P) (piece : List ℕ) → line_word g plan piece ≡ Ok None → piece ≡ codes "end"
end_read g plan piece e =
    choice_ok (bytes_eq piece (codes "end")) (Ok None) _ None _ (λ same _. (bytes_eq-Decides piece (codes "end")).0 same)
    (λ _ rest. let found = step_ok (g.word plan piece) _ None rest in absurd cc)
    e

-- ---- all lines up to `end`

-- how a front came out of a line
pub followed_ok : {P : Type 0} (n : ℕ) (rest : List (List ℕ)) (read : Result (Next × P) Reason) (further : P → Result (FrontText P) BadBatch) (found : FrontText P) (Q : Type 0)
    → ((new : P) → read ≡ Ok (More, new) → further new ≡ Ok found → Q)
    → ((new : P) → read ≡ Ok (Last, new) → record { plan = new; lines = n; rest = rest } ≡ found → Q)
    → followed n rest read further ≡ Ok found → Q
followed_ok n rest (Err reason) further found Q more last e = absurd cc
followed_ok n rest (Ok (More, plan)) further found Q more last e = more plan refl e
followed_ok n rest (Ok (Last, plan)) further found Q more last e = last plan refl cc

-- the text of the lines up to `end`, and what they add
record IsBody {P : Type 0} (R : P → P → List ℕ → Type 0) (plan : P) (found : FrontText P) (lines : List (List ℕ)) : Type 0 where
  text : List ℕ
  adds : R plan found.plan text
  parts : join_with_byte line_feed lines ≡ (text ++ codes "end\n") ++ join_with_byte line_feed found.rest

judged_ok : {P W : Type 0} (g : Grammar P W) (R : P → P → List ℕ → Type 0) → IsSpelling g R → (n : ℕ) (plan : P) (found : FrontText P) (lines : List (List ℕ))
    → judged g n plan lines ≡ Ok found → IsBody R plan found lines
unfolding judged
judged_ok g R s n plan found [] e = absurd cc
judged_ok g R s n plan found (line ∷ []) e = absurd cc
judged_ok {P} g R s n plan found (line ∷ next ∷ rest) e =
    let left = join_with_byte line_feed (next ∷ rest) in
    followed_ok n (next ∷ rest) (line_after g plan line) _ found _
    (λ new read further.
    let l = line_read g plan line (More, new) read in
    let m = more_ok g plan new l.pieces l.word l.reads in
    let tail = judged_ok g R s (n + 1) new found (next ∷ rest) further in
    let first = line_text (l.piece ∷ l.pieces) in
    let after = join_with_byte line_feed found.rest in
    record {
      text = first ++ tail.text;
      adds = s.line m.value plan new found.plan l.piece l.pieces tail.text (word_read g plan l.piece m.value (l.named ∙ ap (λ w. Ok w) m.is)) m.stands m.reads tail.adds;
      parts =
          sym (append_assoc line (codes "\n") left)
          ∙ ap (λ (text : List ℕ). text ++ left) l.parts
          ∙ ap (λ (text : List ℕ). first ++ text) tail.parts
          ∙ sym (append_assoc first (tail.text ++ codes "end\n") after)
          ∙ ap (λ (text : List ℕ). text ++ after) (sym (append_assoc first tail.text (codes "end\n")));
    })
    (λ new read same.
    let l = line_read g plan line (Last, new) read in
    let last = last_ok g plan new l.pieces l.word l.reads in
    let end_is : l.piece ≡ codes "end" = end_read g plan l.piece (l.named ∙ ap (λ w. Ok w) last.0) in
    let IsEnd : FrontText P → Type 0 = λ found. IsBody R plan found (line ∷ next ∷ rest) in
    subst IsEnd same record {
      text = [];
      adds = subst (λ (p : P). R plan p []) last.2 (s.none plan);
      parts =
          sym (append_assoc line (codes "\n") left)
          ∙ ap (λ (text : List ℕ). text ++ left) l.parts
          ∙ ap (λ (pieces : List (List ℕ)). line_text (l.piece ∷ pieces) ++ left) last.1
          ∙ ap (λ (piece : List ℕ). line_text (piece ∷ []) ++ left) end_is;
    })
    e

-- ---- the whole text

-- the first line of a text, the text of the lines between it and `end`, and what stands behind `end`
pub record IsText {P W : Type 0} (g : Grammar P W) (R : P → P → List ℕ → Type 0) (plan : P) (text rest : List ℕ) : Type 0 where
  pub header : List ℕ
  pub start : P
  pub body : List ℕ
  pub first : g.header header ≡ Ok start
  pub adds : R start plan body
  pub parts : text ≡ (((header ++ codes "\n") ++ body) ++ codes "end\n") ++ rest

-- no byte behind the last line feed
nothing_left : (rest : List (List ℕ)) → is_nothing rest ≡ true → join_with_byte line_feed rest ≡ []
nothing_left [] e = refl
nothing_left ([] ∷ []) e = refl
nothing_left ((byte ∷ bytes) ∷ []) e = absurd (omega (arith, eqb-true (length (byte ∷ bytes)) 0 e))
nothing_left (first ∷ line ∷ more) e = absurd cc

started_ok : {P W : Type 0} (g : Grammar P W) (R : P → P → List ℕ → Type 0) → IsSpelling g R → (read : Result P Reason) (rest : List (List ℕ)) (found : FrontText P)
    → started g rest read ≡ Ok found → (plan : P) × (read ≡ Ok plan) × IsBody R plan found rest
started_ok g R s (Ok plan) rest found e = (plan, refl, judged_ok g R s 2 plan found rest e)
started_ok g R s (Err reason) rest found e = absurd cc

headed_ok : {P W : Type 0} (g : Grammar P W) (R : P → P → List ℕ → Type 0) → IsSpelling g R → (lines : List (List ℕ)) (found : FrontText P)
    → headed g lines ≡ Ok found → IsText g R found.plan (join_with_byte line_feed lines) (join_with_byte line_feed found.rest)
unfolding headed
headed_ok g R s [] found e = absurd cc
headed_ok g R s (line ∷ []) found e = absurd cc
headed_ok g R s (line ∷ next ∷ rest) found e =
    let left = join_with_byte line_feed (next ∷ rest) in
    let after = join_with_byte line_feed found.rest in
    let started = started_ok g R s (g.header line) (next ∷ rest) found e in
    let body = started.2 in
    record {
      header = line;
      start = started.0;
      body = body.text;
      first = started.1;
      adds = body.adds;
      parts =
          sym (append_assoc line (codes "\n") left)
          ∙ ap (λ (text : List ℕ). (line ++ codes "\n") ++ text) body.parts
          ∙ sym (append_assoc (line ++ codes "\n") (body.text ++ codes "end\n") after)
          ∙ ap (λ (text : List ℕ). text ++ after) (sym (append_assoc (line ++ codes "\n") body.text (codes "end\n")));
    }

pub within_ok : {P : Type 0} (test : Bool) (read : Result (FrontText P) BadBatch) (found : FrontText P) → cond test (bad 0 reasons.Size) read ≡ Ok found → read ≡ Ok found
within_ok true read found e = absurd cc
within_ok false read found e = e

pub front_ok : {P : Type 0} (read : Result (FrontText P) BadBatch) (plan : P) → whole read ≡ Ok plan
    → (found : FrontText P) × (read ≡ Ok found) × (is_nothing found.rest ≡ true) × (found.plan ≡ plan)
front_ok {P = P} (Err fault) plan e = absurd cc
front_ok {P = P} (Ok found) plan e = go (is_nothing found.rest) refl e
  where
    go : (b : Bool) → is_nothing found.rest ≡ b → cond b (Ok found.plan) (bad (found.lines + 1) reasons.Trailing) ≡ Ok plan
        → (front : FrontText P) × (◌≡◌ {A = Result (FrontText P) BadBatch} (Ok found) (Ok front)) × (is_nothing front.rest ≡ true) × (front.plan ≡ plan)
    go true is e = (found, refl, is, cc)
    go false is e = absurd cc

-- a text whose front spells a plan
pub front_read : {P W : Type 0} (g : Grammar P W) (R : P → P → List ℕ → Type 0) → IsSpelling g R → (most : ℕ) (text : List ℕ) (found : FrontText P)
    → front g most text ≡ Ok found → IsText g R found.plan text (join_with_byte line_feed found.rest)
unfolding front
front_read g R s most text found e =
    let head = within_ok (nat_lt most (length text)) (headed g (lines_of text)) found e in
    let after = join_with_byte line_feed found.rest in
    subst (λ (t : List ℕ). IsText g R found.plan t after) (joined line_feed text) (headed_ok g R s (lines_of text) found head)

-- a text that spells a plan
pub text_read : {P W : Type 0} (g : Grammar P W) (R : P → P → List ℕ → Type 0) → IsSpelling g R → (most : ℕ) (text : List ℕ) (plan : P)
    → whole (front g most text) ≡ Ok plan → IsText g R plan text []
text_read {P} g R s most text plan e =
    let found = front_ok (front g most text) plan e in
    let read = front_read g R s most text found.0 found.1 in
    subst (λ (p : P). IsText g R p text []) found.3
    (subst (λ (rest : List ℕ). IsText g R found.0.plan text rest) (nothing_left found.0.rest found.2) read)
