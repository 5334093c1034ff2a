-- The replies of the second batch.
use Rattle.std.proofs.Common.{◌≡◌, ℕ, zero, suc, ◌+◌, Bool, cond, List, [], ◌∷◌, ◌++◌, length, map, take, drop, Some, inl, inr, refl, sym, ap, ◌∙◌, arith}
use Rattle.std.specs.Prelude.{slice_get}
use Rattle.std.specs.List.{AllByRecursion, range_with_len}
use Rattle.call_places.specs.declared.entries.Place.{Place}
use Rattle.hpke_context.specs.Answers.{Answer}
use Rattle.context_books.specs.Legal.{reply_in}
use Rattle.context_books.specs.Lists.{In}
use Rattle.context_books.proofs.Places.{not_same, same}
use Rattle.batch_plans.specs.declared.plan.CallLine.{CallLine}
use Rattle.batch_plans.specs.declared.plan.CallLine.TheVariants.{UnsealAll}
use Rattle.batch_plans.specs.declared.replies.Reply.{Reply}
use Rattle.batch_plans.specs.declared.replies.Reply.TheVariants.{Blank, Sealed, Opened, Failed, Limit, Exported, Refused, Added, Retired}
use Rattle.batch_plans.specs.declared.replies.Batch.{Batch as Guess}
use Rattle.batch_plans.specs.Lines.{batch_line}
use Rattle.batch_plans.specs.AnswersText.{reply_line, calls_lines, guess_line}
use Rattle.demo_runs.specs.Steps.{opened_line}

-- ---- replies in their order

-- a place that stands at the end of a front has the reply of its index
pub reply_there : (front after : List Place) (p : Place) (answers : List Answer) → (In p front → ⊥)
    → reply_in (front ++ (p ∷ after)) answers p ≡ slice_get answers (length front)
reply_there [] after p [] apart = refl
reply_there [] after p (a ∷ answers) apart = rw (same p) refl
reply_there (q ∷ front) after p [] apart = refl
reply_there (q ∷ front) after p (a ∷ answers) apart =
    ap (λ (b : Bool). cond b (Some a) (reply_in (front ++ (p ∷ after)) answers p)) (not_same q p (λ e. apart (inl e)))
    ∙ reply_there front after p answers (λ i. apart (inr i))

-- ---- lines that begin otherwise

heads : (x y : ℕ) (xs ys : List ℕ) → x ∷ xs ≡ y ∷ ys → x ≡ y
heads x y xs ys e = cc

no_batch_reply : (pool : List ℕ) (reply : Reply) (g m : ℕ) → reply_line pool reply ≡ batch_line g m → ⊥
no_batch_reply pool Blank g m e = absurd cc
no_batch_reply pool (Sealed number text) g m e = let f = heads _ _ _ _ e in omega arith
no_batch_reply pool (Opened number text) g m e = let f = heads _ _ _ _ e in omega arith
no_batch_reply pool (Failed number) g m e = let f = heads _ _ _ _ e in omega arith
no_batch_reply pool Limit g m e = let f = heads _ _ _ _ e in omega arith
no_batch_reply pool (Exported text) g m e = let f = heads _ _ _ _ e in omega arith
no_batch_reply pool (Refused refusal) g m e = let f = heads _ _ _ _ e in omega arith
no_batch_reply pool Added g m e = let f = heads _ _ _ _ e in omega arith
no_batch_reply pool Retired g m e = let f = heads _ _ _ _ e in omega arith

-- ---- what a lane of openings is answered

-- the calls are openings of several messages
abbrev pub AreOpenings : List CallLine → Type 0
AreOpenings calls = AllByRecursion (λ (call : CallLine). (first : ℕ) × (count : ℕ) × (call ≡ UnsealAll 1 first count)) calls

abbrev IsOpenedHead : List (List ℕ) → Type 0
IsOpenedHead lines = (n : ℕ) × (rest : List (List ℕ)) × (lines ≡ opened_line n ∷ rest)

abbrev IsBatchHead : List (List ℕ) → Type 0
IsBatchHead lines = (g m : ℕ) × (rest : List (List ℕ)) × (lines ≡ batch_line g m ∷ rest)

guess_first : (guesses : List Guess) (lines : List (List ℕ)) → (IsOpenedHead lines → ⊥)
    → IsOpenedHead (map guess_line (take 1 guesses) ++ lines) → ⊥
guess_first [] lines later h = later h
guess_first (g ∷ guesses) lines later h = let f = heads 98 111 _ _ (let e : guess_line g ≡ opened_line h.0 = (let l = h.2 in cc) in e) in omega arith

abbrev no_replies : List Reply
no_replies = []

take_none : (n : ℕ) → take n no_replies ≡ no_replies
take_none zero = refl
take_none (suc n) = refl

drop_none : (n : ℕ) → drop n no_replies ≡ no_replies
drop_none zero = refl
drop_none (suc n) = refl

module _ (pool : List ℕ) where
  abbrev pub lines_by : List CallLine → List Reply → List Guess → List (List ℕ)
  lines_by calls replies guesses = calls_lines pool calls replies guesses

  -- without replies there are lines of guesses alone
  step_none : (context first m : ℕ) (calls : List CallLine) (guesses : List Guess)
      → lines_by (UnsealAll context first m ∷ calls) [] guesses ≡ map guess_line (take 1 guesses) ++ lines_by calls [] (drop 1 guesses)
  step_none context first m calls guesses = rw (take_none m, drop_none m) refl

  none_opened : (calls : List CallLine) (guesses : List Guess) → AreOpenings calls → IsOpenedHead (lines_by calls [] guesses) → ⊥
  none_opened [] guesses all h = let e = h.2 in cc
  none_opened (call ∷ calls) guesses all h =
      let is = all.0.2 in
      guess_first guesses (lines_by calls [] (drop 1 guesses)) (none_opened calls (drop 1 guesses) all.1) (
        h.0,
        h.1,
        sym (step_none 1 all.0.0 all.0.1 calls guesses)
            ∙ sym (ap (λ (call : CallLine). lines_by (call ∷ calls) [] guesses) is) ∙ h.2,
      )

  -- without guesses no line is one of a guess
  first_reply : (reply : Reply) (lines : List (List ℕ)) → IsBatchHead (reply_line pool reply ∷ lines) → ⊥
  first_reply reply lines h =
      let e : reply_line pool reply ∷ lines ≡ batch_line h.0 h.1 ∷ h.2 = h.3 in
      let f : reply_line pool reply ≡ batch_line h.0 h.1 = cc in
      no_batch_reply pool reply h.0 h.1 f

  other : (m : ℕ) (reply : Reply) (replies : List Reply) (calls : List CallLine)
      → ((rest : List Reply) → IsBatchHead (lines_by calls rest []) → ⊥)
      → IsBatchHead (map (reply_line pool) (take m (reply ∷ replies)) ++ lines_by calls (drop m (reply ∷ replies)) []) → ⊥
  other zero reply replies calls later h = later (reply ∷ replies) h
  other (suc m) reply replies calls later h =
      first_reply reply (map (reply_line pool) (take m replies) ++ lines_by calls (drop m replies) []) h

  no_batch_one : (first m : ℕ) (calls : List CallLine) (replies : List Reply) → ((rest : List Reply) → IsBatchHead (lines_by calls rest []) → ⊥)
      → IsBatchHead (lines_by (UnsealAll 1 first m ∷ calls) replies []) → ⊥
  no_batch_one first m calls [] later h = later [] (h.0, h.1, h.2, sym (step_none 1 first m calls []) ∙ h.3)
  no_batch_one first m calls (Blank ∷ replies) later h = other m Blank replies calls later h
  no_batch_one first m calls (Sealed number text ∷ replies) later h = other m (Sealed number text) replies calls later h
  no_batch_one first m calls (Opened number text ∷ replies) later h = other m (Opened number text) replies calls later h
  no_batch_one first m calls (Failed number ∷ replies) later h = other m (Failed number) replies calls later h
  no_batch_one first m calls (Limit ∷ replies) later h = other m Limit replies calls later h
  no_batch_one first m calls (Exported text ∷ replies) later h = other m (Exported text) replies calls later h
  no_batch_one first m calls (Added ∷ replies) later h = other m Added replies calls later h
  no_batch_one first m calls (Retired ∷ replies) later h = other m Retired replies calls later h
  no_batch_one first m calls (Refused refusal ∷ replies) later h = first_reply (Refused refusal) (lines_by calls replies []) h

  no_batch : (calls : List CallLine) (replies : List Reply) → AreOpenings calls → IsBatchHead (lines_by calls replies []) → ⊥
  no_batch [] replies all h = let e = h.3 in cc
  no_batch (call ∷ calls) replies all h =
      no_batch_one all.0.0 all.0.1 calls replies (λ rest. no_batch calls rest all.1)
      (h.0, h.1, h.2, sym (ap (λ (call : CallLine). lines_by (call ∷ calls) replies []) all.0.2) ∙ h.3)

  -- replies with the lines of openings, in front of further lines
  parted : (m n : ℕ) (replies : List Reply) (tail : List Reply → List (List ℕ)) (rest : List (List ℕ)) → (IsOpenedHead (tail []) → ⊥)
      → map (reply_line pool) (take m replies) ++ tail (drop m replies) ≡ map opened_line (range_with_len n m) ++ rest
      → (map (reply_line pool) (take m replies) ≡ map opened_line (range_with_len n m)) × (tail (drop m replies) ≡ rest)
  parted zero n replies tail rest not e = (refl, e)
  parted (suc m) n [] tail rest not e = absurd (not (n, map opened_line (range_with_len (n + 1) m) ++ rest, e))
  parted (suc m) n (reply ∷ replies) tail rest not e =
      let first : reply_line pool reply ≡ opened_line n = cc in
      let more : map (reply_line pool) (take m replies) ++ tail (drop m replies) ≡ map opened_line (range_with_len (n + 1) m) ++ rest = cc in
      let later = parted m (n + 1) replies tail rest not more in
      ((λ i. first i ∷ later.0 i), later.1)

  pub record CallParted (m n : ℕ) (calls : List CallLine) (replies : List Reply) (rest : List (List ℕ)) : Type 0 where
    pub own : map (reply_line pool) (take m replies) ≡ map opened_line (range_with_len n m)
    pub guesses : List Guess
    pub later : lines_by calls (drop m replies) guesses ≡ rest

  one_guess : (guesses : List Guess) (m n g x : ℕ) (calls : List CallLine) (replies : List Reply) (rest : List (List ℕ)) → AreOpenings calls
      → map (reply_line pool) (take m replies) ≡ map opened_line (range_with_len n m)
      → map guess_line (take 1 guesses) ++ lines_by calls (drop m replies) (drop 1 guesses) ≡ batch_line g x ∷ rest
      → CallParted m n calls replies rest
  one_guess [] m n g x calls replies rest all own e = absurd (no_batch calls (drop m replies) all (g, x, rest, e))
  one_guess (guess ∷ guesses) m n g x calls replies rest all own e =
      record { own = own; guesses = guesses; later = (let f : guess_line guess ∷ lines_by calls (drop m replies) guesses ≡ batch_line g x ∷ rest = e in cc) }

  -- one opening
  served : (m n g x : ℕ) (calls : List CallLine) (replies : List Reply) (guesses : List Guess) (rest : List (List ℕ)) → AreOpenings calls
      → map (reply_line pool) (take m replies) ++ (map guess_line (take 1 guesses) ++ lines_by calls (drop m replies) (drop 1 guesses))
      ≡ map opened_line (range_with_len n m) ++ (batch_line g x ∷ rest)
      → CallParted m n calls replies rest
  served m n g x calls replies guesses rest all e =
      let parts = parted m n replies (λ rs. map guess_line (take 1 guesses) ++ lines_by calls rs (drop 1 guesses)) (batch_line g x ∷ rest)
      (guess_first guesses (lines_by calls [] (drop 1 guesses)) (none_opened calls (drop 1 guesses) all)) e in
      one_guess guesses m n g x calls replies rest all parts.0 parts.1

  not_refused : (m n g x : ℕ) (word : List ℕ) (lines rest : List (List ℕ))
      → (114 ∷ word) ∷ lines ≡ map opened_line (range_with_len n m) ++ (batch_line g x ∷ rest) → ⊥
  not_refused zero n g x word lines rest e = let f : 114 ∷ word ≡ batch_line g x = cc in let h = heads 114 98 _ _ f in omega arith
  not_refused (suc m) n g x word lines rest e = let f : 114 ∷ word ≡ opened_line n = cc in let h = heads 114 111 _ _ f in omega arith

  pub call_parted : (context first m n g x : ℕ) (calls : List CallLine) (replies : List Reply) (guesses : List Guess) (rest : List (List ℕ)) → AreOpenings calls
      → lines_by (UnsealAll context first m ∷ calls) replies guesses ≡ map opened_line (range_with_len n m) ++ (batch_line g x ∷ rest)
      → CallParted m n calls replies rest
  call_parted context first m n g x calls [] guesses rest all e = served m n g x calls [] guesses rest all e
  call_parted context first m n g x calls (Blank ∷ replies) guesses rest all e = served m n g x calls (Blank ∷ replies) guesses rest all e
  call_parted context first m n g x calls (Sealed number text ∷ replies) guesses rest all e =
      served m n g x calls (Sealed number text ∷ replies) guesses rest all e
  call_parted context first m n g x calls (Opened number text ∷ replies) guesses rest all e =
      served m n g x calls (Opened number text ∷ replies) guesses rest all e
  call_parted context first m n g x calls (Failed number ∷ replies) guesses rest all e = served m n g x calls (Failed number ∷ replies) guesses rest all e
  call_parted context first m n g x calls (Limit ∷ replies) guesses rest all e = served m n g x calls (Limit ∷ replies) guesses rest all e
  call_parted context first m n g x calls (Exported text ∷ replies) guesses rest all e =
      served m n g x calls (Exported text ∷ replies) guesses rest all e
  call_parted context first m n g x calls (Added ∷ replies) guesses rest all e = served m n g x calls (Added ∷ replies) guesses rest all e
  call_parted context first m n g x calls (Retired ∷ replies) guesses rest all e =
      served m n g x calls (Retired ∷ replies) guesses rest all e
  call_parted context first m n g x calls (Refused refusal ∷ replies) guesses rest all e = absurd (not_refused m n g x _ _ rest e)
