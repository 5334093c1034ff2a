-- A journal that is run along its context, one place after another.
use Rattle.std.proofs.Common.{◌≡◌, ℕ, ◌+◌, ◌<◌, ◌≤◌, ◌-◌, ◌^◌, List, [], ◌∷◌, ◌++◌, length, map, take, drop, get_or, Option, Some, Result, Ok, Err, sym, ap, ◌∙◌, append_assoc, append-nil, arith}
use Rattle.std.specs.Result.{OnOk}
use Rattle.std.proofs.lemmas.List.{drop_all, take-append-le, take_all}
use Rattle.call_places.specs.declared.entries.Mark.{Mark}
use Rattle.hpke_context.specs.Answers.{Item, Cipher, answer, next, run}
use Rattle.hpke_context.specs.Contexts.{ContextView, cipher_of}
use Rattle.hpke_context.specs.Calls.{SequentialView, answer_now}
use Rattle.context_books.specs.Entries.{numbers_from}
use Rattle.context_books.specs.Histories.{places}
use Rattle.batch_plans.specs.declared.plan.Plan.{Plan}
use Rattle.context_books.specs.Runs.{answer_line}
use Rattle.journal_check.proofs.Walks.{drop_next}
use Rattle.journal_check.specs.declared.items.Asked.{Asked}
use Rattle.journal_check.specs.Runs.{asked_at, asked_and, item_view, items_at}

-- ---- one place more

module _ (plan : Plan) (context : ContextView) (marks : List Mark) (i : ℕ) (d : Mark) (lt : i < length marks) (asked : Asked)
    (at : asked_at plan (get_or marks i d).place ≡ Some asked) (s : SequentialView) (same : s.context ≡ context) (pool : List ℕ) (pool_is : pool ≡ plan.pool) where
  items_next : items_at plan (places (drop i marks)) ≡ item_view plan.pool asked ∷ items_at plan (places (drop (i + 1) marks))
  items_next =
      ap (λ (ms : List Mark). items_at plan (places ms)) (drop_next marks i d lt)
      ∙ ap (λ (o : Option Asked). asked_and plan.pool o (items_at plan (places (drop (i + 1) marks)))) at

  answer_is : answer_now s (item_view pool asked) ≡ answer (cipher_of context) s.seq (item_view plan.pool asked)
  answer_is =
      ap (λ (v : ContextView). answer (cipher_of v) s.seq (item_view pool asked)) same
      ∙ ap (λ (bytes : List ℕ). answer (cipher_of context) s.seq (item_view bytes asked)) pool_is

  -- the lines that are still to come
  pub line_more : (old new : List (List ℕ)) (line : List ℕ) (seq : ℕ) (total : List (List ℕ))
      → line ≡ answer_line (answer_now s (item_view pool asked)) → seq ≡ next s.seq (answer_now s (item_view pool asked)) → new ≡ old ++ line ∷ []
      → old ++ map answer_line (run (cipher_of context) s.seq (items_at plan (places (drop i marks)))) ≡ total
      → new ++ map answer_line (run (cipher_of context) seq (items_at plan (places (drop (i + 1) marks)))) ≡ total
  line_more old new line seq total line_is seq_is pushed so_far =
      let c = cipher_of context in
      let a = answer c s.seq (item_view plan.pool asked) in
      let rest = λ (n : ℕ). map answer_line (run c n (items_at plan (places (drop (i + 1) marks)))) in
      ap (λ (ls : List (List ℕ)). ls ++ rest seq) pushed
      ∙ append_assoc old (line ∷ []) (rest seq)
      ∙ ap (λ (l : List ℕ). old ++ l ∷ rest seq) (line_is ∙ ap answer_line answer_is)
      ∙ ap (λ (n : ℕ). old ++ answer_line a ∷ rest n) (seq_is ∙ ap (next s.seq) answer_is)
      ∙ ap (λ (xs : List Item). old ++ map answer_line (run c s.seq xs)) (sym items_next)
      ∙ so_far

  -- the numbers that are still to come
  pub number_more : (old new : List ℕ) (number seq : ℕ) (total : List ℕ)
      → number ≡ s.seq → seq ≡ next s.seq (answer_now s (item_view pool asked)) → new ≡ old ++ number ∷ []
      → old ++ numbers_from (cipher_of context) s.seq (items_at plan (places (drop i marks))) ≡ total
      → new ++ numbers_from (cipher_of context) seq (items_at plan (places (drop (i + 1) marks))) ≡ total
  number_more old new number seq total number_is seq_is pushed so_far =
      let c = cipher_of context in
      let rest = λ (n : ℕ). numbers_from c n (items_at plan (places (drop (i + 1) marks))) in
      ap (λ (ns : List ℕ). ns ++ rest seq) pushed
      ∙ append_assoc old (number ∷ []) (rest seq)
      ∙ ap (λ (n : ℕ). old ++ n ∷ rest seq) number_is
      ∙ ap (λ (n : ℕ). old ++ s.seq ∷ rest n) (seq_is ∙ ap (next s.seq) answer_is)
      ∙ ap (λ (xs : List Item). old ++ numbers_from c s.seq xs) (sym items_next)
      ∙ so_far

-- there is room to count one check more
pub count_fits : (checks start i n : ℕ) → checks ≤ start + i → start + n < 2 ^ 64 → i < n → checks < 2 ^ 64 - 1
count_fits checks start i n so_far fits lt = omega arith

pub count_more : (new checks start i : ℕ) → new ≤ checks + 1 → checks ≤ start + i → new ≤ start + (i + 1)
count_more new checks start i more so_far = omega arith

-- ---- no place is left

pub lines_end : (plan : Plan) (c : Cipher) (n : ℕ) (marks : List Mark) (i : ℕ) (lines total : List (List ℕ)) → length marks ≤ i
    → lines ++ map answer_line (run c n (items_at plan (places (drop i marks)))) ≡ total → lines ≡ total
lines_end plan c n marks i lines total le so_far =
    sym (ap (λ (ms : List Mark). lines ++ map answer_line (run c n (items_at plan (places ms)))) (drop_all i marks le) ∙ append-nil lines) ∙ so_far

pub numbers_end : (plan : Plan) (c : Cipher) (n : ℕ) (marks : List Mark) (i : ℕ) (numbers total : List ℕ) → length marks ≤ i
    → numbers ++ numbers_from c n (items_at plan (places (drop i marks))) ≡ total → numbers ≡ total
numbers_end plan c n marks i numbers total le so_far =
    sym (ap (λ (ms : List Mark). numbers ++ numbers_from c n (items_at plan (places ms))) (drop_all i marks le) ∙ append-nil numbers) ∙ so_far

-- ---- what a call wrote

-- all of a buffer
pub written_whole : (new rest : List ℕ) (len : ℕ) → length new ≡ len → take len (new ++ rest) ≡ new
written_whole new rest len size = take-append-le len new rest (omega arith) ∙ take_all len new (omega arith)

-- what holds in any case
pub always : {T E P : Type 0} (r : Result T E) → P → OnOk r P
always (Ok x) holds = holds
always (Err e) holds = tt
