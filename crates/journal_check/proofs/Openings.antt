-- Which guesses an opening may have made, by the numbers that were due along its lane.
use Rattle.std.proofs.Common.{◌≡◌, ◌≢◌, ℕ, zero, suc, ◌+◌, ◌==◌, Bool, true, false, cond, List, [], ◌∷◌, ◌++◌, length, take, map, drop, Some, Result, Ok, Err, refl, sym, ap, ◌∙◌, subst, append_assoc}
use Rattle.std.specs.Prelude.{slice_index, IfOk}
use Rattle.std.specs.List.{AllPairs}
use Rattle.std.proofs.lemmas.List.{take-append-drop, drop-map}
use Rattle.call_places.specs.declared.entries.Place.{Place}
use Rattle.call_places.specs.declared.entries.Mark.{Mark}
use Rattle.hpke_context.specs.Answers.{Cipher}
use Rattle.context_books.specs.Batches.{Batch, own_places, block, place}
use Rattle.context_books.specs.Guesses.{through, least_guess}
use Rattle.context_books.specs.Histories.{marks_at, places}
use Rattle.context_books.specs.Legal.{Legal, number_of, due_after, before}
use Rattle.context_books.proofs.Guessing.{through-append}
use Rattle.context_books.proofs.Places.{before_split, not_in_front}
use Rattle.batch_plans.specs.declared.plan.CallLine.{CallLine}
use Rattle.batch_plans.specs.declared.plan.CallLine.TheVariants as calls
use Rattle.batch_plans.specs.declared.replies.Batch as told_batch
use Rattle.context_books.specs.Asks.{cipher_at}
use Rattle.context_books.specs.Runs.{Run, asks_of, journal_of}
use Rattle.journal_check.specs.declared.lane_walks.Walk.{Walk}
use Rattle.journal_check.specs.Asks.{items_asked, asked_in, places_from}
use Rattle.result_lines.specs.Guesses.{is_right}
use Rattle.journal_check.specs.Walks.{IsRun, PointsTo, run_in, left_in}
use Rattle.journal_check.specs.Passing.{is_right_by, due_at, Reaches, AllReach}
use Rattle.result_lines.proofs.RunTexts.{length-block}
use Rattle.journal_check.proofs.ServedCalls.{some_pair, stands_on, left_here, there}

-- ---- the first place of a lane

pub first_own : (lane : ℕ) (xs : List Place) (p : Place) (ps : List Place) → own_places lane xs ≡ p ∷ ps
    → (front rest : List Place) × (xs ≡ front ++ (p ∷ rest)) × (own_places lane front ≡ [])
first_own lane [] p ps own = absurd cc
first_own lane (x ∷ xs) p ps own = step (x.lane == lane) refl own (λ later. first_own lane xs p ps later)
  where
    step : (b : Bool) → (x.lane == lane) ≡ b → cond b (x ∷ own_places lane xs) (own_places lane xs) ≡ p ∷ ps
        → (own_places lane xs ≡ p ∷ ps → (front rest : List Place) × (xs ≡ front ++ (p ∷ rest)) × (own_places lane front ≡ []))
        → (front rest : List Place) × (x ∷ xs ≡ front ++ (p ∷ rest)) × (own_places lane front ≡ [])
    step true is cons later = let same : x ≡ p = cc in ([], xs, ap (λ (q : Place). q ∷ xs) same, refl)
    step false is cons later =
        let t = later cons in
        (x ∷ t.0, t.1, ap (λ (ys : List Place). x ∷ ys) t.2, ap (λ b. cond b (x ∷ own_places lane t.0) (own_places lane t.0)) is ∙ t.3)

-- a list with an element has a first one
first_of : (front : List Place) (p : Place) (rest xs : List Place) → xs ≡ front ++ (p ∷ rest) → (q : Place) × (behind : List Place) × (xs ≡ q ∷ behind)
first_of [] p rest xs is = (p, rest, is)
first_of (q ∷ front) p rest xs is = (q, front ++ (p ∷ rest), is)

index_of_drop : (f : Place → ℕ) (xs : List Place) (i : ℕ) (q : Place) (behind : List Place) → drop i xs ≡ q ∷ behind → slice_index (map f xs) i ≡ f q
index_of_drop f [] zero q behind is = absurd cc
index_of_drop f [] (suc i) q behind is = absurd cc
index_of_drop f (x ∷ xs) zero q behind is = let same : x ≡ q = cc in ap f same
index_of_drop f (x ∷ xs) (suc i) q behind is = index_of_drop f xs i q behind is

-- ---- the least guess

module _ (batch : Batch) (cipher : Cipher) (context : ℕ) (marks : List Mark) (legal : Legal batch context (places marks)) (lane number m : ℕ) (more : List Place) (cursor : ℕ)
    (own : own_places lane (places (drop cursor marks)) ≡ block lane number 0 (suc m) ++ more) (reaches : Reaches lane marks cursor) where
  pub least_here : slice_index (map (number_of batch cipher (places marks)) (places marks)) cursor ≡ least_guess batch cipher (places marks) lane number
  least_here =
      let xs = places marks in
      let t = take cursor xs in
      let r = drop cursor xs in
      let p = place lane number 0 in
      let whole : xs ≡ t ++ r = sym (take-append-drop cursor xs) in
      let own_behind : own_places lane r ≡ p ∷ (block lane number 1 m ++ more) = ap (own_places lane) (drop-map (λ (k : Mark). k.place) cursor marks) ∙ own in
      let first = first_own lane r p (block lane number 1 m ++ more) own_behind in
      let parted : xs ≡ (t ++ first.0) ++ (p ∷ first.1) = whole ∙ ap (λ (ys : List Place). t ++ ys) first.2 ∙ sym (append_assoc t first.0 (p ∷ first.1)) in
      let stands : before p xs ≡ t ++ first.0 =
      ap (before p) parted
      ∙ before_split (t ++ first.0) first.1 p (not_in_front (t ++ first.0) first.1 p (subst (AllPairs (λ (a b : Place). a ≢ b)) parted legal.once)) in
      let least : least_guess batch cipher xs lane number ≡ due_after batch cipher t =
      ap (λ (ps : List Place). due_after batch cipher (through lane ps)) stands
      ∙ ap (due_after batch cipher) (through-append lane t first.0 first.3 ∙ reaches) in
      let head = first_of first.0 p first.1 r first.2 in
      let next : xs ≡ t ++ (head.0 ∷ head.1) = whole ∙ ap (λ (ys : List Place). t ++ ys) head.2 in
      let front : before head.0 xs ≡ t =
      ap (before head.0) next
      ∙ before_split t head.1 head.0 (not_in_front t head.1 head.0 (subst (AllPairs (λ (a b : Place). a ≢ b)) next legal.once)) in
      index_of_drop (number_of batch cipher xs) xs cursor head.0 head.1 head.2
      ∙ ap (due_after batch cipher) front
      ∙ sym least

-- ---- what a call asks

pub same_opening : (call : CallLine) (at n context first count : ℕ) → items_asked call ≡ Some (at, n) → call ≡ calls.UnsealAll context first count
    → (context ≡ at) × (count ≡ n)
same_opening call at n context first count is opening =
    let pair : (context, count) ≡ (at, n) = some_pair (context, count) (at, n) (sym (ap items_asked opening) ∙ is) in
    (ap (λ (p : ℕ × ℕ). p.0) pair, ap (λ (p : ℕ × ℕ). p.1) pair)

-- where a call succeeded both hold
pub if_ok_both : {T E : Type 0} (r : Result T E) (P Q R : T → Type 0) → ((x : T) → P x → Q x → R x) → IfOk r P → IfOk r Q → IfOk r R
if_ok_both (Ok x) P Q R f p q = f x p q
if_ok_both (Err e) P Q R f p q = tt

-- ---- a guess in a run

module _ (walk : Walk) (is_run : IsRun walk.checked) (call : CallLine) (at n : ℕ) (asked : asked_in walk.checked.contexts.now call ≡ Some (at, n))
    (number : ℕ) (more : List CallLine) (cursors : List ℕ) (points : PointsTo walk number (call ∷ more) cursors)
    (reach : AllReach walk.lane walk.checked.journals.now cursors) where
  abbrev run : Run
  run = run_in walk.checked

  abbrev lane : ℕ
  lane = walk.lane

  pub judged : (m : ℕ) → n ≡ suc m → (told : told_batch.Batch) (least : ℕ) (numbers : List ℕ)
      → least ≡ slice_index (map (due_at run at) (journal_of run at)) (slice_index cursors at)
      → ((ps others : List Place) → length ps ≡ n → left_in walk cursors at ≡ ps ++ others → numbers ≡ map (due_at run at) ps)
      → is_right_by told least numbers ≡ is_right run at lane number n told
  judged m size told least numbers least_is numbers_is =
      let s = stands_on walk is_run call at n asked in
      let others = places_from run.contexts at lane (number + 1) more in
      let own = left_here walk is_run call at n asked cursors number more points in
      let own_more : left_in walk cursors at ≡ block lane number 0 (suc m) ++ others =
      own ∙ ap (λ (k : ℕ). block lane number 0 k ++ others) size in
      let low : least ≡ least_guess (asks_of run) (cipher_at run.contexts at) (journal_of run at) lane number =
      least_is
      ∙ least_here (asks_of run) (cipher_at run.contexts at) at (marks_at run.journals at) (is_run.legal at s.0 s.1) lane number m others (slice_index cursors at) own_more
      (reach at (there walk is_run call at n asked)) in
      let due : numbers ≡ map (due_at run at) (block lane number 0 (suc m)) =
      numbers_is (block lane number 0 n) others (length-block lane number 0 n) own ∙ ap (λ (k : ℕ). map (due_at run at) (block lane number 0 k)) size in
      ap (λ (k : ℕ). is_right_by told k numbers) low
      ∙ ap (is_right_by told (least_guess (asks_of run) (cipher_at run.contexts at) (journal_of run at) lane number)) due
      ∙ ap (λ (k : ℕ). is_right run at lane number k told) (sym size)
