-- After the lanes' own events each lane is at its end.
use Rattle.std.proofs.Common.{◌≡◌, ◌≢◌, ℕ, zero, suc, ◌+◌, ◌-◌, ◌<◌, ◌≤◌, List, [], ◌∷◌, ◌++◌, length, sym, refl, ap, ◌∙◌, subst, arith, Option, Some, None, inl, inr}
use Rattle.std.specs.Prelude.{slice_get, slice_set, replicate, map}
use Rattle.hpke_context.specs.Answers.{Cipher}
use Rattle.context_books.specs.Batches.{Batch, context_in, lane_of}
use Rattle.context_books.proofs.Lists.{is_cases}
use Rattle.context_core.specs.Core as core
use Rattle.context_core.specs.Core.{Phase, Draw, Guess, Check, Commit, Finish, Task, all_tasks, Lane, Core, Moved, step, due_in, happens_at, happens, all_happen, at_first, start, to_the_ends}
use Rattle.context_core.proofs.ScheduleLists.{slice_get-set_same, slice_get-set_other}

-- a step takes one of the steps to come
one_done : (due : ℕ → ℕ) (l : ℕ) (s : Lane) (ts : List Task) → s.to_come ≡ ts → length (step due l s ts).lane.to_come ≡ length ts - 1
one_done due l s [] is = ap length is
one_done due l s (t ∷ more) is = left t.phase ∙ (let e : length more ≡ suc (length more) - 1 = omega arith in e)
  where
    left : (phase : Phase) → length (core.moved (due (context_in t.ask)) l t.call t.ask phase (record s { to_come = more })).lane.to_come ≡ length more
    left Draw = refl
    left Guess = refl
    left Check = refl
    left Commit = refl
    left Finish = refl

abbrev pub left_of : Option Lane → ℕ
left_of None = 0
left_of (Some s) = length s.to_come

abbrev pub left_at : Core → ℕ → ℕ
left_at w l = left_of (slice_get w.lanes l)

module _ (batch : Batch) (ciphers : ℕ → Cipher) where
  one_less_at : (w : Core) (l : ℕ) (o : Option Lane) → slice_get w.lanes l ≡ o → left_at (happens_at batch ciphers w l o) l ≤ left_at w l - 1
  one_less_at w l None e = let a : left_at w l ≡ 0 = ap left_of e in omega arith
  one_less_at w l (Some s) e =
      let m : Moved = step (due_in batch ciphers w.history) l s s.to_come in
      let a : left_at w l ≡ length s.to_come = ap left_of e in
      let b : left_of (slice_get (slice_set w.lanes l m.lane) l) ≡ length m.lane.to_come = ap left_of (slice_get-set_same w.lanes l m.lane s e) in
      let d = one_done (due_in batch ciphers w.history) l s s.to_come refl in
      omega arith

  pub one_less : (w : Core) (l : ℕ) → left_at (happens batch ciphers w l) l ≤ left_at w l - 1
  one_less w l = one_less_at w l (slice_get w.lanes l) refl

  others_stay : (w : Core) (l k : ℕ) (o : Option Lane) → k ≢ l → left_at (happens_at batch ciphers w l o) k ≡ left_at w k
  others_stay w l k None ne = refl
  others_stay w l k (Some s) ne = ap left_of (slice_get-set_other w.lanes l k _ ne)

  no_more : (w : Core) (l k : ℕ) → left_at (happens batch ciphers w l) k ≤ left_at w k
  no_more w l k = elim (is_cases k l) [
    | inl same ↦ subst (λ n. left_at (happens batch ciphers w l) n ≤ left_at w n) (sym same) (let a = one_less w l in omega arith)
    | inr ne ↦ (let a = others_stay w l k (slice_get w.lanes l) ne in omega arith)
  ]

  pub no_more_after : (w : Core) (events : List ℕ) (k : ℕ) → left_at (all_happen batch ciphers w events) k ≤ left_at w k
  no_more_after w [] k = omega arith
  no_more_after w (l ∷ ls) k = let a = no_more_after (happens batch ciphers w l) ls k in let b = no_more w l k in omega arith

  many_less : (w : Core) (n l : ℕ) → left_at (all_happen batch ciphers w (replicate n l)) l ≤ left_at w l - n
  many_less w zero l = omega arith
  many_less w (suc n) l = let a = many_less (happens batch ciphers w l) n l in let b = one_less w l in omega arith

  pub all_happen-append : (w : Core) (xs ys : List ℕ) → all_happen batch ciphers w (xs ++ ys) ≡ all_happen batch ciphers (all_happen batch ciphers w xs) ys
  all_happen-append w [] ys = refl
  all_happen-append w (x ∷ xs) ys = all_happen-append (happens batch ciphers w x) xs ys

  abbrev steps_in : Batch → ℕ → ℕ
  steps_in lanes i = length (all_tasks 0 (lane_of lanes i))

  ends : (w : Core) (k : ℕ) (lanes : Batch) → ((i : ℕ) → left_at w (k + i) ≤ steps_in lanes i)
      → (i : ℕ) → i < length lanes → left_at (all_happen batch ciphers w (to_the_ends k lanes)) (k + i) ≡ 0
  ends w k [] few i h = absurd (omega arith)
  ends w k (asks ∷ lanes) few zero h =
      let n = length (all_tasks 0 asks) in
      let mid = all_happen batch ciphers w (replicate n k) in
      let a = many_less w n k in
      let b = no_more_after mid (to_the_ends (k + 1) lanes) k in
      let same : k + 0 ≡ k = omega arith in
      let d : left_at w k ≤ n = subst (λ n. left_at w n ≤ steps_in (asks ∷ lanes) 0) same (few 0) in
      let e : left_at (all_happen batch ciphers mid (to_the_ends (k + 1) lanes)) k ≡ 0 = omega arith in
      subst (λ m. left_at (all_happen batch ciphers w (replicate n k ++ to_the_ends (k + 1) lanes)) m ≡ 0) (sym same)
      (ap (λ (v : Core). left_at v k) (all_happen-append w (replicate n k) (to_the_ends (k + 1) lanes)) ∙ e)
  ends w k (asks ∷ lanes) few (suc i) h =
      let n = length (all_tasks 0 asks) in
      let mid = all_happen batch ciphers w (replicate n k) in
      let next : k + 1 + i ≡ k + suc i = omega arith in
      let rest = ends mid (k + 1) lanes
      (λ j. let a : left_at w (k + suc j) ≤ steps_in lanes j = few (suc j) in
      let s : k + suc j ≡ k + 1 + j = omega arith in
      let b : left_at w (k + 1 + j) ≤ steps_in lanes j = subst (λ n. left_at w n ≤ steps_in lanes j) s a in
      let c = no_more_after w (replicate n k) (k + 1 + j) in omega arith)
      i (omega arith) in
      ap (λ (v : Core). left_at v (k + suc i)) (all_happen-append w (replicate n k) (to_the_ends (k + 1) lanes))
      ∙ subst (λ n. left_at (all_happen batch ciphers mid (to_the_ends (k + 1) lanes)) n ≡ 0) next rest

pub start_left : (batch : Batch) (i : ℕ) → left_of (slice_get (map at_first batch) i) ≤ length (all_tasks 0 (lane_of batch i))
start_left [] i = omega arith
start_left (asks ∷ batch) zero = omega arith
start_left (asks ∷ batch) (suc i) = start_left batch i

-- each lane is at its end
pub all_end : (batch : Batch) (ciphers : ℕ → Cipher) (schedule : List ℕ) (l : ℕ) → l < length batch → left_at (core.core batch ciphers schedule) l ≡ 0
all_end batch ciphers schedule l h =
    let mid = all_happen batch ciphers (start batch) schedule in
    let a = ends batch ciphers mid 0 batch (λ i. let b = start_left batch i in
    let s : 0 + i ≡ i = omega arith in
    let d : left_at mid i ≤ left_at (start batch) i = no_more_after batch ciphers (start batch) schedule i in
    subst (λ n. left_at mid n ≤ length (all_tasks 0 (lane_of batch i))) (sym s) (omega arith)) l h in
    ap (λ (v : Core). left_at v l) (all_happen-append batch ciphers (start batch) schedule (to_the_ends 0 batch))
    ∙ subst (λ n. left_at (all_happen batch ciphers mid (to_the_ends 0 batch)) n ≡ 0) (let s : 0 + l ≡ l = omega arith in s) a
